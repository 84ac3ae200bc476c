-- `columns::block_total` and `columns::form_total`, which call each other, meet their contracts. Assumes nothing.
use Prim.Native.Nat.{◌+◌, ◌-◌, ◌*◌, ◌≤◌}
use Rattle.rows.specs.Leaves.{numbers}
use Rattle.rows.specs.Rows.{after_at}
use Rattle.rows.specs.Costs.{cost_in, lent_turns_in}
use Rattle.columns.specs.Sums.{ceiling}
use Rattle.columns.specs.Walks.{FormsHeld}
use Rattle.columns.proofs.Adding.{Adding}
use Rattle.columns.proofs.+block_total_form_total.Given as goal

abbrev pub decreases-block_total : goal.decreases-block_total
decreases-block_total l = (l.to - l.from) * 2 + 1

abbrev pub decreases-form_total : goal.decreases-form_total
decreases-form_total l = (after_at (numbers l.priced.now.code.row.now) l.i - l.i) * 2

abbrev pub invariant-block_total-loop-i : goal.invariant-block_total-loop-i
invariant-block_total-loop-i l = (l.from ≤ l.i) × (l.acc ≤ ceiling) × ((p : FormsHeld l.priced.code.row.now l.from l.to) → Adding (cost_in l.priced.cost) l.priced.totals.now (lent_turns_in l.priced.cost l.priced.code.row.now) l.priced.code.row.now l.from l.i l.to l.acc p.part.lines)

abbrev pub decreases-block_total-loop-i : goal.decreases-block_total-loop-i
decreases-block_total-loop-i l = l.to - l.i
