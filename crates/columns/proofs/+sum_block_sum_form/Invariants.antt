-- `columns::sum_block` and `columns::sum_form`, which call each other, meet their contracts. Assumes nothing.
use Rattle.columns.proofs.Summing.{Passed}
use Rattle.columns.specs.Columns.{turns}
use Rattle.columns.specs.Walks.{FormsHeld}
use Rattle.columns.specs.Sums.{ceiling}
use Rattle.rows.specs.Costs.{cost_in}
use Rattle.rows.specs.Leaves.{numbers}
use Rattle.rows.specs.Rows.{after_at}
use Rattle.model.specs.Total.{tally}
use lib.Seq.{sets}
use Prim.Native.Nat.{◌+◌, ◌-◌, ◌*◌, ◌≤◌}
use Rattle.columns.proofs.+sum_block_sum_form.Given as goal

abbrev pub decreases-sum_block : goal.decreases-sum_block
decreases-sum_block l = (l.to - l.from) * 2 + 1

abbrev pub decreases-sum_form : goal.decreases-sum_form
decreases-sum_form l = (after_at (numbers l.row.now) l.i - l.i) * 2

abbrev pub invariant-sum_block-loop-i : goal.invariant-sum_block-loop-i
invariant-sum_block-loop-i l = (l.from ≤ l.i) × (l.acc ≤ ceiling) × ((p : FormsHeld l.row l.from l.to) → Passed l.row (cost_in l.cost) l.sums l.i l.to l.acc (tally (cost_in l.cost) l.sums p.part.lines) l.turn (sets l.initial.turn l.from (turns (cost_in l.cost) l.sums p.part.lines)))

abbrev pub decreases-sum_block-loop-i : goal.decreases-sum_block-loop-i
decreases-sum_block-loop-i l = l.to - l.i
