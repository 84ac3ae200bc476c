-- `columns::block_fits` and `columns::form_fits`, which call each other, meet their contracts. Assumes nothing.
use Prim.Native.Nat.{◌+◌, ◌-◌, ◌*◌, ◌≤◌}
use Rattle.rows.specs.Leaves.{numbers, lent_turns, lent_tails}
use Rattle.rows.specs.Rows.{after_at}
use Rattle.columns.specs.Walks.{FormsHeld}
use Rattle.columns.proofs.Fitting.{Walking}
use Rattle.columns.proofs.+block_fits_form_fits.Given as goal

abbrev pub decreases-block_fits : goal.decreases-block_fits
decreases-block_fits l = (l.to - l.from) * 2 + 1

abbrev pub decreases-form_fits : goal.decreases-form_fits
decreases-form_fits l = (after_at (numbers l.lent.now.code.row.now) l.i - l.i) * 2

abbrev pub invariant-block_fits-loop-i : goal.invariant-block_fits-loop-i
invariant-block_fits-loop-i l = (l.from ≤ l.i) × ((p : FormsHeld l.lent.code.row.now l.from l.to) → Walking l.lent.sums.now (lent_turns l.lent.code.row.now) (lent_tails l.lent.code.row.now) l.lent.code.row.now l.from l.i l.to l.e p.part.lines)

abbrev pub decreases-block_fits-loop-i : goal.decreases-block_fits-loop-i
decreases-block_fits-loop-i l = l.to - l.i
