-- `columns::list` meets its contract. Assumes nothing.
use Rattle.columns.proofs.Listing.{Listing}
use Rattle.rows.specs.Leaves.{numbers}
use Prim.Native.Nat.{◌-◌}
use Rattle.columns.proofs.list.Given as goal

abbrev pub invariant-loop-i : goal.invariant-loop-i
invariant-loop-i l = Listing (numbers l.row) l.from l.to l.n l.i l.seq l.initial.seq

abbrev pub decreases-loop-i : goal.decreases-loop-i
decreases-loop-i l = l.to - l.i
