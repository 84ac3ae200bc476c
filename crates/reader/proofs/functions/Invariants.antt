-- `reader::functions` meets its contract: the loop holds the plan so far, and each way out is one law. Assumes nothing.
use Rattle.reader.proofs.Tasks.{Holding}
use mathlib.Core.Path.{◌≡◌}
use Rattle.reader.specs.Raw.{derived}
use Rattle.rows.specs.Leaves.{numbers}
use lib.ListN.{length}
use Prim.Native.Nat.{◌-◌}
use Rattle.reader.proofs.functions.Given as goal

abbrev pub invariant-loop-end : goal.invariant-loop-end
invariant-loop-end l = record {
  held : Holding l.text (length l.initial.row) l.raw.deadline l.raw.switch l.raw.edition (numbers l.initial.row) l.spot.at l.spot.line l.spot.leaves l.raw.functions l.raw.bounds l.raw.heights (numbers l.row);
  counted : l.raw.leaves ≡ l.spot.leaves;
  kept : derived l.row ≡ derived l.initial.row;
}

abbrev pub decreases-loop-end : goal.decreases-loop-end
decreases-loop-end l = length l.text - l.spot.at
