use Rattle.rows.specs.Rows.{Part}
use Rattle.rows.specs.Leaves.{numbers}
use Prim.Native.Nat.{◌+◌, ◌-◌}
use Rattle.structure.proofs.+valid_whole.Given as goal

abbrev pub decreases-valid : goal.decreases-valid
decreases-valid l = l.left + l.left + 1

abbrev pub decreases-whole : goal.decreases-whole
decreases-whole l = l.left + l.left

abbrev pub invariant-valid-loop-i : goal.invariant-valid-loop-i
invariant-valid-loop-i l = (Part (numbers l.row) l.hs l.left l.l l.i l.to → Part (numbers l.row) l.hs l.left l.l l.from l.to) × (Part (numbers l.row) l.hs l.left l.l l.from l.to → Part (numbers l.row) l.hs l.left l.l l.i l.to)

abbrev pub decreases-valid-loop-i : goal.decreases-valid-loop-i
decreases-valid-loop-i l = l.to - l.i
