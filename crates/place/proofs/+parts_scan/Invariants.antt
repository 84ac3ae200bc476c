use Rattle.rows.specs.Leaves.{numbers}
use Rattle.place.proofs.Sights.{Walked}
use Rattle.place.specs.Private.{Held, sight_of}
use Rattle.rows.specs.Rows.{Piece}
use Rattle.model.specs.Forms.{forms, Forms}
use Prim.Native.Nat.{ℕ, ◌+◌, ◌-◌, ◌≤◌}
use mathlib.Core.List.{List}
use Rattle.place.proofs.+parts_scan.Given as goal

abbrev pub decreases-parts : goal.decreases-parts
decreases-parts l = l.to - l.i + (l.to - l.i)

abbrev pub decreases-scan : goal.decreases-scan
decreases-scan l = l.to - l.from + (l.to - l.from) + 1

abbrev pub invariant-scan-loop-i : goal.invariant-scan-loop-i
invariant-scan-loop-i l =
    (l.from ≤ l.i) × Held l.row l.i l.to ×
    ((left : ℕ) (p : Piece (numbers l.row) left l.from l.to) (G : List Forms) → Walked (numbers l.row) left l.i l.to G l.x l.passed (sight_of (forms G p.part.lines) l.x))

abbrev pub decreases-scan-loop-i : goal.decreases-scan-loop-i
decreases-scan-loop-i l = l.to - l.i
