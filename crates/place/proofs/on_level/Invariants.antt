use mathlib.Core.List.{List}
use Prim.Native.Nat.{ℕ, ◌-◌, ◌≤◌, ◌<◌}
use Rattle.model.specs.Forms.{Forms, forms}
use Rattle.model.specs.Stack.{suffix}
use Rattle.rows.specs.Rows.{Piece}
use Rattle.rows.specs.Leaves.{numbers}
use Rattle.place.specs.Private.{Held, there}
use Rattle.place.proofs.Siblings.{Sought}
use Rattle.place.proofs.on_level.Given as goal

abbrev pub invariant-loop-i : goal.invariant-loop-i
invariant-loop-i l =
    (stop : ℕ) × (l.i ≤ l.p) × (l.p < stop) × Held l.row l.i stop ×
    ((left : ℕ) (q : Piece (numbers l.row) left l.from l.to) (G : List Forms) → Sought (numbers l.row) l.i stop G l.p (there (suffix (forms G q.part.lines) l.p)))

abbrev pub decreases-loop-i : goal.decreases-loop-i
decreases-loop-i l = l.p - l.i
