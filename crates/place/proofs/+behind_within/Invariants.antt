use Rattle.rows.specs.Leaves.{numbers}
use Rattle.place.proofs.Sights.{Beside}
use Rattle.place.specs.Private.{Held, sight_behind}
use Rattle.rows.specs.Rows.{Piece}
use Rattle.model.specs.Forms.{forms, Forms}
use Rattle.model.specs.Stack.{suffix}
use Prim.Native.Nat.{ℕ, ◌+◌, ◌-◌, ◌≤◌}
use mathlib.Core.List.{List}
use Rattle.place.proofs.+behind_within.Given as goal

abbrev pub decreases-behind : goal.decreases-behind
decreases-behind l = l.to - l.from + (l.to - l.from) + 1

abbrev pub decreases-within : goal.decreases-within
decreases-within l = l.to - l.i + (l.to - l.i)

abbrev pub invariant-behind-loop-i : goal.invariant-behind-loop-i
invariant-behind-loop-i l =
    (l.i ≤ l.p) × (l.from ≤ l.i) × Held l.row l.i l.to ×
    ((left : ℕ) (q : Piece (numbers l.row) left l.from l.to) (G : List Forms) → Beside (numbers l.row) left l.i l.to G l.p l.x (sight_behind (suffix (forms G q.part.lines) l.p) l.x))

abbrev pub decreases-behind-loop-i : goal.decreases-behind-loop-i
decreases-behind-loop-i l = l.to - l.i
