-- What the private functions promise: the numbers that are listed, from the leaves that reading a plan leaves in memory and a column of their stretches.
-- Assumes nothing: these are definitions.
use Rattle.std.specs.Prelude.{ℕ, ◌+◌, ◌≡◌, eqb, length, get_or}
use mathlib.Core.List.{List, [], ◌∷◌, ◌++◌}
use Rattle.std.proofs.lemmas.List.Edits.{sets}
use Rattle.model.specs.Places.{pick}
use Rattle.rows.specs.declared.Leaf.{Leaf}

-- Leaf number i with its stretch, where it is a point.
abbrev pub leaf_points : ℕ → Leaf → ℕ → List (List ℕ)
leaf_points i l stretch = pick (eqb l.point 1) ((i ∷ l.level ∷ l.tail ∷ stretch ∷ []) ∷ []) []

-- The points among these leaves, the first of which is number i, with the stretches in a column that begins with leaf number 0.
unfoldable pub leaves_points : List ℕ → ℕ → List Leaf → List (List ℕ)
leaves_points stretches i [] = []
leaves_points stretches i (l ∷ ls) = leaf_points i l (get_or stretches i 0) ++ leaves_points stretches (i + 1) ls

-- Some points were stored at the beginning, and so many there are.
pub record Collected (old : List (List ℕ)) (points new : List (List ℕ)) (count : ℕ) : Type 0 where
  pub stored : new ≡ sets old 0 points
  pub counted : count ≡ length points
