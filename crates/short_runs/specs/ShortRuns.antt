-- All short runs (L10): every run of a plan with at most 64 visits, each sequence of visits once, in order.
-- Assumes nothing: these are definitions.
use mathlib.Core.List.{List, [], ◌∷◌}
use mathlib.Core.Logic.{◌⊎◌}
use mathlib.Core.Path.{◌≡◌}
use Prim.Native.Nat.{ℕ, ◌≤◌, ◌<◌}
use lib.ListN.{length}
use Rattle.model.specs.Plan.{Block, Plan}
use Rattle.model.specs.Forms.{Forms, main}
use Rattle.model.specs.Runs.{Run, visits}

-- The leaf numbers of visits.
unfoldable pub leaf_numbers : List Block → List ℕ
leaf_numbers [] = []
leaf_numbers (b ∷ w) = b.number ∷ leaf_numbers w

-- The order of the lines: by the first differing leaf number, and what begins another comes before it.
unfoldable pub Before : List ℕ → List ℕ → Type 0
Before [] [] = ⊥
Before [] (n ∷ v) = Unit
Before (m ∷ u) [] = ⊥
Before (m ∷ u) (n ∷ v) = (m < n) ⊎ ((m ≡ n) × Before u v)

-- Neighbours strictly ascend.
unfoldable pub Ascending : List (List Block) → Type 0
Ascending [] = Unit
Ascending (u ∷ []) = Unit
Ascending (u ∷ v ∷ ws) = Before (leaf_numbers u) (leaf_numbers v) × Ascending (v ∷ ws)

-- These visits are among the listed ones.
unfoldable pub OnList : List Block → List (List Block) → Type 0
OnList w [] = ⊥
OnList w (v ∷ vs) = (v ≡ w) ⊎ OnList w vs

-- The visits of a run of the forms with at most k visits.
pub record Short (fs : Forms) (k : ℕ) (w : List Block) : Type 0 where
  pub run : Run fs
  pub visits_are : visits run ≡ w
  pub few : length w ≤ k

-- The visits of all runs of the forms with at most k visits: only such, every such, in order. (Strictly ascending: so each once.)
pub record ShortRuns (fs : Forms) (k : ℕ) (ws : List (List Block)) : Type 0 where
  pub only : (w : List Block) → OnList w ws → Short fs k w
  pub every : (w : List Block) → Short fs k w → OnList w ws
  pub ascending : Ascending ws

-- L10: at most 64 visits.
abbrev pub most_visits : ℕ
most_visits = 64

abbrev pub AllShortRuns : Plan → List (List Block) → Type 0
AllShortRuns p ws = ShortRuns (main p) most_visits ws
