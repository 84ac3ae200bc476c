-- Small forms worked through: an if with two empty parts is one run; a loop that goes back to a lower number; a called function with lower numbers.
use mathlib.Core.Bool.{false}
use mathlib.Core.List.{[], ◌∷◌, map}
use mathlib.Core.Path.{◌≡◌, refl}
use Prim.Native.Nat.{ℕ}
use Rattle.model.specs.Plan.{Block}
use Rattle.model.specs.Forms.{Forms, done, leaf, call, loop, cond, ◌⊕◌}
use Rattle.short_runs.specs.ShortRuns.{leaf_numbers}
use Rattle.short_runs.specs.Listing.{ways, next_leaf, in_front, short_runs}

abbrev b : ℕ → Block
b n = record { number = n; point = false; isolated = 1; max_load = 2 }

-- Function 0: leaf 0. Main: if 1 with nothing in it; loop 2, at most twice, with an if 3 in it whose else part is leaf 4; a call 5 of function 0.
abbrev plan : Forms
plan = cond (b 1) done done (loop (b 2) 2 (cond (b 3) done (leaf (b 4) done) done) (call (b 5) (leaf (b 0) done) done))

within_eight : map leaf_numbers (short_runs 8 plan) ≡
    (1 ∷ 2 ∷ 3 ∷ 2 ∷ 3 ∷ 2 ∷ 5 ∷ 0 ∷ []) ∷ (1 ∷ 2 ∷ 3 ∷ 2 ∷ 5 ∷ 0 ∷ []) ∷ (1 ∷ 2 ∷ 3 ∷ 4 ∷ 2 ∷ 5 ∷ 0 ∷ []) ∷ (1 ∷ 2 ∷ 5 ∷ 0 ∷ []) ∷ []
unfolding short_runs ways next_leaf in_front leaf_numbers ◌⊕◌
within_eight = refl

-- An if at the end with one empty part: the run that begins the other comes first.
begins_first : map leaf_numbers (short_runs 8 (cond (b 0) (leaf (b 1) done) done done)) ≡ (0 ∷ []) ∷ (0 ∷ 1 ∷ []) ∷ []
unfolding short_runs ways next_leaf in_front leaf_numbers ◌⊕◌
begins_first = refl
