-- The heights of a plan's functions; its leaves with their levels, as its records show them. Assumes nothing: these are definitions.
use Rattle.std.specs.Prelude.{ℕ, ◌≡◌, false, List, [], ◌∷◌, ◌++◌}
use Rattle.model.specs.Plan.{Lines, Plan}
use Rattle.model.specs.Levels.{Leveled, own_levels, heights}
use Rattle.model.specs.Places.{bit}
use Rattle.rows.specs.Rows.{point_at, isolated_at, max_load_at, level_at}

-- The heights of a plan's functions.
abbrev pub heights_of : Plan → List ℕ
heights_of p = heights [] p.functions

-- The leaves of functions with their levels in their own functions, in text order.
unfoldable pub leveled_leaves : List Lines → List Leveled
leveled_leaves [] = []
leveled_leaves (l ∷ ls) = own_levels 1 l ++ leveled_leaves ls

-- Record number i of a row has K, C and M of a leaf, and its level.
pub record Shows (r : List ℕ) (i : ℕ) (v : Leveled) : Type 0 where
  pub point : point_at r i ≡ bit v.block.point
  pub isolated : isolated_at r i ≡ v.block.isolated
  pub max_load : max_load_at r i ≡ v.block.max_load
  pub level : level_at r i ≡ v.level

-- What a list of leaves gives past its end.
abbrev pub no_leaf : Leveled
no_leaf = record { block = record { number = 0; point = false; isolated = 0; max_load = 0 }; level = 0 }
