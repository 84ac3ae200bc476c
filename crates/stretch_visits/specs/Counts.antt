-- How often each leaf is visited on the way of a stretch. Assumes nothing: these are definitions.
use Rattle.std.specs.Prelude.{List, [], ◌≡◌, ℕ, ◌<◌, ◌≤◌, get_or, ltb}
use Rattle.model.specs.Plan.{Block}
use Rattle.model.specs.Forms.{Forms}
use Rattle.model.specs.Runs.{sum}
use Rattle.model.specs.Places.{pick}
use Rattle.model.specs.Cause.{is_leaf, visit_way}
use Rattle.rows.specs.declared.PricedCode.{PricedCode}
use Rattle.rows.specs.Rows.{block_at}
use Rattle.place.specs.declared.Place.{Place}
use Rattle.outlook.specs.Loads.{PlacePriced}

-- A visit of the leaf n that costs something.
abbrev pub costly : (Block → ℕ) → ℕ → Block → ℕ
costly k n b = pick (ltb 0 (k b)) (is_leaf n b) 0

-- Of each leaf of the row whose visits cost something: how often it is visited on the way from the visit which the forms open with.
abbrev pub CountsOf : (Block → ℕ) → List ℕ → Forms → List ℕ → Type 0
CountsOf k w f counts = (n : ℕ) → 0 < k (block_at w n) → get_or counts n 0 ≡ sum (costly k n) (visit_way k f [])

-- The place is priced, and no record that is looked at lies behind the 512th.
pub record PlaceFew (c : PricedCode) (p : Place) : Type 0 where
  pub priced : PlacePriced c p
  pub few : priced.columns.records ≤ 512
