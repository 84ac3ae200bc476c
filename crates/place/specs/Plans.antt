-- The derived columns of a plan. Assumes nothing: these are definitions.
use Rattle.std.specs.Prelude.{ℕ, ◌≤◌, ◌<◌, ◌≡◌, List, [], length, get_or}
use Rattle.model.specs.Plan.{Plan, C, close}
use Rattle.model.specs.Total.{tallies}
use Rattle.model.specs.Acceptance.{sizes}
use Rattle.place.specs.Times.{Priced}

-- The columns hold the tails and turns of the plan's leaves, one for each, and the isolated totals of its functions.
pub record PlanColumns (p : Plan) (tails turns totals : List ℕ) : Type 0 where
  pub long_tails : sizes p.functions ≤ length tails
  pub long_turns : sizes p.functions ≤ length turns
  pub totals_are : (f : ℕ) → f < length p.functions → get_or totals f 0 ≡ get_or (tallies C [] p.functions) f 0
  pub priced : (f : ℕ) → f < length p.functions → Priced totals tails turns (get_or p.functions f close) 0
