-- The totals and turns of a plan at one cost. Assumes nothing: these are definitions.
use Rattle.std.specs.Prelude.{◌≡◌, List, [], ℕ, ◌<◌, length, get_or}
use Rattle.model.specs.Plan.{Block, Plan, Lines, close, leaf_line, call_line, loop_line, if_line}
use Rattle.model.specs.Total.{tallies}
use Rattle.rows.specs.declared.PricedCode.{PricedCode}
use Rattle.rows.specs.Leaves.{numbers}
use Rattle.rows.specs.Costs.{cost_in, lent_turns_in}
use Rattle.rows.specs.Plans.{PlanIn}
use Rattle.rows.specs.Turns.{turn}

-- At each loop of the lines stands its turn at the cost k; ts are the totals of the functions.
unfoldable pub Rounds : (Block → ℕ) → List ℕ → List ℕ → Lines → Type 0
Rounds k ts turns close = Unit {0}
Rounds k ts turns (leaf_line b r) = Rounds k ts turns r
Rounds k ts turns (call_line b f r) = Rounds k ts turns r
Rounds k ts turns (loop_line b n body r) =
    (get_or turns b.number 0 ≡ turn k ts (loop_line b n body r)) × Rounds k ts turns body × Rounds k ts turns r
Rounds k ts turns (if_line b t s r) = Rounds k ts turns t × Rounds k ts turns s × Rounds k ts turns r

-- These are the totals of the plan's functions at the cost k and the turns of its loops.
pub record PlanLoads (k : Block → ℕ) (p : Plan) (sums turns : List ℕ) : Type 0 where
  pub totals_are : (f : ℕ) → f < length p.functions → get_or sums f 0 ≡ get_or (tallies k [] p.functions) f 0
  pub rounds : (f : ℕ) → f < length p.functions → Rounds k sums turns (get_or p.functions f close)

-- The code is that of the plan, and the totals beside it and the turns in its leaves are the plan's at the code's cost.
pub record PlanPriced (c : PricedCode) (p : Plan) : Type 0 where
  pub lies : PlanIn (numbers c.code.row.now) c.code.bounds.now p
  pub functions_are : c.code.functions ≡ length p.functions
  pub loads : PlanLoads (cost_in c.cost) p c.totals.now (lent_turns_in c.cost c.code.row.now)
