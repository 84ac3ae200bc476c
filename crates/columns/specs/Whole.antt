-- The functions of a plan. Assumes nothing: these are definitions.
use Rattle.std.specs.Prelude.{◌≡◌, List, [], ◌∷◌, ◌++◌, ℕ, zero, suc, ◌≤◌, ◌<◌, get_or}
use Rattle.std.proofs.lemmas.List.Edits.{sets}
use Rattle.model.specs.Plan.{Block, Lines}
use Rattle.model.specs.Total.{tally}
use Rattle.rows.specs.declared.Code.{Code}
use Rattle.rows.specs.Leaves.{numbers}
use Rattle.rows.specs.Plans.{PlanOf, lines_of}
use Rattle.rows.specs.Costs.{limit}
use Rattle.columns.specs.Sums.{cap}
use Rattle.columns.specs.Columns.{column_of, turns, tail_rule, Contains}

-- The totals of the first n functions, where F f is the lines of the function f.
unfoldable pub known : (Block → ℕ) → (ℕ → Lines) → ℕ → List ℕ
known k F zero = []
known k F (suc n) = known k F n ++ (tally k (known k F n) (F n) ∷ [])

-- The first n of the numbers ts are these totals, held at the ceiling, and o holds the sums of the loops' rounds.
pub record Measured (k : Block → ℕ) (F : ℕ → Lines) (starts : List ℕ) (n : ℕ) (ts o : List ℕ) : Type 0 where
  pub totals : (f : ℕ) → f < n → get_or ts f 0 ≡ cap (get_or (known k F n) f 0)
  pub rounds : (f : ℕ) → f < n → Contains o (get_or starts f 0) (turns k ts (F f))

-- The totals and the sums of the rounds are exact: no total is over the limit.
pub record Exact (k : Block → ℕ) (F : ℕ → Lines) (starts : List ℕ) (n : ℕ) (ts o : List ℕ) : Type 0 where
  pub total : (f : ℕ) → f < n → get_or ts f 0 ≡ tally k ts (F f)
  pub small : (f : ℕ) → f < n → get_or ts f 0 ≤ limit
  pub rounds : (f : ℕ) → f < n → Contains o (get_or starts f 0) (turns k ts (F f))

-- The row holds n functions, with their exact totals at one cost.
pub record Summed (k : Block → ℕ) (w starts : List ℕ) (n : ℕ) (ts o : List ℕ) : Type 0 where
  pub plan : PlanOf w starts n
  pub exact : Exact k (lines_of plan) starts n ts o

-- The same of a code that is lent.
abbrev pub CodeSummed : (Block → ℕ) → Code → List ℕ → List ℕ → Type 0
CodeSummed k c ts o = Summed k (numbers c.row.now) c.bounds.now c.functions ts o

-- The column o, with the tails of the first k functions; ts are the isolated totals.
unfoldable pub tails_written : List ℕ → (ℕ → Lines) → List ℕ → ℕ → List ℕ → List ℕ
tails_written ts F starts zero o = o
tails_written ts F starts (suc k) o = sets (tails_written ts F starts k o) (get_or starts k 0) (column_of (tail_rule ts) (F k) 0)
