-- Lent columns against the derived ones, form by form. Assumes nothing: these are definitions.
-- ts are the totals of the functions, o is a lent column of turns and u one of tails.
use Rattle.std.specs.Prelude.{◌≡◌, List, ℕ, ◌≤◌, ◌<◌, length, get_or}
use Rattle.model.specs.Plan.{Block, C, Lines}
use Rattle.columns.specs.Columns.{column_of, tail_rule, Contains}
use Rattle.columns.specs.Whole.{Exact}

-- The lent totals and turns are those of the n functions F at the cost k: no total is over the limit, and those behind the last function are 0.
pub record AllSummed (k : Block → ℕ) (F : ℕ → Lines) (starts : List ℕ) (n : ℕ) (ts o : List ℕ) : Type 0 where
  pub exact : Exact k F starts n ts o
  pub behind : (f : ℕ) → n ≤ f → f < 16 → get_or ts f 0 ≡ 0
  pub turns_long : get_or starts n 0 ≤ length o

-- The lent isolated totals and turns are those of the n functions F, and so are the lent tails.
pub record AllDerived (F : ℕ → Lines) (starts : List ℕ) (n : ℕ) (ts o u : List ℕ) : Type 0 where
  pub summed : AllSummed C F starts n ts o
  pub tails : (f : ℕ) → f < n → Contains u (get_or starts f 0) (column_of (tail_rule ts) (F f) 0)
  pub tails_long : get_or starts n 0 ≤ length u
