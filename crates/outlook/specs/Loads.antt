-- What the columns of one cost, turns and totals, hold of a table, record by record; and the same beside a place on it. Assumes nothing: these are definitions.
use Rattle.std.specs.Prelude.{◌≡◌, List, ℕ, ◌+◌, ◌≤◌, ◌<◌, get_or}
use Rattle.model.specs.Forms.{Forms, done, forms}
use Rattle.model.specs.Total.{total}
use Rattle.rows.specs.declared.PricedCode.{PricedCode}
use Rattle.rows.specs.Leaves.{numbers}
use Rattle.rows.specs.Costs.{limit, cost_in, lent_turns_in}
use Rattle.rows.specs.Rows.{kind_at, detail_at, after_at, block_at, Piece}
use Rattle.place.specs.declared.Place.{Place}
use Rattle.place.specs.Stack.{Decoded}
use Rattle.place.specs.Lent.{CodeTable, main_forms}
use Rattle.place.specs.Spans.{Running}

-- Where calls run the functions G: of each call among the first m records the total of the called function stands in the totals, and of each loop the sum of
-- one round, condition and body, in the turns.
pub record Loads (c : PricedCode) (G : List Forms) (m : ℕ) : Type 0 where
  pub called : (j : ℕ) → j < m → kind_at (numbers c.code.row.now) j ≡ 1 →
      get_or c.totals.now (detail_at (numbers c.code.row.now) j) 0 ≡ total (cost_in c.cost) (get_or G (detail_at (numbers c.code.row.now) j) done)
  pub looped : (j : ℕ) → j < m → kind_at (numbers c.code.row.now) j ≡ 2 →
      (left : ℕ) (p : Piece (numbers c.code.row.now) left (j + 1) (after_at (numbers c.code.row.now) j)) →
      get_or (lent_turns_in c.cost c.code.row.now) j 0 ≡ cost_in c.cost (block_at (numbers c.code.row.now) j) + total (cost_in c.cost) (forms G p.part.lines)

-- The columns of the code's cost hold this of all records, up to the last function's end, and the main function has a total within the limit.
pub record CostColumns (c : PricedCode) (t : CodeTable c.code) : Type 0 where
  pub records : ℕ
  pub inside : (j : ℕ) → j < c.code.functions → get_or c.code.bounds.now (j + 1) 0 ≤ records
  pub loads : Loads c t.funs records
  pub small : total (cost_in c.cost) (main_forms t) ≤ limit

-- The code has a table, with the columns of its cost.
pub record CodePriced (c : PricedCode) : Type 0 where
  pub table : CodeTable c.code
  pub columns : CostColumns c table

-- The place decodes at one of the 32 levels, with the columns of the code's cost.
pub record PlacePriced (c : PricedCode) (p : Place) : Type 0 where
  pub least : 1 ≤ p.level
  pub most : p.level ≤ 32
  pub decoded : Decoded (numbers c.code.row.now) c.code.bounds.now c.code.functions p.leaves p.earlier p.level
  pub columns : CostColumns c decoded.table

-- A run of the code stands at the leaf numbers, at level l, one of the 32, with the columns of one cost.
pub record PricedRun (c : PricedCode) (leaves : List ℕ) (l : ℕ) : Type 0 where
  pub least : 1 ≤ l
  pub most : l ≤ 32
  pub running : Running (numbers c.code.row.now) c.code.bounds.now c.code.functions leaves l
  pub columns : CostColumns c running.table
