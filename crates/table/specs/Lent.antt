-- The row of leaf records that the caller lends (01: 'The table is a row of at most 512 leaf records lent by the caller, with the deadline, costs and
-- function bounds beside it'): the table that a row and a head stand for, the leaves of a table, and the row once a plan was read.
-- Assumes nothing: these are definitions.
use Rattle.std.specs.Prelude.{◌≡◌, List, [], ◌∷◌, ◌++◌, ℕ, zero, suc, ◌+◌, get_or, drop}
use Rattle.model.specs.Plan.{Plan}
use Rattle.model.specs.Acceptance.{sizes, Accepted}
use Rattle.reader.specs.Outcome.{Outcome, plan, refused}
use Rattle.rows.specs.declared.Leaf.{Leaf}
use Rattle.rows.specs.declared.Code.{Code}
use Rattle.rows.specs.declared.Cost.TheVariants.{MaxLoad}
use Rattle.rows.specs.declared.PricedCode.{PricedCode}
use Rattle.rows.specs.Rows.{kind_at, point_at, isolated_at, max_load_at, detail_at, other_at, after_at, level_at}
use Rattle.rows.specs.Leaves.{numbers, lent_turns, lent_tails, lent_max_load_turns}
use Rattle.rows.specs.Records.{row_of}
use Rattle.table.specs.declared.Head.{Head}
use Rattle.table.specs.Table.{Table, head_of, table_of, table_at}

-- The table that these leaves and this head stand for.
abbrev pub table_with : List Leaf → Head → Table
table_with ls h = table_at (numbers ls) (lent_turns ls) (lent_tails ls) (lent_max_load_turns ls) h

-- The leaf i of a table.
abbrev pub leaf_of : Table → ℕ → Leaf
leaf_of t i =
    record {
      kind = kind_at t.row i;
      point = point_at t.row i;
      isolated = isolated_at t.row i;
      max_load = max_load_at t.row i;
      detail = detail_at t.row i;
      other = other_at t.row i;
      after = after_at t.row i;
      level = level_at t.row i;
      turn = get_or t.turns i 0;
      tail = get_or t.tails i 0;
      max_load_turn = get_or t.max_load_turns i 0;
    }

-- So many leaves of a table, from the leaf i on.
abbrev pub leaves_from : Table → ℕ → ℕ → List Leaf
leaves_from t i zero = []
leaves_from t i (suc n) = leaf_of t i ∷ leaves_from t (i + 1) n

-- The lent row afterwards: the leaves of the plan's table stand at its beginning, and records past the plan's last leaf keep their values; a refused
-- plan leaves the row as it was.
abbrev pub row_after : Outcome → List Leaf → List Leaf
row_after (plan p) ls = leaves_from (table_of p) 0 (sizes p.functions) ++ drop (sizes p.functions) ls
row_after (refused k j) ls = ls

-- The code of a table beside its head, at the max-load cost.
pub record AtMaxLoad (h : Head) (code : Code) (c : PricedCode) : Type 0 where
  pub code_is : c.code ≡ code
  pub cost_is : c.cost ≡ MaxLoad
  pub totals_are : c.totals.now ≡ h.max_load_totals

-- The code is that of this plan: its row, its bounds, and how many functions it has.
pub record CodeOf (p : Plan) (c : Code) : Type 0 where
  pub row_is : numbers c.row.now ≡ row_of p
  pub bounds_are : c.bounds.now ≡ (head_of p).bounds
  pub functions_are : c.functions ≡ (head_of p).functions

-- The code is that of an accepted plan.
pub record Coded (c : Code) : Type 0 where
  pub plan : Plan
  pub accepted : Accepted plan
  pub is : CodeOf plan c
