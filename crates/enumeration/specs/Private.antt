-- What only the private functions promise. Assumes nothing: these are definitions.
use Rattle.std.specs.Prelude.{ℕ, ◌+◌, ◌≤◌, ◌<◌, ◌≡◌, List, [], ◌∷◌, ◌++◌, map, length, get_or, take}
use Rattle.model.specs.Plan.{Block, C, M}
use Rattle.model.specs.Runs.{sum}
use Rattle.model.specs.Acceptance.{Costs}
use Rattle.rows.specs.declared.Leaf.{Leaf}
use Rattle.rows.specs.Leaves.{numbers}
use Rattle.rows.specs.Rows.{block_at}
use Rattle.rows.specs.declared.Code.{Code}
use Rattle.short_runs.specs.ShortRuns.{Ascending}
use Rattle.trail.specs.declared.Trail.{Trail}
use Rattle.trail.specs.Trails.{TrailOf, ShortRunsOn}

-- The visits of the trail's run.
abbrev pub run_of : List Leaf → Trail → List Block
run_of row x = map (block_at (numbers row)) (take x.len x.leaves)

-- At most 64 leaves of the row, whose costs are in range.
pub record LeavesLow (row : List Leaf) (leaves : List ℕ) : Type 0 where
  pub few : length leaves ≤ 64
  pub held : (k : ℕ) → k < length leaves → get_or leaves k 0 < length row
  pub low : (k : ℕ) → k < length leaves → Costs (block_at (numbers row) (get_or leaves k 0))

-- The same of a trail's run.
pub record RunHeld (row : List Leaf) (x : Trail) : Type 0 where
  pub few : x.len ≤ 64
  pub low : LeavesLow row (take x.len x.leaves)

-- The numbers of a line stand at the start of the fields.
pub record FieldsOf (row : List Leaf) (leaves fields : List ℕ) : Type 0 where
  pub size : length fields ≡ 66
  pub are : take (length leaves + 2) fields ≡
      leaves ++ (sum C (map (block_at (numbers row)) leaves) ∷ sum M (map (block_at (numbers row)) leaves) ∷ [])

-- The trail's run and all behind it are some of a code's short runs in order, and the costs of the code's leaves are in range.
pub record Enumerates (c : Code) (column : List ℕ) (x : Trail) : Type 0 where
  pub on : ShortRunsOn c column
  pub runs : List (List Block)
  pub stands : TrailOf on.table column x runs
  pub ascending : Ascending runs
  pub few : length c.row.now ≤ 512
  pub costs : (i : ℕ) → i < length c.row.now → Costs (block_at (numbers c.row.now) i)
