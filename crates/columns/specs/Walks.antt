-- What the walks over the forms of a sequence ask, note and keep. Assumes nothing: these are definitions.
use Rattle.std.specs.Prelude.{List, [], ◌∷◌, ◌++◌, ◌≡◌, ℕ, ◌+◌, ◌≤◌, suc, zero, ◌<◌, get_or, length}
use Rattle.model.specs.Plan.{Block, Lines, close, leaf_line, call_line, loop_line, if_line}
use Rattle.model.specs.Total.{tally}
use Rattle.rows.specs.declared.Leaf.{Leaf}
use Rattle.rows.specs.Rows.{Part, after_at}
use Rattle.rows.specs.First.{rest}
use Rattle.rows.specs.Leaves.{numbers}
use Rattle.rows.specs.Costs.{limit}
use Rattle.columns.specs.Sums.{lead}
use Rattle.columns.specs.Columns.{ColumnRule, column_of, turns, Contains}

-- The numbers of the leaves of the first form, which x follows.
unfoldable pub front : ColumnRule → Lines → ℕ → List ℕ
front u close x = []
front u (leaf_line b r) x = u.value (leaf_line b r) x ∷ []
front u (call_line b f r) x = u.value (call_line b f r) x ∷ []
front u (loop_line b n body r) x = u.value (loop_line b n body r) x ∷ column_of u body (u.inner (loop_line b n body r) x)
front u (if_line b t e r) x = u.value (if_line b t e r) x ∷ (column_of u t x ++ column_of u e x)

-- The leaves hold forms from i up to e, in which `left` brackets may open.
pub record FormsHeld (row : List Leaf) (i e : ℕ) : Type 0 where
  pub left : ℕ
  pub heights : List ℕ
  pub level : ℕ
  pub part : Part (numbers row) heights left level i e
  pub held : e ≤ length row
  pub few : e ≤ 512

-- They hold a form at i: the first of those up to `end`.
pub record FormHeld (row : List Leaf) (i : ℕ) : Type 0 where
  pub left : ℕ
  pub heights : List ℕ
  pub level : ℕ
  pub end : ℕ
  pub part : Part (numbers row) heights left level i end
  pub some : i < end
  pub held : end ≤ length row
  pub few : end ≤ 512

-- The total of forms, with the s that follows them, is within the limit, and the sums of their rounds stand in o.
pub record Sized (k : Block → ℕ) (row : List Leaf) (ts o : List ℕ) (i e s : ℕ) : Type 0 where
  pub forms : FormsHeld row i e
  pub small : tally k ts forms.part.lines + s ≤ limit
  pub noted : Contains o i (turns k ts forms.part.lines)

-- The same of the form at i, which x follows.
pub record Ready (k : Block → ℕ) (row : List Leaf) (ts o : List ℕ) (i x : ℕ) : Type 0 where
  pub form : FormHeld row i
  pub small : lead k ts form.part.lines + x ≤ limit
  pub noted : Contains o i (turns k ts form.part.lines)

-- The first leaf of form number k of the sequence that begins at i.
unfoldable pub sibling : List ℕ → ℕ → ℕ → ℕ
sibling w i zero = i
sibling w i (suc k) = after_at w (sibling w i k)

-- The lines after the first k forms.
unfoldable pub later : ℕ → Lines → Lines
later zero l = l
later (suc k) l = rest (later k l)

-- The list o became o': of the same length, and as it was below i.
pub record Kept (i : ℕ) (o o' : List ℕ) : Type 0 where
  pub long : length o' ≡ length o
  pub same : (j : ℕ) → j < i → get_or o' j 0 ≡ get_or o j 0

-- The sequence from i up to e has n forms, and o lists their first leaves from i on.
pub record Listed (w : List ℕ) (i e n : ℕ) (o : List ℕ) : Type 0 where
  pub ends : sibling w i n ≡ e
  pub inside : (k : ℕ) → k < n → sibling w i k < e
  pub room : (k : ℕ) → k < n → i + k ≤ sibling w i k
  pub there : (k : ℕ) → k < n → get_or o (i + k) 0 ≡ sibling w i k
