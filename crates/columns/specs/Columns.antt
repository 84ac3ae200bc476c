-- A derived column: one number for each leaf, in text order. Assumes nothing: these are definitions.
use Rattle.std.specs.Prelude.{◌≡◌, List, [], ◌∷◌, ◌++◌, ℕ, suc, ◌+◌, ◌-◌, ◌*◌, get_or}
use Rattle.model.specs.Plan.{Block, C, Lines, close, leaf_line, call_line, loop_line, if_line}
use Rattle.model.specs.Total.{tally}
use Rattle.columns.specs.Sums.{cap, lead}

-- How a column is computed from what follows: `next l s` stands at the start of the lines l, which s follows; `value l x` is the number of the
-- first leaf of l, and `inner l x` what follows the body, if its form is a loop, where x follows the form.
pub record ColumnRule : Type 0 where
  pub next : Lines → ℕ → ℕ
  pub value : Lines → ℕ → ℕ
  pub inner : Lines → ℕ → ℕ

-- The numbers of all leaves of lines, which s follows.
unfoldable pub column_of : ColumnRule → Lines → ℕ → List ℕ
column_of u close s = []
column_of u (leaf_line b r) s = u.value (leaf_line b r) (u.next r s) ∷ column_of u r s
column_of u (call_line b f r) s = u.value (call_line b f r) (u.next r s) ∷ column_of u r s
column_of u (loop_line b n body r) s =
    u.value (loop_line b n body r) (u.next r s) ∷ (column_of u body (u.inner (loop_line b n body r) (u.next r s)) ++ column_of u r s)
column_of u (if_line b t e r) s =
    u.value (if_line b t e r) (u.next r s) ∷ (column_of u t (u.next r s) ++ (column_of u e (u.next r s) ++ column_of u r s))

-- The sum of one round of the loop that the lines open with, condition and body, the body held at the ceiling; 0 of any other form.
unfoldable pub held_turn : (Block → ℕ) → List ℕ → Lines → ℕ
held_turn k ts close = 0
held_turn k ts (leaf_line b r) = 0
held_turn k ts (call_line b f r) = 0
held_turn k ts (loop_line b n body r) = k b + cap (tally k ts body)
held_turn k ts (if_line b t e r) = 0

-- The column of these sums.
abbrev pub turn_rule : (Block → ℕ) → List ℕ → ColumnRule
turn_rule k ts = record { next = λ l s. 0; value = λ l x. held_turn k ts l; inner = λ l x. 0 }

abbrev pub turns : (Block → ℕ) → List ℕ → Lines → List ℕ
turns k ts l = column_of (turn_rule k ts) l 0

-- What follows the body of the loop that the lines open with, in a first visit: the condition, all rounds but one, and x.
unfoldable pub rounds : List ℕ → Lines → ℕ → ℕ
rounds ts close x = 0
rounds ts (leaf_line b r) x = 0
rounds ts (call_line b f r) x = 0
rounds ts (loop_line b n body r) x = C b + (n - 1) * (tally C ts body + C b) + x
rounds ts (if_line b t e r) x = 0

-- The column of tails; ts are the isolated totals of the functions.
abbrev pub tail_rule : List ℕ → ColumnRule
tail_rule ts = record { next = λ l e. tally C ts l + e; value = λ l x. lead C ts l + x; inner = rounds ts }

-- The numbers of xs stand in o, from i on.
unfoldable pub Contains : List ℕ → ℕ → List ℕ → Type 0
Contains o i [] = Unit {0}
Contains o i (x ∷ xs) = (get_or o i 0 ≡ x) × Contains o (suc i) xs
