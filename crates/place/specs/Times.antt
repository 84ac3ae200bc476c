-- The derived columns of a table, and the remaining times level by level, as 001 computes them from the columns. Assumes nothing: these are definitions.
use Rattle.std.specs.Prelude.{ℕ, ◌+◌, ◌-◌, ◌*◌, ◌≤◌, ◌<◌, ◌≡◌, List, [], ◌∷◌, length, get_or}
use Rattle.model.specs.Plan.{C, Lines, close, leaf_line, call_line, loop_line, if_line}
use Rattle.model.specs.Forms.{Forms, done}
use Rattle.model.specs.Total.{total, tally}
use Rattle.model.specs.Stack.{Levels, whole}
use Rattle.rows.specs.Turns.{turn}
use Rattle.rows.specs.Costs.{limit}
use Rattle.place.specs.Stack.{FunctionTable, Decoded}

-- The columns hold the tails and turns of the lines' leaves, where e follows the lines in their function and ts are the functions' isolated totals.
-- Tail: the isolated total from a first visit of the leaf to the end of its function.
unfoldable pub Priced : List ℕ → List ℕ → List ℕ → Lines → ℕ → Type 0
Priced ts tails turns close e = Unit {0}
Priced ts tails turns (leaf_line b r) e =
    (get_or tails b.number 0 ≡ tally C ts (leaf_line b r) + e) × (get_or turns b.number 0 ≡ turn C ts (leaf_line b r)) × Priced ts tails turns r e
Priced ts tails turns (call_line b f r) e =
    (get_or tails b.number 0 ≡ tally C ts (call_line b f r) + e) × (get_or turns b.number 0 ≡ turn C ts (call_line b f r)) × Priced ts tails turns r e
Priced ts tails turns (loop_line b n body r) e =
    (get_or tails b.number 0 ≡ tally C ts (loop_line b n body r) + e) × (get_or turns b.number 0 ≡ turn C ts (loop_line b n body r)) ×
    Priced ts tails turns body (C b + (n - 1) * (tally C ts body + C b) + tally C ts r + e) × Priced ts tails turns r e
Priced ts tails turns (if_line b t s r) e =
    (get_or tails b.number 0 ≡ tally C ts (if_line b t s r) + e) × (get_or turns b.number 0 ≡ turn C ts (if_line b t s r)) ×
    Priced ts tails turns t (tally C ts r + e) × Priced ts tails turns s (tally C ts r + e) × Priced ts tails turns r e

-- The columns of a table: the tails and turns of its leaves, and the isolated totals of its functions, of which the main one's is at most 2^40.
pub record Columns {w starts : List ℕ} {n : ℕ} (p : FunctionTable w starts n) (tails turns totals : List ℕ) : Type 0 where
  pub few_functions : n ≤ 16
  pub long_tails : (f : ℕ) → f < n → get_or starts (f + 1) 0 ≤ length tails
  pub long_turns : (f : ℕ) → f < n → get_or starts (f + 1) 0 ≤ length turns
  pub totals_are : (f : ℕ) → f < n → get_or totals f 0 ≡ total C (get_or p.funs f done)
  pub priced : (f : ℕ) (h : f < n) → Priced totals tails turns (p.each f h).piece.part.lines 0
  pub bounded : total C (get_or p.funs (n - 1) done) ≤ limit

-- Entry k is what remained at the latest report of level k, and entry 0 the total.
unfoldable pub TimesAt : Forms → List ℕ → Levels → Type 0
TimesAt main times [] = get_or times 0 0 ≡ total C main
TimesAt main times (g ∷ ks) = (get_or times (length ks + 1) 0 ≡ total C (whole (g ∷ ks))) × TimesAt main times ks

-- All levels but the innermost.
unfoldable pub outer_levels : Levels → Levels
outer_levels [] = []
outer_levels (g ∷ ks) = ks

-- A stack that decodes, with the columns of the plan that it is of.
pub record CostedStack (w tails turns totals leaves counts : List ℕ) (n l : ℕ) : Type 0 where
  pub starts : List ℕ
  pub decoded : Decoded w starts n leaves counts l
  pub columns : Columns decoded.table tails turns totals

-- The same with the remaining times of the levels below its own.
pub record Clocked (w tails turns totals leaves counts : List ℕ) (l : ℕ) (times : List ℕ) : Type 0 where
  pub n : ℕ
  pub costed : CostedStack w tails turns totals leaves counts n l
  pub lower : TimesAt (get_or costed.decoded.table.funs (n - 1) done) times (outer_levels costed.decoded.levels)
