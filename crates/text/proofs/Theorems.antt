-- The theorems of this crate, to be read; each is proved in a file beside this one.
-- The definitions to believe are in specs/: Text (what stands at a place), Patterns (when a line fits a pattern), Grammar (what a line of a plan is),
-- Spelling (its text).
-- Assumes nothing.
use Prim.Native.Nat.{ℕ, ◌^◌, ◌≤◌, ◌<◌}
use mathlib.Core.Path.{◌≡◌}
use mathlib.Core.List.{List, [], ◌∷◌, ◌++◌}
use mathlib.Core.Bool.{Bool, true, false}
use lib.ListN.{length, drop}
use lib.Dec.{leb}
use Rattle.model.specs.declared.Edition.{Edition}
use Rattle.model.specs.Plan.{resume_cost}
use Rattle.text.specs.declared.Form.{Form}
use Rattle.text.specs.declared.Form.TheVariants.{Task, Leaf, Call, Loop, If}
use Rattle.std.specs.Prelude.{Option}
use Rattle.text.specs.Text.{lines, line_at, rest_at, line_end}
use Rattle.text.specs.Patterns.{number, some, match, matched, capped}
use Rattle.text.specs.Grammar.{form, line_form, read_at, Found, Means}
use Rattle.text.specs.Spelling.{decimal, spell}
use Rattle.text.proofs.Decimal as decimals
use Rattle.text.proofs.Decimal.{Apart}
use Rattle.text.proofs.Filled as fillings
use Rattle.text.proofs.Filled.{once, Filled}
use Rattle.text.proofs.Spell as spelling
use Rattle.text.proofs.Unspell as unspelling
use Rattle.text.proofs.Length as lengths
use Rattle.text.proofs.Positions as positions
use Rattle.text.proofs.Capped as caps

-- A number is read from its decimal text, if no digit follows.
pub number_decimal : (n : ℕ) (rest : List ℕ) → Apart rest → number (decimal n ++ rest) ≡ some n rest
number_decimal = decimals.number_decimal

-- A number is read from no other text.
pub decimal_number : (l : List ℕ) (n : ℕ) (rest : List ℕ) → number l ≡ some n rest → l ≡ decimal n ++ rest
decimal_number = decimals.decimal_number

-- A line that a pattern fits, with at most one K, is the pattern with its capitals filled in, and shows as many numbers as the pattern has.
pub pattern_filled : (p l : List ℕ) (k : Bool) (ns : List ℕ) → once p ≡ true → matched p false l ≡ match k ns → Filled p l k ns
pattern_filled p = fillings.filled p false

-- A form is read from the text that spells it.
pub reads_spelled : (f : Form) → line_form (spell f) ≡ form f
reads_spelled = spelling.reads_spelled

-- A form is read from no other line.
pub spells_read : (l : List ℕ) (f : Form) → line_form l ≡ form f → l ≡ spell f
spells_read = unspelling.spells_read

-- The text of a form in front of a text is its first line.
pub lines_spelled : (f : Form) (t : List ℕ) → lines (spell f ++ t) ≡ spell f ∷ lines t
lines_spelled = spelling.lines_spelled

-- The line at a place before the end of a text is the first of the lines from there on.
pub lines_at : (s : List ℕ) (i : ℕ) → i < length s → lines (drop i s) ≡ line_at s i ∷ lines (rest_at s i)
lines_at = positions.lines_at

-- From the end of a text on there are no lines.
pub lines_end : (s : List ℕ) (i : ℕ) → length s ≤ i → lines (drop i s) ≡ []
lines_end = positions.lines_end

-- The text after the line at a place begins at the line's end.
pub rest_end : (s : List ℕ) (i : ℕ) → rest_at s i ≡ drop (line_end s i) s
rest_end = positions.rest_end

-- What reading at a place answers is so: the line there is no form, or it is this form with its numbers held and the next line begins there.
pub read_means : (s : List ℕ) (i : ℕ) (r : Option (Form × ℕ)) → r ≡ read_at s i → Means s i r
read_means = positions.read_means

-- A line that was read is the first of the lines from its place on, and the others begin where it ends.
pub lines_found : {s : List ℕ} {i : ℕ} {f : Form} {e : ℕ} → Found s i f e → lines (drop i s) ≡ line_at s i ∷ lines (drop e s)
lines_found = positions.lines_found

-- A number up to a limit is held as it is, and a greater one as the limit.
pub cap_same : (limit a : ℕ) → a ≤ limit → capped limit a ≡ a
cap_same = caps.cap_same

pub cap_over : (limit a : ℕ) → limit < a → capped limit a ≡ limit
cap_over = caps.cap_over

-- A test of a held number against a bound below the limit is the same as of the exact number.
pub cap_high : (limit a b : ℕ) → b < limit → leb (capped limit a) b ≡ leb a b
cap_high = caps.cap_high

-- A held number is 0 where the exact one is.
pub cap_low : (limit a : ℕ) → 1 ≤ limit → leb 1 (capped limit a) ≡ leb 1 a
cap_low = caps.cap_low

-- A cost is written in at most 7 bytes.
pub cost_length : (n : ℕ) → n ≤ 2 ^ 20 → length (decimal n) ≤ 7
cost_length = lengths.cost_length

-- A deadline is written in at most 13 bytes.
pub deadline_length : (n : ℕ) → n ≤ 2 ^ 40 → length (decimal n) ≤ 13
deadline_length = lengths.deadline_length

-- A task line, U included, takes at most 36 bytes.
pub task_width : (d t : ℕ) (e : Edition) → d ≤ 2 ^ 40 → t ≤ 2 ^ 20 → resume_cost e ≤ 2 ^ 20 → length (spell (Task d t e)) ≤ 36
task_width = lengths.task_width

-- A leaf line takes at most 25 bytes.
pub leaf_width : (k : Bool) (c m : ℕ) → c ≤ 2 ^ 20 → m ≤ 2 ^ 20 → length (spell (Leaf k c m)) ≤ 25
leaf_width = lengths.leaf_width

-- A call line takes at most 28 bytes.
pub call_width : (k : Bool) (f c m : ℕ) → f ≤ 15 → c ≤ 2 ^ 20 → m ≤ 2 ^ 20 → length (spell (Call k f c m)) ≤ 28
call_width = lengths.call_width

-- A loop line takes at most 30 bytes.
pub loop_width : (k : Bool) (b c m : ℕ) → b ≤ 65535 → c ≤ 2 ^ 20 → m ≤ 2 ^ 20 → length (spell (Loop k b c m)) ≤ 30
loop_width = lengths.loop_width

-- An if line takes at most 22 bytes.
pub if_width : (k : Bool) (c m : ℕ) → c ≤ 2 ^ 20 → m ≤ 2 ^ 20 → length (spell (If k c m)) ≤ 22
if_width = lengths.if_width
