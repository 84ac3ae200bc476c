-- The lines that the programs print (01, 'Calls' and 'Plans worked through'; 02, L1, L7 and L9).
-- Assumes nothing: these are definitions.
use Rattle.std.specs.Prelude.{ℕ, suc, Bool, true, false, ℤ, pos, negsuc}
use mathlib.Core.List.{List, [], ◌∷◌, ◌++◌, flat_map}
use Rattle.text.specs.Text.{bytes}
use Rattle.text.specs.Spelling.{decimal}
use Rattle.model.specs.declared.Word.{Word}
use Rattle.model.specs.declared.Word.TheVariants.{Go, Suspend, Stay, Resume}
use Rattle.model.specs.declared.Ending.{Ending}
use Rattle.model.specs.declared.Ending.TheVariants.{Resumed, Ended}
use Rattle.model.specs.declared.Answer.{Answer}
use Rattle.model.specs.declared.Answer.TheVariants.{Refused, Decided, Closed}
use Rattle.model.specs.Refusals.{number_of}

-- A further field of a line: one space, then a number in decimal.
unfoldable pub number_field : ℕ → List ℕ
number_field n = bytes " " ++ decimal n

-- A further field that is a signed number: one space, a minus sign where the number is below 0, then its size in decimal.
unfoldable pub signed_field : ℤ → List ℕ
signed_field (pos n) = bytes " " ++ decimal n
signed_field (negsuc n) = bytes " -" ++ decimal (suc n)

-- The late mark, with the line feed that ends its line: 1 if late, else 0.
unfoldable pub late_mark : Bool → List ℕ
late_mark true = bytes " 1\n"
late_mark false = bytes " 0\n"

-- The word of a decision.
unfoldable pub word_text : Word → List ℕ
word_text Go = bytes "go"
word_text Suspend = bytes "suspend"
word_text Stay = bytes "stay"
word_text Resume = bytes "resume"

-- The word of an end.
unfoldable pub ending_text : Ending → List ℕ
ending_text Resumed = bytes "resume"
ending_text Ended = bytes "ended"

-- Numbers, each as a further field.
unfoldable pub number_fields : List ℕ → List ℕ
number_fields = flat_map number_field

-- A line of a word and numbers.
unfoldable pub numbers_line : List ℕ → List ℕ → List ℕ
numbers_line word numbers = word ++ (number_fields numbers ++ bytes "\n")

-- The first line of a plan's listing: total, max-load total, D, T, and in edition 2 U.
abbrev pub task_line : List ℕ → List ℕ
task_line = numbers_line (bytes "task")

-- The line of a point: its number, its level in its own function, its tail and its stretch.
abbrev pub point_line : List ℕ → List ℕ
point_line = numbers_line (bytes "point")

-- A line of numbers alone, of which the first stands where others have a word.
abbrev pub plain_line : ℕ → List ℕ → List ℕ
plain_line first = numbers_line (decimal first)

-- The line of a refused plan: the refusal's number and the plan's line.
unfoldable pub refused_plan_line : ℕ → ℕ → List ℕ
refused_plan_line number line = bytes "refused" ++ (number_field number ++ (number_field line ++ bytes "\n"))

-- The line of an answer: a refusal's number; of a release or a report the word, the remaining time, the margin and the late mark; of an end the word and the
-- late mark.
unfoldable pub answer_line : Answer → List ℕ
answer_line (Refused refusal) = bytes "refused" ++ (number_field (number_of refusal) ++ bytes "\n")
answer_line (Decided w remaining margin late) = word_text w ++ (number_field remaining ++ (signed_field margin ++ late_mark late))
answer_line (Closed w late) = ending_text w ++ late_mark late

-- The ticks of a release (02, L1): shared, suspended and their sum.
abbrev pub ticks_line : ℕ → ℕ → ℕ → List ℕ
ticks_line shared suspended sum = plain_line shared (suspended ∷ sum ∷ [])
