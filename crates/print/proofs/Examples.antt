-- Lines worked through: plan A's listing and answers of 01, one for each case, a cause, a refused plan, and the ends of the ranges. Each is a computation.
-- Assumes nothing.
use Prim.Native.Nat.{◌-◌, ◌^◌}
use mathlib.Core.Path.{◌≡◌, refl}
use mathlib.Core.Bool.{true, false}
use mathlib.Core.List.{[], ◌∷◌, flat_map}
use lib.IntN.{pos, negsuc}
use Rattle.text.specs.Text.{bytes}
use Rattle.text.specs.Spelling.{decimal, numerals}
use Rattle.model.specs.declared.Refusal.TheVariants.{Astray}
use Rattle.model.specs.declared.Word.TheVariants.{Go, Suspend, Stay, Resume}
use Rattle.model.specs.declared.Ending.TheVariants.{Resumed, Ended}
use Rattle.model.specs.declared.Answer.TheVariants.{Refused, Decided, Closed}
use Rattle.print.specs.Lines.{number_field, number_fields, signed_field, late_mark, word_text, ending_text, numbers_line, task_line, point_line, plain_line}
use Rattle.print.specs.Lines.{refused_plan_line, answer_line}

-- The listing of plan A, and its first line in edition 2, where U is 3, and where it is 0.
task_a : task_line (49 ∷ 93 ∷ 100 ∷ 4 ∷ []) ≡ bytes "task 49 93 100 4\n"
unfolding numbers_line number_fields flat_map number_field decimal numerals
task_a = refl

task_a_second : task_line (49 ∷ 93 ∷ 100 ∷ 4 ∷ 3 ∷ []) ≡ bytes "task 49 93 100 4 3\n"
unfolding numbers_line number_fields flat_map number_field decimal numerals
task_a_second = refl

task_a_free : task_line (49 ∷ 93 ∷ 100 ∷ 4 ∷ 0 ∷ []) ≡ bytes "task 49 93 100 4 0\n"
unfolding numbers_line number_fields flat_map number_field decimal numerals
task_a_free = refl

point_a : point_line (0 ∷ 1 ∷ 49 ∷ 9 ∷ []) ≡ bytes "point 0 1 49 9\n"
unfolding numbers_line number_fields flat_map number_field decimal numerals
point_a = refl

point_b : point_line (1 ∷ 1 ∷ 44 ∷ 24 ∷ []) ≡ bytes "point 1 1 44 24\n"
unfolding numbers_line number_fields flat_map number_field decimal numerals
point_b = refl

-- The last line of a cause on plan A, and a line of one number.
cause_a : plain_line 100 (28 ∷ 44 ∷ 4 ∷ []) ≡ bytes "100 28 44 4\n"
unfolding numbers_line number_fields flat_map number_field decimal numerals
cause_a = refl

alone : plain_line 0 [] ≡ bytes "0\n"
unfolding numbers_line number_fields flat_map decimal numerals
alone = refl

-- A bound of 0 in the fourth line.
refused_plan : refused_plan_line 3 4 ≡ bytes "refused 3 4\n"
unfolding refused_plan_line number_field decimal numerals
refused_plan = refl

-- The largest number of 64 bits.
largest : number_field (2 ^ 64 - 1) ≡ bytes " 18446744073709551615"
unfolding number_field decimal numerals
largest = refl

-- ANSWERS

-- Plan A's release, and the third visit of its loop at reading 57 (m3).
release_a : answer_line (Decided Go 49 (pos 47) false) ≡ bytes "go 49 47 0\n"
unfolding answer_line word_text number_field signed_field late_mark decimal numerals
release_a = refl

visit_a : answer_line (Decided Suspend 20 (negsuc 4) false) ≡ bytes "suspend 20 -5 0\n"
unfolding answer_line word_text number_field signed_field late_mark decimal numerals
visit_a = refl

-- A report at which the others resume.
resume_at_report : answer_line (Decided Resume 8 (pos 12) false) ≡ bytes "resume 8 12 0\n"
unfolding answer_line word_text number_field signed_field late_mark decimal numerals
resume_at_report = refl

-- The least margin, with the late mark.
late_stay : answer_line (Decided Stay 0 (negsuc (2 ^ 62 - 1)) true) ≡ bytes "stay 0 -4611686018427387904 1\n"
unfolding answer_line word_text number_field signed_field late_mark decimal numerals
late_stay = refl

-- The two ends: the word of the first is that of a resume at a report.
resumed : answer_line (Closed Resumed false) ≡ bytes "resume 0\n"
unfolding answer_line ending_text late_mark
resumed = refl

late_end : answer_line (Closed Ended true) ≡ bytes "ended 1\n"
unfolding answer_line ending_text late_mark
late_end = refl

-- A fifth visit of plan A's loop (m4).
refused_call : answer_line (Refused Astray) ≡ bytes "refused 17\n"
unfolding answer_line number_field decimal numerals
refused_call = refl
