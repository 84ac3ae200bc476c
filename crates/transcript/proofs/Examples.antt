-- Plan A's worst case (01, 'Plans worked through'), replayed: the others run up to the third visit of the loop, at 57, and are suspended from there to the
-- end, at 81. The same with U 3 (02, L7): they resume at the fourth visit, at 73, and run from there to the end, at 88. Logs and texts are worked out by
-- hand. Assumes nothing.
use mathlib.Core.List.{List, [], flat_map}
use mathlib.Core.Path.{◌≡◌, refl, sym, ap, ◌∙◌}
use Prim.Native.Nat.{ℕ}
use native.Mathlib.Omega.{arith}
use Rattle.text.specs.Text.{bytes}
use Rattle.text.specs.Spelling.{numerals, decimal}
use Rattle.model.specs.Plan.{Plan}
use Rattle.model.specs.Acceptance.{Accepted}
use Rattle.model.specs.Worked.{plan_A, returning_A}
use Rattle.model.specs.Histories.{Exchange, Answered}
use Rattle.reader.specs.Outcome.{plan}
use Rattle.reader.specs.Print.{print}
use Rattle.table.specs.Table.{table_of}
use Rattle.table.proofs.Theorems.{read_as_plan}
use Rattle.print.specs.Lines.{number_field, number_fields, signed_field, late_mark, word_text, ending_text, numbers_line, answer_line}
use Rattle.flight_log.specs.Log.{call_text, log_text, AllSmall}
use Rattle.control.specs.State.{fresh}
use Rattle.control.specs.Calls.{controller_of}
use Rattle.control.specs.Cases.{worst_of_A, worst_of_returning_A, CaseHolds, on_A, on_returning_A, CasesHold, cases, returns}
use Rattle.control.proofs.Cases.{cases_right, returns_right}
use Rattle.transcript.specs.Transcript.{shared, suspended, replayed, replay, answers_told}
use Rattle.transcript.proofs.Said.{calls_of, calls_replayed}

-- Consider an accepted plan and calls with their answers on its table, from a fresh state. The replay, from the plan's one text, of a log that says these
-- calls is the text of these answers.
replayed_as : {p : Plan} → Accepted p → (xs : List Exchange) → AllSmall (calls_of xs) → Answered (controller_of (table_of p)) fresh xs →
    {log text : List ℕ} → log_text (calls_of xs) ≡ log → answers_told [] xs ≡ text → replay (print p) log ≡ text
replayed_as {p} a xs small h {log} says prints =
    ap (λ o. replayed o log) ((read_as_plan 512 (print p) p).1 (refl, a, a.formed.few_leaves)) ∙
    (ap (λ l. replayed (plan p) l) (sym says) ∙ (calls_replayed (table_of p) xs small h ∙ prints))

-- The worst case.
abbrev pub worst_log : List ℕ
worst_log = bytes "release\npoint 0 0\npoint 1 9\npoint 1 33\npoint 1 57\npoint 1 73\nend 81\n"

abbrev pub worst_text : List ℕ
worst_text = bytes "go 49 47 0\ngo 49 38 0\ngo 44 19 0\ngo 32 7 0\nsuspend 20 -5 0\nstay 8 15 0\nresume 0\n57 24 81\n"

says_worst : log_text (calls_of worst_of_A) ≡ worst_log
unfolding worst_of_A log_text call_text decimal numerals
says_worst = refl

prints_worst : answers_told [] worst_of_A ≡ worst_text
unfolding worst_of_A answers_told shared suspended answer_line numbers_line number_fields flat_map number_field signed_field late_mark word_text ending_text decimal numerals
prints_worst = refl

worst_small : AllSmall (calls_of worst_of_A)
unfolding worst_of_A
worst_small = omega arith

worst_holds : CaseHolds (on_A worst_of_A)
unfolding cases CasesHold
worst_holds = cases_right.1.1.1.0

pub worst_replayed : replay (print plan_A) worst_log ≡ worst_text
worst_replayed = replayed_as worst_holds.accepted worst_of_A worst_small worst_holds.answered says_worst prints_worst

-- With U 3.
abbrev pub return_log : List ℕ
return_log = bytes "release\npoint 0 0\npoint 1 9\npoint 1 33\npoint 1 57\npoint 1 73\nend 88\n"

abbrev pub return_text : List ℕ
return_text = bytes "go 49 47 0\ngo 49 38 0\ngo 44 19 0\ngo 32 7 0\nsuspend 20 -5 0\nresume 8 12 0\nended 0\n72 16 88\n"

says_return : log_text (calls_of worst_of_returning_A) ≡ return_log
unfolding worst_of_returning_A log_text call_text decimal numerals
says_return = refl

prints_return : answers_told [] worst_of_returning_A ≡ return_text
unfolding worst_of_returning_A answers_told shared suspended answer_line numbers_line number_fields flat_map number_field signed_field late_mark word_text ending_text decimal numerals
prints_return = refl

return_small : AllSmall (calls_of worst_of_returning_A)
unfolding worst_of_returning_A
return_small = omega arith

return_holds : CaseHolds (on_returning_A worst_of_returning_A)
unfolding returns CasesHold
return_holds = returns_right.0

pub return_replayed : replay (print returning_A) return_log ≡ return_text
return_replayed = replayed_as return_holds.accepted worst_of_returning_A return_small return_holds.answered says_return prints_return
