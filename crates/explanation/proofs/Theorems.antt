-- The theorems about what held the others back (02, L9), to be read; each is proved in a file beside this one. The definitions to believe are in
-- specs/Explanation (the explanation of a log, from the plan's text and the log's bytes alone), in specs/Cause of crate `model` (the way of a stretch, what is listed
-- of it, and what is taken off), in specs/Log of crate `flight_log` (what a line says), and in specs/Pieces what `start`, `follow` and `explain` promise
-- (`after_piece`, `Explains`) and what is printed through them (`ExplanationPrinted`).
-- Assumes nothing.
use Prim.Native.Nat.{ℕ}
use mathlib.Core.List.{List, [], ◌∷◌, ◌++◌}
use mathlib.Core.Path.{◌≡◌, refl}
use lib.ListN.{length}
use Rattle.std.specs.Prelude.{Option, Some}
use Rattle.model.specs.Refusals.{number_of}
use Rattle.model.specs.declared.Refusal.{Refusal}
use Rattle.text.specs.Text.{bytes}
use Rattle.model.specs.Plan.{Plan}
use Rattle.model.specs.Worked.{plan_A, returning_A}
use Rattle.model.specs.declared.Call.{Call}
use Rattle.model.specs.declared.Call.TheVariants.{Report}
use Rattle.model.specs.declared.Answer.TheVariants.{Refused}
use Rattle.rows.specs.declared.Leaf.{Leaf}
use Rattle.reader.specs.Outcome.{plan, refused}
use Rattle.reader.specs.Print.{print}
use Rattle.table.specs.declared.Head.{Head}
use Rattle.table.specs.Table.{Table}
use Rattle.table.specs.Reading.{verdict, head_after}
use Rattle.table.specs.Lent.{table_with, row_after}
use Rattle.print.specs.Lines.{answer_line, refused_plan_line}
use Rattle.flight_log.specs.Log.{entries}
use Rattle.flight_log.specs.Pieces.{whole_log}
use Rattle.transcript.specs.Transcript.{reply_to, progress_after, at_first}
use Rattle.explanation.specs.declared.Asked.{Asked}
use Rattle.explanation.specs.Explanation.{NoReport, explained, explanation_of, explanation}
use Rattle.explanation.specs.Pieces.{at_start, ExplanationPrinted}
use Rattle.explanation.proofs.Printing as printing
use Rattle.explanation.proofs.Examples as examples

-- WHAT IS PRINTED

-- Consider any plan text that is accepted, and memory as `read` leaves it, whatever stood there before. Consider any log, in pieces of at most 4,096 bytes,
-- however it was cut. What is printed by `start`, `follow` for each piece and `explain` is the explanation of the log on the plan.
pub printed_is_explanation : (text : List ℕ) (p : Plan) → verdict 512 text ≡ plan p →
    (row : List Leaf) (h : Head) → length row ≡ 512 →
    let v = verdict 512 text in
    let t = table_with (row_after v row) (head_after v h) in
    (pieces : List (List ℕ)) (out : List ℕ) → ExplanationPrinted t at_start pieces out → out ≡ explanation text (whole_log pieces)
printed_is_explanation = printing.printed_explanation

-- The same of any table, that of no plan too.
pub printed_is_explanation_of : (t : Table) (pieces : List (List ℕ)) (out : List ℕ) → ExplanationPrinted t at_start pieces out → out ≡ explanation_of t (whole_log pieces)
printed_is_explanation_of = printing.printed_explanation_of

-- The explanation of any log on a refused plan is, by definition, the plan's refusal.
pub refused_plan_explained : (text log : List ℕ) (k : Refusal) (j : ℕ) → verdict 512 text ≡ refused k j → explanation text log ≡ refused_plan_line (number_of k) j
refused_plan_explained = printing.refused_explanation

-- WHICH REPORT

-- Consider a log with a line that says a report, behind which no line says one. This report is explained, asked of the state that the lines before it led to in
-- the replay of the log; the lines behind it play no part.
pub last_report_explained : (t : Table) (log : List ℕ) (before after : List (Option Call)) (n e : ℕ) → entries log ≡ before ++ (Some (Report n e) ∷ after) →
    NoReport after → explanation_of t log ≡ explained t (Some (record { state = (progress_after t at_first before).state; point = n; reading = e }))
last_report_explained t log before after n e split quiet = printing.last_report_explained t log before after n e split quiet at_first refl

-- Of a log in which no line says a report nothing is printed.
pub no_report_explained : (t : Table) (log : List ℕ) → NoReport (entries log) → explanation_of t log ≡ []
no_report_explained = printing.no_report_explained

-- A report that the replay of the log refuses there has the same refusal here, and nothing else.
pub refused_report_explained : (t : Table) (a : Asked) (k : Refusal) → (reply_to t a.state (Some (Report a.point a.reading))).answer ≡ Refused k →
    explained t (Some a) ≡ answer_line (Refused k)
refused_report_explained = printing.refused_explained

-- PLAN A

-- The first visit of plan A's loop, at 28: the condition and the body make up its stretch, 4 + 20, and the margin is 100 − 28 − 44 − 4 − 24 = 0.
pub go_explained : explanation (print plan_A) (bytes "release\npoint 0 0\npoint 1 28\n") ≡ bytes "1 1\n2 1\n100 28 44 4\n"
go_explained = examples.go_explained

-- The same with U 3 (02, L7), at the second visit, at 38, before which the others were suspended: T and U are taken off, and the margin is
-- 100 − 38 − 32 − 7 − 24 = −1.
pub stay_explained : explanation (print returning_A) (bytes "release\npoint 0 0\npoint 1 29\npoint 1 38\n") ≡ bytes "1 1\n2 1\n100 38 32 7\n"
stay_explained = examples.stay_explained
