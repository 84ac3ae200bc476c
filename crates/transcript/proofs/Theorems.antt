-- The theorems about the replay of a log (02, L1 and L7), to be read; each is proved in a file beside this one. The definitions to believe are in
-- specs/Transcript (the replay, from the plan's text and the log's bytes alone), in specs/Log of crate `flight_log` (what a line says), and in specs/Pieces
-- what `start`, `feed` and `close` promise (FedPiece, ClosedLog) and what is printed through them (PrintedOf).
-- Assumes nothing.
use mathlib.Core.Bool.{Bool}
use mathlib.Core.List.{List, [], ◌∷◌, ◌++◌, map}
use mathlib.Core.Logic.{◌↔◌}
use mathlib.Core.Path.{◌≡◌}
use Prim.Native.Nat.{ℕ, ◌+◌}
use lib.ListN.{length}
use Rattle.text.specs.Text.{bytes, lines}
use Rattle.model.specs.Refusals.{number_of}
use Rattle.model.specs.declared.Refusal.{Refusal}
use Rattle.model.specs.declared.Refusal.TheVariants.{Broken, Garbled}
use Rattle.model.specs.Places.{pick}
use Rattle.model.specs.Plan.{Plan}
use Rattle.model.specs.declared.Call.{Call}
use Rattle.model.specs.declared.Call.TheVariants.{End}
use Rattle.model.specs.declared.Ending.{Ending}
use Rattle.model.specs.declared.Answer.TheVariants.{Refused, Closed}
use Rattle.model.specs.Histories.{Exchange, Answered}
use Rattle.model.specs.Worked.{plan_A, returning_A}
use Rattle.rows.specs.declared.Leaf.{Leaf}
use Rattle.reader.specs.Outcome.{plan, refused}
use Rattle.reader.specs.Print.{print}
use Rattle.table.specs.declared.Head.{Head}
use Rattle.table.specs.Table.{Table, table_of}
use Rattle.table.specs.Reading.{verdict, head_after}
use Rattle.table.specs.Lent.{table_with, row_after}
use Rattle.table.proofs.Theorems.{read_as_plan}
use Rattle.control.specs.declared.State.{State}
use Rattle.control.specs.State.{fresh}
use Rattle.control.specs.Calls.{controller_of}
use Rattle.print.specs.Lines.{answer_line, refused_plan_line}
use Rattle.std.specs.Prelude.{Option, Some}
use Rattle.flight_log.specs.Log.{entry_of, call_text, Small, log_text, AllSmall}
use Rattle.flight_log.specs.Pieces.{whole_log}
use Rattle.transcript.specs.Transcript.{reply_to, shares, gap, shared, suspended, ticks, after_end, Progress, next_progress, progress_after}
use Rattle.transcript.specs.Transcript.{told, at_first, transcript, replay, answers_told}
use Rattle.transcript.specs.Pieces.{begin, PrintedOf}
use Rattle.transcript.proofs.Counting as counting
use Rattle.transcript.proofs.Printing as printing
use Rattle.transcript.proofs.Said as said
use Rattle.transcript.proofs.Unbroken as unbroken
use Rattle.transcript.proofs.Examples as examples

-- WHAT IS PRINTED

-- Consider any plan text that is accepted, and memory as `read` leaves it, whatever stood there before. Consider any log, in pieces of at most 4,096 bytes,
-- however it was cut. What is printed by `start`, `feed` for each piece and `close` is the replay of the log on the plan.
pub printed_is_replay : (text : List ℕ) (p : Plan) → verdict 512 text ≡ plan p →
    (row : List Leaf) (h : Head) → length row ≡ 512 →
    let v = verdict 512 text in
    let t = table_with (row_after v row) (head_after v h) in
    (pieces : List (List ℕ)) (out : List ℕ) → PrintedOf t begin pieces out → out ≡ replay text (whole_log pieces)
printed_is_replay = printing.printed_replay

-- The same of any table, that of no plan too: what is printed of the pieces, one after the other, is the replay of the whole log on it.
pub printed_is_transcript : (t : Table) (pieces : List (List ℕ)) (out : List ℕ) → PrintedOf t begin pieces out → out ≡ transcript t (whole_log pieces)
printed_is_transcript = printing.printed_transcript

-- The replay of any log on a refused plan is, by definition, the plan's refusal.
pub refused_plan_replayed : (text log : List ℕ) (k : Refusal) (j : ℕ) → verdict 512 text ≡ refused k j → replay text log ≡ refused_plan_line (number_of k) j
refused_plan_replayed = printing.refused_replay

-- Consider calls with numbers below 2^64 and their answers on a table, made one after the other from a fresh state. The replay of the log that says these
-- calls prints these answers in order, with the ticks after each accepted end.
pub calls_replayed : (t : Table) (xs : List Exchange) → AllSmall (map (λ x. x.call) xs) → Answered (controller_of t) fresh xs →
    transcript t (log_text (map (λ x. x.call) xs)) ≡ answers_told [] xs
calls_replayed = said.calls_replayed

-- LINE BY LINE

-- Consider lines of a log, the first of them e. The lines printed are one for the answer to e, what stands after the answer of an accepted end, and those
-- that are printed of the other lines.
pub one_answer_each : (t : Table) (x : Progress) (e : Option Call) (es : List (Option Call)) →
    let a = (reply_to t x.state e).answer in
    let next = next_progress t x e in
    lines (told t x (e ∷ es)) ≡ answer_line a ∷ (lines (after_end a next.accepted) ++ lines (told t next es))
one_answer_each = printing.lines_told

-- After the answer of an accepted end stands one line, the ticks; after any other stands nothing (`after_end`).
pub ticks_one_line : (xs : List Exchange) → lines (ticks xs) ≡ ticks xs ∷ []
ticks_one_line = printing.ticks_line_is

-- A line of a log is refused by 18 exactly when it is the text of no call with numbers below 2^64, whatever the table and the state; so no other check of the
-- line comes before this one.
pub garbled_exactly : (t : Table) (s : State) (l : List ℕ) → ((reply_to t s (entry_of l)).answer ≡ Refused Garbled) ↔ ((c : Call) → Small c → l ≡ call_text c → ⊥)
garbled_exactly = counting.garbled_exactly

-- A refused line moves nothing: neither the state nor the accepted calls, of which the ticks are.
pub refused_moves_nothing : (t : Table) (x : Progress) (e : Option Call) (k : Refusal) → (reply_to t x.state e).answer ≡ Refused k → next_progress t x e ≡ x
refused_moves_nothing = counting.refused_moves_nothing

-- 11 does not arise: on the table of a plan that was read no line of a log is refused by it.
pub never_broken : (text : List ℕ) (p : Plan) → verdict 512 text ≡ plan p → (es : List (Option Call)) (e : Option Call) →
    (reply_to (table_of p) (progress_after (table_of p) at_first es).state e).answer ≡ Refused Broken → ⊥
never_broken text p h = unbroken.never_broken p ((read_as_plan 512 text p).0 h).1

-- TICKS

-- One call alone has no gap.
pub no_gap : (x : Exchange) → (shared (x ∷ []) ≡ 0) × (suspended (x ∷ []) ≡ 0)
no_gap = counting.no_gap

-- Each gap between neighbouring readings counts once: as shared where the decision before it was go or resume, else as suspended.
pub gap_counted : (xs : List Exchange) (x y : Exchange) →
    (shared (xs ++ (x ∷ y ∷ [])) ≡ shared (xs ++ (x ∷ [])) + pick (shares x.answer) (gap x y) 0) ×
    (suspended (xs ++ (x ∷ y ∷ [])) ≡ suspended (xs ++ (x ∷ [])) + pick (shares x.answer) 0 (gap x y))
gap_counted = counting.gap_counted

-- Consider any lines of a log, and behind them an end that is accepted. Its ticks shared and suspended together are its reading.
pub sum_is_end_reading : (t : Table) (es : List (Option Call)) (e : ℕ) (w : Ending) (late : Bool) →
    let x = progress_after t at_first es in
    let xs = (next_progress t x (Some (End e))).accepted in
    (reply_to t x.state (Some (End e))).answer ≡ Closed w late → shared xs + suspended xs ≡ e
sum_is_end_reading = counting.sum_is_end_reading

-- PLAN A

-- The worst case of plan A (01, m3), replayed from the plan's one text: the others run up to the third visit of the loop, at 57, and are suspended from
-- there to the end, at 81.
pub worst_replayed : replay (print plan_A) (bytes "release\npoint 0 0\npoint 1 9\npoint 1 33\npoint 1 57\npoint 1 73\nend 81\n") ≡
    bytes "go 49 47 0\ngo 49 38 0\ngo 44 19 0\ngo 32 7 0\nsuspend 20 -5 0\nstay 8 15 0\nresume 0\n57 24 81\n"
worst_replayed = examples.worst_replayed

-- The same with U 3 (02, L7): the others run up to the third visit of the loop, at 57, are suspended from there to the fourth, at 73, and run again from there
-- to the end, at 88. So 57 + 15 ticks are shared, and 16 suspended.
pub return_replayed : replay (print returning_A) (bytes "release\npoint 0 0\npoint 1 9\npoint 1 33\npoint 1 57\npoint 1 73\nend 88\n") ≡
    bytes "go 49 47 0\ngo 49 38 0\ngo 44 19 0\ngo 32 7 0\nsuspend 20 -5 0\nresume 8 12 0\nended 0\n72 16 88\n"
return_replayed = examples.return_replayed
