-- What is printed of a log that comes in pieces, and which of its reports that explains. Assumes nothing.
use Prim.Native.Nat.{ℕ}
use mathlib.Core.Path.{◌≡◌, refl, sym, ap, ◌∙◌}
use mathlib.Core.List.{List, [], ◌∷◌, ◌++◌}
use mathlib.Core.Option as places
use mathlib.Core.Option.{none, some}
use lib.ListN.{length, take}
use lib.Seq.{take_all}
use Rattle.model.specs.Refusals.{number_of}
use Rattle.model.specs.declared.Refusal.{Refusal}
use Rattle.model.specs.declared.Call.{Call}
use Rattle.model.specs.declared.Call.TheVariants.{Release, Report, End}
use Rattle.model.specs.declared.Answer.TheVariants.{Refused}
use Rattle.model.specs.Plan.{Plan}
use Rattle.model.specs.Controller as controller
use Rattle.rows.specs.declared.Leaf.{Leaf}
use Rattle.reader.specs.Outcome.{plan, refused}
use Rattle.table.specs.declared.Head.{Head}
use Rattle.table.specs.Table.{Table, head_of, plan_of}
use Rattle.table.specs.Reading.{verdict, head_after}
use Rattle.table.specs.Lent.{table_with, row_after}
use Rattle.table.proofs.Theorems.{read_back}
use Rattle.control.specs.Calls.{read_state, on_state, on_plan, call_on}
use Rattle.print.specs.Lines.{answer_line, refused_plan_line}
use Rattle.print.proofs.Theorems.{handed}
use Rattle.std.specs.Prelude.{Option, Some, None}
use Rattle.flight_log.specs.Log.{entries}
use Rattle.flight_log.specs.Pieces.{entries_in, held_after, entry_left, whole_log}
use Rattle.flight_log.proofs.Theorems.{entries_join, held_join, entries_whole}
use Rattle.transcript.specs.Transcript.{reply_to, Progress, next_progress, progress_after}
use Rattle.explanation.specs.declared.Asked.{Asked}
use Rattle.explanation.specs.declared.Seen.{Seen}
use Rattle.explanation.specs.Explanation.{next_seen, seen_after, none_seen, NoReport, others_in, reply_told}
use Rattle.explanation.specs.Explanation.{asked_told, table_told, explained, explanation_of, explanation_on, explanation}
use Rattle.explanation.specs.Pieces.{SeenSoFar, at_start, after_piece, ExplanationPrinted, ended, piece}
use Rattle.explanation.proofs.Following.{seen_join}

-- PIECES

-- Behind two pieces, one behind the other, the same is carried on as behind one.
pieces_after : (t : Table) (c : SeenSoFar) (a b : List ℕ) → after_piece t c (a ++ b) ≡ after_piece t (after_piece t c a) b
pieces_after t c a b = rw (held_join c.line a b, entries_join c.line a b, seen_join t c.seen (entries_in c.line a) (entries_in (held_after c.line a) b)) refl

-- What is printed of pieces is what is printed of the log that they are of.
of_whole : {t : Table} {c : SeenSoFar} {ps : List (List ℕ)} {out : List ℕ} → ExplanationPrinted t c ps out → out ≡ explained t (after_piece t c (whole_log ps)).seen.asked
unfolding whole_log
of_whole (ended room h) = unfold entries_in seen_after in handed room h.told
of_whole {t} {c} (piece {p} f {ps} {text} short e rest) =
    let all : take 4096 p ≡ p = take_all 4096 p short in
    of_whole rest ∙
    (ap (λ k. explained t (after_piece t k (whole_log ps)).seen.asked) (e ∙ ap (after_piece t c) all) ∙
    ap (λ k. explained t k.seen.asked) (sym (pieces_after t c p (whole_log ps))))

-- A last line without its line feed is no report, and changes nothing.
left_seen : (t : Table) (x : Seen) (l : List ℕ) → seen_after t x (entry_left l) ≡ x
unfolding seen_after
left_seen t x [] = refl
left_seen t x (b ∷ l) = refl

-- What is printed is the explanation of the log on that table.
pub printed_explanation_of : (t : Table) (ps : List (List ℕ)) (out : List ℕ) → ExplanationPrinted t at_start ps out → out ≡ explanation_of t (whole_log ps)
unfolding explanation_of
printed_explanation_of t ps out p =
    let log = whole_log ps in
    let all : seen_after t none_seen (entries log) ≡ seen_after t none_seen (entries_in [] log) =
    ap (seen_after t none_seen) (sym (entries_whole log)) ∙
    (seen_join t none_seen (entries_in [] log) (entry_left (held_after [] log)) ∙
    left_seen t (seen_after t none_seen (entries_in [] log)) (held_after [] log)) in
    of_whole p ∙ ap (λ x. explained t x.asked) (sym all)

-- THE TABLE OF A PLAN THAT WAS READ

pub printed_explanation : (text : List ℕ) (p : Plan) → verdict 512 text ≡ plan p → (row : List Leaf) (h : Head) → length row ≡ 512 →
    let v = verdict 512 text in
    let t = table_with (row_after v row) (head_after v h) in
    (pieces : List (List ℕ)) (out : List ℕ) → ExplanationPrinted t at_start pieces out → out ≡ explanation text (whole_log pieces)
printed_explanation text p e row h long ps out k =
    let q : ExplanationPrinted (table_with (row_after (plan p) row) (head_of p)) at_start ps out = rw e at k in
    printed_explanation_of _ ps out q ∙ (ap (λ x. explanation_of x (whole_log ps)) (read_back p row) ∙ sym (ap (λ o. explanation_on o (whole_log ps)) e))

pub refused_explanation : (text log : List ℕ) (k : Refusal) (j : ℕ) → verdict 512 text ≡ refused k j → explanation text log ≡ refused_plan_line (number_of k) j
refused_explanation text log k j e = ap (λ o. explanation_on o log) e

-- WHICH REPORT

-- Lines without a report leave the last one.
none_asked : (t : Table) (x : Seen) (es : List (Option Call)) → NoReport es → (seen_after t x es).asked ≡ x.asked
unfolding seen_after NoReport
none_asked t x [] h = refl
none_asked t x (Some Release ∷ es) h = none_asked t (next_seen t x (Some Release)) es h
none_asked t x (Some (Report n e) ∷ es) h = absurd h
none_asked t x (Some (End e) ∷ es) h = none_asked t (next_seen t x (Some (End e))) es h
none_asked t x (None ∷ es) h = none_asked t (next_seen t x None) es h

-- The state is that of the replay.
seen_state : (t : Table) (x : Seen) (y : Progress) (es : List (Option Call)) → x.state ≡ y.state → (seen_after t x es).state ≡ (progress_after t y es).state
unfolding seen_after progress_after
seen_state t x y [] e = e
seen_state t x y (f ∷ es) e = seen_state t (next_seen t x f) (next_progress t y f) es (ap (λ s. (reply_to t s f).state) e)

pub last_report_explained : (t : Table) (log : List ℕ) (before after : List (Option Call)) (n e : ℕ) → entries log ≡ before ++ (Some (Report n e) ∷ after) →
    NoReport after → (y : Progress) → none_seen.state ≡ y.state →
    explanation_of t log ≡ explained t (Some (record { state = (progress_after t y before).state; point = n; reading = e }))
unfolding explanation_of
last_report_explained t log before after n e split quiet y s =
    let x = seen_after t none_seen before in
    let z : seen_after t none_seen (entries log) ≡ seen_after t (next_seen t x (Some (Report n e))) after =
    ap (seen_after t none_seen) split ∙ (seen_join t none_seen before (Some (Report n e) ∷ after) ∙ (unfold seen_after in refl)) in
    ap (λ k. explained t k.asked) z ∙
    (ap (explained t) (none_asked t (next_seen t x (Some (Report n e))) after quiet) ∙
    ap (λ k. explained t (Some (record { state = k; point = n; reading = e }))) (seen_state t none_seen y before s))

pub no_report_explained : (t : Table) (log : List ℕ) → NoReport (entries log) → explanation_of t log ≡ []
unfolding explanation_of
no_report_explained t log h = ap (explained t) (none_asked t none_seen (entries log) h)

-- A refused report has its refusal's line.
refused_in : (p : Plan) (a : Asked) (k : Refusal) (x : places.Option controller.State) → (on_state p a.state (Report a.point a.reading) x).answer ≡ Refused k →
    asked_told p a x ≡ answer_line (Refused k)
refused_in p a k none h = ap answer_line h
refused_in p a k (some x) h = ap (reply_told p (others_in x) (controller.respond p x (Report a.point a.reading)).state) h

refused_on : (a : Asked) (k : Refusal) (o : places.Option Plan) → (on_plan a.state (Report a.point a.reading) o).answer ≡ Refused k →
    table_told a o ≡ answer_line (Refused k)
refused_on a k none h = ap answer_line h
refused_on a k (some p) h = refused_in p a k (read_state p a.state) h

pub refused_explained : (t : Table) (a : Asked) (k : Refusal) → (reply_to t a.state (Some (Report a.point a.reading))).answer ≡ Refused k →
    explained t (Some a) ≡ answer_line (Refused k)
unfolding call_on
refused_explained t a k h = refused_on a k (plan_of t) h
