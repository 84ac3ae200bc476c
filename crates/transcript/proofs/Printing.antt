-- What is printed of a log that comes in pieces, on the table that reading a plan leaves in memory. Assumes nothing.
use Prim.Native.Nat.{ℕ, ◌+◌}
use mathlib.Core.Path.{◌≡◌, refl, sym, ap, ◌∙◌}
use mathlib.Core.List.{List, [], ◌∷◌, ◌++◌, append_assoc, append-nil}
use lib.ListN.{length, take}
use lib.Seq.{take_all}
use Rattle.text.specs.Text.{lines}
use Rattle.model.specs.Refusals.{number_of}
use Rattle.model.specs.declared.Refusal.{Refusal}
use Rattle.model.specs.Plan.{Plan}
use Rattle.model.specs.declared.Answer.{Answer}
use Rattle.model.specs.declared.Answer.TheVariants.{Refused, Decided, Closed}
use Rattle.model.specs.Histories.{Exchange}
use Rattle.rows.specs.declared.Leaf.{Leaf}
use Rattle.reader.specs.Outcome.{plan, refused}
use Rattle.table.specs.declared.Head.{Head}
use Rattle.table.specs.Table.{Table, head_of}
use Rattle.table.specs.Reading.{verdict, head_after}
use Rattle.table.specs.Lent.{table_with, row_after}
use Rattle.table.proofs.Theorems.{read_back}
use Rattle.print.specs.Lines.{answer_line, refused_plan_line}
use Rattle.print.proofs.OneLine.{lines_answer, lines_ticks}
use Rattle.print.proofs.Theorems.{handed}
use Rattle.model.specs.declared.Call.{Call}
use Rattle.std.specs.Prelude.{Option}
use Rattle.flight_log.specs.Pieces.{entries_in, held_after, whole_log}
use Rattle.flight_log.proofs.Theorems.{entries_join, held_join}
use Rattle.transcript.specs.Transcript.{reply_to, shared, suspended, ticks, after_end, Progress, next_progress, told}
use Rattle.transcript.specs.Transcript.{transcript, replayed, replay}
use Rattle.transcript.specs.Pieces.{Carried, begin, entries_told, ticked_after, piece_told, piece_after, close_told, PrintedOf, ended, piece}
use Rattle.transcript.proofs.Feeding.{told_join, after_join}
use Rattle.transcript.proofs.Replaying.{spoken}

-- PIECES

-- Two pieces, one behind the other, are answered as one, and what is carried on is the same.
pieces_told : (t : Table) (c : Carried) (a b : List ℕ) → piece_told t c (a ++ b) ≡ piece_told t c a ++ piece_told t (piece_after t c a) b
pieces_told t c a b = ap (entries_told t c.before) (entries_join c.line a b) ∙ told_join t c.before (entries_in c.line a) _

pieces_after : (t : Table) (c : Carried) (a b : List ℕ) → piece_after t c (a ++ b) ≡ piece_after t (piece_after t c a) b
pieces_after t c a b = rw (held_join c.line a b, entries_join c.line a b, after_join t c.before (entries_in c.line a) (entries_in (held_after c.line a) b)) refl

-- What is printed of pieces is what is printed of the log that they are of.
pub of_whole : {t : Table} {c : Carried} {ps : List (List ℕ)} {out : List ℕ} → PrintedOf t c ps out →
    out ≡ piece_told t c (whole_log ps) ++ close_told (piece_after t c (whole_log ps))
unfolding whole_log
of_whole (ended room h) = unfold entries_in held_after entries_told ticked_after in handed room h.told
of_whole {t} {c} (piece {p} {new} {f} {ps} {text} short room h rest) =
    let log = whole_log ps in
    let all : take 4096 p ≡ p = take_all 4096 p short in
    let first : take f.size new ≡ piece_told t c p = handed room h.told ∙ ap (piece_told t c) all in
    let on = piece_after t c p in
    let carried = h.carried ∙ ap (piece_after t c) all in
    let behind : text ≡ piece_told t on log ++ close_told (piece_after t on log) =
    of_whole rest ∙ ap (λ k. piece_told t k log ++ close_told (piece_after t k log)) carried in
    ap (λ (l : List ℕ). l ++ text) first ∙
    (ap (λ (l : List ℕ). piece_told t c p ++ l) behind ∙
    (sym (append_assoc (piece_told t c p) (piece_told t on log) (close_told (piece_after t on log))) ∙
    (ap (λ (l : List ℕ). l ++ close_told (piece_after t on log)) (sym (pieces_told t c p log)) ∙
    ap (λ k. piece_told t c (p ++ log) ++ close_told k) (sym (pieces_after t c p log)))))

-- It is the replay on that table.
pub printed_transcript : (t : Table) (ps : List (List ℕ)) (out : List ℕ) → PrintedOf t begin ps out → out ≡ transcript t (whole_log ps)
unfolding transcript
printed_transcript t ps out p = of_whole p ∙ spoken t (whole_log ps)

-- THE TABLE OF A PLAN THAT WAS READ

-- So what is printed is the replay.
pub printed_replay : (text : List ℕ) (p : Plan) → verdict 512 text ≡ plan p → (row : List Leaf) (h : Head) → length row ≡ 512 →
    let v = verdict 512 text in
    let t = table_with (row_after v row) (head_after v h) in
    (pieces : List (List ℕ)) (out : List ℕ) → PrintedOf t begin pieces out → out ≡ replay text (whole_log pieces)
printed_replay text p e row h long ps out k =
    let q : PrintedOf (table_with (row_after (plan p) row) (head_of p)) begin ps out = rw e at k in
    printed_transcript _ ps out q ∙
    (ap (λ x. transcript x (whole_log ps)) (read_back p row) ∙
    sym (ap (λ o. replayed o (whole_log ps)) e))

pub refused_replay : (text log : List ℕ) (k : Refusal) (j : ℕ) → verdict 512 text ≡ refused k j → replay text log ≡ refused_plan_line (number_of k) j
refused_replay text log k j e = ap (λ o. replayed o log) e

-- ONE LINE FOR EACH ANSWER

-- The ticks of a release are one line.
pub ticks_line_is : (xs : List Exchange) → lines (ticks xs) ≡ ticks xs ∷ []
unfolding lines
ticks_line_is xs = ap lines (sym (append-nil (ticks xs))) ∙ lines_ticks (shared xs) (suspended xs) (shared xs + suspended xs) []

-- They stand by themselves behind an accepted end.
end_lines : (a : Answer) (xs : List Exchange) (r : List ℕ) → lines (after_end a xs ++ r) ≡ lines (after_end a xs) ++ lines r
unfolding lines
end_lines (Refused n) xs r = refl
end_lines (Decided w m l late) xs r = refl
end_lines (Closed e late) xs r =
    lines_ticks (shared xs) (suspended xs) (shared xs + suspended xs) r ∙ ap (λ (l : List (List ℕ)). l ++ lines r) (sym (ticks_line_is xs))

-- The lines that are printed of one line of a log and those behind it.
pub lines_told : (t : Table) (x : Progress) (e : Option Call) (es : List (Option Call)) →
    let a = (reply_to t x.state e).answer in
    let next = next_progress t x e in
    lines (told t x (e ∷ es)) ≡ answer_line a ∷ (lines (after_end a next.accepted) ++ lines (told t next es))
unfolding told
lines_told t x e es =
    let a = (reply_to t x.state e).answer in
    let xs = (next_progress t x e).accepted in
    let rest = told t (next_progress t x e) es in
    ap lines (append_assoc (answer_line a) (after_end a xs) rest) ∙
    (lines_answer a (after_end a xs ++ rest) ∙ ap (λ (l : List (List ℕ)). answer_line a ∷ l) (end_lines a xs rest))
