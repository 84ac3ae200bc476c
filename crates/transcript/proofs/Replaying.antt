-- A log that comes byte by byte is answered as its lines are. Assumes nothing.
use Prim.Native.Nat.{ℕ}
use mathlib.Core.Path.{◌≡◌, refl, sym, ap, ◌∙◌}
use mathlib.Core.List.{List, [], ◌∷◌, ◌++◌, append-nil}
use Rattle.model.specs.declared.Call.{Call}
use Rattle.model.specs.Histories.{Exchange}
use Rattle.table.specs.Table.{Table}
use Rattle.control.specs.declared.State.{State}
use Rattle.std.specs.Prelude.{Option}
use Rattle.flight_log.specs.Log.{entries}
use Rattle.flight_log.specs.Pieces.{entries_in, held_after, entry_left}
use Rattle.flight_log.proofs.Theorems.{entries_whole}
use Rattle.transcript.specs.Transcript.{Progress, next_progress, line_told, told, at_first}
use Rattle.transcript.specs.Pieces.{Ticked, begin, next_ticked, entries_told, ticked_after, piece_told, piece_after, cut_told, close_told}
use Rattle.transcript.proofs.Counting.{CountedOpen, counted_line}
use Rattle.transcript.proofs.Feeding.{told_join}

-- At the end of the log a line that was begun is answered as one of another form.
cut_spoken : (t : Table) (x : Ticked) (l : List ℕ) → cut_told l ≡ entries_told t x (entry_left l)
unfolding entries_told
cut_spoken t x [] = refl
cut_spoken t x (b ∷ l) = sym (append-nil _ ∙ append-nil _)

-- Where the accepted calls of an open release were counted, what is printed of lines is what is told of them.
lines_spoken : (t : Table) (s : State) (xs : List Exchange) (n : ℕ) (es : List (Option Call)) → CountedOpen s xs n →
    entries_told t (record { state = s; shared = n }) es ≡ told t (record { state = s; accepted = xs }) es
unfolding entries_told told
lines_spoken t s xs n [] k = refl
lines_spoken t s xs n (e ∷ es) k =
    let x : Ticked = record { state = s; shared = n } in
    let y : Progress = record { state = s; accepted = xs } in
    let z = next_progress t y e in
    let (same, counts) = counted_line t s xs n e k in
    ap (λ (l : List ℕ). l ++ entries_told t (next_ticked t x e) es) same ∙
    ap (λ (l : List ℕ). line_told t y e ++ l) (lines_spoken t z.state z.accepted (next_ticked t x e).shared es counts)

-- What is printed of the bytes of a log, and at its end, is what is told of its lines.
pub spoken : (t : Table) (log : List ℕ) → piece_told t begin log ++ close_told (piece_after t begin log) ≡ told t at_first (entries log)
spoken t log =
    let es = entries_in [] log in
    let left = held_after [] log in
    ap (λ l. entries_told t begin.before es ++ l) (cut_spoken t (ticked_after t begin.before es) left) ∙
    (sym (told_join t begin.before es (entry_left left)) ∙
    (ap (entries_told t begin.before) (entries_whole log) ∙ lines_spoken t at_first.state at_first.accepted 0 (entries log) tt))
