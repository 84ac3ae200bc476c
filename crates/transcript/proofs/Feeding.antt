-- A piece of a log, byte by byte: what is printed of the lines so far, and what they came to. Assumes nothing.
use Prim.Native.Nat.{ℕ, ◌+◌, ◌*◌, ◌≤◌, ◌<◌, min}
use mathlib.Core.Bool.{true, false}
use mathlib.Core.Path.{◌≡◌, refl, ap, ◌∙◌, subst}
use mathlib.Core.List.{List, [], ◌∷◌, ◌++◌, append_assoc, append-nil}
use native.Mathlib.Omega.{arith}
use lib.Dec.{eqb}
use lib.ListN.{length, take, get_or, length-take}
use lib.Seq.{sets}
use Rattle.text.specs.Text.{line_of}
use Rattle.table.specs.Table.{Table}
use Rattle.print.specs.Printed.{PrintedWithin}
use Rattle.print.proofs.Laws.{joined, wider}
use Rattle.model.specs.declared.Call.{Call}
use Rattle.std.specs.Prelude.{Option}
use Rattle.flight_log.specs.Log.{entry_of}
use Rattle.flight_log.specs.Pieces.{HeldLine}
use Rattle.flight_log.proofs.Pieces.{Taken, taken_none, taken_byte, taken_line, taken_all}
use Rattle.transcript.specs.declared.Told.{Told}
use Rattle.transcript.specs.Pieces.{Ticked, Carried, entry_told, next_ticked, entries_told, ticked_after, FedPiece}
use Rattle.transcript.specs.Private.{Tells, fed_of}

-- LINES IN A ROW

-- Lines, one behind the other, are answered in turn.
pub told_join : (t : Table) (x : Ticked) (es fs : List (Option Call)) →
    entries_told t x (es ++ fs) ≡ entries_told t x es ++ entries_told t (ticked_after t x es) fs
unfolding entries_told ticked_after
told_join t x [] fs = refl
told_join t x (e ∷ es) fs =
    rw (told_join t (next_ticked t x e) es fs, append_assoc (entry_told t x.state x.shared e) (entries_told t (next_ticked t x e) es) _)

pub after_join : (t : Table) (x : Ticked) (es fs : List (Option Call)) → ticked_after t x (es ++ fs) ≡ ticked_after t (ticked_after t x es) fs
unfolding ticked_after
after_join t x [] fs = refl
after_join t x (e ∷ es) fs = after_join t (next_ticked t x e) es fs

-- One line more.
told_line : (t : Table) (x : Ticked) (es : List (Option Call)) (e : Option Call) →
    let y = ticked_after t x es in
    entries_told t x (es ++ (e ∷ [])) ≡ entries_told t x es ++ entry_told t y.state y.shared e
told_line t x es e =
    let y = ticked_after t x es in
    told_join t x es (e ∷ []) ∙ (unfold entries_told in rw (append-nil (entry_told t y.state y.shared e)))

after_line : (t : Table) (x : Ticked) (es : List (Option Call)) (e : Option Call) → ticked_after t x (es ++ (e ∷ [])) ≡ next_ticked t (ticked_after t x es) e
after_line t x es e = after_join t x es (e ∷ []) ∙ (unfold ticked_after in refl)

-- THE LOOP

-- What the lines so far came to.
abbrev pub ticked_at : Told → Ticked
ticked_at x = record { state = x.state; shared = x.shared }

-- What is carried where so many bytes of a line are held.
abbrev pub carried_at : List ℕ → ℕ → Told → Carried
carried_at line held x = record { line = take held line; before = ticked_at x }

-- The first i of the bytes used of a piece were taken.
pub record Feeding (t : Table) (c : Carried) (piece old new line : List ℕ) (held : ℕ) (x : Told) (i : ℕ) : Type 0 where
  pub lines : List (Option Call)
  pub taken : Taken c.line piece line held i lines
  pub printed : PrintedWithin (i * 128) old 0 (entries_told t c.before lines) new x.next
  pub came_to : ticked_at x ≡ ticked_after t c.before lines

-- None of them.
pub feeding_none : (t : Table) (piece old line : List ℕ) (held : ℕ) (x : Told) → length line ≡ 64 → x.next ≡ 0 →
    Feeding t (carried_at line held x) piece old old line held x 0
unfolding entries_told ticked_after
feeding_none t piece old line held x long first = record {
  lines = [];
  taken = taken_none piece line held long;
  printed = record { printed = record { stored = ap (λ n. sets old n []) first; after = omega arith }; short = omega arith };
  came_to = refl;
}

module _ {t : Table} {c : Carried} {piece old new line more : List ℕ} {held n : ℕ} {x : Told} {i : ℕ} (f : Feeding t c piece old new line held x i)
    (inside : i < length piece) (h : HeldLine line held (get_or piece i 0) more n) where
  -- A byte inside a line.
  pub feeding_byte : eqb (get_or piece i 0) 10 ≡ false → Feeding t c piece old new more n x (i + 1)
  feeding_byte e = record {
    lines = f.lines;
    taken = taken_byte f.taken inside h e;
    printed = wider (omega arith) f.printed;
    came_to = f.came_to;
  }

  -- A line feed.
  pub feeding_line : {e : Option Call} {out : List ℕ} {y : Told} → eqb (get_or piece i 0) 10 ≡ true → e ≡ entry_of (line_of (take n more)) →
      Tells new t x e out y → Feeding t c piece old out more 0 y (i + 1)
  feeding_line {e} {out} {y} q k r = record {
    lines = f.lines ++ (e ∷ []);
    taken = taken_line f.taken inside h q k;
    printed = rw (told_line t c.before f.lines e) (wider (omega arith) (joined f.printed text_is));
    came_to = rw (after_line t c.before f.lines e, ← f.came_to) (cc (r.state_is, r.shared_is));
  }
    where
      text_is : let z = ticked_after t c.before f.lines in PrintedWithin 128 new x.next (entry_told t z.state z.shared e) out y.next
      text_is = subst (λ (z : Ticked). PrintedWithin 128 new x.next (entry_told t z.state z.shared e) out y.next) f.came_to r.text_told

-- All bytes that are used.
pub fed_all : {t : Table} {c : Carried} {piece old new line : List ℕ} {held : ℕ} {x : Told} {i m : ℕ} → Feeding t c (take m piece) old new line held x i →
    m ≡ min (length piece) 4096 → m ≤ i →
    FedPiece old t c piece new (fed_of line held x)
fed_all {piece} {i = i} {m = m} f k all =
    let (lines_are, held_are) = taken_all piece f.taken k all in
    let few : i ≤ 4096 = omega (arith, f.taken.within, length-take m piece) in
    record {
      told = rw lines_are at (wider {more = 524288} (omega arith) f.printed);
      fits = omega (arith, f.printed.printed.after, f.printed.short);
      carried = cc (held_are, f.came_to, lines_are);
    }
