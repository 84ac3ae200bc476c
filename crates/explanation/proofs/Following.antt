-- A piece of a log, byte by byte: what was seen of the lines that end in it. Assumes nothing.
use Prim.Native.Nat.{ℕ, ◌+◌, ◌≤◌, ◌<◌, min}
use mathlib.Core.Bool.{true, false}
use mathlib.Core.Path.{◌≡◌, refl, ◌∙◌}
use mathlib.Core.List.{List, [], ◌∷◌, ◌++◌}
use lib.Dec.{eqb}
use lib.ListN.{length, take, get_or}
use Rattle.text.specs.Text.{line_of}
use Rattle.model.specs.declared.Call.{Call}
use Rattle.table.specs.Table.{Table}
use Rattle.std.specs.Prelude.{Option}
use Rattle.flight_log.specs.Log.{entry_of}
use Rattle.flight_log.specs.Pieces.{HeldLine}
use Rattle.flight_log.proofs.Pieces.{Taken, taken_none, taken_byte, taken_line, taken_all}
use Rattle.explanation.specs.declared.Seen.{Seen}
use Rattle.explanation.specs.Explanation.{next_seen, seen_after}
use Rattle.explanation.specs.Pieces.{SeenSoFar, after_piece}

-- LINES IN A ROW

-- Lines, one behind the other, are seen in turn.
pub seen_join : (t : Table) (x : Seen) (es fs : List (Option Call)) → seen_after t x (es ++ fs) ≡ seen_after t (seen_after t x es) fs
unfolding seen_after
seen_join t x [] fs = refl
seen_join t x (e ∷ es) fs = seen_join t (next_seen t x e) es fs

-- One line more.
seen_line : (t : Table) (x : Seen) (es : List (Option Call)) (e : Option Call) → seen_after t x (es ++ (e ∷ [])) ≡ next_seen t (seen_after t x es) e
seen_line t x es e = seen_join t x es (e ∷ []) ∙ (unfold seen_after in refl)

-- THE LOOP

-- What is carried where so many bytes of a line are held.
abbrev pub carried_at : List ℕ → ℕ → Seen → SeenSoFar
carried_at line held x = record { line = take held line; seen = x }

-- The first i of the bytes used of a piece were taken.
pub record Following (t : Table) (c : SeenSoFar) (piece line : List ℕ) (held : ℕ) (x : Seen) (i : ℕ) : Type 0 where
  pub lines : List (Option Call)
  pub taken : Taken c.line piece line held i lines
  pub seen_is : x ≡ seen_after t c.seen lines

-- None of them.
pub following_none : (t : Table) (piece line : List ℕ) (held : ℕ) (x : Seen) → length line ≡ 64 → Following t (carried_at line held x) piece line held x 0
unfolding seen_after
following_none t piece line held x long = record { lines = []; taken = taken_none piece line held long; seen_is = refl }

module _ {t : Table} {c : SeenSoFar} {piece line more : List ℕ} {held n : ℕ} {x : Seen} {i : ℕ} (f : Following t c piece line held x i)
    (inside : i < length piece) (h : HeldLine line held (get_or piece i 0) more n) where
  -- A byte inside a line.
  pub following_byte : eqb (get_or piece i 0) 10 ≡ false → Following t c piece more n x (i + 1)
  following_byte e = record { lines = f.lines; taken = taken_byte f.taken inside h e; seen_is = f.seen_is }

  -- A line feed.
  pub following_line : {e : Option Call} {y : Seen} → eqb (get_or piece i 0) 10 ≡ true → e ≡ entry_of (line_of (take n more)) → y ≡ next_seen t x e →
      Following t c piece more 0 y (i + 1)
  following_line {e} q k r = record {
    lines = f.lines ++ (e ∷ []);
    taken = taken_line f.taken inside h q k;
    seen_is = rw (seen_line t c.seen f.lines e, ← f.seen_is) r;
  }

-- All bytes that are used.
pub followed_all : {t : Table} {c : SeenSoFar} {line : List ℕ} {held : ℕ} {x : Seen} {i m : ℕ} (piece : List ℕ) → Following t c (take m piece) line held x i →
    m ≡ min (length piece) 4096 → m ≤ i → carried_at line held x ≡ after_piece t c (take 4096 piece)
followed_all piece f k all =
    let (lines_are, held_are) = taken_all piece f.taken k all in
    cc (held_are, f.seen_is, lines_are)
