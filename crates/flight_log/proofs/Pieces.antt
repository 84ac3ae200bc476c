-- A log that comes byte by byte, in pieces cut anywhere, has the entries of the whole; and a loop over the bytes of a piece finds those of the piece.
-- Assumes nothing.
use Prim.Native.Nat.{ℕ, ◌+◌, ◌≤◌, ◌<◌, min}
use mathlib.Core.Bool.{Bool, true, false}
use mathlib.Core.Path.{◌≡◌, refl, sym, ap, ◌∙◌}
use mathlib.Core.List.{List, [], ◌∷◌, ◌++◌, append_assoc, append-nil}
use native.Mathlib.Numerals.{add-one}
use native.Mathlib.Omega.{arith}
use native.Mathlib.Decide.{dec_le}
use lib.Dec.{eqb, leb}
use lib.ListN.{length, take, get_or, length-take}
use lib.Seq.{take_all, take-append-le, take-take, take-suc}
use borrow.Author.Tests.{eqb-true, leb-true, leb-false}
use Rattle.text.specs.Text.{line_of}
use Rattle.model.specs.declared.Call.{Call}
use Rattle.std.specs.Prelude.{Option}
use Rattle.flight_log.specs.Log.{entry_of, entries, Feedless}
use Rattle.flight_log.specs.Pieces.{held_with, entry_at, held_at, entries_in, held_after, entry_left, HeldLine}
use Rattle.flight_log.proofs.Lines.{held_line, entries_none, entries_line, entries_cut}

-- PIECES IN A ROW

-- Two pieces, one behind the other, have the entries of one, and the same is held behind them.
pub entries_join : (l a b : List ℕ) → entries_in l (a ++ b) ≡ entries_in l a ++ entries_in (held_after l a) b
unfolding entries_in held_after
entries_join l [] b = refl
entries_join l (x ∷ a) b = rw (entries_join (held_at l x) a b, append_assoc (entry_at l x) (entries_in (held_at l x) a) _)

pub held_join : (l a b : List ℕ) → held_after l (a ++ b) ≡ held_after (held_after l a) b
unfolding held_after
held_join l [] b = refl
held_join l (x ∷ a) b = held_join (held_at l x) a b

-- One byte more.
entries_byte : (l a : List ℕ) (b : ℕ) → entries_in l (a ++ (b ∷ [])) ≡ entries_in l a ++ entry_at (held_after l a) b
entries_byte l a b = entries_join l a (b ∷ []) ∙ (unfold entries_in in rw (append-nil (entry_at (held_after l a) b)))

held_byte : (l a : List ℕ) (b : ℕ) → held_after l (a ++ (b ∷ [])) ≡ held_at (held_after l a) b
held_byte l a b = held_join l a (b ∷ []) ∙ (unfold held_after in refl)

-- THE WHOLE LOG

-- A byte more of a line, of which the first so many are held.
held_again : (most : ℕ) (l : List ℕ) (b : ℕ) → take most (take most l ++ (b ∷ [])) ≡ take most (l ++ (b ∷ []))
held_again most l b =
    elim (dec_le most (length l)) [
      | yes g ↦
          let n : most ≤ length (take most l) = omega (arith, length-take most l) in
          take-append-le most (take most l) (b ∷ []) n ∙ (take-take most most l (omega arith) ∙ sym (take-append-le most l (b ∷ []) g))
      | no g ↦ ap (λ (k : List ℕ). take most (k ++ (b ∷ []))) (take_all most l (omega arith))
    ]

-- It has no line feed where the byte is none.
feedless_more : (l : List ℕ) (b : ℕ) → Feedless l → eqb b 10 ≡ false → Feedless (l ++ (b ∷ []))
feedless_more [] b h e = (e, tt)
feedless_more (a ∷ l) b h e = (h.0, feedless_more l b h.1 e)

-- The entries of some bytes and at the end, where the first 64 bytes of the line being read are held.
abbrev all_entries : List ℕ → List ℕ → List (Option Call)
all_entries l bs = entries_in (take 64 l) bs ++ entry_left (held_after (take 64 l) bs)

all_none : (l : List ℕ) → Feedless l → all_entries l [] ≡ entries (l ++ [])
unfolding entries_in held_after
all_none [] h = sym entries_none
all_none (b ∷ l) h = rw (append-nil l) (sym (entries_cut b l h))

-- Those of the bytes of a line go with the line that is read of it.
read_on : (bs l : List ℕ) → Feedless l → all_entries l bs ≡ entries (l ++ bs)
unfolding entries_in held_after
read_on [] l h = all_none l h
read_on (b ∷ bs) l h = by (eqb b 10) refl (read_on bs)
  where
    by : (u : Bool) → eqb b 10 ≡ u → ((k : List ℕ) → Feedless k → all_entries k bs ≡ entries (k ++ bs)) → all_entries l (b ∷ bs) ≡ entries (l ++ (b ∷ bs))
    by true e on = rw (e, eqb-true b 10 e, held_line l h, on [] tt) (sym (entries_line l bs h))
    by false e on = rw (e, held_again 64 l b) (on (l ++ (b ∷ [])) (feedless_more l b h e) ∙ ap entries (append_assoc l (b ∷ []) bs))

pub entries_whole : (log : List ℕ) → entries_in [] log ++ entry_left (held_after [] log) ≡ entries log
entries_whole log = read_on log [] tt

-- A LOOP OVER THE BYTES OF A PIECE

-- The first i bytes of a piece were taken, behind the line's bytes l: es are the entries that ended in them, and so much of a line is held.
pub record Taken (l piece line : List ℕ) (held i : ℕ) (es : List (Option Call)) : Type 0 where
  pub within : i ≤ length piece
  pub long : length line ≡ 64
  pub entries_are : es ≡ entries_in l (take i piece)
  pub held_are : take held line ≡ held_after l (take i piece)

-- None of them.
pub taken_none : (piece line : List ℕ) (held : ℕ) → length line ≡ 64 → Taken (take held line) piece line held 0 []
unfolding entries_in held_after
taken_none piece line held long = record { within = omega arith; long = long; entries_are = refl; held_are = refl }

module _ {l piece line more : List ℕ} {held i n : ℕ} {es : List (Option Call)} (t : Taken l piece line held i es) (inside : i < length piece)
    (h : HeldLine line held (get_or piece i 0) more n) where
  abbrev b : ℕ
  b = get_or piece i 0

  -- The bytes held are those of the line with its next byte.
  held_next : take n more ≡ held_with (take held line) b
  held_next = h.bytes_are ∙ ap (λ k. take k (take held line ++ (b ∷ []))) t.long

  one_more : take (i + 1) piece ≡ take i piece ++ (b ∷ [])
  one_more = ap (λ k. take k piece) (add-one i) ∙ take-suc piece i 0 inside

  entries_next : entries_in l (take (i + 1) piece) ≡ es ++ entry_at (take held line) b
  entries_next = ap (entries_in l) one_more ∙ (entries_byte l (take i piece) b ∙ rw (t.held_are, t.entries_are) refl)

  held_then : held_after l (take (i + 1) piece) ≡ held_at (take held line) b
  held_then = ap (held_after l) one_more ∙ (held_byte l (take i piece) b ∙ rw t.held_are refl)

  -- A byte inside a line.
  pub taken_byte : eqb b 10 ≡ false → Taken l piece more n (i + 1) es
  taken_byte e = record {
    within = omega arith;
    long = h.long ∙ t.long;
    entries_are = rw (entries_next, e, append-nil es) refl;
    held_are = rw (held_then, e) held_next;
  }

  -- A line feed.
  pub taken_line : {e : Option Call} → eqb b 10 ≡ true → e ≡ entry_of (line_of (take n more)) → Taken l piece more 0 (i + 1) (es ++ (e ∷ []))
  taken_line {e} q k = record {
    within = omega arith;
    long = h.long ∙ t.long;
    entries_are = rw (entries_next, q, k, held_next) refl;
    held_are = rw (held_then, q) refl;
  }

-- All bytes that are used.
used_all : (p : List ℕ) (most j : ℕ) → j ≡ min (length p) most → take j p ≡ take most p
used_all p most j e = by (leb (length p) most) refl
  where
    by : (b : Bool) → leb (length p) most ≡ b → take j p ≡ take most p
    by true h =
        let k = leb-true (length p) most h in
        take_all j p (omega arith) ∙ sym (take_all most p k)
    by false h =
        let k = leb-false (length p) most h in
        let same : j ≡ most = omega arith in
        ap (λ n. take n p) same

pub taken_all : {l line : List ℕ} {held i m : ℕ} {es : List (Option Call)} (piece : List ℕ) → Taken l (take m piece) line held i es →
    m ≡ min (length piece) 4096 → m ≤ i → (es ≡ entries_in l (take 4096 piece)) × (take held line ≡ held_after l (take 4096 piece))
taken_all {l} {i = i} {m = m} piece t k all =
    let used : take i (take m piece) ≡ take 4096 piece = take_all i (take m piece) (omega (arith, length-take m piece)) ∙ used_all piece 4096 m k in
    (t.entries_are ∙ ap (entries_in l) used, t.held_are ∙ ap (held_after l) used)
