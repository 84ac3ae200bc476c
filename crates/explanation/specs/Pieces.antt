-- A log that comes in pieces: what the code carries on, and what it prints at the end. The theorems say that it is the explanation of the whole log.
-- Assumes nothing: these are definitions.
use Rattle.std.specs.Prelude.{ℕ, ◌≤◌, ◌≡◌, List, [], ◌∷◌, length, take, Option}
use Rattle.table.specs.Table.{Table}
use Rattle.print.specs.Printed.{PrintedWithin}
use Rattle.flight_log.specs.Pieces.{entries_in, held_after}
use Rattle.explanation.specs.declared.Asked.{Asked}
use Rattle.explanation.specs.declared.Seen.{Seen}
use Rattle.explanation.specs.declared.Followed.{Followed}
use Rattle.explanation.specs.Explanation.{seen_after, none_seen, explained}

-- What is carried from piece to piece: the bytes held of the line being read, and what was seen of the lines before it.
pub record SeenSoFar : Type 0 where
  pub line : List ℕ
  pub seen : Seen

abbrev pub seen_so_far : Followed → SeenSoFar
seen_so_far f = record { line = take f.held f.line; seen = f.seen }

-- Before the first byte.
abbrev pub at_start : SeenSoFar
at_start = record { line = []; seen = none_seen }

-- Behind a piece: the lines that end in it are seen.
abbrev pub after_piece : Table → SeenSoFar → List ℕ → SeenSoFar
after_piece t c bs = record { line = held_after c.line bs; seen = seen_after t c.seen (entries_in c.line bs) }

-- WHAT THE CALLS PROMISE

-- The last report was explained: what is printed of it, of at most 21,588 bytes, stands at the start of the buffer. (`fits` follows from `told`: callers use it
-- as it is.)
pub record Explains (old : List ℕ) (t : Table) (a : Option Asked) (new : List ℕ) (n : ℕ) : Type 0 where
  pub told : PrintedWithin 21588 old 0 (explained t a) new n
  pub fits : n ≤ 21588

-- What is printed where a log comes in pieces of at most 4,096 bytes: each is taken, and after the last one as many bytes of a buffer of 21,588 are printed,
-- whatever it held, as the call says.
pub data ExplanationPrinted (t : Table) : SeenSoFar → List (List ℕ) → List ℕ → Type 0 where
  ended : {c : SeenSoFar} {old new : List ℕ} {n : ℕ} → length old ≡ 21588 → Explains old t c.seen.asked new n → ExplanationPrinted t c [] (take n new)
  piece : {c : SeenSoFar} {p : List ℕ} (f : Followed) {ps : List (List ℕ)} {text : List ℕ} → length p ≤ 4096 → seen_so_far f ≡ after_piece t c (take 4096 p) →
      ExplanationPrinted t (seen_so_far f) ps text → ExplanationPrinted t c (p ∷ ps) text
