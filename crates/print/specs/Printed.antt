-- What a function that prints into a lent buffer promises.
-- Assumes nothing: these are definitions.
use Rattle.std.specs.Prelude.{ℕ, ◌+◌, ◌-◌, ◌≤◌, min, ◌≡◌, List, length}
use Rattle.std.proofs.lemmas.List.Edits.{sets}

-- A text was written at a place of a buffer, as far as there is room, and the next place is the one after it. The rest of the buffer is as it was.
pub record Printed (old : List ℕ) (at : ℕ) (text new : List ℕ) (next : ℕ) : Type 0 where
  pub stored : new ≡ sets old at text
  pub after : next ≡ at + min (length text) (length old - at)

-- The same of a text of at most so many bytes.
pub record PrintedWithin (most : ℕ) (old : List ℕ) (at : ℕ) (text new : List ℕ) (next : ℕ) : Type 0 where
  pub printed : Printed old at text new next
  pub short : length text ≤ most
