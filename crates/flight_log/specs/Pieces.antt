-- A log that comes in pieces: the bytes held of the line being read, and the entries that end in a piece.
-- Assumes nothing: these are definitions.
use Rattle.std.specs.Prelude.{ℕ, ◌≤◌, ◌≡◌, List, [], ◌∷◌, ◌++◌, length, take, eqb, Option, None}
use Rattle.text.specs.Text.{line_of}
use Rattle.model.specs.Places.{pick}
use Rattle.model.specs.declared.Call.{Call}
use Rattle.flight_log.specs.Log.{entry_of}

-- A byte more of the line being read: its first 64 bytes are held, more than a line of the grammar has.
abbrev pub held_with : List ℕ → ℕ → List ℕ
held_with l b = take 64 (l ++ (b ∷ []))

-- The entry that ends in a byte more: that of the line, where the byte is a line feed.
abbrev pub entry_at : List ℕ → ℕ → List (Option Call)
entry_at l b = pick (eqb b 10) (entry_of (line_of (held_with l b)) ∷ []) []

-- What is held behind it: nothing of the next line, or the same line.
abbrev pub held_at : List ℕ → ℕ → List ℕ
held_at l b = pick (eqb b 10) [] (held_with l b)

-- The entries that end in a piece, and what is held behind it, where l is held before it.
unfoldable pub entries_in : List ℕ → List ℕ → List (Option Call)
entries_in l [] = []
entries_in l (b ∷ bs) = entry_at l b ++ entries_in (held_at l b) bs

unfoldable pub held_after : List ℕ → List ℕ → List ℕ
held_after l [] = l
held_after l (b ∷ bs) = held_after (held_at l b) bs

-- The entry that ends with the log: a line that was begun has no line feed, so it is one of another form.
abbrev pub entry_left : List ℕ → List (Option Call)
entry_left [] = []
entry_left (b ∷ bs) = None ∷ []

-- The log that pieces are of.
unfoldable pub whole_log : List (List ℕ) → List ℕ
whole_log [] = []
whole_log (p ∷ ps) = p ++ whole_log ps

-- A byte was held behind the first bytes of a line, if there was room, and so many are held then.
pub record HeldLine (old : List ℕ) (held b : ℕ) (new : List ℕ) (more : ℕ) : Type 0 where
  pub bytes_are : take more new ≡ take (length old) (take held old ++ (b ∷ []))
  pub long : length new ≡ length old
  pub few : more ≤ length old
