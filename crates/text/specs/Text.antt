-- A text, its lines, and what stands at a place of it.
-- Assumes nothing: these are definitions.
use Rattle.std.specs.Prelude.{ℕ, ◌+◌, List, [], ◌∷◌, Bool, true, false, cond as pick, length, drop, eqb}
use Prim.Native.Char.{code}
use Prim.Native.String.{String}

-- The bytes of a quoted text of ASCII characters.
abbrev pub bytes : String → List ℕ
bytes String.[] = []
bytes (String.◌∷◌ c s) = code c ∷ bytes s

-- The lines of a text, each with its line feed; the last may lack it.
-- (A byte in front of lines: a line feed is a line, any other byte goes to the first line.)
abbrev pub joined : ℕ → Bool → List (List ℕ) → List (List ℕ)
joined b true ls = (b ∷ []) ∷ ls
joined b false [] = (b ∷ []) ∷ []
joined b false (l ∷ ls) = (b ∷ l) ∷ ls

unfoldable pub lines : List ℕ → List (List ℕ)
lines [] = []
lines (b ∷ bs) = joined b (eqb b 10) (lines bs)

-- The line that a text begins with, with its line feed if it has one.
unfoldable pub line_of : List ℕ → List ℕ
line_of [] = []
line_of (b ∷ bs) = pick (eqb b 10) (b ∷ []) (b ∷ line_of bs)

-- The text after the line that it begins with.
unfoldable pub after_line : List ℕ → List ℕ
after_line [] = []
after_line (b ∷ bs) = pick (eqb b 10) bs (after_line bs)

-- The line at a place of a text, from that place on; past the end of the text it is empty.
unfoldable pub line_at : List ℕ → ℕ → List ℕ
line_at s i = line_of (drop i s)

-- The text after the line at a place.
unfoldable pub rest_at : List ℕ → ℕ → List ℕ
rest_at s i = after_line (drop i s)

-- The place after the line at a place.
unfoldable pub line_end : List ℕ → ℕ → ℕ
line_end s i = i + length (line_at s i)
