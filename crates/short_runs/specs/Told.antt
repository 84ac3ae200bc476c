-- What a leaf number tells where there is a choice. Assumes nothing: these are definitions.
use Rattle.std.specs.Prelude.{◌≡◌, ◌⊎◌, ℕ, suc}
use Rattle.model.specs.Forms.{Forms, done, leaf, call, loop, cond}
use Rattle.short_runs.specs.Listing.{next_leaf}

-- A leaf of the forms, or of what they call, has the number n.
unfoldable pub Holds : ℕ → Forms → Type 0
Holds n done = ⊥
Holds n (leaf b rest) = (b.number ≡ n) ⊎ Holds n rest
Holds n (call b fun rest) = (b.number ≡ n) ⊎ (Holds n fun ⊎ Holds n rest)
Holds n (loop b m body rest) = (b.number ≡ n) ⊎ (Holds n body ⊎ Holds n rest)
Holds n (cond b then else rest) = (b.number ≡ n) ⊎ (Holds n then ⊎ (Holds n else ⊎ Holds n rest))

-- The forms g do not open with the leaf n.
abbrev pub Unlike : ℕ → Forms → Type 0
Unlike n g = ¬ (next_leaf g ≡ suc n)

-- The forms g open with no leaf of f.
abbrev pub Apart : Forms → Forms → Type 0
Apart f g = (n : ℕ) → Holds n f → Unlike n g

-- Behind a visit the next leaf number tells which way was taken: parts that can be reached from one choice open with no leaf of each other.
unfoldable pub NumbersTell : Forms → Type 0
NumbersTell done = Unit
NumbersTell (leaf b rest) = NumbersTell rest
NumbersTell (call b fun rest) = Apart fun rest × NumbersTell fun × NumbersTell rest
NumbersTell (loop b m body rest) = Apart body rest × Unlike (b.number) rest × (¬ Holds (b.number) body) × NumbersTell body × NumbersTell rest
NumbersTell (cond b then else rest) = Apart then else × Apart then rest × Apart else rest × NumbersTell then × NumbersTell else × NumbersTell rest
