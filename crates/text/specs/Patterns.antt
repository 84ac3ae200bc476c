-- Patterns, for any text: when a line fits a pattern, and which kind and numbers it then shows.
-- Assumes nothing: these are definitions.
use Rattle.std.specs.Prelude.{ℕ, ◌+◌, ◌-◌, ◌*◌, min, ◌≡◌, List, [], ◌∷◌, map, Bool, true, false, ◌&&◌, ◌||◌, cond as pick, length, eqb, leb, ltb, Option, Some, None}
use Rattle.std.proofs.lemmas.List.Edits.{sets}
use Rattle.text.specs.declared.Shown.{Shown}
use Rattle.text.specs.declared.Class.{Class}
use Rattle.text.specs.declared.Class.TheVariants.{Digit, Small, Space, OpenBracket, CloseBracket, LineFeed, Other}
use Rattle.text.specs.Text.{line_at, line_end}

-- The class of a byte (01).
abbrev pub class_of : ℕ → Class
class_of b =
    pick (leb 48 b && leb b 57) Digit
    (pick (leb 97 b && leb b 122) Small
    (pick (eqb b 32) Space
    (pick (eqb b 40) OpenBracket
    (pick (eqb b 41) CloseBracket
    (pick (eqb b 10) LineFeed Other)))))

-- 0 to 9
abbrev pub is_digit : ℕ → Bool
is_digit b = pick (leb 48 b) (leb b 57) false

-- A to Z
abbrev pub is_upper : ℕ → Bool
is_upper b = pick (leb 65 b) (leb b 90) false

-- What reading a number finds: its value and what stands after it; or no number.
pub data Number : Type 0 where
  none : Number
  some : ℕ → List ℕ → Number

-- v goes on with as many digits as stand there.
unfoldable pub digits : ℕ → List ℕ → Number
digits v [] = some v []
digits v (b ∷ bs) = pick (is_digit b) (digits (v * 10 + (b - 48)) bs) (some v (b ∷ bs))

-- A number is 0, or a digit that is not 0 and as many digits as follow.
unfoldable pub number : List ℕ → Number
number [] = none
number (b ∷ bs) = pick (is_digit b) (pick (eqb b 48) (some 0 bs) (digits (b - 48) bs)) none

-- What one sign of a pattern finds in a line: itself, a kind or a number, and what stands after it; or no fit.
pub data Item : Type 0 where
  misfit : Item
  fit : List ℕ → Item
  fit_kind : Bool → List ℕ → Item
  fit_number : ℕ → List ℕ → Item

abbrev pub kind_item : ℕ → List ℕ → Item
kind_item b bs = pick (eqb b 112) (fit_kind true bs) (pick (eqb b 115) (fit_kind false bs) misfit)

abbrev pub number_item : Number → Item
number_item none = misfit
number_item (some n bs) = fit_number n bs

-- K stands for a p (a point, true) or an s (silent, false), any other capital for a number, and any other sign for itself.
unfoldable pub item : ℕ → List ℕ → Item
item t [] = misfit
item t (b ∷ bs) =
    pick (eqb b 10) misfit
    (pick (eqb t 75) (kind_item b bs)
    (pick (is_upper t) (number_item (number (b ∷ bs)))
    (pick (eqb b t) (fit bs) misfit)))

-- What a whole pattern finds: the kind, and the numbers in the order of the line; or no match.
pub data Match : Type 0 where
  miss : Match
  match : Bool → List ℕ → Match

-- The same with a number before the others.
abbrev pub with_number : ℕ → Match → Match
with_number n miss = miss
with_number n (match k ns) = match k (n ∷ ns)

-- After the pattern stands the line feed, and nothing else.
abbrev pub ended : Bool → List ℕ → Match
ended k [] = miss
ended k (b ∷ []) = pick (eqb b 10) (match k []) miss
ended k (b ∷ c ∷ bs) = miss

-- One sign, and the signs after it.
abbrev pub goes_on : Bool → Item → (Bool → List ℕ → Match) → Match
goes_on k misfit f = miss
goes_on k (fit l) f = f k l
goes_on k (fit_kind j l) f = f j l
goes_on k (fit_number n l) f = with_number n (f k l)

-- A pattern held against a line; k is the kind so far, false at first.
unfoldable pub matched : List ℕ → Bool → List ℕ → Match
matched [] k l = ended k l
matched (t ∷ ts) k l = goes_on k (item t l) (matched ts)

-- What is held of a number: numbers over the limit are all alike.
abbrev pub capped : ℕ → ℕ → ℕ
capped limit n = min n limit

-- Whether one of some numbers is over the limit.
abbrev pub any_over : ℕ → List ℕ → Bool
any_over limit [] = false
any_over limit (n ∷ ns) = ltb limit n || any_over limit ns

-- What the line at a place shows where a pattern fits: its numbers stand in the lent row in their order, held, as many as it has places.
pub record ShownAt (limit : ℕ) (s : List ℕ) (at : ℕ) (pattern row row' : List ℕ) (f : Shown) (e : ℕ) : Type 0 where
  pub numbers : List ℕ
  pub fits : matched pattern false (line_at s at) ≡ match f.kind numbers
  pub over_told : f.over ≡ any_over limit numbers
  pub counted : f.count ≡ length numbers
  pub stored : row' ≡ sets row 0 (map (capped limit) numbers)
  pub after : e ≡ line_end s at

-- What an answer says of a pattern and the line at a place, and what the lent row then holds.
abbrev pub MatchAt : ℕ → List ℕ → ℕ → List ℕ → List ℕ → List ℕ → Option (Shown × ℕ) → Type 0
MatchAt limit s at pattern row row' None = matched pattern false (line_at s at) ≡ miss
MatchAt limit s at pattern row row' (Some (f, e)) = ShownAt limit s at pattern row row' f e
