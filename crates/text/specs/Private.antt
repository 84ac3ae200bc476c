-- What the private functions promise. Nothing of this stands in the contracts of `matches` and `line`.
-- Assumes nothing: these are definitions.
use Rattle.std.specs.Prelude.{ℕ, ◌+◌, ◌-◌, ◌<◌, ◌≤◌, ◌≡◌, ◌⊎◌, List, Bool, true, false, ◌||◌, length, get_or, set, eqb, ltb, cond as pick, Option, Some, None}
use Rattle.text.specs.declared.Form.{Form}
use Rattle.text.specs.declared.Shown.{Shown}
use Rattle.text.specs.Text.{line_at, line_end}
use Rattle.text.specs.Patterns.{is_digit, is_upper, digits, number, none, some, misfit, fit, fit_kind, fit_number, item, capped}
use Rattle.text.specs.Grammar.{plain_form, block_form, answered}

-- A step within a line, from one place to a later one.
pub record Onward (s : List ℕ) (at e : ℕ) : Type 0 where
  pub past : at < e
  pub within : e ≤ length s
  pub same : line_end s at ≡ line_end s e

-- The value of a byte that is a digit, and none of another.
abbrev pub DigitIs : ℕ → Option ℕ → Type 0
DigitIs b None = is_digit b ≡ false
DigitIs b (Some d) = (48 ≤ b) × (b ≤ 57) × (d ≡ b - 48)

-- From one place to another stand the digits that a number goes on with; they make it no smaller.
pub record DigitsTo (s : List ℕ) (at e : ℕ) : Type 0 where
  pub past : at ≤ e
  pub within : e ≤ length s
  pub same : line_end s at ≡ line_end s e
  pub value : ℕ → ℕ
  pub reads : (v : ℕ) → digits v (line_at s at) ≡ some (value v) (line_at s e)
  pub grown : (v : ℕ) → v ≤ value v

-- The code reads at a place what `number` reads of the line there, or says that it is over the limit.
abbrev pub NumberAt : ℕ → List ℕ → ℕ → Option (Option ℕ × ℕ) → Type 0
NumberAt limit s at None = number (line_at s at) ≡ none
NumberAt limit s at (Some (None, e)) = (n : ℕ) × (number (line_at s at) ≡ some n (line_at s e)) × (limit < n) × Onward s at e
NumberAt limit s at (Some (Some n, e)) = (number (line_at s at) ≡ some n (line_at s e)) × (n ≤ limit) × Onward s at e

-- The sign t, which is no capital, stands at a place, or not.
abbrev pub StandsAt : List ℕ → ℕ → ℕ → Bool → Type 0
StandsAt s at t true = (item t (line_at s at) ≡ fit (line_at s (at + 1))) × Onward s at (at + 1)
StandsAt s at t false = item t (line_at s at) ≡ misfit

-- The kind that a byte says.
abbrev pub kind_said : ℕ → Option Bool
kind_said b = pick (eqb b 112) (Some true) (pick (eqb b 115) (Some false) None)

-- A capital has found a kind: f was shown before it, and g is after it.
pub record KindTaken (s : List ℕ) (at t : ℕ) (row row' : List ℕ) (f g : Shown) (e : ℕ) : Type 0 where
  pub kind_found : Bool
  pub finds : item t (line_at s at) ≡ fit_kind kind_found (line_at s e)
  pub shown : g ≡ record { kind = kind_found; over = f.over; count = f.count }
  pub stored : row' ≡ row

-- A capital has found a number, which is stored behind those that were found before it.
pub record NumberTaken (limit : ℕ) (s : List ℕ) (at t : ℕ) (row row' : List ℕ) (f g : Shown) (e : ℕ) : Type 0 where
  pub number_found : ℕ
  pub finds : item t (line_at s at) ≡ fit_number number_found (line_at s e)
  pub shown : g ≡ record { kind = f.kind; over = ltb limit number_found || f.over; count = f.count + 1 }
  pub stored : row' ≡ set row f.count (capped limit number_found)

-- The capital t finds at a place what `item` finds in the line there.
abbrev pub CapitalAt : ℕ → List ℕ → ℕ → ℕ → List ℕ → List ℕ → Shown → Option (Shown × ℕ) → Type 0
CapitalAt limit s at t row row' f None = (item t (line_at s at) ≡ misfit) × (row' ≡ row)
CapitalAt limit s at t row row' f (Some (g, e)) = Onward s at e × (KindTaken s at t row row' f g e ⊎ NumberTaken limit s at t row row' f g e)

-- A pattern whose first two signs stand for themselves.
pub record LiteralStart (p : List ℕ) : Type 0 where
  pub long : 2 ≤ length p
  pub bracket : is_upper (get_or p 0 0) ≡ false
  pub letter : is_upper (get_or p 1 0) ≡ false

-- What reading a line without numbers at a place answers.
unfoldable pub plain_line_at : List ℕ → ℕ → Option (Form × ℕ)
plain_line_at s at = answered (line_end s at) (plain_form (line_at s at))

-- The same of the line of a leaf, or one without numbers.
unfoldable pub block_line_at : List ℕ → ℕ → Option (Form × ℕ)
block_line_at s at = answered (line_end s at) (block_form (line_at s at))
