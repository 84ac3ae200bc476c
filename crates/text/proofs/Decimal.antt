-- Numbers: what is printed is read back, and what is read is what would be printed.
-- Assumes nothing.
use Prim.Native.Nat.{ℕ, zero, suc, ◌+◌, ◌-◌, ◌*◌, ◌/◌, ◌%◌, ◌≤◌, ◌<◌}
use mathlib.Core.Path.{◌≡◌, refl, sym, ap, ◌∙◌}
use mathlib.Core.List.{List, [], ◌∷◌, ◌++◌, append_assoc}
use mathlib.Core.Bool.{Bool, true, false, cond as pick}
use native.Mathlib.Omega.{arith}
use native.Mathlib.Decide.{dec_le}
use lib.ListN.{length, length-append}
use lib.Dec.{eqb}
use borrow.Author.Tests.{lt-ltb, le-ltb, ne_eqb, eqb-true, eqb-false}
use Rattle.text.specs.Patterns.{is_digit, digits, number, none, some}
use Rattle.text.specs.Spelling.{numerals, decimal}
use Rattle.text.proofs.Classes.{digit, digit_range}

-- THE PRINTED TEXT

-- More fuel than the number makes no difference.
numerals_more : (j k n : ℕ) → n < j → n < k → numerals j n ≡ numerals k n
unfolding numerals
numerals_more zero k n a b = absurd (omega arith)
numerals_more (suc j) zero n a b = absurd (omega arith)
numerals_more (suc j) (suc k) n a b =
    elim (dec_le 10 n) [
      | yes h ↦ rw (le-ltb n 10 h, numerals_more j k (n / 10) (omega arith) (omega arith))
      | no h ↦ rw (lt-ltb n 10 (omega arith))
    ]

-- A number below 10 is one digit.
pub decimal_digit : (n : ℕ) → n < 10 → decimal n ≡ (n + 48) ∷ []
unfolding decimal numerals
decimal_digit n h = rw (lt-ltb n 10 h)

-- Any other is the digits of its tenth, and one digit more.
pub decimal_step : (n : ℕ) → 10 ≤ n → decimal n ≡ decimal (n / 10) ++ ((n % 10 + 48) ∷ [])
unfolding decimal
decimal_step n h = first ∙ ap (λ x. x ++ ((n % 10 + 48) ∷ [])) (numerals_more n (suc (n / 10)) (n / 10) (omega arith) (omega arith))
  where
    first : numerals (suc n) n ≡ numerals n (n / 10) ++ ((n % 10 + 48) ∷ [])
    first = unfold numerals in rw (le-ltb n 10 h)

-- The same from below: one digit behind a number that is not 0.
pub decimal_more : (v d : ℕ) → 1 ≤ v → d < 10 → decimal (v * 10 + d) ≡ decimal v ++ ((d + 48) ∷ [])
decimal_more v d a b =
    let q : (v * 10 + d) / 10 ≡ v = omega arith in
    let r : (v * 10 + d) % 10 ≡ d = omega arith in
    decimal_step (v * 10 + d) (omega arith) ∙ rw (q, r)

-- READING WHAT WAS PRINTED

-- A digit moves the value on.
digits_on : (v d : ℕ) (rest : List ℕ) → d < 10 → digits v ((d + 48) ∷ rest) ≡ digits (v * 10 + d) rest
unfolding digits
digits_on v d rest h =
    let e : d + 48 - 48 ≡ d = omega arith in
    rw (digit (d + 48) (omega arith) (omega arith), e)

-- All printed digits move it to the number.
digits_numerals : (k n : ℕ) (rest : List ℕ) → n < k → digits 0 (numerals k n ++ rest) ≡ digits n rest
unfolding numerals
digits_numerals zero n rest h = absurd (omega arith)
digits_numerals (suc k) n rest h =
    elim (dec_le 10 n) [
      | yes g ↦
          let e : n / 10 * 10 + n % 10 ≡ n = omega arith in
          rw (le-ltb n 10 g, append_assoc, digits_numerals k (n / 10) ((n % 10 + 48) ∷ rest) (omega arith), digits_on (n / 10) (n % 10) rest (omega arith), e)
      | no g ↦
          let e : 0 * 10 + n ≡ n = omega arith in
          rw (lt-ltb n 10 (omega arith), digits_on 0 n rest (omega arith), e)
    ]

-- The first digit of a number that is not 0.
pub record Starts (l : List ℕ) : Type 0 where
  pub head : ℕ
  pub tail : List ℕ
  pub whole : l ≡ head ∷ tail
  pub low : 49 ≤ head
  pub high : head ≤ 57

-- It stands there with anything behind the number.
starts_append : (l r : List ℕ) → Starts l → Starts (l ++ r)
starts_append l r s = record { head = s.head; tail = s.tail ++ r; whole = rw s.whole; low = s.low; high = s.high }

-- A printed number that is not 0 has one.
starts_numerals : (k n : ℕ) → n < k → 1 ≤ n → Starts (numerals k n)
unfolding numerals
starts_numerals zero n h g = absurd (omega arith)
starts_numerals (suc k) n h g =
    elim (dec_le 10 n) [
      | yes a ↦ rw (le-ltb n 10 a) (starts_append (numerals k (n / 10)) ((n % 10 + 48) ∷ []) (starts_numerals k (n / 10) (omega arith) (omega arith)))
      | no a ↦ rw (lt-ltb n 10 (omega arith)) (record { head = n + 48; tail = []; whole = refl; low = omega arith; high = omega arith })
    ]

-- What follows a number begins with no digit.
abbrev pub Apart : List ℕ → Type 0
Apart [] = Unit
Apart (b ∷ bs) = is_digit b ≡ false

-- There the digits end.
digits_apart : (n : ℕ) (rest : List ℕ) → Apart rest → digits n rest ≡ some n rest
unfolding digits
digits_apart n [] h = refl
digits_apart n (b ∷ bs) h = rw h

-- A number is read from its decimal text.
pub number_decimal : (n : ℕ) (rest : List ℕ) → Apart rest → number (decimal n ++ rest) ≡ some n rest
unfolding number decimal
number_decimal zero rest h = unfold numerals in refl
number_decimal (suc n) rest h =
    let s : Starts (numerals (suc (suc n)) (suc n)) = starts_numerals (suc (suc n)) (suc n) (omega arith) (omega arith) in
    let e : digits 0 (s.head ∷ (s.tail ++ rest)) ≡ digits (suc n) rest = rw s.whole at (digits_numerals (suc (suc n)) (suc n) rest (omega arith)) in
    let z : 0 * 10 + (s.head - 48) ≡ s.head - 48 = omega arith in
    let f : digits (s.head - 48) (s.tail ++ rest) ≡ digits (suc n) rest = rw z at (shown s.head (s.tail ++ rest) s.low s.high ∙ e) in
    let d : is_digit s.head ≡ true = digit s.head (omega (arith, s.low)) s.high in
    let x : eqb s.head 48 ≡ false = ne_eqb s.head 48 (λ q. omega (arith, s.low)) in
    rw (s.whole, d, x) (f ∙ digits_apart (suc n) rest h)
  where
    shown : (b : ℕ) (r : List ℕ) → 49 ≤ b → b ≤ 57 → digits (0 * 10 + (b - 48)) r ≡ digits 0 (b ∷ r)
    shown b r l u = unfold digits in rw (digit b (omega arith) u)

-- PRINTING WHAT WAS READ

-- Two readings that are the same have the same number and rest, and none is no number.
some_eq : {m n : ℕ} {a b : List ℕ} → some m a ≡ some n b → (m ≡ n) × (a ≡ b)
some_eq {m} {n} {a} {b} e = (cc, cc)

pub never_some : {A : Type 0} {n : ℕ} {b : List ℕ} → none ≡ some n b → A
never_some e = let z : ◌≡◌ {A = ℕ} 0 1 = cc in absurd (omega arith)

-- The digits that were read are those of the number.
digits_sound : (l : List ℕ) (v n : ℕ) (bs : List ℕ) → 1 ≤ v → digits v l ≡ some n bs → decimal v ++ l ≡ decimal n ++ bs
unfolding digits
digits_sound [] v n bs h e = let (p, q) = some_eq e in rw (p, q)
digits_sound (b ∷ l) v n bs h e = go (is_digit b) refl (digits_sound l (v * 10 + (b - 48)) n bs (omega arith)) e
  where
    go : (t : Bool) → is_digit b ≡ t → (digits (v * 10 + (b - 48)) l ≡ some n bs → decimal (v * 10 + (b - 48)) ++ l ≡ decimal n ++ bs) →
        pick t (digits (v * 10 + (b - 48)) l) (some v (b ∷ l)) ≡ some n bs → decimal v ++ (b ∷ l) ≡ decimal n ++ bs
    go true d ih e =
        let r : (48 ≤ b) × (b ≤ 57) = digit_range b d in
        let x : b - 48 + 48 ≡ b = omega arith in
        let m : decimal (v * 10 + (b - 48)) ++ l ≡ decimal v ++ (b ∷ l) = rw (decimal_more v (b - 48) h (omega arith), x, append_assoc) in
        sym m ∙ ih e
    go false d ih e = let (p, q) = some_eq e in rw (p, q)

-- A number is read from its decimal text only.
pub decimal_number : (l : List ℕ) (n : ℕ) (bs : List ℕ) → number l ≡ some n bs → l ≡ decimal n ++ bs
unfolding number
decimal_number [] n bs e = never_some e
decimal_number (b ∷ l) n bs e = go (is_digit b) (eqb b 48) refl refl e
  where
    go : (t u : Bool) → is_digit b ≡ t → eqb b 48 ≡ u → pick t (pick u (some 0 l) (digits (b - 48) l)) none ≡ some n bs → b ∷ l ≡ decimal n ++ bs
    go true true d z e =
        let (p, q) = some_eq e in
        let x : b ≡ 48 = eqb-true b 48 z in
        rw (← p, ← q, x) (unfold decimal numerals in refl)
    go true false d z e =
        let r : (48 ≤ b) × (b ≤ 57) = digit_range b d in
        let f : b ≡ 48 → ⊥ = eqb-false b 48 z in
        let g : ¬ (b ≡ 48) = f in
        let x : b - 48 + 48 ≡ b = omega arith in
        let m : decimal (b - 48) ≡ b ∷ [] = decimal_digit (b - 48) (omega arith) ∙ rw x in
        let s : decimal (b - 48) ++ l ≡ decimal n ++ bs = digits_sound l (b - 48) n bs (omega arith) e in
        ap (λ y. y ++ l) (sym m) ∙ s
    go false u d z e = never_some e

-- HOW LONG

-- A power of ten.
unfoldable pub tens : ℕ → ℕ
tens zero = 1
tens (suc k) = 10 * tens k

-- A number below a power of ten has no more digits than that.
pub decimal_length : (k n : ℕ) → n < tens (suc k) → length (decimal n) ≤ suc k
unfolding tens
decimal_length zero n h = rw (decimal_digit n (omega arith)) (omega arith)
decimal_length (suc k) n h =
    elim (dec_le 10 n) [
      | yes g ↦ rw (decimal_step n g, length-append) (omega (arith, decimal_length k (n / 10) (omega arith)))
      | no g ↦ rw (decimal_digit n (omega arith)) (omega arith)
    ]
