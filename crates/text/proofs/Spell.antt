-- Lines: a form is read from the text that spells it, and that text is one line.
-- Assumes nothing.
use Prim.Native.Nat.{ℕ, zero, suc, ◌+◌, ◌/◌, ◌%◌, ◌≤◌, ◌<◌}
use mathlib.Core.Path.{◌≡◌, refl, ◌∙◌}
use mathlib.Core.List.{List, [], ◌∷◌, ◌++◌, append_assoc}
use mathlib.Core.Bool.{Bool, true, false, cond as pick}
use native.Mathlib.Omega.{arith}
use native.Mathlib.Decide.{dec_le}
use lib.Dec.{eqb}
use borrow.Author.Tests.{lt-ltb, le-ltb, ne_eqb, eqb-true}
use Rattle.model.specs.declared.Edition.TheVariants.{First, Second}
use Rattle.text.specs.declared.Form.{Form}
use Rattle.text.specs.declared.Form.TheVariants.{Task, Fun, Then, Else, Close, Leaf, Call, Loop, If}
use Rattle.text.specs.Text.{joined, lines}
use Rattle.text.specs.Patterns.{is_upper, number, some, item, fit_kind, fit_number, miss, ended, matched}
use Rattle.text.specs.Grammar.{form, line_form}
use Rattle.text.specs.Spelling.{numerals, decimal, kind_text, spell}
use Rattle.text.proofs.Decimal.{Apart, never_some, number_decimal}

-- LINES OF A TEXT

-- Whether a text is empty.
unfoldable pub nothing : List ℕ → Bool
nothing [] = true
nothing (b ∷ bs) = false

-- Whether a line feed stands at the end of a text, and nowhere else.
unfoldable pub ends : List ℕ → Bool
ends [] = false
ends (b ∷ bs) = pick (eqb b 10) (nothing bs) (ends bs)

-- Such a text is the first line of any that begins with it.
pub lines_one : (l t : List ℕ) → ends l ≡ true → lines (l ++ t) ≡ l ∷ lines t
unfolding lines ends nothing
lines_one [] t e = let z : ◌≡◌ {A = ℕ} 0 1 = cc in absurd (omega arith)
lines_one (b ∷ bs) t e = go bs (eqb b 10) refl (lines_one bs t) e
  where
    go : (bs : List ℕ) (u : Bool) → eqb b 10 ≡ u → (ends bs ≡ true → lines (bs ++ t) ≡ bs ∷ lines t) → pick u (nothing bs) (ends bs) ≡ true →
        joined b (eqb b 10) (lines (bs ++ t)) ≡ (b ∷ bs) ∷ lines t
    go [] true f ih e = rw f
    go (c ∷ bs) true f ih e = let z : ◌≡◌ {A = ℕ} 0 1 = cc in absurd (omega arith)
    go [] false f ih e = let z : ◌≡◌ {A = ℕ} 0 1 = cc in absurd (omega arith)
    go (c ∷ bs) false f ih e = rw (f, ih e)

-- Printed numbers, and kinds, have no line feed.
ends_numerals : (k n : ℕ) (r : List ℕ) → n < k → ends (numerals k n ++ r) ≡ ends r
unfolding numerals
ends_numerals zero n r h = absurd (omega arith)
ends_numerals (suc k) n r h =
    elim (dec_le 10 n) [
      | yes g ↦ rw (le-ltb n 10 g, append_assoc, ends_numerals k (n / 10) ((n % 10 + 48) ∷ r) (omega arith)) (far (n % 10 + 48) (omega arith))
      | no g ↦ rw (lt-ltb n 10 (omega arith)) (far (n + 48) (omega arith))
    ]
  where
    far : (b : ℕ) → 48 ≤ b → ends (b ∷ r) ≡ ends r
    far b h = unfold ends in rw (ne_eqb b 10 (λ e. omega arith))

pub ends_decimal : (n : ℕ) (r : List ℕ) → ends (decimal n ++ r) ≡ ends r
unfolding decimal
ends_decimal n r = ends_numerals (suc n) n r (omega arith)

ends_costs : (c m : ℕ) (r : List ℕ) → ends (decimal c ++ (32 ∷ (decimal m ++ r))) ≡ ends r
ends_costs c m r = ends_decimal c (32 ∷ (decimal m ++ r)) ∙ (unfold ends in ends_decimal m r)

ends_kind : (k : Bool) (r : List ℕ) → ends (kind_text k ++ r) ≡ ends r
unfolding ends
ends_kind true r = refl
ends_kind false r = refl

-- The text of a form is a line.
ends_spell : (f : Form) → ends (spell f) ≡ true
unfolding spell ends nothing
ends_spell (Task d t First) = ends_costs d t (10 ∷ [])
ends_spell (Task d t (Second u)) = ends_decimal d _ ∙ ends_costs t u (10 ∷ [])
ends_spell Fun = refl
ends_spell Then = refl
ends_spell Else = refl
ends_spell Close = refl
ends_spell (Leaf k c m) = ends_kind k _ ∙ ends_costs c m (41 ∷ 10 ∷ [])
ends_spell (Call k f c m) = ends_kind k _ ∙ ends_decimal f _ ∙ ends_costs c m (41 ∷ 10 ∷ [])
ends_spell (Loop k b c m) = ends_kind k _ ∙ ends_decimal b _ ∙ ends_costs c m (10 ∷ [])
ends_spell (If k c m) = ends_kind k _ ∙ ends_costs c m (10 ∷ [])

-- The text of a form in front of a text is its first line.
pub lines_spelled : (f : Form) (t : List ℕ) → lines (spell f ++ t) ≡ spell f ∷ lines t
lines_spelled f t = lines_one (spell f) t (ends_spell f)

-- READING A SPELLED FORM

-- What begins with a number does not begin with a line feed.
number_feed : (b : ℕ) (l : List ℕ) (n : ℕ) (r : List ℕ) → number (b ∷ l) ≡ some n r → eqb b 10 ≡ false
unfolding number
number_feed b l n r h = go (eqb b 10) refl
  where
    go : (t : Bool) → eqb b 10 ≡ t → t ≡ false
    go true e = never_some (rw (eqb-true b 10 e) at h)
    go false e = refl

-- A number sign of a pattern takes a printed number.
pub item_decimal : (t n : ℕ) (r : List ℕ) → eqb t 75 ≡ false → is_upper t ≡ true → Apart r → item t (decimal n ++ r) ≡ fit_number n r
unfolding item number
item_decimal t n r e u a = go (decimal n ++ r) (number_decimal n r a)
  where
    go : (l : List ℕ) → number l ≡ some n r → item t l ≡ fit_number n r
    go [] h = never_some h
    go (b ∷ l) h = rw (number_feed b l n r h, e, u, h)

-- The sign K takes a printed kind.
item_kind : (k : Bool) (r : List ℕ) → item 75 (kind_text k ++ r) ≡ fit_kind k r
unfolding item
item_kind true r = refl
item_kind false r = refl

-- Where something else than the line feed follows, a pattern does not end.
ended_not : (k : Bool) (b : ℕ) (bs : List ℕ) → eqb b 10 ≡ false → ended k (b ∷ bs) ≡ miss
ended_not k b [] e = rw e
ended_not k b (c ∷ bs) e = refl

-- A form is read from the text that spells it.
pub reads_spelled : (f : Form) → line_form (spell f) ≡ form f
unfolding line_form spell matched item
reads_spelled (Task d t First) =
    rw (
      item_decimal 68 d (32 ∷ (decimal t ++ (10 ∷ []))) refl refl refl,
      item_decimal 84 t (10 ∷ []) refl refl refl,
    )
reads_spelled (Task d t (Second u)) =
    rw (
      item_decimal 68 d (32 ∷ (decimal t ++ (32 ∷ (decimal u ++ (10 ∷ []))))) refl refl refl,
      item_decimal 84 t (32 ∷ (decimal u ++ (10 ∷ []))) refl refl refl,
      ended_not false 32 (decimal u ++ (10 ∷ [])) refl,
      item_decimal 85 u (10 ∷ []) refl refl refl,
    )
reads_spelled Fun = refl
reads_spelled Then = refl
reads_spelled Else = refl
reads_spelled Close = refl
reads_spelled (Leaf k c m) =
    rw (
      item_kind k (32 ∷ (decimal c ++ (32 ∷ (decimal m ++ (41 ∷ 10 ∷ []))))),
      item_decimal 67 c (32 ∷ (decimal m ++ (41 ∷ 10 ∷ []))) refl refl refl,
      item_decimal 77 m (41 ∷ 10 ∷ []) refl refl refl,
    )
reads_spelled (Call k f c m) =
    rw (
      item_kind k (32 ∷ (decimal f ++ (32 ∷ (decimal c ++ (32 ∷ (decimal m ++ (41 ∷ 10 ∷ []))))))),
      item_decimal 70 f (32 ∷ (decimal c ++ (32 ∷ (decimal m ++ (41 ∷ 10 ∷ []))))) refl refl refl,
      item_decimal 67 c (32 ∷ (decimal m ++ (41 ∷ 10 ∷ []))) refl refl refl,
      item_decimal 77 m (41 ∷ 10 ∷ []) refl refl refl,
    )
reads_spelled (Loop k b c m) =
    rw (
      item_kind k (32 ∷ (decimal b ++ (32 ∷ (decimal c ++ (32 ∷ (decimal m ++ (10 ∷ []))))))),
      item_decimal 66 b (32 ∷ (decimal c ++ (32 ∷ (decimal m ++ (10 ∷ []))))) refl refl refl,
      item_decimal 67 c (32 ∷ (decimal m ++ (10 ∷ []))) refl refl refl,
      item_decimal 77 m (10 ∷ []) refl refl refl,
    )
reads_spelled (If k c m) =
    rw (
      item_kind k (32 ∷ (decimal c ++ (32 ∷ (decimal m ++ (10 ∷ []))))),
      item_decimal 67 c (32 ∷ (decimal m ++ (10 ∷ []))) refl refl refl,
      item_decimal 77 m (10 ∷ []) refl refl refl,
    )
