-- Numbers that are all 0, by an or over them, and those of a list from some place on. Assumes nothing.
use mathlib.Core.Path.{◌≡◌, refl, sym, ap, ◌∙◌}
use mathlib.Core.Bool.{Bool}
use mathlib.Core.List.{List, [], ◌∷◌}
use Prim.Native.Nat.{ℕ, zero, suc, ◌+◌, ◌-◌, ◌≤◌, ◌<◌}
use native.Mathlib.Omega.{arith}
use native.Mathlib.Decide.{dec_le}
use lib.ListN.{length, get_or, take, drop}
use borrow.Author.Tests.{eqb-true, eqb-false}
use Rattle.std.specs.Prelude.{eqb, bit_or, fold}
use Rattle.std.specs.Int.Bits.{or_zero_r}
use Rattle.std.proofs.lemmas.Nat.{le_or_l, le_or_r}
use Rattle.std.proofs.lemmas.List.{get_or-take, get_or-drop, length-take, length-drop, get_or_past}
use Rattle.rows.specs.Answers.{Says}
use Rattle.rows.proofs.Answers.{says, same_answer}

-- An or over numbers is 0 exactly where all of them are.
zero_or : (xs : List ℕ) (v : ℕ) → fold bit_or v xs ≡ 0 → (v ≡ 0) × ((k : ℕ) → get_or xs k 0 ≡ 0)
zero_or [] v e = (e, λ k. get_or_past [] k 0 (omega arith))
zero_or (x ∷ xs) v e =
    let (z, h) = zero_or xs (bit_or v x) e in
    (omega (arith, le_or_l v x), λ k. at k h (omega (arith, le_or_r v x)))
  where
    at : (k : ℕ) → ((j : ℕ) → get_or xs j 0 ≡ 0) → x ≡ 0 → get_or (x ∷ xs) k 0 ≡ 0
    at zero h e = e
    at (suc k) h e = h k

or_zero : (xs : List ℕ) → ((k : ℕ) → get_or xs k 0 ≡ 0) → fold bit_or 0 xs ≡ 0
or_zero [] h = refl
or_zero (x ∷ xs) h = ap (λ v. fold bit_or v xs) (ap (bit_or 0) (h 0) ∙ or_zero_r 0) ∙ or_zero xs (λ k. h (suc k))

pub or_says : (xs : List ℕ) (v : ℕ) → v ≡ fold bit_or 0 xs → Says (eqb v 0) ((k : ℕ) → get_or xs k 0 ≡ 0)
or_says xs v e = says (eqb v 0) (λ t. (zero_or xs 0 (sym e ∙ eqb-true v 0 t)).1) (λ f h. eqb-false v 0 f (e ∙ or_zero xs h))

-- The entries of a list from n on, as a slice of it holds them.
pub zeros_from : (r : Bool) (a : List ℕ) (n m : ℕ) → n + m ≡ length a → Says r ((k : ℕ) → get_or (take m (drop n a)) k 0 ≡ 0) →
    Says r ((k : ℕ) → n ≤ k → k < length a → get_or a k 0 ≡ 0)
zeros_from r a n m e =
    same_answer r
    (λ all k le lt. let j : n + (k - n) ≡ k = omega arith in rw j at (sym (here (k - n) (omega arith)) ∙ all (k - n)))
    (λ all k. elim (dec_le m k) [
      | yes g ↦ get_or_past (take m (drop n a)) k 0 (omega (arith, length-take m (drop n a), length-drop n a))
      | no g ↦ here k (omega arith) ∙ all (n + k) (omega arith) (omega arith)
    ])
  where
    here : (k : ℕ) → k < m → get_or (take m (drop n a)) k 0 ≡ get_or a (n + k) 0
    here k h = get_or-take m (drop n a) k 0 h ∙ get_or-drop n a k 0
