-- Sums held at the ceiling: a part that is held already changes nothing. Assumes nothing.
use mathlib.Core.Path.{◌≡◌, sym, ap, ◌∙◌}
use Prim.Native.Nat.{ℕ, zero, suc, ◌+◌, ◌*◌, ◌≤◌, max}
use native.Mathlib.Nat.{suc-mul, zero-mul}
use native.Mathlib.Decide.{dec_le}
use native.Mathlib.Omega.{arith}
use Rattle.model.specs.Plan.{Block}
use Rattle.model.specs.Acceptance.{Costs}
use Rattle.rows.specs.declared.Cost.{Cost}
use Rattle.rows.specs.declared.Cost.TheVariants.{Isolated, MaxLoad}
use Rattle.rows.specs.Costs.{limit, cost_in}
use Rattle.columns.specs.Sums.{cap}

pub cap_loop : (c n x : ℕ) → cap (c + n * (cap x + c)) ≡ cap (c + n * (x + c))
cap_loop c zero x = omega (arith, zero-mul (cap x + c), zero-mul (x + c))
cap_loop c (suc n) x =
    elim (dec_le x 2199023255552) [
      | yes h ↦ let e : cap x ≡ x = omega arith in ap (λ (y : ℕ). cap (c + suc n * (y + c))) e
      | no h ↦ omega (arith, suc-mul n (cap x + c), suc-mul n (x + c))
    ]

cap_max : (c a b : ℕ) → cap (c + max (cap a) (cap b)) ≡ cap (c + max a b)
cap_max c a b = omega arith

-- A number is over the limit exactly when it is over it as held.
pub cap_low : (n : ℕ) → cap n ≤ limit → cap n ≡ n
cap_low n h = omega arith

-- A leaf's cost is within its range.
pub cost_le : (c : Cost) (b : Block) → Costs b → cost_in c b ≤ 1048576
cost_le Isolated b q = omega (arith, q.isolated_range)
cost_le MaxLoad b q = omega (arith, q.max_load_range)

pub cap_both : (a a' b b' : ℕ) → cap a ≡ cap a' → cap b ≡ cap b' → cap (a + b) ≡ cap (a' + b')
cap_both a a' b b' p q = omega arith

pub cap_more : (c a a' b b' : ℕ) → cap a ≡ cap a' → cap b ≡ cap b' → cap (c + max a b) ≡ cap (c + max a' b')
cap_more c a a' b b' p q = sym (cap_max c a b) ∙ rw (p, q) (cap_max c a' b')

pub cap_rounds : (c n a a' : ℕ) → cap a ≡ cap a' → cap (c + n * (a + c)) ≡ cap (c + n * (a' + c))
cap_rounds c n a a' p = sym (cap_loop c n a) ∙ rw p (cap_loop c n a')
