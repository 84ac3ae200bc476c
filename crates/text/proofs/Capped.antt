-- Numbers held at a limit: a test against a smaller bound is the same as of the exact number.
-- Assumes nothing.
use Prim.Native.Nat.{ℕ, ◌≤◌, ◌<◌}
use mathlib.Core.Path.{◌≡◌, sym, ◌∙◌}
use native.Mathlib.Omega.{arith}
use native.Mathlib.Decide.{dec_le}
use lib.Dec.{leb}
use borrow.Author.Tests.{le-leb, lt-leb}
use Rattle.text.specs.Patterns.{capped}

-- Not above a bound.
pub cap_high : (limit a b : ℕ) → b < limit → leb (capped limit a) b ≡ leb a b
cap_high limit a b h =
    elim (dec_le a b) [
      | yes g ↦ le-leb (capped limit a) b (omega arith) ∙ sym (le-leb a b g)
      | no g ↦ lt-leb (capped limit a) b (omega arith) ∙ sym (lt-leb a b (omega arith))
    ]

-- Not 0.
pub cap_low : (limit a : ℕ) → 1 ≤ limit → leb 1 (capped limit a) ≡ leb 1 a
cap_low limit a h =
    elim (dec_le 1 a) [
      | yes g ↦ le-leb 1 (capped limit a) (omega arith) ∙ sym (le-leb 1 a g)
      | no g ↦ lt-leb 1 (capped limit a) (omega arith) ∙ sym (lt-leb 1 a (omega arith))
    ]

-- A number up to the limit is held as it is, and a greater one as the limit.
pub cap_same : (limit a : ℕ) → a ≤ limit → capped limit a ≡ a
cap_same limit a h = omega arith

pub cap_over : (limit a : ℕ) → limit < a → capped limit a ≡ limit
cap_over limit a h = omega arith
