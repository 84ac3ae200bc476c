-- What the tests of a digit and of a line feed say of a byte. Assumes nothing.
use Prim.Native.Nat.{ℕ, ◌≤◌}
use mathlib.Core.Path.{◌≡◌}
use mathlib.Core.Bool.{true}
use native.Mathlib.Omega.{arith}
use Rattle.std.proofs.lemmas.Bool.Decides.{nat_tests}
use Rattle.text.specs.declared.Class.TheVariants.{LineFeed}
use Rattle.text.specs.Patterns.{class_of, is_digit}

-- A byte from 48 to 57 is a digit, and a digit is such a byte.
pub digit : (b : ℕ) → 48 ≤ b → b ≤ 57 → is_digit b ≡ true
digit b l h = grind (arith, nat_tests)

pub digit_range : (b : ℕ) → is_digit b ≡ true → (48 ≤ b) × (b ≤ 57)
digit_range b e = grind (arith, nat_tests)

-- A byte of the class of line feeds is the line feed.
pub class_feed : (b : ℕ) → class_of b ≡ LineFeed → b ≡ 10
class_feed b e = grind (arith, nat_tests)

-- A byte of another class is not.
pub class_no_feed : (b : ℕ) → (class_of b ≡ LineFeed → ⊥) → b ≡ 10 → ⊥
class_no_feed b f e = f (rw e)
