-- Tests that hold exactly when what they test does.
use mathlib.Core.Bool.{Bool, true, false}
use mathlib.Core.Logic.{◌↔◌}
use mathlib.Core.Path.{◌≡◌, refl}
use Prim.Native.Nat.{ℕ}
use native.Mathlib.Omega.{arith}

-- What is tested does not hold where the test fails.
pub failed : {A : Type 0} (b : Bool) → (b ≡ true) ↔ A → b ≡ false → ¬ A
failed b e f a = let t : b ≡ true = e.1 a in let z : ◌≡◌ {A = ℕ} 0 1 = cc in omega arith

-- The test fails where what is tested does not hold.
pub fails : {A : Type 0} (b : Bool) → (b ≡ true) ↔ A → ¬ A → b ≡ false
fails true e f = absurd (f (e.0 refl))
fails false e f = refl
