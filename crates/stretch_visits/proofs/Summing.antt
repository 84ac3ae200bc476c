-- The sum of a function over numbers, each as often as a list says, and how it grows with the list. Plain mathematics: no code is named here. Assumes nothing.
use mathlib.Core.Path.{◌≡◌, refl, ap}
use mathlib.Core.List.{List, [], ◌∷◌}
use Prim.Native.Nat.{ℕ, zero, suc, ◌+◌, ◌*◌, ◌≤◌, ◌<◌}
use native.Mathlib.Omega.{arith}
use lib.ListN.{length, get_or, set, replicate}
use Rattle.std.proofs.lemmas.Nat.{mul-le}
use Rattle.std.proofs.lemmas.List.{get_or-set_other}
use Rattle.stretch_visits.specs.Private.{dot, Grown}

-- An entry is no more than the sum, where it counts.
pub dot_one : (xs : List ℕ) (i : ℕ) (f : ℕ → ℕ) → get_or xs i 0 * f i ≤ dot xs f
unfolding dot
dot_one [] i f = omega arith
dot_one (x ∷ xs) zero f = omega arith
dot_one (x ∷ xs) (suc i) f = omega (arith, dot_one xs i (λ j. f (suc j)))

pub dot_zero : (n : ℕ) (f : ℕ → ℕ) → dot (replicate n 0) f ≡ 0
unfolding dot
dot_zero zero f = refl
dot_zero (suc n) f = omega (arith, dot_zero n (λ j. f (suc j)))

-- Numbers that are no more give no more.
pub dot_le : (xs : List ℕ) (f g : ℕ → ℕ) → ((i : ℕ) → f i ≤ g i) → dot xs f ≤ dot xs g
unfolding dot
dot_le [] f g h = omega arith
dot_le (x ∷ xs) f g h = omega (arith, mul-le x (f 0) x (g 0) (omega arith) (h 0), dot_le xs (λ j. f (suc j)) (λ j. g (suc j)) (λ j. h (suc j)))

-- One entry more.
pub dot_set : (xs : List ℕ) (i t : ℕ) (f : ℕ → ℕ) → i < length xs → dot (set xs i (get_or xs i 0 + t)) f ≡ dot xs f + t * f i
unfolding dot
dot_set [] i t f lt = absurd (omega arith)
dot_set (x ∷ xs) zero t f lt = omega arith
dot_set (x ∷ xs) (suc i) t f lt = omega (arith, dot_set xs i t (λ j. f (suc j)) (omega arith))

pub grown : {xs : List ℕ} {i times most : ℕ} → i < length xs → Grown i times most xs (set xs i (get_or xs i 0 + times))
grown {xs} {i} {times} lt = record { says = λ v h. dot_set xs i times v lt; others = λ j ne. get_or-set_other xs i j _ 0 ne }

-- One entry cleared.
pub dot_cleared : (xs : List ℕ) (i : ℕ) (f : ℕ → ℕ) → dot (set xs i 0) f + get_or xs i 0 * f i ≡ dot xs f
unfolding dot
dot_cleared [] i f = omega arith
dot_cleared (x ∷ xs) zero f = omega arith
dot_cleared (x ∷ xs) (suc i) f = omega (arith, dot_cleared xs i (λ j. f (suc j)))

pub dot_none : (xs : List ℕ) (f : ℕ → ℕ) → ((i : ℕ) → get_or xs i 0 ≡ 0) → dot xs f ≡ 0
unfolding dot
dot_none [] f h = refl
dot_none (x ∷ xs) f h = let z : x ≡ 0 = h 0 in omega (arith, ap (λ a. a * f 0) z, dot_none xs (λ j. f (suc j)) (λ i. h (suc i)))
