-- What holds of each of some things. Assumes nothing.
use Prim.Native.Nat.{ℕ, zero, suc, ◌<◌}
use mathlib.Core.List.{List, [], ◌∷◌, ◌++◌}
use native.Mathlib.Omega.{arith}
use lib.ListN.{length, get_or}

-- P holds of each.
unfoldable pub Each : {A : Type 0} → (A → Type 0) → List A → Type 0
Each P [] = Unit
Each P (x ∷ xs) = P x × Each P xs

-- So of each of two lists,
pub each_append : {A : Type 0} (P : A → Type 0) (xs ys : List A) → Each P xs → Each P ys → Each P (xs ++ ys)
unfolding Each
each_append P [] ys f g = g
each_append P (x ∷ xs) ys f g = (f.0, each_append P xs ys f.1 g)

-- and of the one at a place.
pub each_at : {A : Type 0} (P : A → Type 0) (d : A) (xs : List A) → Each P xs → (i : ℕ) → i < length xs → P (get_or xs i d)
unfolding Each
each_at P d [] f i h = absurd (omega arith)
each_at P d (x ∷ xs) f zero h = f.0
each_at P d (x ∷ xs) f (suc i) h = each_at P d xs f.1 i (omega arith)
