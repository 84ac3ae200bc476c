-- Stores of records one behind the other, in front of one another, and in the first part of a row; and how long a row of leaves stays.
use Prim.Native.Nat.{ℕ, suc, ◌+◌, ◌≤◌, ◌<◌}
use mathlib.Core.Path.{◌≡◌, refl, sym, ap, ◌∙◌}
use mathlib.Core.List.{List, [], ◌∷◌, ◌++◌}
use native.Mathlib.Omega.{arith}
use lib.ListN.{length, set, length-set}
use lib.Seq.{sets, set_comm}
use Rattle.std.proofs.lemmas.List.{length-map, set-append_left}
use Rattle.rows.specs.declared.Leaf.{Leaf}
use Rattle.reader.specs.Raw.{derived}

module _ {A : Type 0} where
  -- Stores behind stores.
  pub sets_behind : (xs ys l : List A) (a i : ℕ) → i ≡ a + length xs → sets (sets l a xs) i ys ≡ sets l a (xs ++ ys)
  sets_behind [] ys l a i e = let e' : i ≡ a = omega arith in rw e'
  sets_behind (x ∷ xs) ys l a i e = sets_behind xs ys (set l a x) (suc a) i (omega arith)

  -- one store in front of stores
  set_sets : (ys l : List A) (i j : ℕ) (x : A) → i < j → set (sets l j ys) i x ≡ sets (set l i x) j ys
  set_sets [] l i j x h = refl
  set_sets (y ∷ ys) l i j x h =
      set_sets ys (set l j y) i (suc j) x (omega arith) ∙ ap (λ (r : List A). sets r (suc j) ys) (set_comm l j i y x (omega arith))

  sets_sets : (xs ys l : List A) (a j : ℕ) → a + length xs ≤ j → sets (sets l j ys) a xs ≡ sets (sets l a xs) j ys
  sets_sets [] ys l a j h = refl
  sets_sets (x ∷ xs) ys l a j h =
      ap (λ (r : List A). sets r (suc a) xs) (set_sets ys l a j x (omega arith)) ∙ sets_sets xs ys (set l a x) (suc a) j (omega arith)

  -- Stores in front of stores.
  pub sets_before : (xs ys l : List A) (a j : ℕ) → j ≡ a + length xs → sets (sets l j ys) a xs ≡ sets l a (xs ++ ys)
  sets_before xs ys l a j e = sets_sets xs ys l a j (omega arith) ∙ sets_behind xs ys l a j e

  -- Stores in the first part.
  pub sets_first : (xs l m : List A) (a : ℕ) → a + length xs ≤ length l → sets (l ++ m) a xs ≡ sets l a xs ++ m
  sets_first [] l m a h = refl
  sets_first (x ∷ xs) l m a h =
      ap (λ (r : List A). sets r (suc a) xs) (set-append_left l m a x (omega arith)) ∙ sets_first xs (set l a x) m (suc a) (omega (arith, length-set l a x))

-- A row that keeps what is derived of its leaves is as long as before.
pub same_length : (ls ms : List Leaf) → derived ls ≡ derived ms → length ls ≡ length ms
same_length ls ms e =
    sym (length-map ls (λ (l : Leaf). l.turn)) ∙ (ap (λ (x : List ℕ × List ℕ × List ℕ). length x.0) e ∙ length-map ms (λ (l : Leaf). l.turn))
