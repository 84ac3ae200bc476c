-- Stores in a row, one after the other. Assumes nothing.
use mathlib.Core.Path.{◌≡◌, refl, ap, ◌∙◌}
use mathlib.Core.List.{List, [], ◌∷◌, ◌++◌}
use Prim.Native.Nat.{ℕ, zero, suc, ◌+◌, ◌≤◌, ◌<◌}
use native.Mathlib.Nat.{not-suc-le-zero, le_of_suc-le-suc}
use native.Mathlib.Omega.{arith}
use lib.ListN.{length, get_or, set, length-set}
use lib.Seq.{sets, get_or-set_same, get_or-set_other}
use Rattle.columns.specs.Columns.{Contains}

pub sets_behind : (xs ys l : List ℕ) (a i : ℕ) → i ≡ a + length xs → sets (sets l a xs) i ys ≡ sets l a (xs ++ ys)
sets_behind [] ys l a i e = let e' : i ≡ a = omega arith in rw e'
sets_behind (x ∷ xs) ys l a i e = sets_behind xs ys (set l a x) (suc a) i (omega arith)

-- A store of more numbers, by parts, the first part first.
pub sets_then : (xs ys l : List ℕ) (a i : ℕ) {l' l'' : List ℕ} → l' ≡ sets l a xs → l'' ≡ sets l' i ys → i ≡ a + length xs → l'' ≡ sets l a (xs ++ ys)
sets_then xs ys l a i p q e = q ∙ ap (λ (u : List ℕ). sets u i ys) p ∙ sets_behind xs ys l a i e

set_set : (l : List ℕ) (i j x y : ℕ) → i < j → set (set l j y) i x ≡ set (set l i x) j y
set_set [] i j x y h = refl
set_set (z ∷ l) zero zero x y h = absurd (omega arith)
set_set (z ∷ l) zero (suc j) x y h = refl
set_set (z ∷ l) (suc i) zero x y h = absurd (not-suc-le-zero h)
set_set (z ∷ l) (suc i) (suc j) x y h = ap (λ (u : List ℕ). z ∷ u) (set_set l i j x y (le_of_suc-le-suc h))

set_sets : (ys l : List ℕ) (i j x : ℕ) → i < j → set (sets l j ys) i x ≡ sets (set l i x) j ys
set_sets [] l i j x h = refl
set_sets (y ∷ ys) l i j x h = set_sets ys (set l j y) i (suc j) x (omega arith) ∙ ap (λ (u : List ℕ). sets u (suc j) ys) (set_set l i j x y h)

sets_sets : (xs ys l : List ℕ) (a j : ℕ) → a + length xs ≤ j → sets (sets l j ys) a xs ≡ sets (sets l a xs) j ys
sets_sets [] ys l a j h = refl
sets_sets (x ∷ xs) ys l a j h =
    ap (λ (u : List ℕ). sets u (suc a) xs) (set_sets ys l a j x (omega arith)) ∙ sets_sets xs ys (set l a x) (suc a) j (omega arith)

-- The same, the last part first.
pub sets_before : (xs ys l : List ℕ) (a j : ℕ) {l' l'' : List ℕ} → l' ≡ sets l j ys → l'' ≡ sets l' a xs → j ≡ a + length xs → l'' ≡ sets l a (xs ++ ys)
sets_before xs ys l a j p q e =
    q ∙ ap (λ (u : List ℕ). sets u a xs) p ∙ sets_sets xs ys l a j (omega arith) ∙ sets_behind xs ys l a j e

-- The first number last.
pub set_before : (v : ℕ) (ys l : List ℕ) (i j : ℕ) {l' : List ℕ} → l' ≡ sets l j ys → j ≡ i + 1 → set l' i v ≡ sets l i (v ∷ ys)
set_before v ys l i j p e = sets_before (v ∷ []) ys l i j p refl e

-- What stands in a row, by parts.
pub contains_append : (xs ys o : List ℕ) (i j : ℕ) → Contains o i (xs ++ ys) → j ≡ i + length xs → Contains o i xs × Contains o j ys
unfolding Contains
contains_append [] ys o i j h e = let e' : j ≡ i = omega arith in (tt, rw e' h)
contains_append (x ∷ xs) ys o i j h e = let r = contains_append xs ys o (suc i) j h.1 (omega arith) in ((h.0, r.0), r.1)

-- Numbers that stand one after the other stand there together.
pub contains_both : (xs ys o : List ℕ) (i j : ℕ) → j ≡ i + length xs → Contains o i xs → Contains o j ys → Contains o i (xs ++ ys)
unfolding Contains
contains_both [] ys o i j e h k = let z : j ≡ i = omega arith in rw z at k
contains_both (x ∷ xs) ys o i j e h k = (h.0, contains_both xs ys o (suc i) j (omega arith) h.1 k)

-- Stores read back, and stores elsewhere.
pub sets_below : (vs o : List ℕ) (i x : ℕ) → x < i → get_or (sets o i vs) x 0 ≡ get_or o x 0
sets_below [] o i x h = refl
sets_below (v ∷ vs) o i x h = sets_below vs (set o i v) (suc i) x (omega arith) ∙ get_or-set_other o i x v 0 (omega arith)

pub sets_above : (vs o : List ℕ) (i x : ℕ) → i + length vs ≤ x → get_or (sets o i vs) x 0 ≡ get_or o x 0
sets_above [] o i x h = refl
sets_above (v ∷ vs) o i x h = sets_above vs (set o i v) (suc i) x (omega arith) ∙ get_or-set_other o i x v 0 (omega arith)

pub contains_sets : (xs o : List ℕ) (i : ℕ) → i + length xs ≤ length o → Contains (sets o i xs) i xs
unfolding Contains
contains_sets [] o i h = tt
contains_sets (x ∷ xs) o i h = (
  sets_below xs (set o i x) (suc i) i (omega arith) ∙ get_or-set_same o i x 0 (omega arith),
  contains_sets xs (set o i x) (suc i) (omega (arith, length-set o i x)),
)

pub contains_same : (xs o o' : List ℕ) (i : ℕ) → ((j : ℕ) → j < i + length xs → get_or o' j 0 ≡ get_or o j 0) → Contains o i xs → Contains o' i xs
unfolding Contains
contains_same [] o o' i e h = tt
contains_same (x ∷ xs) o o' i e h = (e i (omega arith) ∙ h.0, contains_same xs o o' (suc i) (λ j l. e j (omega arith)) h.1)
