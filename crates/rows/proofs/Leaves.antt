-- Leaf records as numbers. Assumes nothing.
use mathlib.Core.List.{List, [], ◌∷◌, ◌++◌}
use mathlib.Core.Path.{◌≡◌, refl, ap, sym, ◌∙◌}
use Prim.Native.Nat.{ℕ, zero, suc, ◌+◌, ◌*◌, ◌<◌}
use native.Mathlib.Omega.{arith}
use lib.ListN.{length, get_or, set, take}
use lib.Seq.{sets}
use Rattle.rows.specs.declared.Leaf.{Leaf}
use Rattle.rows.specs.Leaves.{fields, numbers, lent_turns, lent_tails, lent_max_load_turns, blank_leaf}
use Rattle.rows.specs.Rows.{field}

-- Every leaf has eight numbers.
pub numbers_length : (ls : List Leaf) → length (numbers ls) ≡ length ls * 8
numbers_length [] = refl
numbers_length (l ∷ ls) = omega (arith, numbers_length ls)

-- The fields of the leaves behind the first.
field_behind : (l : Leaf) (ls : List Leaf) (i k : ℕ) → field (numbers (l ∷ ls)) (suc i) k ≡ field (numbers ls) i k
field_behind l ls i k =
    let z : suc i * 8 + k ≡ suc (suc (suc (suc (suc (suc (suc (suc (i * 8 + k)))))))) = omega arith in
    ap (λ (n : ℕ). get_or (numbers (l ∷ ls)) n 0) z

field_first : (l : Leaf) (ls : List Leaf) (k : ℕ) → k < 8 → get_or (numbers (l ∷ ls)) k 0 ≡ get_or (fields l) k 0
field_first l ls zero h = refl
field_first l ls (suc zero) h = refl
field_first l ls (suc (suc zero)) h = refl
field_first l ls (suc (suc (suc zero))) h = refl
field_first l ls (suc (suc (suc (suc zero)))) h = refl
field_first l ls (suc (suc (suc (suc (suc zero))))) h = refl
field_first l ls (suc (suc (suc (suc (suc (suc zero)))))) h = refl
field_first l ls (suc (suc (suc (suc (suc (suc (suc zero))))))) h = refl
field_first l ls (suc (suc (suc (suc (suc (suc (suc (suc k)))))))) h = absurd (omega arith)

field_none : (k : ℕ) → k < 8 → 0 ≡ get_or (fields blank_leaf) k 0
field_none zero h = refl
field_none (suc zero) h = refl
field_none (suc (suc zero)) h = refl
field_none (suc (suc (suc zero))) h = refl
field_none (suc (suc (suc (suc zero)))) h = refl
field_none (suc (suc (suc (suc (suc zero))))) h = refl
field_none (suc (suc (suc (suc (suc (suc zero)))))) h = refl
field_none (suc (suc (suc (suc (suc (suc (suc zero))))))) h = refl
field_none (suc (suc (suc (suc (suc (suc (suc (suc k)))))))) h = absurd (omega arith)

-- The field k of the leaf i is number k of its eight.
pub field_of : (ls : List Leaf) (i k : ℕ) → k < 8 → field (numbers ls) i k ≡ get_or (fields (get_or ls i blank_leaf)) k 0
field_of [] i k h = field_none k h
field_of (l ∷ ls) zero k h = let z : 0 * 8 + k ≡ k = omega arith in ap (λ (n : ℕ). get_or (numbers (l ∷ ls)) n 0) z ∙ field_first l ls k h
field_of (l ∷ ls) (suc i) k h = field_behind l ls i k ∙ field_of ls i k h

-- Its turn, tail and max-load turn.
pub turn_of : (ls : List Leaf) (i : ℕ) → get_or (lent_turns ls) i 0 ≡ (get_or ls i blank_leaf).turn
turn_of [] i = refl
turn_of (l ∷ ls) zero = refl
turn_of (l ∷ ls) (suc i) = turn_of ls i

pub tail_of : (ls : List Leaf) (i : ℕ) → get_or (lent_tails ls) i 0 ≡ (get_or ls i blank_leaf).tail
tail_of [] i = refl
tail_of (l ∷ ls) zero = refl
tail_of (l ∷ ls) (suc i) = tail_of ls i

pub max_load_turn_of : (ls : List Leaf) (i : ℕ) → get_or (lent_max_load_turns ls) i 0 ≡ (get_or ls i blank_leaf).max_load_turn
max_load_turn_of [] i = refl
max_load_turn_of (l ∷ ls) zero = refl
max_load_turn_of (l ∷ ls) (suc i) = max_load_turn_of ls i

-- The raw row of the first n leaves, and of leaves behind others.
pub numbers_take : (n : ℕ) (ls : List Leaf) → numbers (take n ls) ≡ take (n * 8) (numbers ls)
numbers_take zero ls = refl
numbers_take (suc n) [] = sym (take_none (suc n * 8))
  where
    take_none : (k : ℕ) → take {A = ℕ} k [] ≡ []
    take_none zero = refl
    take_none (suc k) = refl
numbers_take (suc n) (l ∷ ls) =
    let z : suc n * 8 ≡ suc (suc (suc (suc (suc (suc (suc (suc (n * 8)))))))) = omega arith in
    let y : take (suc n * 8) (numbers (l ∷ ls)) ≡ fields l ++ take (n * 8) (numbers ls) = ap (λ (k : ℕ). take k (numbers (l ∷ ls))) z in
    ap (λ (r : List ℕ). fields l ++ r) (numbers_take n ls) ∙ sym y

pub numbers_append : (ls ms : List Leaf) → numbers (ls ++ ms) ≡ numbers ls ++ numbers ms
numbers_append [] ms = refl
numbers_append (l ∷ ls) ms = ap (λ (r : List ℕ). fields l ++ r) (numbers_append ls ms)

-- The raw row once the leaf i is another: its eight numbers are stored.
pub numbers_set : (ls : List Leaf) (i : ℕ) (l : Leaf) → i < length ls → numbers (set ls i l) ≡ sets (numbers ls) (i * 8) (fields l)
numbers_set [] i l h = absurd (omega arith)
numbers_set (m ∷ ls) zero l h = refl
numbers_set (m ∷ ls) (suc i) l h =
    let z : suc i * 8 ≡ suc (suc (suc (suc (suc (suc (suc (suc (i * 8)))))))) = omega arith in
    ap (λ (r : List ℕ). fields m ++ r) (numbers_set ls i l (omega arith)) ∙ ap (λ (k : ℕ). sets (numbers (m ∷ ls)) k (fields l)) (sym z)
