-- The records of a plan: how many there are, and how they grow function by function. Assumes nothing.
use Prim.Native.Nat.{ℕ, ◌+◌, ◌*◌}
use mathlib.Core.Path.{◌≡◌, refl, sym, ap, ◌∙◌}
use mathlib.Core.List.{List, [], ◌∷◌, ◌++◌, append_assoc, append-nil}
use native.Mathlib.Omega.{arith}
use lib.ListN.{length, get_or, length-append}
use Rattle.model.specs.Plan.{Lines, close, leaf_line, call_line, loop_line, if_line}
use Rattle.model.specs.Acceptance.{size, sizes}
use Rattle.rows.specs.Records.{records, records_all, bounds}

-- Eight numbers for each leaf.
pub records_length : (L : ℕ) (l : Lines) (n : ℕ) → length (records L l n) ≡ 8 * size l
unfolding records size
records_length L close n = refl
records_length L (leaf_line b rest) n = omega (arith, records_length L rest (n + 1))
records_length L (call_line b f rest) n = omega (arith, records_length L rest (n + 1))
records_length L (loop_line b m body rest) n =
    rw (length-append (records (L + 1) body (n + 1)) (records L rest (n + 1 + size body)))
    (omega (arith, records_length (L + 1) body (n + 1), records_length L rest (n + 1 + size body)))
records_length L (if_line b then else rest) n =
    rw (
      length-append (records L then (n + 1)) (records L else (n + 1 + size then) ++ records L rest (n + 1 + size then + size else)),
      length-append (records L else (n + 1 + size then)) (records L rest (n + 1 + size then + size else)),
    )
    (omega (arith, records_length L then (n + 1), records_length L else (n + 1 + size then), records_length L rest (n + 1 + size then + size else)))

pub records_all_length : (n : ℕ) (ls : List Lines) → length (records_all n ls) ≡ 8 * sizes ls
unfolding records_all sizes
records_all_length n [] = refl
records_all_length n (l ∷ ls) =
    rw (length-append (records 1 l n) (records_all (n + size l) ls)) (omega (arith, records_length 1 l n, records_all_length (n + size l) ls))

-- One bound for each function, and one for the end.
pub bounds_length : (n : ℕ) (ls : List Lines) → length (bounds n ls) ≡ length ls + 1
unfolding bounds
bounds_length n [] = refl
bounds_length n (l ∷ ls) = omega (arith, bounds_length (n + size l) ls)

-- One function more.
pub records_all_snoc : (n : ℕ) (ls : List Lines) (l : Lines) (m : ℕ) → m ≡ n + sizes ls → records_all n (ls ++ (l ∷ [])) ≡ records_all n ls ++ records 1 l m
unfolding records_all sizes
records_all_snoc n [] l m e = append-nil (records 1 l n) ∙ ap (records 1 l) (omega arith)
records_all_snoc n (k ∷ ls) l m e =
    ap (λ r. records 1 k n ++ r) (records_all_snoc (n + size k) ls l m (omega arith)) ∙ sym (append_assoc (records 1 k n) (records_all (n + size k) ls) (records 1 l m))

pub bounds_snoc : (n : ℕ) (ls : List Lines) (l : Lines) (m : ℕ) → m ≡ n + sizes ls + size l → bounds n (ls ++ (l ∷ [])) ≡ bounds n ls ++ (m ∷ [])
unfolding bounds sizes
bounds_snoc n [] l m e = ap (λ x. n ∷ x ∷ []) (omega arith)
bounds_snoc n (k ∷ ls) l m e = ap (λ r. n ∷ r) (bounds_snoc (n + size k) ls l m (omega arith))

-- The last bound is the number of leaves.
pub bounds_last : (n : ℕ) (ls : List Lines) → get_or (bounds n ls) (length ls) 0 ≡ n + sizes ls
unfolding bounds sizes
bounds_last n [] = omega arith
bounds_last n (l ∷ ls) = omega (arith, bounds_last (n + size l) ls)
