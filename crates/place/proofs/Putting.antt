-- A row of numbers, one entry set and those above it cleared. Assumes nothing.
use mathlib.Core.Path.{◌≡◌, refl, ◌∙◌}
use mathlib.Core.List.{List, [], ◌∷◌, ◌++◌}
use Prim.Native.Nat.{ℕ, zero, suc, ◌+◌, ◌-◌, ◌≤◌}
use native.Mathlib.Omega.{arith}
use lib.ListN.{length, length-append, get_or, set, length-set, take, replicate}
use lib.Seq.{get_or-set_same, get_or-set_other}
use Rattle.std.proofs.lemmas.List.{get_or-take, get_or_append_left, get_or-append_right, length-take-le, get_or_past}
use Rattle.place.specs.Stack.{Put}

-- v put at l, with zeros behind it.
zeros_past : (m : ℕ) (zs : List ℕ) (j : ℕ) → length zs ≡ 0 → get_or (replicate m 0 ++ zs) j 0 ≡ 0
zeros_past zero [] j h = get_or_past [] j 0 (omega arith)
zeros_past zero (z ∷ zs) j h = absurd (omega arith)
zeros_past (suc m) zs zero h = refl
zeros_past (suc m) zs (suc j) h = zeros_past m zs j h

pub put_cleared : (a ys zs : List ℕ) (l v s m : ℕ) → s ≡ l + 1 → length a ≡ 33 → l ≤ 32 → ys ≡ replicate m 0 → length zs ≡ 0 →
    s + length ys ≡ 33 → Put a (take s (set a l v) ++ (ys ++ zs)) l v
put_cleared a ys zs l v s m q n h e z f =
    let b = set a l v in
    let k : length (take s b) ≡ s = length-take-le s b (omega (arith, length-set a l v)) in
    record {
      old_33 = n;
      new_33 = omega (arith, length-append (take s b) (ys ++ zs), length-append ys zs, k, z, f);
      under = λ j lt. get_or_append_left (take s b) (ys ++ zs) 0 j (omega arith) ∙ get_or-take s b j 0 (omega arith) ∙ get_or-set_other a l j v 0 (λ y. omega arith);
      here = get_or_append_left (take s b) (ys ++ zs) 0 l (omega arith) ∙ get_or-take s b l 0 (omega arith) ∙ get_or-set_same a l v 0 (omega arith);
      above = λ j lt. get_or-append_right (take s b) (ys ++ zs) s j 0 k (omega arith) ∙ rw e (zeros_past m zs (j - s) z);
    }
