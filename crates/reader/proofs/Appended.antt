-- Forms after forms, and one function more: how leaves, heights and lines grow.
use Prim.Native.Nat.{ℕ, ◌+◌, max}
use mathlib.Core.Path.{◌≡◌, refl, ap, ◌∙◌}
use mathlib.Core.List.{List, [], ◌∷◌, ◌++◌, append_assoc}
use native.Mathlib.Omega.{arith}
use lib.ListN.{length, length-append}
use Rattle.model.specs.Plan.{Lines, close, leaf_line, call_line, loop_line, if_line}
use Rattle.model.specs.Levels.{height, heights}
use Rattle.model.specs.Acceptance.{size, sizes}
use Rattle.text.specs.declared.Form.TheVariants.{Fun, Then, Close}
use Rattle.reader.specs.Machine.{◌⧺◌}
use Rattle.reader.specs.Print.{leaf_form, call_form, loop_form, if_form, forms_in, forms_all}

-- Forms after forms after forms, in any grouping.
pub ⧺-assoc : (x y z : Lines) → ◌⧺◌ (x ⧺ y) z ≡ x ⧺ (y ⧺ z)
unfolding ◌⧺◌
⧺-assoc close y z = refl
⧺-assoc (leaf_line b rest) y z = ap (leaf_line b) (⧺-assoc rest y z)
⧺-assoc (call_line b f rest) y z = ap (call_line b f) (⧺-assoc rest y z)
⧺-assoc (loop_line b n inner rest) y z = ap (loop_line b n inner) (⧺-assoc rest y z)
⧺-assoc (if_line b then else rest) y z = ap (if_line b then else) (⧺-assoc rest y z)

-- Nothing after forms.
pub ⧺-close : (x : Lines) → x ⧺ close ≡ x
unfolding ◌⧺◌
⧺-close close = refl
⧺-close (leaf_line b rest) = ap (leaf_line b) (⧺-close rest)
⧺-close (call_line b f rest) = ap (call_line b f) (⧺-close rest)
⧺-close (loop_line b n inner rest) = ap (loop_line b n inner) (⧺-close rest)
⧺-close (if_line b then else rest) = ap (if_line b then else) (⧺-close rest)

-- The leaves of forms after forms are those of both.
pub size-⧺ : (x y : Lines) → size (x ⧺ y) ≡ size x + size y
unfolding size ◌⧺◌
size-⧺ close y = omega arith
size-⧺ (leaf_line b rest) y = omega (arith, size-⧺ rest y)
size-⧺ (call_line b f rest) y = omega (arith, size-⧺ rest y)
size-⧺ (loop_line b n inner rest) y = omega (arith, size-⧺ rest y)
size-⧺ (if_line b then else rest) y = omega (arith, size-⧺ rest y)

-- The height of forms after forms is the greater one.
pub height-⧺ : (hs : List ℕ) (x y : Lines) → height hs (x ⧺ y) ≡ max (height hs x) (height hs y)
unfolding height ◌⧺◌
height-⧺ hs close y = omega arith
height-⧺ hs (leaf_line b rest) y = omega (arith, height-⧺ hs rest y)
height-⧺ hs (call_line b f rest) y = omega (arith, height-⧺ hs rest y)
height-⧺ hs (loop_line b n inner rest) y = omega (arith, height-⧺ hs rest y)
height-⧺ hs (if_line b then else rest) y =
    let m : ℕ = max 1 (max (height hs then) (height hs else)) in
    ap (λ x. max m x) (height-⧺ hs rest y) ∙ max_assoc m (height hs rest) (height hs y)
  where
    max_assoc : (a b c : ℕ) → max a (max b c) ≡ max (max a b) c
    max_assoc a b c = omega arith

-- The lines of forms after forms are those of the first, then those of the second.
pub forms-⧺ : (x y : Lines) → forms_in (x ⧺ y) ≡ forms_in x ++ forms_in y
unfolding forms_in ◌⧺◌
forms-⧺ close y = refl
forms-⧺ (leaf_line b rest) y = ap (λ x. leaf_form b ∷ x) (forms-⧺ rest y)
forms-⧺ (call_line b f rest) y = ap (λ x. call_form b f ∷ x) (forms-⧺ rest y)
forms-⧺ (loop_line b n inner rest) y = ap (λ x. loop_form b n ∷ x) (rw (forms-⧺ rest y, append_assoc))
forms-⧺ (if_line b then else rest) y =
    ap (λ x. if_form b ∷ Then ∷ x) (rw (forms-⧺ rest y) (simp append_assoc))

-- With one function more: the leaves, the heights, the lines.
pub sizes_snoc : (ls : List Lines) (l : Lines) → sizes (ls ++ (l ∷ [])) ≡ sizes ls + size l
unfolding sizes
sizes_snoc [] l = omega arith
sizes_snoc (k ∷ ls) l = omega (arith, sizes_snoc ls l)

pub heights_snoc : (hs : List ℕ) (ls : List Lines) (l : Lines) → heights hs (ls ++ (l ∷ [])) ≡ heights hs ls ++ (height (heights hs ls) l ∷ [])
unfolding heights
heights_snoc hs [] l = refl
heights_snoc hs (k ∷ ls) l = heights_snoc (hs ++ (height hs k ∷ [])) ls l

pub forms_snoc : (ls : List Lines) (l : Lines) → forms_all (ls ++ (l ∷ [])) ≡ forms_all ls ++ (Fun ∷ (forms_in l ++ (Close ∷ [])))
unfolding forms_all
forms_snoc [] l = refl
forms_snoc (k ∷ ls) l = ap (λ x. Fun ∷ x) (rw (forms_snoc ls l, append_assoc))

-- Every function has a height.
pub heights_length : (hs : List ℕ) (ls : List Lines) → length (heights hs ls) ≡ length hs + length ls
unfolding heights
heights_length hs [] = omega arith
heights_length hs (k ∷ ls) = omega (arith, heights_length (hs ++ (height hs k ∷ [])) ls, length-append hs (height hs k ∷ []))
