-- The text of a plan is short: its lines are bounded one by one, and an if line with the brackets that belong to it is the longest.
use Prim.Native.Nat.{ℕ, ◌+◌, ◌*◌, ◌≤◌}
use mathlib.Core.Path.{◌≡◌, refl, ap, ◌∙◌}
use mathlib.Core.List.{List, [], ◌∷◌, ◌++◌, map}
use native.Mathlib.Omega.{arith}
use lib.ListN.{length, length-append}
use Rattle.text.specs.Spelling.{spell}
use Rattle.text.specs.declared.Form.{Form}
use Rattle.text.specs.declared.Form.TheVariants.{Else, Close}
use Rattle.model.specs.Plan.{Lines, close, leaf_line, call_line, loop_line, if_line, Plan}
use Rattle.model.specs.Levels.{height}
use Rattle.model.specs.Acceptance.{size, sizes, Ranged, Functions, Formed}
use Rattle.reader.specs.Print.{forms_in, forms_all, forms_of, join_all, print}
use Rattle.text.proofs.Theorems.{task_width, leaf_width, call_width, loop_width, if_width}

-- The length of the text of some lines.
width : List Form → ℕ
width [] = 0
width (f ∷ fs) = length (spell f) + width fs

width_is : (fs : List Form) → length (join_all (map spell fs)) ≡ width fs
unfolding width join_all
width_is [] = refl
width_is (f ∷ fs) = length-append (spell f) (join_all (map spell fs)) ∙ ap (λ x. length (spell f) + x) (width_is fs)

width_append : (fs gs : List Form) → width (fs ++ gs) ≡ width fs + width gs
unfolding width
width_append [] gs = omega arith
width_append (f ∷ fs) gs = omega (arith, width_append fs gs)

-- An if line takes the most: 22 bytes, and 18 for its parts' brackets and its own.
forms_width : (i : ℕ) (l : Lines) → Ranged i l → width (forms_in l) ≤ 40 * size l
unfolding Ranged forms_in size width spell
forms_width i close r = omega arith
forms_width i (leaf_line b rest) (c, r) = omega (arith, leaf_width b.point b.isolated b.max_load c.isolated_range c.max_load_range, forms_width i rest r)
forms_width i (call_line b f rest) (c, u, v, r) =
    omega (arith, call_width b.point f b.isolated b.max_load u c.isolated_range c.max_load_range, forms_width i rest r)
forms_width i (loop_line b n body rest) (c, u, v, r, s) =
    rw (width_append (forms_in body) (Close ∷ forms_in rest))
    (omega (arith, loop_width b.point n b.isolated b.max_load v c.isolated_range c.max_load_range, forms_width i body r, forms_width i rest s))
forms_width i (if_line b then else rest) (c, r, s, t) =
    rw (width_append (forms_in then) (Close ∷ Else ∷ (forms_in else ++ (Close ∷ Close ∷ forms_in rest))), width_append (forms_in else) (Close ∷ Close ∷ forms_in rest))
    (omega (arith, if_width b.point b.isolated b.max_load c.isolated_range c.max_load_range, forms_width i then r, forms_width i else s, forms_width i rest t))

all_width : (hs : List ℕ) (n : ℕ) (ls : List Lines) → Functions hs n ls → width (forms_all ls) ≤ 40 * sizes ls + 7 * length ls
unfolding Functions forms_all sizes width spell
all_width hs n [] g = omega arith
all_width hs n (l ∷ ls) (f, g) =
    rw (width_append (forms_in l) (Close ∷ forms_all ls)) (omega (arith, forms_width (length hs) l f.ranged, all_width (hs ++ (height hs l ∷ [])) (n + size l) ls g))

-- A plan with 512 leaves and 16 functions is the longest.
pub print_bound : (p : Plan) → Formed p → length (print p) ≤ 20630
unfolding print forms_of width
print_bound p w =
    rw (width_is (forms_of p))
    (rw (width_append (forms_all p.functions) (Close ∷ []))
    (unfold spell in omega (arith, task_width p.deadline p.switch p.edition w.deadline_high w.switch_range w.resume_range, all_width [] 0 p.functions w.each, w.few_functions, w.few_leaves)))
