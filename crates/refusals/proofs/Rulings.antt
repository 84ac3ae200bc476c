-- Rules 3 to 7 and 19: the first refusal that the machine finds at a line is the first rule that the line breaks behind the lines before it, since each of its
-- tests fails exactly where the line breaks the rule.
use Prim.Native.Nat.{ℕ, zero, suc, ◌+◌, ◌^◌, ◌≤◌, ◌<◌, min}
use mathlib.Core.Path.{◌≡◌, refl, sym, ap, ◌∙◌, subst}
use mathlib.Core.List.{List, [], ◌∷◌, ◌++◌, reverse}
use mathlib.Core.Logic.{◌⊎◌, inl, inr}
use mathlib.Core.Bool.{Bool, true, false, ◌&&◌}
use native.Mathlib.Omega.{arith}
use native.Mathlib.Decide.{dec_le}
use lib.ListN.{length, get_or, length-drop}
use lib.Dec.{leb, ltb, eqb}
use Rattle.std.proofs.lemmas.Bool.{and_parts, and_cases, and_left, and_right}
use borrow.Author.Tests.{lt-leb, le-ltb, leb-false, ltb-false, ltb-true}
use Rattle.model.specs.declared.Refusal.{Refusal}
use Rattle.model.specs.Refusals.{number_of}
use Rattle.std.specs.Prelude.{Option, None, Some}
use Rattle.model.specs.declared.Edition.{Edition}
use Rattle.model.specs.declared.Edition.TheVariants.{First, Second}
use Rattle.model.specs.Plan.{resume_cost}
use Rattle.model.specs.Places.{pick, bit}
use Rattle.model.proofs.Bits.{bit_low}
use Rattle.text.specs.declared.Form.{Form}
use Rattle.text.specs.declared.Form.TheVariants.{Task, Fun, Then, Else, Close, Leaf, Call, Loop, If}
use Rattle.text.specs.Grammar.{Line, form}
use Rattle.reader.specs.Machine.{refuse_unless, fault}
use Rattle.refusals.specs.Refusal.{PlanLines, LeafLine, of_leaf, of_call, of_loop, of_if, leaves_among, functions_among, own_function, innermost, open_brackets, LevelAt, own_level, called_level, Breaks, no_line, nesting, deadline_range, switch_range, resume_range, cost_range, target_range, bound_range, leaf_count, row_count, function_count, load, costless, target, bracket_depth, level_depth, line_order, FirstBroken, this, not_this, NoneBroken}
use Rattle.refusals.proofs.Measures.{highest, height_of, height_bounds, height_met}

-- No test both holds and fails.
clash : {A : Type 0} {t : Bool} → t ≡ true → t ≡ false → A
clash e q = cc

-- THE TESTS OF THE MACHINE, rule by rule: range, count, load, costless, target, depth
abbrev costs : ℕ → ℕ → Bool
costs c m = leb c (2 ^ 20) && leb m (2 ^ 20)

abbrev switches : ℕ → Edition → Bool
switches t u = leb t (2 ^ 20) && leb (resume_cost u) (2 ^ 20)

abbrev test_3 : Form → Bool
test_3 (Task d t u) = leb 1 d && (leb d (2 ^ 40) && switches t u)
test_3 Fun = true
test_3 Then = true
test_3 Else = true
test_3 Close = true
test_3 (Leaf k c m) = costs c m
test_3 (Call k f c m) = leb f 15 && costs c m
test_3 (Loop k b c m) = leb 1 b && (leb b 65535 && costs c m)
test_3 (If k c m) = costs c m

abbrev test_4 : ℕ → ℕ → List ℕ → Form → Bool
test_4 room n hs (Task d t u) = true
test_4 room n hs Fun = ltb (length hs) 16
test_4 room n hs Then = true
test_4 room n hs Else = true
test_4 room n hs Close = true
test_4 room n hs (Leaf k c m) = ltb n room
test_4 room n hs (Call k f c m) = ltb n room
test_4 room n hs (Loop k b c m) = ltb n room
test_4 room n hs (If k c m) = ltb n room

abbrev test_5 : Form → Bool
test_5 (Task d t u) = true
test_5 Fun = true
test_5 Then = true
test_5 Else = true
test_5 Close = true
test_5 (Leaf k c m) = leb c m
test_5 (Call k f c m) = leb c m
test_5 (Loop k b c m) = leb c m
test_5 (If k c m) = leb c m

abbrev test_19 : Form → Bool
test_19 (Task d t u) = true
test_19 Fun = true
test_19 Then = true
test_19 Else = true
test_19 Close = true
test_19 (Leaf k c m) = leb (bit k) c
test_19 (Call k f c m) = leb (bit k) c
test_19 (Loop k b c m) = leb (bit k) c
test_19 (If k c m) = leb (bit k) c

abbrev test_6 : List ℕ → Form → Bool
test_6 hs (Task d t u) = true
test_6 hs Fun = true
test_6 hs Then = true
test_6 hs Else = true
test_6 hs Close = true
test_6 hs (Leaf k c m) = true
test_6 hs (Call k f c m) = ltb f (length hs)
test_6 hs (Loop k b c m) = true
test_6 hs (If k c m) = true

abbrev test_7 : ℕ → ℕ → List ℕ → Form → Bool
test_7 d L hs (Task D t u) = ltb d 64
test_7 d L hs Fun = ltb d 64
test_7 d L hs Then = ltb d 64
test_7 d L hs Else = ltb d 64
test_7 d L hs Close = true
test_7 d L hs (Leaf k c m) = leb L 32
test_7 d L hs (Call k f c m) = leb (L + get_or hs f 0) 32
test_7 d L hs (Loop k b c m) = leb L 32 && ltb d 64
test_7 d L hs (If k c m) = leb L 32 && ltb d 64

-- The refusal of the first of six tests that fails, if one does; and how the machine's tests of each kind of line make up such a chain.
abbrev chain : Bool → Bool → Bool → Bool → Bool → Bool → Option Refusal
chain a b c p d e = refuse_unless a Refusal.Range (refuse_unless b Refusal.Count (refuse_unless c Refusal.Load (refuse_unless p Refusal.Costless (refuse_unless d Refusal.Target (refuse_unless e Refusal.Depth None)))))

four : (a b c e y : Bool) → refuse_unless a Refusal.Range (refuse_unless b Refusal.Range (refuse_unless c Refusal.Range (refuse_unless e Refusal.Range (refuse_unless y Refusal.Depth None)))) ≡ chain (a && (b && (c && e))) true true true true y
four false b c e y = refl
four true false c e y = refl
four true true false e y = refl
four true true true false y = refl
four true true true true y = refl

two : (a b e g p h x : Bool) →
    refuse_unless a Refusal.Range (refuse_unless b Refusal.Range (refuse_unless e Refusal.Count (refuse_unless g Refusal.Load (refuse_unless p Refusal.Costless (refuse_unless h Refusal.Target (refuse_unless x Refusal.Depth None)))))) ≡
    chain (a && b) e g p h x
two false b e g p h x = refl
two true false e g p h x = refl
two true true e g p h x = refl

both_7 : (x y : Bool) → refuse_unless x Refusal.Depth (refuse_unless y Refusal.Depth None) ≡ refuse_unless (x && y) Refusal.Depth None
both_7 true y = refl
both_7 false y = refl

twice : (a b e g p x y : Bool) →
    refuse_unless a Refusal.Range (refuse_unless b Refusal.Range (refuse_unless e Refusal.Count (refuse_unless g Refusal.Load (refuse_unless p Refusal.Costless (refuse_unless x Refusal.Depth (refuse_unless y Refusal.Depth None)))))) ≡
    chain (a && b) e g p true (x && y)
twice a b e g p x y =
    ap (λ z. refuse_unless a Refusal.Range (refuse_unless b Refusal.Range (refuse_unless e Refusal.Count (refuse_unless g Refusal.Load (refuse_unless p Refusal.Costless z))))) (both_7 x y) ∙ two a b e g p true (x && y)

in_front : (a b e g p h x : Bool) → refuse_unless a Refusal.Range (chain b e g p h x) ≡ chain (a && b) e g p h x
in_front true b e g p h x = refl
in_front false b e g p h x = refl

-- The machine's refusal at a line is by the first of these tests that fails.
fault_chain : (room d L n : ℕ) (hs : List ℕ) (f : Form) →
    fault room d L n hs f ≡ chain (test_3 f) (test_4 room n hs f) (test_5 f) (test_19 f) (test_6 hs f) (test_7 d L hs f)
unfolding fault
fault_chain room d L n hs (Task D t u) = four (leb 1 D) (leb D (2 ^ 40)) (leb t (2 ^ 20)) (leb (resume_cost u) (2 ^ 20)) (ltb d 64)
fault_chain room d L n hs Fun = refl
fault_chain room d L n hs Then = refl
fault_chain room d L n hs Else = refl
fault_chain room d L n hs Close = refl
fault_chain room d L n hs (Leaf k c m) = two (leb c (2 ^ 20)) (leb m (2 ^ 20)) (ltb n room) (leb c m) (leb (bit k) c) true (leb L 32)
fault_chain room d L n hs (Call k f c m) =
    ap (refuse_unless (leb f 15) Refusal.Range)
    (two (leb c (2 ^ 20)) (leb m (2 ^ 20)) (ltb n room) (leb c m) (leb (bit k) c) (ltb f (length hs)) (leb (L + get_or hs f 0) 32)) ∙
    in_front (leb f 15) (costs c m) (ltb n room) (leb c m) (leb (bit k) c) (ltb f (length hs)) (leb (L + get_or hs f 0) 32)
fault_chain room d L n hs (Loop k b c m) =
    ap (λ x. refuse_unless (leb 1 b) Refusal.Range (refuse_unless (leb b 65535) Refusal.Range x))
    (twice (leb c (2 ^ 20)) (leb m (2 ^ 20)) (ltb n room) (leb c m) (leb (bit k) c) (leb L 32) (ltb d 64)) ∙
    (ap (refuse_unless (leb 1 b) Refusal.Range) (in_front (leb b 65535) (costs c m) (ltb n room) (leb c m) (leb (bit k) c) true (leb L 32 && ltb d 64)) ∙
    in_front (leb 1 b) (leb b 65535 && costs c m) (ltb n room) (leb c m) (leb (bit k) c) true (leb L 32 && ltb d 64))
fault_chain room d L n hs (If k c m) = twice (leb c (2 ^ 20)) (leb m (2 ^ 20)) (ltb n room) (leb c m) (leb (bit k) c) (leb L 32) (ltb d 64)

-- The first test that fails.
data FirstFailed (a b c p d e : Bool) : Option Refusal → Type 0 where
  none : a ≡ true → b ≡ true → c ≡ true → p ≡ true → d ≡ true → e ≡ true → FirstFailed a b c p d e None
  at_3 : a ≡ false → FirstFailed a b c p d e (Some Refusal.Range)
  at_4 : a ≡ true → b ≡ false → FirstFailed a b c p d e (Some Refusal.Count)
  at_5 : a ≡ true → b ≡ true → c ≡ false → FirstFailed a b c p d e (Some Refusal.Load)
  at_19 : a ≡ true → b ≡ true → c ≡ true → p ≡ false → FirstFailed a b c p d e (Some Refusal.Costless)
  at_6 : a ≡ true → b ≡ true → c ≡ true → p ≡ true → d ≡ false → FirstFailed a b c p d e (Some Refusal.Target)
  at_7 : a ≡ true → b ≡ true → c ≡ true → p ≡ true → d ≡ true → e ≡ false → FirstFailed a b c p d e (Some Refusal.Depth)

first : (a b c p d e : Bool) → FirstFailed a b c p d e (chain a b c p d e)
first false b c p d e = at_3 refl
first true false c p d e = at_4 refl refl
first true true false p d e = at_5 refl refl refl
first true true true false d e = at_19 refl refl refl refl
first true true true true false e = at_6 refl refl refl refl refl
first true true true true true false = at_7 refl refl refl refl refl refl
first true true true true true true = none refl refl refl refl refl refl

-- THE NUMBERS OF THE MACHINE and those of the lines before

-- At a leaf line: its level, the number of its function, the heights of the functions before.
pub record AtLeaf (es : List Form) (L : ℕ) (hs : List ℕ) : Type 0 where
  pub level_is : L ≡ innermost (open_brackets es)
  pub own_is : length hs ≡ own_function es
  pub heights_are : (F : ℕ) → F < length hs → height_of F es ≡ get_or hs F 0

-- At any line: open brackets and leaves; at a `(fun` the functions; at a leaf line the above.
pub record Values (es : List Form) (f : Form) (d L n : ℕ) (hs : List ℕ) : Type 0 where
  pub brackets_are : d ≡ length (open_brackets es)
  pub leaves_are : n ≡ leaves_among es
  pub functions_are : f ≡ Fun → length hs ≡ functions_among es
  pub at_leaf : {k : Bool} {c m : ℕ} → LeafLine f k c m → AtLeaf es L hs

-- Lines that break no rule are within the limits.
record Within (capacity : ℕ) (es : List Form) : Type 0 where
  pub few_leaves : leaves_among es ≤ 512
  pub fit_leaves : leaves_among es ≤ capacity
  pub few_functions : functions_among es ≤ 16
  pub few_brackets : length (open_brackets es) ≤ 64
  pub low : (F : ℕ) → height_of F es ≤ 32

within : (capacity : ℕ) (es : List Form) → NoneBroken capacity es → Within capacity es
unfolding NoneBroken
within capacity [] h = unfold leaves_among functions_among open_brackets height_of in
    record { few_leaves = omega arith; fit_leaves = omega arith; few_functions = omega arith; few_brackets = omega arith; low = λ F. omega arith }
within capacity (f ∷ es) (h, c) = record {
  few_leaves = elim (dec_le (leaves_among (f ∷ es)) 512) [ yes q ↦ q | no q ↦ absurd (c Refusal.Count (leaf_count (omega arith))) ];
  fit_leaves = elim (dec_le (leaves_among (f ∷ es)) capacity) [ yes q ↦ q | no q ↦ absurd (c Refusal.Count (row_count (omega arith))) ];
  few_functions = elim (dec_le (functions_among (f ∷ es)) 16) [ yes q ↦ q | no q ↦ absurd (c Refusal.Count (function_count (omega arith))) ];
  few_brackets = elim (dec_le (length (open_brackets (f ∷ es))) 64) [ yes q ↦ q | no q ↦ absurd (c Refusal.Depth (bracket_depth (omega arith))) ];
  low = λ F. elim (dec_le (height_of F (f ∷ es)) 32) [ yes q ↦ q | no q ↦ absurd (c Refusal.Depth (level_depth (height_met (f ∷ es) F (omega arith)) (omega arith))) ];
}

module _ (capacity : ℕ) (es : List Form) where
  -- WHERE A TEST FAILS, THE RULE IS BROKEN

  costs_broken : {f : Form} {k : Bool} {c m : ℕ} → LeafLine f k c m → costs c m ≡ false → Breaks capacity es (form f) Refusal.Range
  costs_broken {f} {c} {m} x e = by (and_cases (leb c (2 ^ 20)) (leb m (2 ^ 20)) e)
    where
      by : (leb c (2 ^ 20) ≡ false) ⊎ (leb m (2 ^ 20) ≡ false) → Breaks capacity es (form f) Refusal.Range
      by (inl q) = cost_range x (inl (leb-false c (2 ^ 20) q))
      by (inr q) = cost_range x (inr (leb-false m (2 ^ 20) q))

  switches_broken : (d t : ℕ) (u : Edition) → (leb t (2 ^ 20) ≡ false) ⊎ (leb (resume_cost u) (2 ^ 20) ≡ false) → Breaks capacity es (form (Task d t u)) Refusal.Range
  switches_broken d t u (inl q) = switch_range (leb-false t (2 ^ 20) q)
  switches_broken d t First (inr q) = absurd (omega (arith, leb-false 0 (2 ^ 20) q))
  switches_broken d t (Second u) (inr q) = resume_range (leb-false u (2 ^ 20) q)

  task_broken : (d t : ℕ) (u : Edition) → (leb 1 d ≡ false) ⊎ ((leb d (2 ^ 40) && switches t u) ≡ false) → Breaks capacity es (form (Task d t u)) Refusal.Range
  task_broken d t u (inl q) = deadline_range (inl (leb-false 1 d q))
  task_broken d t u (inr q) = by (and_cases (leb d (2 ^ 40)) (switches t u) q)
    where
      by : (leb d (2 ^ 40) ≡ false) ⊎ (switches t u ≡ false) → Breaks capacity es (form (Task d t u)) Refusal.Range
      by (inl q) = deadline_range {d = d} (inr (omega (arith, leb-false d (2 ^ 40) q)))
      by (inr q) = switches_broken d t u (and_cases (leb t (2 ^ 20)) (leb (resume_cost u) (2 ^ 20)) q)

  call_broken : (k : Bool) (f c m : ℕ) → (leb f 15 ≡ false) ⊎ (costs c m ≡ false) → Breaks capacity es (form (Call k f c m)) Refusal.Range
  call_broken k f c m (inl q) = target_range (leb-false f 15 q)
  call_broken k f c m (inr q) = costs_broken of_call q

  loop_broken : (k : Bool) (b c m : ℕ) → (leb 1 b ≡ false) ⊎ ((leb b 65535 && costs c m) ≡ false) → Breaks capacity es (form (Loop k b c m)) Refusal.Range
  loop_broken k b c m (inl q) = bound_range (inl (leb-false 1 b q))
  loop_broken k b c m (inr q) = by (and_cases (leb b 65535) (costs c m) q)
    where
      by : (leb b 65535 ≡ false) ⊎ (costs c m ≡ false) → Breaks capacity es (form (Loop k b c m)) Refusal.Range
      by (inl q) = bound_range (inr (leb-false b 65535 q))
      by (inr q) = costs_broken of_loop q

  broken_3 : (f : Form) → test_3 f ≡ false → Breaks capacity es (form f) Refusal.Range
  broken_3 (Task d t u) e = task_broken d t u (and_cases (leb 1 d) (leb d (2 ^ 40) && switches t u) e)
  broken_3 Fun e = cc
  broken_3 Then e = cc
  broken_3 Else e = cc
  broken_3 Close e = cc
  broken_3 (Leaf k c m) e = costs_broken of_leaf e
  broken_3 (Call k f c m) e = call_broken k f c m (and_cases (leb f 15) (costs c m) e)
  broken_3 (Loop k b c m) e = loop_broken k b c m (and_cases (leb 1 b) (leb b 65535 && costs c m) e)
  broken_3 (If k c m) e = costs_broken of_if e

  broken_5 : (f : Form) → test_5 f ≡ false → Breaks capacity es (form f) Refusal.Load
  broken_5 (Task d t u) e = cc
  broken_5 Fun e = cc
  broken_5 Then e = cc
  broken_5 Else e = cc
  broken_5 Close e = cc
  broken_5 (Leaf k c m) e = load of_leaf (leb-false c m e)
  broken_5 (Call k f c m) e = load of_call (leb-false c m e)
  broken_5 (Loop k b c m) e = load of_loop (leb-false c m e)
  broken_5 (If k c m) e = load of_if (leb-false c m e)

  point_broken : {f : Form} (k : Bool) (c m : ℕ) → LeafLine f k c m → leb (bit k) c ≡ false → Breaks capacity es (form f) Refusal.Costless
  point_broken k (suc c) m x e = absurd (omega (arith, leb-false (bit k) (suc c) e, bit_low k))
  point_broken true zero m x e = costless x
  point_broken false zero m x e = absurd (omega (arith, leb-false 0 0 e))

  broken_19 : (f : Form) → test_19 f ≡ false → Breaks capacity es (form f) Refusal.Costless
  broken_19 (Task d t u) e = cc
  broken_19 Fun e = cc
  broken_19 Then e = cc
  broken_19 Else e = cc
  broken_19 Close e = cc
  broken_19 (Leaf k c m) e = point_broken k c m of_leaf e
  broken_19 (Call k f c m) e = point_broken k c m of_call e
  broken_19 (Loop k b c m) e = point_broken k c m of_loop e
  broken_19 (If k c m) e = point_broken k c m of_if e

  module _ (d L n : ℕ) (hs : List ℕ) where
    leaves_broken : (f : Form) → leaves_among (f ∷ es) ≡ leaves_among es + 1 → n ≡ leaves_among es → ltb n (min 512 capacity) ≡ false →
        Breaks capacity es (form f) Refusal.Count
    leaves_broken f z v e =
        let h : min 512 capacity ≤ n = ltb-false n (min 512 capacity) e in
        elim (dec_le 512 n) [ yes q ↦ leaf_count {f = f} (omega arith) | no q ↦ row_count {f = f} (omega arith) ]

    broken_4 : (f : Form) → Values es f d L n hs → test_4 (min 512 capacity) n hs f ≡ false → Breaks capacity es (form f) Refusal.Count
    unfolding leaves_among functions_among
    broken_4 (Task D t u) v e = cc
    broken_4 Fun v e = function_count {f = Fun} (omega (arith, ltb-false (length hs) 16 e, v.functions_are refl))
    broken_4 Then v e = cc
    broken_4 Else v e = cc
    broken_4 Close v e = cc
    broken_4 (Leaf k c m) v e = leaves_broken (Leaf k c m) refl v.leaves_are e
    broken_4 (Call k f c m) v e = leaves_broken (Call k f c m) refl v.leaves_are e
    broken_4 (Loop k b c m) v e = leaves_broken (Loop k b c m) refl v.leaves_are e
    broken_4 (If k c m) v e = leaves_broken (If k c m) refl v.leaves_are e

    broken_6 : (f : Form) → Values es f d L n hs → test_6 hs f ≡ false → Breaks capacity es (form f) Refusal.Target
    broken_6 (Task D t u) v e = cc
    broken_6 Fun v e = cc
    broken_6 Then v e = cc
    broken_6 Else v e = cc
    broken_6 Close v e = cc
    broken_6 (Leaf k c m) v e = cc
    broken_6 (Call k f c m) v e = target {F = f} (omega (arith, ltb-false f (length hs) e, (v.at_leaf of_call).own_is))
    broken_6 (Loop k b c m) v e = cc
    broken_6 (If k c m) v e = cc

    brackets_broken : (f : Form) → length (open_brackets (f ∷ es)) ≡ length (open_brackets es) + 1 → d ≡ length (open_brackets es) → ltb d 64 ≡ false →
        Breaks capacity es (form f) Refusal.Depth
    brackets_broken f z v e = bracket_depth {f = f} (omega (arith, ltb-false d 64 e))

    level_broken : {f : Form} {k : Bool} {c m : ℕ} → LeafLine f k c m → AtLeaf es L hs → leb L 32 ≡ false → Breaks capacity es (form f) Refusal.Depth
    level_broken x a e = level_depth (own_level x) (omega (arith, leb-false L 32 e, a.level_is))

    depth_broken : {f : Form} {k : Bool} {c m : ℕ} → LeafLine f k c m → length (open_brackets (f ∷ es)) ≡ length (open_brackets es) + 1 → Values es f d L n hs →
        (leb L 32 && ltb d 64) ≡ false → Breaks capacity es (form f) Refusal.Depth
    depth_broken {f} x z v e = by (and_cases (leb L 32) (ltb d 64) e)
      where
        by : (leb L 32 ≡ false) ⊎ (ltb d 64 ≡ false) → Breaks capacity es (form f) Refusal.Depth
        by (inl q) = level_broken x (v.at_leaf x) q
        by (inr q) = brackets_broken f z v.brackets_are q

    called_broken : (k : Bool) (f c m : ℕ) → AtLeaf es L hs → f < length hs → 32 < L + get_or hs f 0 → Breaks capacity es (form (Call k f c m)) Refusal.Depth
    called_broken k f c m a t h =
        let z : height_of f es ≡ get_or hs f 0 = a.heights_are f t in
        elim (dec_le 1 (height_of f es)) [
          | yes q ↦ level_depth (called_level (height_met es f q)) (omega (arith, a.level_is))
          | no q ↦ level_depth (own_level of_call) (omega (arith, a.level_is))
        ]

    broken_7 : (f : Form) → Values es f d L n hs → test_6 hs f ≡ true → test_7 d L hs f ≡ false → Breaks capacity es (form f) Refusal.Depth
    unfolding open_brackets
    broken_7 (Task D t u) v g e = brackets_broken (Task D t u) (omega arith) v.brackets_are e
    broken_7 Fun v g e = brackets_broken Fun (omega arith) v.brackets_are e
    broken_7 Then v g e = brackets_broken Then (omega arith) v.brackets_are e
    broken_7 Else v g e = brackets_broken Else (omega arith) v.brackets_are e
    broken_7 Close v g e = cc
    broken_7 (Leaf k c m) v g e = level_broken of_leaf (v.at_leaf of_leaf) e
    broken_7 (Call k f c m) v g e = called_broken k f c m (v.at_leaf of_call) (ltb-true f (length hs) g) (leb-false (L + get_or hs f 0) 32 e)
    broken_7 (Loop k b c m) v g e = depth_broken of_loop (omega arith) v e
    broken_7 (If k c m) v g e = depth_broken of_if (omega arith) v e

    -- WHERE A RULE IS BROKEN, ITS TEST FAILS

    costs_fail : {c m : ℕ} → (2 ^ 20 < c) ⊎ (2 ^ 20 < m) → costs c m ≡ false
    costs_fail {c} {m} (inl h) = and_left (leb c (2 ^ 20)) (leb m (2 ^ 20)) (lt-leb c (2 ^ 20) h)
    costs_fail {c} {m} (inr h) = and_right (leb c (2 ^ 20)) (leb m (2 ^ 20)) (lt-leb m (2 ^ 20) h)

    cost_fails : {f : Form} {k : Bool} {c m : ℕ} → LeafLine f k c m → (2 ^ 20 < c) ⊎ (2 ^ 20 < m) → test_3 f ≡ false
    cost_fails of_leaf h = costs_fail h
    cost_fails (of_call {f = f} {c = c} {m = m}) h = and_right (leb f 15) (costs c m) (costs_fail h)
    cost_fails (of_loop {b = b} {c = c} {m = m}) h = and_right (leb 1 b) (leb b 65535 && costs c m) (and_right (leb b 65535) (costs c m) (costs_fail h))
    cost_fails of_if h = costs_fail h

    deadline_fails : (D t : ℕ) (u : Edition) → (D < 1) ⊎ (2 ^ 40 < D) → test_3 (Task D t u) ≡ false
    deadline_fails D t u (inl h) = and_left (leb 1 D) (leb D (2 ^ 40) && switches t u) (lt-leb 1 D h)
    deadline_fails D t u (inr h) = and_right (leb 1 D) (leb D (2 ^ 40) && switches t u) (and_left (leb D (2 ^ 40)) (switches t u) (lt-leb D (2 ^ 40) h))

    switches_fail : (D t : ℕ) (u : Edition) → switches t u ≡ false → test_3 (Task D t u) ≡ false
    switches_fail D t u h = and_right (leb 1 D) (leb D (2 ^ 40) && switches t u) (and_right (leb D (2 ^ 40)) (switches t u) h)

    switch_fails : (D t : ℕ) (u : Edition) → 2 ^ 20 < t → test_3 (Task D t u) ≡ false
    switch_fails D t u h = switches_fail D t u (and_left (leb t (2 ^ 20)) (leb (resume_cost u) (2 ^ 20)) (lt-leb t (2 ^ 20) h))

    resume_fails : (D t u : ℕ) → 2 ^ 20 < u → test_3 (Task D t (Second u)) ≡ false
    resume_fails D t u h = switches_fail D t (Second u) (and_right (leb t (2 ^ 20)) (leb u (2 ^ 20)) (lt-leb u (2 ^ 20) h))

    bound_fails : (k : Bool) (b c m : ℕ) → (b < 1) ⊎ (65535 < b) → test_3 (Loop k b c m) ≡ false
    bound_fails k b c m (inl h) = and_left (leb 1 b) (leb b 65535 && costs c m) (lt-leb 1 b h)
    bound_fails k b c m (inr h) = and_right (leb 1 b) (leb b 65535 && costs c m) (and_left (leb b 65535) (costs c m) (lt-leb b 65535 h))

    leaves_fail : (f : Form) → Values es f d L n hs → Within capacity es → min 512 capacity < leaves_among (f ∷ es) → test_4 (min 512 capacity) n hs f ≡ false
    unfolding leaves_among
    leaves_fail (Task D t u) v w h = absurd (omega (arith, w.few_leaves, w.fit_leaves))
    leaves_fail Fun v w h = absurd (omega (arith, w.few_leaves, w.fit_leaves))
    leaves_fail Then v w h = absurd (omega (arith, w.few_leaves, w.fit_leaves))
    leaves_fail Else v w h = absurd (omega (arith, w.few_leaves, w.fit_leaves))
    leaves_fail Close v w h = absurd (omega (arith, w.few_leaves, w.fit_leaves))
    leaves_fail (Leaf k c m) v w h = le-ltb n (min 512 capacity) (omega (arith, v.leaves_are))
    leaves_fail (Call k f c m) v w h = le-ltb n (min 512 capacity) (omega (arith, v.leaves_are))
    leaves_fail (Loop k b c m) v w h = le-ltb n (min 512 capacity) (omega (arith, v.leaves_are))
    leaves_fail (If k c m) v w h = le-ltb n (min 512 capacity) (omega (arith, v.leaves_are))

    functions_fail : (f : Form) → Values es f d L n hs → Within capacity es → 16 < functions_among (f ∷ es) → test_4 (min 512 capacity) n hs f ≡ false
    unfolding functions_among
    functions_fail (Task D t u) v w h = absurd (omega (arith, w.few_functions))
    functions_fail Fun v w h = le-ltb (length hs) 16 (omega (arith, v.functions_are refl))
    functions_fail Then v w h = absurd (omega (arith, w.few_functions))
    functions_fail Else v w h = absurd (omega (arith, w.few_functions))
    functions_fail Close v w h = absurd (omega (arith, w.few_functions))
    functions_fail (Leaf k c m) v w h = absurd (omega (arith, w.few_functions))
    functions_fail (Call k f c m) v w h = absurd (omega (arith, w.few_functions))
    functions_fail (Loop k b c m) v w h = absurd (omega (arith, w.few_functions))
    functions_fail (If k c m) v w h = absurd (omega (arith, w.few_functions))

    load_fails : {f : Form} {k : Bool} {c m : ℕ} → LeafLine f k c m → m < c → test_5 f ≡ false
    load_fails (of_leaf {c = c} {m = m}) h = lt-leb c m h
    load_fails (of_call {c = c} {m = m}) h = lt-leb c m h
    load_fails (of_loop {c = c} {m = m}) h = lt-leb c m h
    load_fails (of_if {c = c} {m = m}) h = lt-leb c m h

    costless_fails : {f : Form} {m : ℕ} → LeafLine f true 0 m → test_19 f ≡ false
    costless_fails of_leaf = refl
    costless_fails of_call = refl
    costless_fails of_loop = refl
    costless_fails of_if = refl

    brackets_fail : (f : Form) → Values es f d L n hs → Within capacity es → 64 < length (open_brackets (f ∷ es)) → test_7 d L hs f ≡ false
    unfolding open_brackets
    brackets_fail (Task D t u) v w h = le-ltb d 64 (omega (arith, v.brackets_are))
    brackets_fail Fun v w h = le-ltb d 64 (omega (arith, v.brackets_are))
    brackets_fail Then v w h = le-ltb d 64 (omega (arith, v.brackets_are))
    brackets_fail Else v w h = le-ltb d 64 (omega (arith, v.brackets_are))
    brackets_fail Close v w h = absurd (omega (arith, w.few_brackets, length-drop 1 (open_brackets es)))
    brackets_fail (Leaf k c m) v w h = absurd (omega (arith, w.few_brackets))
    brackets_fail (Call k f c m) v w h = absurd (omega (arith, w.few_brackets))
    brackets_fail (Loop k b c m) v w h = and_right (leb L 32) (ltb d 64) (le-ltb d 64 (omega (arith, v.brackets_are)))
    brackets_fail (If k c m) v w h = and_right (leb L 32) (ltb d 64) (le-ltb d 64 (omega (arith, v.brackets_are)))

    highest_fails : (f : Form) → Values es f d L n hs → test_6 hs f ≡ true → 32 < highest (innermost (open_brackets es)) (λ G. height_of G es) f →
        test_7 d L hs f ≡ false
    highest_fails (Task D t u) v g h = absurd (omega arith)
    highest_fails Fun v g h = absurd (omega arith)
    highest_fails Then v g h = absurd (omega arith)
    highest_fails Else v g h = absurd (omega arith)
    highest_fails Close v g h = absurd (omega arith)
    highest_fails (Leaf k c m) v g h = lt-leb L 32 (omega (arith, (v.at_leaf of_leaf).level_is))
    highest_fails (Call k f c m) v g h =
        let a : AtLeaf es L hs = v.at_leaf of_call in
        lt-leb (L + get_or hs f 0) 32 (omega (arith, a.level_is, a.heights_are f (ltb-true f (length hs) g)))
    highest_fails (Loop k b c m) v g h = and_left (leb L 32) (ltb d 64) (lt-leb L 32 (omega (arith, (v.at_leaf of_loop).level_is)))
    highest_fails (If k c m) v g h = and_left (leb L 32) (ltb d 64) (lt-leb L 32 (omega (arith, (v.at_leaf of_if).level_is)))

    level_fails : {f : Form} {F l : ℕ} → Values es f d L n hs → Within capacity es → test_6 hs f ≡ true → LevelAt (f ∷ es) F l → 32 < l → test_7 d L hs f ≡ false
    unfolding height_of
    level_fails {f} {F} {l} v w g x h = highest_fails f v g (by (eqb F (own_function es)) (omega (arith, height_bounds x, w.low F)))
      where
        by : (t : Bool) → 32 < pick t (highest (innermost (open_brackets es)) (λ G. height_of G es) f) 0 →
            32 < highest (innermost (open_brackets es)) (λ G. height_of G es) f
        by true q = q
        by false q = absurd (omega arith)

    -- The test of each rule; that of depth goes with the target's.
    abbrev test : Form → Refusal → Bool
    test f Refusal.Range = test_3 f
    test f Refusal.Count = test_4 (min 512 capacity) n hs f
    test f Refusal.Load = test_5 f
    test f Refusal.Costless = test_19 f
    test f Refusal.Target = test_6 hs f
    test f Refusal.Depth = test_6 hs f && test_7 d L hs f
    test f _ = true

    -- A line does not break a rule whose test holds.
    spared : {f : Form} → (more : List Form) × PlanLines (reverse es ++ (f ∷ more)) → Values es f d L n hs → Within capacity es → (i : Refusal) → test f i ≡ true →
        Breaks capacity es (form f) i → ⊥
    spared (more, q) v w i t (nesting x) = x more q
    spared q v w i t (deadline_range {d = D} {t = T} {e = E} x) = clash t (deadline_fails D T E x)
    spared q v w i t (switch_range {d = D} {t = T} {e = E} x) = clash t (switch_fails D T E x)
    spared q v w i t (resume_range {d = D} {t = T} {u = U} x) = clash t (resume_fails D T U x)
    spared q v w i t (cost_range a x) = clash t (cost_fails a x)
    spared q v w i t (target_range {F = F} {c = C} {m = M} x) = clash t (and_left (leb F 15) (costs C M) (lt-leb F 15 x))
    spared q v w i t (bound_range {k = K} {b = B} {c = C} {m = M} x) = clash t (bound_fails K B C M x)
    spared q v w i t (leaf_count {f = f} x) = clash t (leaves_fail f v w (omega arith))
    spared q v w i t (row_count {f = f} x) = clash t (leaves_fail f v w (omega arith))
    spared q v w i t (function_count {f = f} x) = clash t (functions_fail f v w x)
    spared q v w i t (load a x) = clash t (load_fails a x)
    spared q v w i t (costless a) = clash t (costless_fails a)
    spared q v w i t (target {F = F} x) = clash t (le-ltb F (length hs) (omega (arith, (v.at_leaf of_call).own_is)))
    spared q v w i t (bracket_depth {f = f} x) = clash t (and_right (test_6 hs f) (test_7 d L hs f) (brackets_fail f v w x))
    spared q v w i t (level_depth {f = f} x y) =
        let (g, h) = and_parts (test_6 hs f) (test_7 d L hs f) t in
        clash h (level_fails v w g x y)

-- THE FIRST RULE THAT A LINE BREAKS

-- A rule has a number from 2 to 7, or it is 19.
pub breaks_rule : {capacity : ℕ} {es : List Form} {x : Line} {k : Refusal} → Breaks capacity es x k → ((2 ≤ number_of k) × (number_of k ≤ 7)) ⊎ (number_of k ≡ 19)
breaks_rule no_line = inl (omega arith)
breaks_rule (nesting h) = inl (omega arith)
breaks_rule (deadline_range h) = inl (omega arith)
breaks_rule (switch_range h) = inl (omega arith)
breaks_rule (resume_range h) = inl (omega arith)
breaks_rule (cost_range c h) = inl (omega arith)
breaks_rule (target_range h) = inl (omega arith)
breaks_rule (bound_range h) = inl (omega arith)
breaks_rule (leaf_count h) = inl (omega arith)
breaks_rule (row_count h) = inl (omega arith)
breaks_rule (function_count h) = inl (omega arith)
breaks_rule (load c h) = inl (omega arith)
breaks_rule (costless c) = inr refl
breaks_rule (target h) = inl (omega arith)
breaks_rule (bracket_depth h) = inl (omega arith)
breaks_rule (level_depth x h) = inl (omega arith)

-- What the machine's refusal at a line says: none, it breaks no rule; else the first that it breaks.
abbrev pub Ruling : ℕ → List Form → Form → Option Refusal → Type 0
Ruling capacity es f None = (i : Refusal) → ¬ Breaks capacity es (form f) i
Ruling capacity es f (Some k) = FirstBroken capacity es (form f) line_order k

-- Where the machine's numbers are those of the lines before, its refusal says so.
pub ruling : (capacity : ℕ) (es : List Form) (f : Form) (d L n : ℕ) (hs : List ℕ) → (more : List Form) × PlanLines (reverse es ++ (f ∷ more)) →
    NoneBroken capacity es → Values es f d L n hs → Ruling capacity es f (fault (min 512 capacity) d L n hs f)
ruling capacity es f d L n hs p h v =
    subst (λ k. Ruling capacity es f k) (sym (fault_chain (min 512 capacity) d L n hs f)) (by (first _ _ _ _ _ _))
  where
    spare : (i : Refusal) → test capacity es d L n hs f i ≡ true → Breaks capacity es (form f) i → ⊥
    spare = spared capacity es d L n hs p v (within capacity es h)

    by : {k : Option Refusal} → FirstFailed (test_3 f) (test_4 (min 512 capacity) n hs f) (test_5 f) (test_19 f) (test_6 hs f) (test_7 d L hs f) k → Ruling capacity es f k
    by (none x3 x4 x5 x19 x6 x7) = λ i. spare i (here i)
      where
        here : (i : Refusal) → test capacity es d L n hs f i ≡ true
        here Refusal.Range = x3
        here Refusal.Count = x4
        here Refusal.Load = x5
        here Refusal.Costless = x19
        here Refusal.Target = x6
        here Refusal.Depth = rw (x6, x7)
        here _ = refl
    by (at_3 x3) = not_this (spare Refusal.Form refl) (this (broken_3 capacity es f x3))
    by (at_4 x3 x4) = not_this (spare Refusal.Form refl) (not_this (spare Refusal.Range x3) (this (broken_4 capacity es d L n hs f v x4)))
    by (at_5 x3 x4 x5) = not_this (spare Refusal.Form refl) (not_this (spare Refusal.Range x3) (not_this (spare Refusal.Count x4) (this (broken_5 capacity es f x5))))
    by (at_19 x3 x4 x5 x19) =
        not_this (spare Refusal.Form refl) (not_this (spare Refusal.Range x3) (not_this (spare Refusal.Count x4) (not_this (spare Refusal.Load x5) (this (broken_19 capacity es f x19)))))
    by (at_6 x3 x4 x5 x19 x6) =
        not_this (spare Refusal.Form refl) (not_this (spare Refusal.Range x3) (not_this (spare Refusal.Count x4) (not_this (spare Refusal.Load x5) (not_this (spare Refusal.Costless x19)
        (this (broken_6 capacity es d L n hs f v x6))))))
    by (at_7 x3 x4 x5 x19 x6 x7) =
        not_this (spare Refusal.Form refl) (not_this (spare Refusal.Range x3) (not_this (spare Refusal.Count x4) (not_this (spare Refusal.Load x5) (not_this (spare Refusal.Costless x19) (not_this (spare Refusal.Target x6)
        (this (broken_7 capacity es d L n hs f v x6 x7)))))))
