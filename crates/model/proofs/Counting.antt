-- The counts of a way add up to its sum (02, L9), as each of its visits is of a leaf of the plan, and each leaf has its own number.
use mathlib.Core.Bool.{Bool, true, false, ◌||◌}
use mathlib.Core.Path.{◌≡◌, refl, ap, sym, ◌∙◌, subst}
use mathlib.Core.List.{List, [], ◌∷◌, ◌++◌}
use mathlib.Core.Logic.{inl, inr}
use Prim.Native.Nat.{ℕ, zero, suc, ◌+◌, ◌*◌, ◌<◌}
use native.Mathlib.Decide.{dec_le}
use native.Mathlib.Omega.{arith}
use lib.Dec.{eqb, ltb}
use borrow.Author.Tests.{eq-eqb, ne_eqb, lt-ltb}
use Rattle.model.specs.Plan.{Block, M, Plan, all_leaves}
use Rattle.model.specs.Forms.{Forms, main}
use Rattle.model.specs.Runs.{Run, ends, visit, enter, leave, turn, run_then, run_else, visits, sum, silent, cut, Among}
use Rattle.model.specs.Remaining.{Reported}
use Rattle.model.specs.Acceptance.{Accepted}
use Rattle.model.specs.Places.{pick, bit}
use Rattle.model.specs.Cause.{up_to_next, is_leaf, count, listed, added}
use Rattle.model.proofs.Among.{among_none, among_open}
use Rattle.model.proofs.Blocks.{Every}
use Rattle.model.proofs.Leaves.{Row, row_range, spans_all_row, among_number}
use Rattle.model.proofs.Links.{plan_spans}
use Rattle.model.proofs.Points.{leaves_main}

-- Each of these blocks.
unfoldable pub Each : (Block → Type 0) → List Block → Type 0
Each P [] = Unit
Each P (b ∷ w) = P b × Each P w

module _ (P : Block → Type 0) where
  each_append : (v w : List Block) → Each P v → Each P w → Each P (v ++ w)
  unfolding Each
  each_append [] w i j = j
  each_append (b ∷ v) w i j = (i.0, each_append v w i.1 j)

  each_behind : (v w : List Block) → Each P (v ++ w) → Each P w
  unfolding Each
  each_behind [] w i = i
  each_behind (b ∷ v) w i = each_behind v w i.1

  each_visit : {f : Forms} (r : Run f) → Every P f → Each P (visits r)
  unfolding Each Every visits
  each_visit ends o = tt
  each_visit (visit r) o = (o.0, each_visit r o.1)
  each_visit (enter x r) o = (o.0, each_append (visits x) (visits r) (each_visit x o.1) (each_visit r o.2))
  each_visit (leave r) o = (o.0, each_visit r o.2)
  each_visit (turn x r) o = (o.0, each_append (visits x) (visits r) (each_visit x o.1) (each_visit r o))
  each_visit (run_then x r) o = (o.0, each_append (visits x) (visits r) (each_visit x o.1) (each_visit r o.3))
  each_visit (run_else x r) o = (o.0, each_append (visits x) (visits r) (each_visit x o.2) (each_visit r o.3))

  each_cut : (p : Bool) (w : List Block) → Each P w → Each P (cut p w)
  unfolding Each
  each_cut true w i = tt
  each_cut false w i = i

  each_silent : (w : List Block) → Each P w → Each P (silent w)
  unfolding Each silent
  each_silent [] i = tt
  each_silent (b ∷ w) i = each_cut b.point (b ∷ silent w) (i.0, each_silent w i.1)

-- Each visit up to the next point is of a leaf of the plan.
abbrev pub OfPlan : Plan → List Block → Type 0
OfPlan p w = Each (λ b. Among b (all_leaves p.functions)) w

pub way_of_plan : (p : Plan) {h : List ℕ} (v : Reported (main p) h) → OfPlan p (up_to_next v)
unfolding Each
way_of_plan p v =
    let P : Block → Type 0 = λ b. Among b (all_leaves p.functions) in
    let i = each_behind P v.at.before (v.at.block ∷ v.at.behind) (subst (λ w. Each P w) v.at.split (each_visit P v.at.run (leaves_main p))) in
    (i.0, each_silent P v.at.behind i.1)

-- ADDED UP

module _ (k : Block → ℕ) where
  -- The sum of k over leaves, each as often as f says.
  unfoldable over : List Block → (ℕ → ℕ) → ℕ
  over [] f = 0
  over (b ∷ bs) f = k b * f b.number + over bs f

  over_more : (bs : List Block) (x : Block) (w : List Block) → over bs (λ n. count n (x ∷ w)) ≡ over bs (λ n. is_leaf n x) + over bs (λ n. count n w)
  unfolding over sum
  over_more [] x w = refl
  over_more (b ∷ bs) x w = omega (arith, over_more bs x w, distribute (k b) (is_leaf b.number x) (count b.number w))
    where
      distribute : (a b c : ℕ) → a * (b + c) ≡ a * b + a * c
      distribute a b c = omega arith

  over_none : (bs : List Block) → over bs (λ n. count n []) ≡ 0
  unfolding over sum
  over_none [] = refl
  over_none (b ∷ bs) = omega (arith, over_none bs)

  -- A block that is none of the leaves, as its number is below theirs.
  below_all : (n : ℕ) (bs : List Block) (x : Block) → Row n bs → x.number < n → over bs (λ n. is_leaf n x) ≡ 0
  unfolding over Row
  below_all n [] x r l = refl
  below_all n (b ∷ bs) x r l =
      let z : is_leaf b.number x ≡ 0 = ap bit (ne_eqb x.number b.number (λ e. omega (arith, e, r.0))) in
      omega (arith, ap (λ i. k b * i) z, below_all (suc n) bs x r.1 (omega arith))

  over_one : (n : ℕ) (bs : List Block) (x : Block) → Row n bs → Among x bs → over bs (λ n. is_leaf n x) ≡ k x
  unfolding over Row
  over_one n [] x r a = absurd (among_none x a)
  over_one n (b ∷ bs) x r a =
      elim (among_open x b bs a) [
        | inl e ↦
            let z : is_leaf b.number x ≡ 1 = ap bit (eq-eqb x.number b.number (ap (λ y. y.number) (sym e))) in
            omega (arith, ap (λ i. k b * i) z, ap k e, below_all (suc n) bs x r.1 (omega (arith, r.0, ap (λ y. y.number) e)))
        | inr i ↦
            let z : is_leaf b.number x ≡ 0 = ap bit (ne_eqb x.number b.number (λ e. omega (arith, e, r.0, (row_range (suc n) bs r.1 x i).0))) in
            omega (arith, ap (λ i. k b * i) z, over_one (suc n) bs x r.1 i)
      ]

  over_sum : (bs w : List Block) → Row 0 bs → Each (λ b. Among b bs) w → over bs (λ n. count n w) ≡ sum k w
  unfolding Each sum
  over_sum bs [] r i = over_none bs
  over_sum bs (x ∷ w) r i = omega (arith, over_more bs x w, over_one 0 bs x r i.0, over_sum bs w r i.1)

-- What is left out adds nothing.
added_over : (bs w : List Block) → added (listed bs w) ≡ over M bs (λ n. count n w)
unfolding added listed over
added_over [] w = refl
added_over (b ∷ bs) w = go (M b) (count b.number w) refl (added_over bs w)
  where
    go : (m n : ℕ) → M b ≡ m → added (listed bs w) ≡ over M bs (λ n. count n w) →
        added (pick (eqb m 0 || eqb n 0) (listed bs w) (record { leaf = b; count = n } ∷ listed bs w)) ≡ m * n + over M bs (λ n. count n w)
    go zero n d e = omega (arith, e)
    go (suc m) zero d e = rw (ne_eqb (suc m) 0 (λ q. omega arith)) (e ∙ omega arith)
    go (suc m) (suc n) d e =
        rw (ne_eqb (suc m) 0 (λ q. omega arith), ne_eqb (suc n) 0 (λ q. omega arith)) (omega (arith, e, ap (λ i. i * suc n) d))

pub adds_up : (p : Plan) → Accepted p → (w : List Block) → OfPlan p w → added (listed (all_leaves p.functions) w) ≡ sum M w
adds_up p a w i = added_over (all_leaves p.functions) w ∙ over_sum M (all_leaves p.functions) w (spans_all_row p.functions 0 (plan_spans p a.formed)) i

-- Of a leaf whose visits cost something, each visit costs something.
pub costly_count : (k : Block → ℕ) (p : Plan) → Accepted p → (b : Block) → Among b (all_leaves p.functions) → 0 < k b → (w : List Block) → OfPlan p w →
    sum (λ v. pick (ltb 0 (k v)) (is_leaf b.number v) 0) w ≡ count b.number w
unfolding Each sum
costly_count k p a b m l [] i = refl
costly_count k p a b m l (v ∷ w) i =
    let z : pick (ltb 0 (k v)) (is_leaf b.number v) 0 ≡ is_leaf b.number v =
    elim (dec_le (suc 0) (k v)) [
      | yes y ↦ rw (lt-ltb 0 (k v) y) refl
      | no n ↦
          let q : is_leaf b.number v ≡ 0 = ap bit (ne_eqb v.number b.number (λ e. n (omega (arith, l, ap k (among_number p a v b i.0 m e))))) in
          go (ltb 0 (k v)) (is_leaf b.number v) q
    ] in
    omega (arith, z, costly_count k p a b m l w i.1)
  where
    go : (t : Bool) (n : ℕ) → n ≡ 0 → pick t n 0 ≡ n
    go true n e = refl
    go false n e = sym e
