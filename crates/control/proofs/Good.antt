-- Rule 11's second part: an open release is good exactly when it stands at the release with the times of the release, or some run of the plan stands at its
-- stack and its remaining times are that run's 33. The document's 33 times are single numbers, so they can be compared.
use mathlib.Core.Bool.{Bool, true, false}
use mathlib.Core.List.{List, [], ◌∷◌, ◌++◌}
use mathlib.Core.Logic.{◌↔◌}
use mathlib.Core.Option.{none, some}
use mathlib.Core.Path.{◌≡◌, refl, ap, sym, ◌∙◌, subst}
use Prim.Native.Nat.{ℕ, zero, suc, ◌≤◌}
use native.Mathlib.Omega.{arith}
use native.Mathlib.Decide.{dec_le}
use lib.ListN.{length, get_or, length-replicate}
use Rattle.model.specs.Plan.{C, Plan}
use Rattle.model.specs.Forms.{Forms, main}
use Rattle.model.specs.Runs.{reports}
use Rattle.model.specs.Total.{Total}
use Rattle.model.specs.Remaining.{Remaining}
use Rattle.model.specs.Levels.{Leveled, blocks, Standing, so_far, Latest, Times, Frame, stack}
use Rattle.model.specs.Acceptance.{Accepted}
use Rattle.model.specs.Places.{pick}
use Rattle.model.specs.Stack.{Levels, decode, kept, times}
use Rattle.model.proofs.Total.{total_largest}
use Rattle.model.proofs.Decisions.{largest_unique}
use Rattle.model.proofs.Decoded.{standing_decodes}
use Rattle.model.proofs.Points.{standing_points}
use Rattle.model.proofs.Reachable.{stack_stands}
use Rattle.table.specs.Table.{same_numbers}
use Rattle.table.proofs.Plans.{same_list}
use Rattle.place.specs.Stack.{frames}
use Rattle.control.specs.declared.OpenRelease.{OpenRelease}
use Rattle.control.specs.Meaning.{StandsSomewhere, at_the_release, at_a_report}
use Rattle.control.specs.State.{stack_of, levels_of, timed, standing}
use Rattle.control.proofs.Arrays.{zeros}
use Rattle.control.proofs.Places.{points_all, all_points}
use Rattle.control.proofs.Alike.{timed_some, levels_inner, levels_some, timed_same}

-- LISTS

-- Lists of the same length with the same entries are the same.
same_entries : (u v : List ℕ) → length u ≡ length v → ((j : ℕ) → get_or u j 0 ≡ get_or v j 0) → u ≡ v
same_entries [] [] e h = refl
same_entries [] (y ∷ v) e h = absurd (omega arith)
same_entries (x ∷ u) [] e h = absurd (omega arith)
same_entries (x ∷ u) (y ∷ v) e h = rw (h 0, same_entries u v (omega arith) (λ j. h (suc j)))

-- The latest report at a level is one: of two places where it could be, neither is before the other.
abbrev NoneLater : List Leveled → ℕ → Type 0
NoneLater v l = (u : List Leveled) (x : Leveled) (w : List Leveled) → v ≡ u ++ (x ∷ w) → x.block.point ≡ true → x.level ≡ l → ⊥

one_place : (l : ℕ) (u u' : List Leveled) (x x' : Leveled) (v v' : List Leveled) → u ++ (x ∷ v) ≡ u' ++ (x' ∷ v') → x.block.point ≡ true → x'.block.point ≡ true →
    x.level ≡ l → x'.level ≡ l → NoneLater v l → NoneLater v' l → u ++ (x ∷ []) ≡ u' ++ (x' ∷ [])
one_place l [] [] x x' v v' e p p' q q' n n' = let z : x ≡ x' = cc in ap (λ y. y ∷ []) z
one_place l [] (y ∷ u') x x' v v' e p p' q q' n n' = let z : v ≡ u' ++ (x' ∷ v') = cc in absurd (n u' x' v' z p' q')
one_place l (y ∷ u) [] x x' v v' e p p' q q' n n' = let z : v' ≡ u ++ (x ∷ v) = cc in absurd (n' u x v z p q)
one_place l (y ∷ u) (y' ∷ u') x x' v v' e p p' q q' n n' =
    let z : y ≡ y' = cc in
    let t : u ++ (x ∷ v) ≡ u' ++ (x' ∷ v') = cc in
    rw (z, one_place l u u' x x' v v' t p p' q q' n n')

latest_one : (w : List Leveled) (l : ℕ) (x y : Latest w l) → x.before ++ (x.report ∷ []) ≡ y.before ++ (y.report ∷ [])
latest_one w l x y =
    one_place l x.before y.before x.report y.report x.behind y.behind (sym x.split ∙ y.split) x.point y.point x.level y.level x.latest y.latest

-- THE 33 TIMES ARE SINGLE NUMBERS

times_one : {fs : Forms} (s : Standing fs) (ts us : List ℕ) → Times s ts → Times s us → ts ≡ us
times_one {fs} s ts us a b = same_entries ts us (a.count ∙ sym b.count) entry
  where
    entry : (j : ℕ) → get_or ts j 0 ≡ get_or us j 0
    entry zero = largest_unique a.total b.total
    entry (suc j) =
        elim (dec_le (suc j) s.last.level) [
          | yes h ↦
              let (x, r) = a.latest (suc j) (omega arith) h in
              let (y, q) = b.latest (suc j) (omega arith) h in
              largest_unique (subst (λ w. Remaining fs (reports (blocks w)) (get_or ts (suc j) 0)) (latest_one (so_far s) (suc j) x y) r) q
          | no h ↦ a.higher (suc j) (omega arith) ∙ sym (b.higher (suc j) (omega arith))
        ]

-- GOOD RELEASES

module _ (p : Plan) (a : Accepted p) where
  release_times : (ts : List ℕ) → Total (main p) (get_or ts 0 0) → length ts ≡ 33 → ((j : ℕ) → 1 ≤ j → get_or ts j 0 ≡ 0) → ts ≡ times (main p) []
  unfolding kept
  release_times ts t c h = same_entries ts (times (main p) []) (c ∙ omega (arith, length-replicate {A = ℕ} 32 0)) entry
    where
      entry : (j : ℕ) → get_or ts j 0 ≡ get_or (times (main p) []) j 0
      entry zero = largest_unique t (total_largest C (main p))
      entry (suc j) = h (suc j) (omega arith) ∙ sym (zeros 32 j)

  -- From the test to the run.
  timed_times : (o : OpenRelease) (ls : Levels) → timed p o (some ls) ≡ some ls → o.times ≡ times (main p) ls
  timed_times o ls e = (same_list o.times (times (main p) ls)).0 (by (same_numbers o.times (times (main p) ls)) refl e)
    where
      by : (q : Bool) → same_numbers o.times (times (main p) ls) ≡ q → pick q (some ls) none ≡ some ls → same_numbers o.times (times (main p) ls) ≡ true
      by true h e = h
      by false h e = absurd (let z : ◌≡◌ {A = ℕ} 0 1 = cc in omega arith)

  pub stands_times : (o : OpenRelease) (ls : Levels) → standing p o ≡ some ls → o.times ≡ times (main p) ls
  stands_times o ls e = timed_times o ls (ap (timed p o) (sym (timed_some p a o (levels_of p (stack_of o)) ls e)) ∙ e)

  frames_none : (x y : List ℕ) (l k : ℕ) → frames x y l k ≡ [] → k ≡ 0
  unfolding frames
  frames_none x y l zero e = refl
  frames_none x y l (suc k) e = absurd (let z : ◌≡◌ {A = ℕ} 0 1 = cc in omega arith)

  somewhere : (o : OpenRelease) (ls : Levels) (ss : List Frame) → stack_of o ≡ ss → levels_of p ss ≡ some ls → o.times ≡ times (main p) ls → StandsSomewhere p o
  unfolding kept
  somewhere o ls [] q e t =
      let z : [] ≡ ls = cc in
      let u : o.times ≡ times (main p) [] = t ∙ ap (times (main p)) (sym z) in
      at_the_release (frames_none o.place.leaves o.place.earlier 1 o.place.level q) (rw u (total_largest C (main p))) (rw u (omega (arith, length-replicate {A = ℕ} 32 0)))
      (λ j h. by j h u)
    where
      by : (j : ℕ) → 1 ≤ j → o.times ≡ times (main p) [] → get_or o.times j 0 ≡ 0
      by zero h u = absurd (omega arith)
      by (suc j) h u = ap (λ ts. get_or ts (suc j) 0) u ∙ zeros 32 j
  somewhere o ls (f ∷ fs) q e t =
      let (x, d) = levels_inner p a f fs ls e in
      let (r, i) = stack_stands p a (f ∷ fs) ls d (points_all p (f ∷ fs) x) in
      let k = standing_decodes p a r in
      let z : some k.ls ≡ some ls = sym k.decoded ∙ (ap (decode (main p) []) i ∙ d) in
      let y : k.ls ≡ ls = cc in
      at_a_report r (i ∙ sym q) (rw (t ∙ ap (times (main p)) (sym y)) k.times_are)

  -- And back.
  pub release_stands : (o : OpenRelease) → o.place.level ≡ 0 → o.times ≡ times (main p) [] → standing p o ≡ some []
  unfolding frames
  release_stands o e t = rw e (timed_same p a o [] t)

  report_stands : (o : OpenRelease) (x : Standing (main p)) → stack [] (so_far x) ≡ stack_of o → Times x o.times → (ls : Levels) × (standing p o ≡ some ls)
  report_stands o x e t =
      let k = standing_decodes p a x in
      let l : levels_of p (stack_of o) ≡ some k.ls = ap (levels_of p) (sym e) ∙ levels_some p a (stack [] (so_far x)) k.ls (all_points p (stack [] (so_far x)) (standing_points p x)) k.decoded in
      (k.ls, ap (timed p o) l ∙ timed_same p a o k.ls (times_one x o.times (times (main p) k.ls) t k.times_are))

  -- An open release is good exactly when it stands somewhere.
  pub good_exactly : (o : OpenRelease) → ((ls : Levels) × (standing p o ≡ some ls)) ↔ StandsSomewhere p o
  good_exactly o = (
    (λ (ls, e). somewhere o ls (stack_of o) refl (timed_some p a o (levels_of p (stack_of o)) ls e) (stands_times o ls e)),
    λ w. back w,
  )
    where
      back : StandsSomewhere p o → (ls : Levels) × (standing p o ≡ some ls)
      back (at_the_release e t c h) = ([], release_stands o e (release_times o.times t c h))
      back (at_a_report x e t) = report_stands o x e t
