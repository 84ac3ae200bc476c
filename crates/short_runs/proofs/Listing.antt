-- The computed list is that of all short runs.
use mathlib.Core.Bool.{Bool, true, false}
use mathlib.Core.List.{List, [], ◌∷◌, ◌++◌}
use mathlib.Core.Logic.{◌⊎◌, inl, inr}
use mathlib.Core.Path.{◌≡◌, refl, ap, sym, ◌∙◌}
use Prim.Native.Nat.{ℕ, zero, suc, ◌≤◌, ◌<◌}
use native.Mathlib.Omega.{arith}
use lib.Dec.{eqb, ltb}
use borrow.Author.Tests.{eqb-true, eqb-false, ltb-true, ltb-false}
use lib.ListN.{length}
use Rattle.model.specs.Plan.{Block, Plan}
use Rattle.model.specs.Forms.{Forms, done, leaf, call, loop, cond, main}
use Rattle.model.specs.Runs.{Run, ends, visit, enter, leave, turn, run_then, run_else, visits}
use Rattle.model.specs.Acceptance.{Accepted}
use Rattle.model.specs.Places.{pick}
use Rattle.model.proofs.Steps.{Step, past, into, out, again, first, second, block, after, run_open, run_close}
use Rattle.short_runs.specs.ShortRuns.{leaf_numbers, Before, Ascending, OnList, ShortRuns, most_visits, AllShortRuns}
use Rattle.short_runs.specs.Listing.{Ways, at_end, one, two, ways, next_leaf, in_front, ordered, behind_visit, without_visit, short_runs}
use Rattle.short_runs.proofs.Order.{ascending_behind, ascending_later, ascending_cons}
use Rattle.short_runs.specs.Told.{NumbersTell}
use Rattle.short_runs.proofs.Told.{WaysTell, told_ways, accepted_told}

-- RUNS WAY BY WAY

-- A run of the forms with these visits.
abbrev Going : Forms → List Block → Type 0
Going fs w = (r : Run fs) × (visits r ≡ w)

unfoldable By : Ways → List Block → Type 0
By at_end w = w ≡ []
By (one b f) w = (u : List Block) × (w ≡ b ∷ u) × Going f u
By (two b f g) w = (u : List Block) × (w ≡ b ∷ u) × (Going f u ⊎ Going g u)

step_by : {fs : Forms} (s : Step fs) (t : Run (after s)) → By (ways fs) (block s ∷ visits t)
unfolding By ways block after
step_by past t = (visits t, refl, (t, refl))
step_by into t = (visits t, refl, (t, refl))
step_by (out {n = zero}) t = (visits t, refl, (t, refl))
step_by (out {n = suc n}) t = (visits t, refl, inl (t, refl))
step_by again t = (visits t, refl, inr (t, refl))
step_by first t = (visits t, refl, inl (t, refl))
step_by second t = (visits t, refl, inr (t, refl))

no_visit : {b : Block} {w : List Block} → b ∷ w ≡ [] → {A : Type 0} → A
no_visit e = absurd (let z : ◌≡◌ {A = ℕ} 0 1 = cc in omega arith)

end_by : {fs : Forms} (r : Run fs) → visits r ≡ [] → By (ways fs) []
unfolding By ways visits
end_by ends e = refl
end_by (visit r) e = no_visit e
end_by (enter x r) e = no_visit e
end_by (leave r) e = no_visit e
end_by (turn x r) e = no_visit e
end_by (run_then x r) e = no_visit e
end_by (run_else x r) e = no_visit e

going_by : (fs : Forms) (w : List Block) → Going fs w → By (ways fs) w
going_by fs w (r, e) =
    elim (run_open r) [
      | inl i ↦ let h : By (ways fs) [] = end_by r i in let d : [] ≡ w = sym i ∙ e in rw d at h
      | inr (s, t, i, _) ↦ let h : By (ways fs) (block s ∷ visits t) = step_by s t in let d : block s ∷ visits t ≡ w = sym i ∙ e in rw d at h
    ]

closed_by : {fs : Forms} (s : Step fs) (w u : List Block) → w ≡ block s ∷ u → Going (after s) u → Going fs w
closed_by s w u e (t, i) = let (r, j, _) = run_close s t in (r, cc)

by_going : (fs : Forms) (w : List Block) → By (ways fs) w → Going fs w
unfolding By ways visits block after
by_going done w e = (ends, sym e)
by_going (leaf b rest) w (u, e, g) = closed_by past w u e g
by_going (call b fun rest) w (u, e, g) = closed_by into w u e g
by_going (loop b zero body rest) w (u, e, g) = closed_by out w u e g
by_going (loop b (suc n) body rest) w (u, e, inl g) = closed_by out w u e g
by_going (loop b (suc n) body rest) w (u, e, inr g) = closed_by again w u e g
by_going (cond b then else rest) w (u, e, inl g) = closed_by first w u e g
by_going (cond b then else rest) w (u, e, inr g) = closed_by second w u e g

-- WHAT IS LISTED

in_front_only : (b : Block) (ws : List (List Block)) (w : List Block) → OnList w (in_front b ws) → (u : List Block) × (w ≡ b ∷ u) × OnList u ws
unfolding OnList in_front
in_front_only b [] w i = absurd i
in_front_only b (v ∷ vs) w (inl e) = (v, sym e, inl refl)
in_front_only b (v ∷ vs) w (inr i) = let (u, e, j) = in_front_only b vs w i in (u, e, inr j)

in_front_every : (b : Block) (ws : List (List Block)) (u : List Block) → OnList u ws → OnList (b ∷ u) (in_front b ws)
unfolding OnList in_front
in_front_every b [] u i = absurd i
in_front_every b (v ∷ vs) u (inl e) = inl (ap (λ l. b ∷ l) e)
in_front_every b (v ∷ vs) u (inr i) = inr (in_front_every b vs u i)

listed_left : (us vs : List (List Block)) (w : List Block) → OnList w us → OnList w (us ++ vs)
unfolding OnList
listed_left [] vs w i = absurd i
listed_left (u ∷ us) vs w (inl e) = inl e
listed_left (u ∷ us) vs w (inr i) = inr (listed_left us vs w i)

listed_right : (us vs : List (List Block)) (w : List Block) → OnList w vs → OnList w (us ++ vs)
unfolding OnList
listed_right [] vs w i = i
listed_right (u ∷ us) vs w i = inr (listed_right us vs w i)

listed_append : (us vs : List (List Block)) (w : List Block) → OnList w (us ++ vs) → OnList w us ⊎ OnList w vs
unfolding OnList
listed_append [] vs w i = inr i
listed_append (u ∷ us) vs w (inl e) = inl (inl e)
listed_append (u ∷ us) vs w (inr i) = elim (listed_append us vs w i) [ inl j ↦ inl (inr j) | inr j ↦ inr j ]

-- The three cases of two lists in order.
module _ (us vs : List (List Block)) (w : List Block) where
  picked_only : (p q : Bool) → OnList w (pick p us (pick q (us ++ vs) (vs ++ us))) → OnList w us ⊎ OnList w vs
  picked_only true q i = inl i
  picked_only false true i = listed_append us vs w i
  picked_only false false i = elim (listed_append vs us w i) [ inl j ↦ inr j | inr j ↦ inl j ]

  picked_left : (p q : Bool) → OnList w us → OnList w (pick p us (pick q (us ++ vs) (vs ++ us)))
  picked_left true q i = i
  picked_left false true i = listed_left us vs w i
  picked_left false false i = listed_right vs us w i

  picked_right : (p q : Bool) → (p ≡ true → us ≡ vs) → OnList w vs → OnList w (pick p us (pick q (us ++ vs) (vs ++ us)))
  picked_right true q e i = rw (e refl) i
  picked_right false true e i = listed_right us vs w i
  picked_right false false e i = listed_left vs us w i

-- ONLY RUNS

abbrev Only : ℕ → Type 0
Only k = (fs : Forms) (w : List Block) → OnList w (short_runs k fs) → Going fs w × (length w ≤ k)

length_cons : (k : ℕ) (b : Block) (u w : List Block) → w ≡ b ∷ u → length u ≤ k → length w ≤ suc k
length_cons k b u w e h = rw e (omega arith)

length_none : (k : ℕ) (w : List Block) → w ≡ [] → length w ≤ k
length_none k w e = rw e (omega arith)

end_only : (k : ℕ) (w : List Block) → OnList w ([] ∷ []) → (w ≡ []) × (length w ≤ k)
unfolding OnList
end_only k w (inl e) = (sym e, length_none k w (sym e))
end_only k w (inr i) = absurd i

only_zero : (x : Ways) (w : List Block) → OnList w (without_visit x) → By x w × (length w ≤ 0)
unfolding By OnList
only_zero at_end w i = end_only 0 w i
only_zero (one b f) w i = absurd i
only_zero (two b f g) w i = absurd i

only_suc : (k : ℕ) → Only k → (x : Ways) (w : List Block) → OnList w (behind_visit x (λ g. short_runs k g)) → By x w × (length w ≤ suc k)
unfolding By
only_suc k ih at_end w i = end_only (suc k) w i
only_suc k ih (one b f) w i =
    let (u, e, j) = in_front_only b (short_runs k f) w i in
    let (g, l) = ih f u j in
    ((u, e, g), length_cons k b u w e l)
only_suc k ih (two b f g) w i =
    let (u, e, j) = in_front_only b (ordered (next_leaf f) (next_leaf g) (short_runs k f) (short_runs k g)) w i in
    elim (picked_only (short_runs k f) (short_runs k g) u (eqb (next_leaf f) (next_leaf g)) (ltb (next_leaf f) (next_leaf g)) j) [
      | inl a ↦ let (h, l) = ih f u a in ((u, e, inl h), length_cons k b u w e l)
      | inr a ↦ let (h, l) = ih g u a in ((u, e, inr h), length_cons k b u w e l)
    ]

listed_only : (k : ℕ) → Only k
unfolding short_runs
listed_only zero fs w i = let (h, l) = only_zero (ways fs) w i in (by_going fs w h, l)
listed_only (suc k) fs w i = let (h, l) = only_suc k (listed_only k) (ways fs) w i in (by_going fs w h, l)

-- EVERY RUN

abbrev Every : ℕ → Type 0
Every k = (fs : Forms) → NumbersTell fs → (w : List Block) → Going fs w → length w ≤ k → OnList w (short_runs k fs)

length_less : (k : ℕ) (b : Block) (u w : List Block) → w ≡ b ∷ u → length w ≤ suc k → length u ≤ k
length_less k b u w e h = let i : length (b ∷ u) ≤ suc k = rw e at h in omega arith

every_zero : (x : Ways) (w : List Block) → By x w → length w ≤ 0 → OnList w (without_visit x)
unfolding By OnList
every_zero at_end w e l = inl (sym e)
every_zero (one b f) w (u, e, g) l = absurd (let i : length (b ∷ u) ≤ 0 = rw e at l in omega arith)
every_zero (two b f g) w (u, e, h) l = absurd (let i : length (b ∷ u) ≤ 0 = rw e at l in omega arith)

front : (b : Block) (ws : List (List Block)) (u w : List Block) → w ≡ b ∷ u → OnList u ws → OnList w (in_front b ws)
front b ws u w e i = rw e (in_front_every b ws u i)

every_suc : (k : ℕ) → Every k → (x : Ways) → WaysTell x → (w : List Block) → By x w → length w ≤ suc k → OnList w (behind_visit x (λ g. short_runs k g))
unfolding By OnList WaysTell
every_suc k ih at_end c w e l = inl (sym e)
every_suc k ih (one b f) c w (u, e, g) l = front b (short_runs k f) u w e (ih f c u g (length_less k b u w e l))
every_suc k ih (two b f g) (c, d, same) w (u, e, inl h) l =
    front b (ordered (next_leaf f) (next_leaf g) (short_runs k f) (short_runs k g)) u w e
    (picked_left (short_runs k f) (short_runs k g) u (eqb (next_leaf f) (next_leaf g)) (ltb (next_leaf f) (next_leaf g)) (ih f c u h (length_less k b u w e l)))
every_suc k ih (two b f g) (c, d, same) w (u, e, inr h) l =
    front b (ordered (next_leaf f) (next_leaf g) (short_runs k f) (short_runs k g)) u w e
    (picked_right (short_runs k f) (short_runs k g) u (eqb (next_leaf f) (next_leaf g)) (ltb (next_leaf f) (next_leaf g))
    (λ t. ap (λ x. short_runs k x) (same (eqb-true (next_leaf f) (next_leaf g) t))) (ih g d u h (length_less k b u w e l)))

listed_every : (k : ℕ) → Every k
unfolding short_runs
listed_every zero fs t w g l = every_zero (ways fs) w (going_by fs w g) l
listed_every (suc k) fs t w g l = every_suc k (listed_every k) (ways fs) (told_ways fs t) w (going_by fs w g) l

-- IN ORDER

-- What leaf numbers open with: 0 where there are none, else one more than the first.
unfoldable start : List ℕ → ℕ
start [] = 0
start (n ∷ v) = suc n

start_before : (u v : List ℕ) → start u < start v → Before u v
unfolding start Before
start_before [] [] h = omega arith
start_before [] (n ∷ v) h = tt
start_before (m ∷ u) [] h = omega arith
start_before (m ∷ u) (n ∷ v) h = inl (omega arith)

run_start : {fs : Forms} (r : Run fs) → start (leaf_numbers (visits r)) ≡ next_leaf fs
unfolding start leaf_numbers visits next_leaf
run_start ends = refl
run_start (visit r) = refl
run_start (enter x r) = refl
run_start (leave r) = refl
run_start (turn x r) = refl
run_start (run_then x r) = refl
run_start (run_else x r) = refl

going_start : (fs : Forms) (w : List Block) → Going fs w → start (leaf_numbers w) ≡ next_leaf fs
going_start fs w (r, e) = let h : start (leaf_numbers (visits r)) ≡ next_leaf fs = run_start r in rw e at h

in_front_ascending : (b : Block) (ws : List (List Block)) → Ascending ws → Ascending (in_front b ws)
unfolding Ascending in_front Before leaf_numbers
in_front_ascending b [] a = tt
in_front_ascending b (u ∷ []) a = tt
in_front_ascending b (u ∷ v ∷ ws) (h, a) = (inr (refl, h), in_front_ascending b (v ∷ ws) a)

abbrev AllBefore : List (List Block) → List (List Block) → Type 0
AllBefore us vs = (u v : List Block) → OnList u us → OnList v vs → Before (leaf_numbers u) (leaf_numbers v)

append_ascending : (us vs : List (List Block)) → Ascending us → Ascending vs → AllBefore us vs → Ascending (us ++ vs)
unfolding OnList
append_ascending [] vs a b h = b
append_ascending (u ∷ us) vs a b h =
    ascending_cons u (us ++ vs)
    (λ w i. elim (listed_append us vs w i) [ inl j ↦ ascending_behind u us a w j | inr j ↦ h u w (inl refl) j ])
    (append_ascending us vs (ascending_later u us a) b (λ x y i j. h x y (inr i) j))

before_listed : (k : ℕ) (f g : Forms) → next_leaf f < next_leaf g → AllBefore (short_runs k f) (short_runs k g)
before_listed k f g h u v i j =
    start_before (leaf_numbers u) (leaf_numbers v) (omega (arith, going_start f u ((listed_only k f u i).0), going_start g v ((listed_only k g v j).0)))

ordered_ascending : (k : ℕ) (f g : Forms) → Ascending (short_runs k f) → Ascending (short_runs k g) → (p q : Bool) →
    eqb (next_leaf f) (next_leaf g) ≡ p → ltb (next_leaf f) (next_leaf g) ≡ q →
    Ascending (pick p (short_runs k f) (pick q (short_runs k f ++ short_runs k g) (short_runs k g ++ short_runs k f)))
ordered_ascending k f g a b true q e h = a
ordered_ascending k f g a b false true e h =
    append_ascending (short_runs k f) (short_runs k g) a b (before_listed k f g (ltb-true (next_leaf f) (next_leaf g) h))
ordered_ascending k f g a b false false e h =
    append_ascending (short_runs k g) (short_runs k f) b a
    (before_listed k g f (less (next_leaf f) (next_leaf g) (eqb-false (next_leaf f) (next_leaf g) e) (ltb-false (next_leaf f) (next_leaf g) h)))
  where
    less : (m n : ℕ) → ¬ (m ≡ n) → n ≤ m → n < m
    less m n d l = omega arith

pub listed_ascending : (k : ℕ) (fs : Forms) → Ascending (short_runs k fs)
unfolding short_runs Ascending
listed_ascending zero fs = by (ways fs)
  where
    by : (x : Ways) → Ascending (without_visit x)
    by at_end = tt
    by (one b f) = tt
    by (two b f g) = tt
listed_ascending (suc k) fs = by (λ g. listed_ascending k g) (ways fs)
  where
    by : ((g : Forms) → Ascending (short_runs k g)) → (x : Ways) → Ascending (behind_visit x (λ g. short_runs k g))
    by ih at_end = tt
    by ih (one b f) = in_front_ascending b (short_runs k f) (ih f)
    by ih (two b f g) =
        in_front_ascending b (ordered (next_leaf f) (next_leaf g) (short_runs k f) (short_runs k g))
        (ordered_ascending k f g (ih f) (ih g) (eqb (next_leaf f) (next_leaf g)) (ltb (next_leaf f) (next_leaf g)) refl refl)

-- THE LIST

listed_short : (k : ℕ) (fs : Forms) → NumbersTell fs → ShortRuns fs k (short_runs k fs)
listed_short k fs t =
    record {
      only = λ w i. let ((r, e), l) = listed_only k fs w i in record { run = r; visits_are = e; few = l };
      every = λ w s. listed_every k fs t w (s.run, s.visits_are) (s.few);
      ascending = listed_ascending k fs;
    }

pub all_short_runs : (p : Plan) → Accepted p → AllShortRuns p (short_runs most_visits (main p))
all_short_runs p a = listed_short most_visits (main p) (accepted_told p a)
