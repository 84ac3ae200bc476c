-- `no_more` and `no_further` say whether no run meets a further point.
use mathlib.Core.Bool.{Bool, true, false, ◌&&◌}
use mathlib.Core.List.{List, [], ◌∷◌, ◌++◌, append_assoc}
use mathlib.Core.Logic.{◌↔◌, inl, inr}
use mathlib.Core.Path.{◌≡◌, refl, ap, sym, ◌∙◌, subst}
use Prim.Native.Nat.{ℕ, zero, suc}
use native.Mathlib.Omega.{arith}
use Rattle.model.specs.Plan.{Block}
use Rattle.model.specs.Forms.{Forms, done, leaf, call, loop, cond, ◌⊕◌, Has, NoPoint}
use Rattle.model.specs.Runs.{Run, ends, visit, enter, leave, turn, run_then, run_else, visits, reports}
use Rattle.model.specs.Remaining.{Reported, Final}
use Rattle.model.specs.Places.{pick, Traceable, no_more, no_further}
use Rattle.model.proofs.Total.{some_run}
use Rattle.model.proofs.Steps.{Step, past, into, out, again, first, second, block, after, remains}
use Rattle.model.proofs.Places.{StepReport, step_report, report_of, same_place, one_block, reports_append, traceable_after, truth}
use Rattle.model.proofs.Located.{pick_true, mute_block, traceable_remains}
use Rattle.model.proofs.Closing.{both, both_silent, silent_cons, no_report, no_reports}

three : (p q r : Bool) → (p && (q && r)) ≡ true → (p ≡ true) × (q ≡ true) × (r ≡ true)
three p q r e = let (a, b) = both p (q && r) e in let (c, d) = both q r b in (a, c, d)

-- Forms without a point, and forms one behind the other.
mute_no_more : (f : Forms) → NoPoint f → no_more f ≡ true
unfolding no_more Has
mute_no_more done u = refl
mute_no_more (leaf b rest) u = rw (mute_block b (λ n h. u n (inl h)), mute_no_more rest (λ n h. u n (inr h)))
mute_no_more (call b fun rest) u = rw (mute_block b (λ n h. u n (inl h)), mute_no_more rest (λ n h. u n (inr (inr h))))
mute_no_more (loop b m body rest) u = rw (mute_block b (λ n h. u n (inl h)), mute_no_more rest (λ n h. u n (inr (inr h))))
mute_no_more (cond b then else rest) u =
    rw (
      mute_block b (λ n h. u n (inl h)),
      mute_no_more then (λ n h. u n (inr (inl h))),
      mute_no_more else (λ n h. u n (inr (inr (inl h)))),
      mute_no_more rest (λ n h. u n (inr (inr (inr h)))),
    )

pick_and : (p s t : Bool) → pick p false (s && t) ≡ (pick p false s && t)
pick_and true s t = refl
pick_and false s t = refl

and_assoc : (a b c d : Bool) → (a && (b && (c && d))) ≡ ((a && (b && c)) && d)
and_assoc true true c d = refl
and_assoc true false c d = refl
and_assoc false b c d = refl

pub no_more-⊕ : (f g : Forms) → no_more (f ⊕ g) ≡ (no_more f && no_more g)
unfolding no_more ◌⊕◌
no_more-⊕ done g = refl
no_more-⊕ (leaf b rest) g = ap (pick b.point false) (no_more-⊕ rest g) ∙ pick_and b.point (no_more rest) (no_more g)
no_more-⊕ (call b fun rest) g = ap (pick b.point false) (no_more-⊕ rest g) ∙ pick_and b.point (no_more rest) (no_more g)
no_more-⊕ (loop b m body rest) g = ap (pick b.point false) (no_more-⊕ rest g) ∙ pick_and b.point (no_more rest) (no_more g)
no_more-⊕ (cond b then else rest) g =
    ap (λ s. pick b.point false (no_more then && (no_more else && s))) (no_more-⊕ rest g) ∙
    (ap (pick b.point false) (and_assoc (no_more then) (no_more else) (no_more rest) (no_more g)) ∙
    pick_and b.point (no_more then && (no_more else && no_more rest)) (no_more g))

no_more_join : (f g : Forms) → no_more f ≡ true → no_more g ≡ true → no_more (f ⊕ g) ≡ true
no_more_join f g e d = rw (no_more-⊕ f g, e, d)

-- VISIT BY VISIT

-- Where no point comes any more, the next visit is silent, and none comes behind it.
no_more_silent : {fs : Forms} (s : Step fs) → no_more fs ≡ true → (block s).point ≡ false
unfolding no_more block
no_more_silent (past {b = b} {rest = rest}) e = (pick_true b.point (no_more rest) e).0
no_more_silent (into {b = b} {rest = rest}) e = (pick_true b.point (no_more rest) e).0
no_more_silent (out {b = b} {rest = rest}) e = (pick_true b.point (no_more rest) e).0
no_more_silent (again {b = b} {rest = rest}) e = (pick_true b.point (no_more rest) e).0
no_more_silent (first {b = b} {then = then} {else = else} {rest = rest}) e = (pick_true b.point (no_more then && (no_more else && no_more rest)) e).0
no_more_silent (second {b = b} {then = then} {else = else} {rest = rest}) e = (pick_true b.point (no_more then && (no_more else && no_more rest)) e).0

pub no_more_step : {fs : Forms} (s : Step fs) → Traceable fs → no_more fs ≡ true → no_more (after s) ≡ true
unfolding no_more Traceable after
no_more_step (past {b = b} {rest = rest}) t e = (pick_true b.point (no_more rest) e).1
no_more_step (into {b = b} {fun = fun} {rest = rest}) t e =
    let (p, q) = pick_true b.point (no_more rest) e in no_more_join fun rest (mute_no_more fun (t.0 p)) q
no_more_step (out {b = b} {rest = rest}) t e = (pick_true b.point (no_more rest) e).1
no_more_step (again {b = b} {n = n} {body = body} {rest = rest}) t e =
    let (p, q) = pick_true b.point (no_more rest) e in no_more_join body (loop b n body rest) (mute_no_more body (t.0 p)) e
no_more_step (first {b = b} {then = then} {else = else} {rest = rest}) t e =
    let (p, q) = pick_true b.point (no_more then && (no_more else && no_more rest)) e in
    let (x, y, z) = three (no_more then) (no_more else) (no_more rest) q in
    no_more_join then rest x z
no_more_step (second {b = b} {then = then} {else = else} {rest = rest}) t e =
    let (p, q) = pick_true b.point (no_more then && (no_more else && no_more rest)) e in
    let (x, y, z) = three (no_more then) (no_more else) (no_more rest) q in
    no_more_join else rest y z

-- Before a point's visit a further point comes.
pub point_ahead : {fs : Forms} (s : Step fs) → (block s).point ≡ true → no_more fs ≡ false
point_ahead {fs} s i =
    elim (truth (no_more fs)) [
      | inl e ↦ let z : true ≡ false = sym i ∙ no_more_silent s e in absurd (let y : ◌≡◌ {A = ℕ} 0 1 = cc in omega arith)
      | inr e ↦ e
    ]

-- Behind a visit, whatever it chooses; and only then.
pub no_further_step : {fs : Forms} (s : Step fs) → no_further fs ≡ true → no_more (after s) ≡ true
unfolding no_further after
no_further_step past e = e
no_further_step into e = e
no_further_step (out {n = zero}) e = e
no_further_step (out {b = b} {n = suc n} {body = body} {rest = rest}) e = (both (no_more rest) (no_more (body ⊕ loop b n body rest)) e).0
no_further_step (again {b = b} {n = n} {body = body} {rest = rest}) e = (both (no_more rest) (no_more (body ⊕ loop b n body rest)) e).1
no_further_step (first {then = then} {else = else} {rest = rest}) e = (both (no_more (then ⊕ rest)) (no_more (else ⊕ rest)) e).0
no_further_step (second {then = then} {else = else} {rest = rest}) e = (both (no_more (then ⊕ rest)) (no_more (else ⊕ rest)) e).1

no_further_all : (fs : Forms) → ((s : Step fs) → no_more (after s) ≡ true) → no_further fs ≡ true
unfolding no_further after
no_further_all done h = refl
no_further_all (leaf b rest) h = h past
no_further_all (call b fun rest) h = h into
no_further_all (loop b zero body rest) h = h out
no_further_all (loop b (suc n) body rest) h = rw (h out, h again)
no_further_all (cond b then else rest) h = rw (h first, h second)

-- OVER RUNS

no_more_run : {f : Forms} (r : Run f) → Traceable f → no_more f ≡ true → reports (visits r) ≡ []
unfolding no_more Traceable visits reports
no_more_run ends t e = refl
no_more_run (visit {b = b} {rest = rest} r) t e = let (p, q) = pick_true b.point (no_more rest) e in silent_cons b (visits r) p (no_more_run r t q)
no_more_run (enter {b = b} {fun = fun} {rest = rest} x y) t e =
    let (p, q) = pick_true b.point (no_more rest) e in
    silent_cons b (visits x ++ visits y) p (both_silent (visits x) (visits y) (no_more_run x t.2 (mute_no_more fun (t.0 p))) (no_more_run y t.3 q))
no_more_run (leave {b = b} {rest = rest} r) t e = let (p, q) = pick_true b.point (no_more rest) e in silent_cons b (visits r) p (no_more_run r t.4 q)
no_more_run (turn {b = b} {body = body} {rest = rest} x y) t e =
    let (p, q) = pick_true b.point (no_more rest) e in
    silent_cons b (visits x ++ visits y) p (both_silent (visits x) (visits y) (no_more_run x t.3 (mute_no_more body (t.0 p))) (no_more_run y t e))
no_more_run (run_then {b = b} {then = then} {else = else} {rest = rest} x y) t e =
    let (p, q) = pick_true b.point (no_more then && (no_more else && no_more rest)) e in
    let (u, v, w) = three (no_more then) (no_more else) (no_more rest) q in
    silent_cons b (visits x ++ visits y) p (both_silent (visits x) (visits y) (no_more_run x t.3 u) (no_more_run y t.5 w))
no_more_run (run_else {b = b} {then = then} {else = else} {rest = rest} x y) t e =
    let (p, q) = pick_true b.point (no_more then && (no_more else && no_more rest)) e in
    let (u, v, w) = three (no_more then) (no_more else) (no_more rest) q in
    silent_cons b (visits x ++ visits y) p (both_silent (visits x) (visits y) (no_more_run x t.4 v) (no_more_run y t.5 w))

runs_no_more : (f : Forms) → ((r : Run f) → reports (visits r) ≡ []) → no_more f ≡ true
unfolding no_more visits
runs_no_more done h = refl
runs_no_more (leaf b rest) h =
    rw ((no_report b (visits (some_run rest)) (h (visit (some_run rest)))).0, runs_no_more rest (λ r. (no_report b (visits r) (h (visit r))).1))
runs_no_more (call b fun rest) h =
    let x = some_run fun in
    rw ((no_reports b (visits x) (visits (some_run rest)) (h (enter x (some_run rest)))).0, runs_no_more rest (λ r. (no_reports b (visits x) (visits r) (h (enter x r))).2))
runs_no_more (loop b n body rest) h =
    rw ((no_report b (visits (some_run rest)) (h (leave (some_run rest)))).0, runs_no_more rest (λ r. (no_report b (visits r) (h (leave r))).1))
runs_no_more (cond b then else rest) h =
    let x = some_run then in
    let y = some_run rest in
    rw (
      (no_reports b (visits x) (visits y) (h (run_then x y))).0,
      runs_no_more then (λ r. (no_reports b (visits r) (visits y) (h (run_then r y))).1),
      runs_no_more else (λ r. (no_reports b (visits r) (visits y) (h (run_else r y))).1),
      runs_no_more rest (λ r. (no_reports b (visits x) (visits r) (h (run_then x r))).2),
    )

-- At the release.
pub no_more_exact : (f : Forms) → Traceable f → (no_more f ≡ true) ↔ Final f []
no_more_exact f t = ((λ e r k d. sym d ∙ no_more_run r t e), λ h. runs_no_more f (λ r. h r (reports (visits r)) refl))

-- Visits whose reports are h and then k, split at the last report of h.
abbrev pub Split : List Block → List ℕ → List ℕ → Type 0
Split w h k = (u : List Block) × (b : Block) × (v : List Block) × (w ≡ u ++ (b ∷ v)) × (b.point ≡ true) × (reports (u ++ (b ∷ [])) ≡ h) × (reports v ≡ k)

split_more : (b : Block) (w : List Block) (h k l : List ℕ) → ((v : List Block) → reports v ≡ h → reports (b ∷ v) ≡ l) → Split w h k → Split (b ∷ w) l k
split_more b w h k l f (u, c, v, e, p, r, s) = (b ∷ u, c, v, ap (λ x. b ∷ x) e, p, f (u ++ (c ∷ [])) r, s)

-- At a point: it is the last of them, or there are more behind it.
split_point : (b : Block) (w : List Block) (n : ℕ) (h k : List ℕ) → ((m : ℕ) (l : List ℕ) → reports w ≡ m ∷ (l ++ k) → Split w (m ∷ l) k) →
    b.point ≡ true → b.number ≡ n → reports w ≡ h ++ k → Split (b ∷ w) (n ∷ h) k
unfolding reports
split_point b w n [] k f p i e = ([], b, w, refl, p, rw (p, i), e)
split_point b w n (m ∷ h) k f p i e = split_more b w (m ∷ h) k (n ∷ m ∷ h) (λ v d. rw (p, d, i)) (f m h e)

pub split_reports : (w : List Block) (n : ℕ) (h k : List ℕ) → reports w ≡ n ∷ (h ++ k) → Split w (n ∷ h) k
unfolding reports
split_reports [] n h k e = absurd (let z : ◌≡◌ {A = ℕ} 0 1 = cc in omega arith)
split_reports (b ∷ w) n h k e =
    elim (truth b.point) [
      | inl p ↦ let d : b.number ∷ reports w ≡ n ∷ (h ++ k) = rw p at e in let i : b.number ≡ n = cc in let j : reports w ≡ h ++ k = cc in split_point b w n h k (λ m l z. split_reports w m l k z) p i j
      | inr p ↦ split_more b w (n ∷ h) k (n ∷ h) (λ v d. rw p d) (split_reports w n h k (rw p at e))
    ]

-- At a report.
module _ {fs : Forms} {n : ℕ} {h : List ℕ} (t : Traceable fs) (v : StepReport fs (n ∷ h)) where
  no_further_run : no_further (remains v.before) ≡ true → Final fs (n ∷ h)
  no_further_run e r k d =
      let (x, b, y, i, p, j, z) = split_reports (visits r) n h k d in
      let u : Reported fs (n ∷ h) = record { at = record { run = r; before = x; block = b; behind = y; split = i }; point = p; history = j } in
      let (w, a, c, l) = step_report u in
      sym z ∙ (ap reports (sym l) ∙
      no_more_run w.behind (traceable_after w.step (traceable_remains w.before t))
      (no_further_step w.step (subst (λ g. no_further g ≡ true) (sym (same_place t v w)) e)))

  final_behind : Final fs (n ∷ h) → (s : Step (remains v.before)) → no_more (after s) ≡ true
  final_behind f s =
      runs_no_more (after s) (λ r.
      let w : StepReport fs (n ∷ h) = record { before = v.before; step = s; point = rw (one_block s v.step) v.point; history = rw (one_block s v.step) v.history; behind = r } in
      let (u, a, b, c) = report_of w in
      let x = u.at in
      let all : reports (visits x.run) ≡ (n ∷ h) ++ reports x.behind =
      ap reports (x.split ∙ sym (append_assoc x.before (x.block ∷ []) x.behind)) ∙ (reports_append (x.before ++ (x.block ∷ [])) x.behind ∙ ap (λ y. y ++ reports x.behind) u.history) in
      ap reports (sym c) ∙ f x.run (reports x.behind) all)

  pub no_further_exact : (no_further (remains v.before) ≡ true) ↔ Final fs (n ∷ h)
  no_further_exact = (no_further_run, λ f. no_further_all (remains v.before) (final_behind f))
