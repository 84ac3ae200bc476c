-- `passes` and `can_end` say whether a run can end without another report.
use mathlib.Core.Bool.{Bool, true, false, ◌&&◌, ◌||◌}
use mathlib.Core.List.{List, [], ◌∷◌, ◌++◌}
use mathlib.Core.Logic.{◌⊎◌, inl, inr}
use mathlib.Core.Path.{◌≡◌, refl, sym, ◌∙◌}
use Prim.Native.Nat.{ℕ, zero, suc}
use native.Mathlib.Omega.{arith}
use Rattle.model.specs.Plan.{Block}
use Rattle.model.specs.Forms.{Forms, done, leaf, call, loop, cond, ◌⊕◌}
use Rattle.model.specs.Runs.{Run, ends, visit, enter, leave, turn, run_then, run_else, visits, reports, noted}
use Rattle.model.specs.Places.{passes, Traceable, can_end}
use Rattle.model.proofs.Steps.{Step, past, into, out, again, first, second, block, after}
use Rattle.model.proofs.Places.{reports_append, or_true, traceable_after}
use Rattle.model.proofs.Located.{mute_passes, pick_true, or_and}

pub both : (p q : Bool) → (p && q) ≡ true → (p ≡ true) × (q ≡ true)
both true q e = (refl, e)
both false q e = absurd (let z : ◌≡◌ {A = ℕ} 0 1 = cc in omega arith)

-- Silence, visit by visit.
pub passes-⊕ : (f g : Forms) → passes (f ⊕ g) ≡ true → (passes f ≡ true) × (passes g ≡ true)
unfolding passes ◌⊕◌
passes-⊕ done g e = (refl, e)
passes-⊕ (leaf b rest) g e = let (p, q) = pick_true b.point (passes (rest ⊕ g)) e in let (x, y) = passes-⊕ rest g q in (rw (p, x), y)
passes-⊕ (call b fun rest) g e = let (p, q) = pick_true b.point (passes (rest ⊕ g)) e in let (x, y) = passes-⊕ rest g q in (rw (p, x), y)
passes-⊕ (loop b m body rest) g e = let (p, q) = pick_true b.point (passes (rest ⊕ g)) e in let (x, y) = passes-⊕ rest g q in (rw (p, x), y)
passes-⊕ (cond b then else rest) g e =
    let (p, q) = pick_true b.point ((passes then || passes else) && passes (rest ⊕ g)) e in
    let (z, u) = both (passes then || passes else) (passes (rest ⊕ g)) q in
    let (x, y) = passes-⊕ rest g u in
    (rw (p, z, x), y)

pub passes_step : {fs : Forms} (v : Step fs) → (block v).point ≡ false → passes (after v) ≡ true → passes fs ≡ true
unfolding passes block after
passes_step past p e = rw (p, e)
passes_step (into {fun = fun} {rest = rest}) p e = rw (p, (passes-⊕ fun rest e).1)
passes_step out p e = rw (p, e)
passes_step (again {b = b} {n = n} {body = body} {rest = rest}) p e = rw p (pick_true b.point (passes rest) (passes-⊕ body (loop b n body rest) e).1).1
passes_step (first {then = then} {rest = rest}) p e = let (x, y) = passes-⊕ then rest e in rw (p, x, y)
passes_step (second {then = then} {else = else} {rest = rest}) p e = let (x, y) = passes-⊕ else rest e in rw (p, x, or_true (passes then), y)

pub can_end_step : {fs : Forms} (v : Step fs) → passes (after v) ≡ true → can_end fs ≡ true
unfolding can_end after
can_end_step past e = e
can_end_step into e = e
can_end_step (out {n = zero}) e = e
can_end_step (out {n = suc n}) e = rw e
can_end_step (again {rest = rest}) e = rw e (or_true (passes rest))
can_end_step first e = rw e
can_end_step (second {then = then} {rest = rest}) e = rw e (or_true (passes (then ⊕ rest)))

-- A run with no report.
abbrev pub Silent : Forms → Type 0
Silent fs = (r : Run fs) × (reports (visits r) ≡ [])

pub both_silent : (v w : List Block) → reports v ≡ [] → reports w ≡ [] → reports (v ++ w) ≡ []
both_silent v w e f = reports_append v w ∙ rw (e, f)

pub silent_cons : (b : Block) (w : List Block) → b.point ≡ false → reports w ≡ [] → reports (b ∷ w) ≡ []
unfolding reports
silent_cons b w p e = rw (p, e)

passes_run : (f : Forms) → Traceable f → passes f ≡ true → Silent f
unfolding Traceable passes visits reports
passes_run done t e = (ends, refl)
passes_run (leaf b rest) t e = let (p, q) = pick_true b.point (passes rest) e in let (r, i) = passes_run rest t q in (visit r, silent_cons b (visits r) p i)
passes_run (call b fun rest) t e =
    let (p, q) = pick_true b.point (passes rest) e in
    let (x, i) = passes_run fun t.2 (mute_passes fun (t.0 p)) in
    let (y, j) = passes_run rest t.3 q in
    (enter x y, silent_cons b (visits x ++ visits y) p (both_silent (visits x) (visits y) i j))
passes_run (loop b m body rest) t e = let (p, q) = pick_true b.point (passes rest) e in let (r, i) = passes_run rest t.4 q in (leave r, silent_cons b (visits r) p i)
passes_run (cond b then else rest) t e =
    let (p, q) = pick_true b.point ((passes then || passes else) && passes rest) e in
    let (o, z) = or_and (passes then) (passes else) (passes rest) q in
    let (y, j) = passes_run rest t.5 z in
    elim o [
      | inl u ↦ let (x, i) = passes_run then t.3 u in (run_then x y, silent_cons b (visits x ++ visits y) p (both_silent (visits x) (visits y) i j))
      | inr u ↦ let (x, i) = passes_run else t.4 u in (run_else x y, silent_cons b (visits x ++ visits y) p (both_silent (visits x) (visits y) i j))
    ]

-- The other way round.
pub no_report : (b : Block) (w : List Block) → reports (b ∷ w) ≡ [] → (b.point ≡ false) × (reports w ≡ [])
unfolding reports
no_report b w e = go b.point refl e
  where
    go : (p : Bool) → b.point ≡ p → noted p b.number (reports w) ≡ [] → (b.point ≡ false) × (reports w ≡ [])
    go true h e = absurd (let z : ◌≡◌ {A = ℕ} 0 1 = cc in omega arith)
    go false h e = (h, e)

pub no_reports : (b : Block) (v w : List Block) → reports (b ∷ (v ++ w)) ≡ [] → (b.point ≡ false) × (reports v ≡ []) × (reports w ≡ [])
no_reports b v w e = let (p, q) = no_report b (v ++ w) e in let z = go (reports v) (reports w) (sym (reports_append v w) ∙ q) in (p, z.0, z.1)
  where
    go : (x y : List ℕ) → x ++ y ≡ [] → (x ≡ []) × (y ≡ [])
    go [] y e = (refl, e)
    go (n ∷ x) y e = absurd (let z : ◌≡◌ {A = ℕ} 0 1 = cc in omega arith)

run_passes : {f : Forms} (r : Run f) → reports (visits r) ≡ [] → passes f ≡ true
unfolding passes visits
run_passes ends e = refl
run_passes (visit {b = b} r) e = let (p, q) = no_report b (visits r) e in rw (p, run_passes r q)
run_passes (enter {b = b} x y) e = let (p, q, u) = no_reports b (visits x) (visits y) e in rw (p, run_passes y u)
run_passes (leave {b = b} r) e = let (p, q) = no_report b (visits r) e in rw (p, run_passes r q)
run_passes (turn {b = b} {rest = rest} x y) e =
    let (p, q, u) = no_reports b (visits x) (visits y) e in rw p (pick_true b.point (passes rest) (run_passes y u)).1
run_passes (run_then {b = b} x y) e = let (p, q, u) = no_reports b (visits x) (visits y) e in rw (p, run_passes x q, run_passes y u)
run_passes (run_else {b = b} {then = then} x y) e =
    let (p, q, u) = no_reports b (visits x) (visits y) e in rw (p, run_passes x q, or_true (passes then), run_passes y u)

pub passes_exact : (f : Forms) → Traceable f → (passes f ≡ true → Silent f) × (Silent f → passes f ≡ true)
passes_exact f t = (passes_run f t, λ r. run_passes r.0 r.1)

-- Behind a visit.
or_cases : (p q : Bool) → (p || q) ≡ true → (p ≡ true) ⊎ (q ≡ true)
or_cases true q e = inl refl
or_cases false q e = inr e

can_end_some : (f : Forms) → can_end f ≡ true → (s : Step f) × (passes (after s) ≡ true)
unfolding can_end after
can_end_some done e = absurd (let z : ◌≡◌ {A = ℕ} 0 1 = cc in omega arith)
can_end_some (leaf b rest) e = (past, e)
can_end_some (call b fun rest) e = (into, e)
can_end_some (loop b zero body rest) e = (out, e)
can_end_some (loop b (suc m) body rest) e = elim (or_cases (passes rest) (passes (body ⊕ loop b m body rest)) e) [ inl i ↦ (out, i) | inr i ↦ (again, i) ]
can_end_some (cond b then else rest) e = elim (or_cases (passes (then ⊕ rest)) (passes (else ⊕ rest)) e) [ inl i ↦ (first, i) | inr i ↦ (second, i) ]

pub can_end_exact : (f : Forms) → Traceable f → (can_end f ≡ true → (s : Step f) × Silent (after s)) × ((s : Step f) → Silent (after s) → can_end f ≡ true)
can_end_exact f t = ((λ e. let (s, i) = can_end_some f e in (s, passes_run (after s) (traceable_after s t) i)), λ s r. can_end_step s (run_passes r.0 r.1))
