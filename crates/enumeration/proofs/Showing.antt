-- The lines of a trail's run and of all behind it are shown one after the other. Assumes nothing.
use mathlib.Core.Bool.{Bool, true, false}
use mathlib.Core.List.{List, [], ◌∷◌, map}
use mathlib.Core.Path.{subst, ◌≡◌, ap, ◌∙◌}
use Prim.Native.Nat.{ℕ}
use Rattle.model.specs.Plan.{Block}
use Rattle.rows.specs.declared.Code.{Code}
use Rattle.trail.specs.declared.Trail.{Trail}
use Rattle.trail.specs.Trails.{TrailOf, GivesNext}
use Rattle.trail.proofs.Visited.{stands_first, stands_some}
use Rattle.enumeration.specs.Enumeration.{run_line}
use Rattle.enumeration.specs.Showing.{ShownInTurn, all_shown, stopped, shown}
use Rattle.enumeration.specs.Private.{run_of, Enumerates}

-- What is shown from the trail x and the state f on, behind what was shown before, is what is shown from the first trail and state on.
abbrev pub StillToShow : {F : Type 0} → (F → List ℕ → Bool → F → Type 0) → Code → List ℕ → Trail → F → Trail → F → Type 0
StillToShow {F = F} step c column first f0 x f =
    (q : Enumerates c column first) →
    (vs : List (List Block)) × TrailOf q.on.table column x vs ×
    ((end : F) → ShownInTurn step f (map run_line vs) end → ShownInTurn step f0 (map run_line q.runs) end)

module _ {F : Type 0} (step : F → List ℕ → Bool → F → Type 0) (c : Code) (column : List ℕ) (first : Trail) (f0 : F) where
  -- At first nothing was shown.
  pub none_shown : StillToShow step c column first f0 first f0
  none_shown q = (q.runs, q.stands, λ z s. s)

  module _ (x : Trail) (f g : F) (still : StillToShow step c column first f0 x f) where
    -- The trail's run is the first that is still to be shown.
    run_next : (q : Enumerates c column first) → (us : List (List Block)) × TrailOf q.on.table column x (run_of c.row.now x ∷ us) ×
        ((end : F) → ShownInTurn step f (map run_line (run_of c.row.now x ∷ us)) end → ShownInTurn step f0 (map run_line q.runs) end)
    run_next q =
        let (vs, t, h) = still q in
        let (v, us, e) = stands_some q.on.table column x vs t in
        let w : v ≡ run_of c.row.now x = (stands_first q.on.table column x v us (rw e at t)).0 in
        let z : vs ≡ run_of c.row.now x ∷ us = e ∙ ap (λ y. y ∷ us) w in
        (us, rw z at t, rw z at h)

    -- Its line was refused,
    pub line_refused : step f (run_line (run_of c.row.now x)) false g → (q : Enumerates c column first) → ShownInTurn step f0 (map run_line q.runs) g
    line_refused s q = let (us, t, h) = run_next q in h g (stopped s)

    -- or was shown, and was the last,
    pub last_shown : step f (run_line (run_of c.row.now x)) true g → (y : Trail) → GivesNext c column x y false → (q : Enumerates c column first) →
        ShownInTurn step f0 (map run_line q.runs) g
    last_shown s y n q =
        let (us, t, h) = run_next q in
        let e : us ≡ [] = n q.on.table (run_of c.row.now x ∷ us) q.on.noted t in
        h g (rw e (shown s all_shown))

    -- or was shown, and the trail went on.
    pub one_shown : step f (run_line (run_of c.row.now x)) true g → (y : Trail) → GivesNext c column x y true → StillToShow step c column first f0 y g
    one_shown s y n q =
        let (us, t, h) = run_next q in
        (us, n q.on.table (run_of c.row.now x ∷ us) q.on.noted t, λ z r. h z (shown s r))

-- One line alone is shown, whatever the step answers.
pub one_line : {F : Type 0} (step : F → List ℕ → Bool → F → Type 0) {f g : F} {line : List ℕ} (b : Bool) → step f line b g → ShownInTurn step f (line ∷ []) g
one_line step false s = stopped s
one_line step true s = shown s all_shown

-- The same of lines that are the same.
pub same_lines : {F : Type 0} {step : F → List ℕ → Bool → F → Type 0} {f g : F} {us vs : List (List ℕ)} → us ≡ vs → ShownInTurn step f us g →
    ShownInTurn step f vs g
same_lines {step = step} {f = f} {g = g} e s = subst (λ z. ShownInTurn step f z g) e s
