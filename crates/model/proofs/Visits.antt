-- The stretch of a visit: `visit_stretch` of what is left to run is the largest over runs with this history; and the stretch of a point is the largest of its
-- visits' own.
use mathlib.Core.List.{List, [], ◌∷◌, ◌++◌}
use mathlib.Core.Path.{◌≡◌, refl, ap, sym, ◌∙◌}
use Prim.Native.Nat.{ℕ, zero, suc, ◌+◌, ◌≤◌, max}
use native.Mathlib.Decide.{dec_le}
use native.Mathlib.Omega.{arith}
use Rattle.model.specs.Plan.{Block}
use Rattle.model.specs.Forms.{Forms, loop}
use Rattle.model.specs.Runs.{Largest, sum, reports, silent}
use Rattle.model.specs.Remaining.{Reported}
use Rattle.model.specs.Places.{Traceable}
use Rattle.model.proofs.Steps.{Step, past, into, out, again, first, second, block, after, remains}
use Rattle.model.proofs.Places.{StepReport, step_report, report_of, same_place, one_block, reports_last}
use Rattle.model.specs.Stretch.{Stretch, VisitStretch, OwnStretch, silence, visit_stretch}
use Rattle.model.proofs.Silence.{silent_sum, silent_sums, silence-⊕, silence_largest}

module _ (k : Block → ℕ) where
  -- Every way on is within it, and some way on has it.
  pub visit_bound : {fs : Forms} (s : Step fs) → k (block s) + silence k (after s) 0 ≤ visit_stretch k fs 0
  unfolding visit_stretch block after
  visit_bound past = omega arith
  visit_bound (into {fun = fun} {rest = rest}) = omega (arith, silence-⊕ k fun rest 0)
  visit_bound (out {n = zero}) = omega arith
  visit_bound (out {n = suc n}) = omega arith
  visit_bound (again {b = b} {n = n} {body = body} {rest = rest}) = omega (arith, silence-⊕ k body (loop b n body rest) 0)
  visit_bound (first {then = then} {rest = rest}) = omega (arith, silence-⊕ k then rest 0)
  visit_bound (second {else = else} {rest = rest}) = omega (arith, silence-⊕ k else rest 0)

  abbrev Met : Forms → Type 0
  Met fs = (s : Step fs) × (k (block s) + silence k (after s) 0 ≡ visit_stretch k fs 0)

  met_of_two : {fs : Forms} (s u : Step fs) → k (block s) ≡ k (block u) →
      visit_stretch k fs 0 ≡ k (block s) + max (silence k (after s) 0) (silence k (after u) 0) → Met fs
  met_of_two s u e m =
      elim (dec_le (silence k (after s) 0) (silence k (after u) 0)) [
        | yes h ↦ (u, omega (arith, e, m))
        | no h ↦ (s, omega (arith, e, m))
      ]

  visit_met : {fs : Forms} → Step fs → Met fs
  unfolding visit_stretch block after
  visit_met past = (past, refl)
  visit_met (into {b = b} {fun = fun} {rest = rest}) = (into, ap (λ x. k b + x) (silence-⊕ k fun rest 0))
  visit_met (out {n = zero}) = (out, refl)
  visit_met (out {b = b} {n = suc n} {body = body} {rest = rest}) = met_of_two out again refl (rw (silence-⊕ k body (loop b n body rest) 0) refl)
  visit_met (again {b = b} {n = n} {body = body} {rest = rest}) = met_of_two out again refl (rw (silence-⊕ k body (loop b n body rest) 0) refl)
  visit_met (first {then = then} {else = else} {rest = rest}) = met_of_two first second refl (rw (silence-⊕ k then rest 0, silence-⊕ k else rest 0) refl)
  visit_met (second {then = then} {else = else} {rest = rest}) = met_of_two first second refl (rw (silence-⊕ k then rest 0, silence-⊕ k else rest 0) refl)

  module _ {fs : Forms} {h : List ℕ} (t : Traceable fs) (v : StepReport fs h) where
    visits_bound : (u : Reported fs h) → sum k (u.at.block ∷ silent u.at.behind) ≤ visit_stretch k (remains v.before) 0
    unfolding sum
    visits_bound u =
        let (w, a, b, c) = step_report u in
        omega (
          arith,
          visit_bound w.step,
          (silence_largest k (after w.step)).bound w.behind,
          ap (λ g. visit_stretch k g 0) (same_place t v w),
          ap k b,
          ap (silent_sum k) c,
          silent_sums k u.at.behind,
        )

    visits_met : (u : Reported fs h) × (sum k (u.at.block ∷ silent u.at.behind) ≡ visit_stretch k (remains v.before) 0)
    unfolding sum
    visits_met =
        let (s, e) = visit_met v.step in
        let (r, d) = (silence_largest k (after s)).met in
        let w : StepReport fs h = record { before = v.before; step = s; point = rw (one_block s v.step) v.point; history = rw (one_block s v.step) v.history; behind = r } in
        let (u, a, b, c) = report_of w in
        (u, omega (arith, d, e, ap k b, ap (silent_sum k) c, silent_sums k u.at.behind))

    pub visit_largest : VisitStretch k fs h (visit_stretch k (remains v.before) 0)
    visit_largest = record { bound = visits_bound; met = visits_met }

  -- THE STRETCH OF A POINT

  -- The last report of a history.
  last_same : (u h : List ℕ) (m n : ℕ) → u ++ (m ∷ []) ≡ h ++ (n ∷ []) → m ≡ n
  last_same [] [] m n e = cc
  last_same [] (x ∷ []) m n e = absurd (let z : ◌≡◌ {A = ℕ} 0 1 = cc in omega arith)
  last_same [] (x ∷ y ∷ h) m n e = absurd (let z : ◌≡◌ {A = ℕ} 0 1 = cc in omega arith)
  last_same (x ∷ []) [] m n e = absurd (let z : ◌≡◌ {A = ℕ} 0 1 = cc in omega arith)
  last_same (x ∷ y ∷ u) [] m n e = absurd (let z : ◌≡◌ {A = ℕ} 0 1 = cc in omega arith)
  last_same (x ∷ u) (y ∷ h) m n e = last_same u h m n cc

  module _ {fs : Forms} {n s : ℕ} (t : Traceable fs) (l : Stretch k fs n s) where
    -- A visit with a history that ends with n is one of the point n, so its stretch is within that of the point.
    own_bound : (v : OwnStretch k fs n) → v.stretch ≤ s
    own_bound v =
        let (u, e) = v.stretch_is.met in
        let q = last_same (reports u.at.before) v.earlier u.at.block.number n (sym (reports_last u.at.before u.at.block u.point) ∙ u.history) in
        omega (arith, e, l.bound (record { at = u.at; point = u.point; number = q }))

    own_met : (v : OwnStretch k fs n) × (v.stretch ≡ s)
    own_met =
        let (w, e) = l.met in
        let h = reports w.at.before in
        let q : reports (w.at.before ++ (w.at.block ∷ [])) ≡ h ++ (n ∷ []) = reports_last w.at.before w.at.block w.point ∙ ap (λ m. h ++ (m ∷ [])) w.number in
        let u : Reported fs (h ++ (n ∷ [])) = record { at = w.at; point = w.point; history = q } in
        let (r, a, b, c) = step_report u in
        let own : OwnStretch k fs n = record { earlier = h; stretch = visit_stretch k (remains r.before) 0; stretch_is = visit_largest t r } in
        (own, omega (arith, e, own_bound own, (visit_largest t r).bound u))

    pub own_largest : Largest (λ (v : OwnStretch k fs n). v.stretch) s
    own_largest = record { bound = own_bound; met = own_met }
