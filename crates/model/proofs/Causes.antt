-- At a report: the way of its visit is the visits of a cause (02, L9), and no other cause has other visits.
use mathlib.Core.Bool.{Bool, false}
use mathlib.Core.Path.{◌≡◌, refl, ap, sym, ◌∙◌, subst}
use mathlib.Core.List.{List, [], ◌∷◌, append-nil}
use mathlib.Core.Logic.{inl, inr}
use Prim.Native.Nat.{ℕ, zero, suc, ◌≤◌, ◌<◌}
use native.Mathlib.Omega.{arith}
use lib.ListN.{length}
use Rattle.model.specs.Plan.{Block}
use Rattle.model.specs.Forms.{Forms, leaf, call, loop, cond}
use Rattle.model.specs.Runs.{Run, visit, enter, leave, turn, run_then, run_else, visits, sum, silent, cut}
use Rattle.model.specs.Remaining.{Reported}
use Rattle.model.specs.Stretch.{VisitStretch}
use Rattle.model.specs.Places.{Traceable}
use Rattle.model.specs.Cause.{choices, up_to_next, choices_from, Cause, way, visit_way}
use Rattle.model.proofs.Steps.{Step, past, into, out, again, first, second, remains, run_open, run_close}
use Rattle.model.proofs.Places.{StepReport, step_report, report_of, step_chosen, report_chosen, same_place, one_block}
use Rattle.model.proofs.Choices.{AllTold, alike, second_first, first_second, None, told_none, told_front, told_forms, told_nothing}
use Rattle.model.proofs.Causing.{After, Nothing, Best, Quiet, one_way, two_ways, into_leaf, out_leaf, into_call, out_call, into_leave, into_turn, out_spent, out_loop, into_then, into_else, out_cond, quiet}

-- The visits from the first on, up to the next point behind it.
unfoldable upto : List Block → List Block
upto [] = []
upto (b ∷ w) = b ∷ silent w

upto_front : (b : Block) (v : List Block) → upto (b ∷ v) ≡ cut false (b ∷ silent v)
unfolding upto
upto_front b v = refl

module _ (k : Block → ℕ) where
  quiet_nothing : Quiet k Nothing []
  unfolding silent
  quiet_nothing =
      record {
        visited = [];
        chosen = [];
        is = (refl, refl);
        counts = refl;
        largest = λ w c l. rw l.0 (omega arith);
        ties = λ w c l a x y e lt d. absurd (omega arith);
      }

  way_round : (b : Block) (n : ℕ) (body rest : Forms) → Best k upto (After (loop b (suc n) body rest) Nothing) (visit_way k (loop b (suc n) body rest) [])
  unfolding visit_way
  way_round b n body rest =
      let v = way k (loop b n body rest) [] in
      let L = After (loop b n body rest) Nothing in
      two_ways k upto false b (upto_front b) (After rest Nothing) (After body L) (After (loop b (suc n) body rest) Nothing) (way k rest []) (way k body v)
      (into_leave b (suc n) body rest Nothing) (into_turn b n body rest Nothing) (out_loop b n body rest Nothing) (quiet k rest Nothing [] quiet_nothing)
      (quiet k body L v (quiet k (loop b n body rest) Nothing [] quiet_nothing))

  way_part : (b : Block) (then else rest : Forms) → Best k upto (After (cond b then else rest) Nothing) (visit_way k (cond b then else rest) [])
  unfolding visit_way
  way_part b then else rest =
      let v = way k rest [] in
      let r = quiet k rest Nothing [] quiet_nothing in
      two_ways k upto false b (upto_front b) (After then (After rest Nothing)) (After else (After rest Nothing)) (After (cond b then else rest) Nothing) (way k then v)
      (way k else v) (into_then b then else rest Nothing) (into_else b then else rest Nothing) (out_cond b then else rest Nothing)
      (quiet k then (After rest Nothing) v r) (quiet k else (After rest Nothing) v r)

  -- The way of a visit.
  way_on : {fs : Forms} → Step fs → Best k upto (After fs Nothing) (visit_way k fs [])
  unfolding visit_way
  way_on (past {b = b} {rest = rest}) =
      one_way k upto false b (upto_front b) (After rest Nothing) (After (leaf b rest) Nothing) (way k rest []) (into_leaf b rest Nothing) (out_leaf b rest Nothing)
      (quiet k rest Nothing [] quiet_nothing)
  way_on (into {b = b} {fun = fun} {rest = rest}) =
      let v = way k rest [] in
      one_way k upto false b (upto_front b) (After fun (After rest Nothing)) (After (call b fun rest) Nothing) (way k fun v) (into_call b fun rest Nothing)
      (out_call b fun rest Nothing) (quiet k fun (After rest Nothing) v (quiet k rest Nothing [] quiet_nothing))
  way_on (out {b = b} {n = zero} {body = body} {rest = rest}) =
      one_way k upto false b (upto_front b) (After rest Nothing) (After (loop b 0 body rest) Nothing) (way k rest []) (into_leave b 0 body rest Nothing)
      (out_spent b body rest Nothing) (quiet k rest Nothing [] quiet_nothing)
  way_on (out {b = b} {n = suc n} {body = body} {rest = rest}) = way_round b n body rest
  way_on (again {b = b} {n = n} {body = body} {rest = rest}) = way_round b n body rest
  way_on (first {b = b} {then = then} {else = else} {rest = rest}) = way_part b then else rest
  way_on (second {b = b} {then = then} {else = else} {rest = rest}) = way_part b then else rest

-- A run of forms that open with a visit is not empty.
not_empty : {fs : Forms} → Step fs → (r : Run fs) → visits r ≡ [] → ⊥
unfolding visits
not_empty past (visit r) e = cc e
not_empty into (enter x r) e = cc e
not_empty out (leave r) e = cc e
not_empty out (turn x r) e = cc e
not_empty again (leave r) e = cc e
not_empty again (turn x r) e = cc e
not_empty first (run_then x r) e = cc e
not_empty first (run_else x r) e = cc e
not_empty second (run_then x r) e = cc e
not_empty second (run_else x r) e = cc e

module _ (k : Block → ℕ) {fs : Forms} {h : List ℕ} (t : Traceable fs) (v : StepReport fs h) where
  abbrev left : Forms
  left = remains v.before

  -- What a run with this history does from its last report on is one of the continuations.
  continues : (u : Reported fs h) → After left Nothing (u.at.block ∷ u.at.behind) (choices_from u)
  continues u =
      let (w, a, b, c) = step_report u in
      let (r, e, d) = run_close w.step w.behind in
      let g : Forms → Type 0 = λ x. After x Nothing (u.at.block ∷ u.at.behind) (choices_from u) in
      subst g (same_place t v w) (r, [], [], (refl, refl), cc (append-nil (visits r)), sym (step_chosen u) ∙ sym d ∙ sym (append-nil (choices r)))

  -- And each of them is what some run with this history does.
  continued : (w : List Block) (c : List Bool) → After left Nothing w c → (u : Reported fs h) × (w ≡ u.at.block ∷ u.at.behind) × (c ≡ choices_from u)
  continued w c (r, x, y, (i, j), e, f) =
      elim (run_open r) [
        | inl z ↦ absurd (not_empty v.step r z)
        | inr z ↦
            let (s, q, d, g) = z in
            let p : StepReport fs h = record { before = v.before; step = s; point = rw (one_block s v.step) v.point; history = rw (one_block s v.step) v.history; behind = q } in
            let (u, a, b, l) = report_of p in (
              u,
              rw i at e ∙ append-nil (visits r) ∙ d ∙ rw (b, l) refl,
              rw j at f ∙ append-nil (choices r) ∙ g ∙ sym (report_chosen p),
            )
      ]

  abbrev found : Best k upto (After left Nothing) (visit_way k left [])
  found = way_on k v.step

  pub cause_way : (c : Cause k fs h) × (up_to_next c.run ≡ visit_way k left [])
  unfolding upto
  cause_way =
      let q = found in
      let (u, a, b) = continued q.visited q.chosen q.is in
      let e : up_to_next u ≡ visit_way k left [] = rw a at q.counts in (
        record {
          run = u;
          largest = λ w. rw e (q.largest (w.at.block ∷ w.at.behind) (choices_from w) (continues w));
          ties = λ w m x y g lt d. rw e (q.ties (w.at.block ∷ w.at.behind) (choices_from w) (continues w) m x y (b ∙ g) (omega (arith, lt, ap (λ (l : List Block). length l) e)) d);
        },
        e,
      )

told_round : (b : Block) (n : ℕ) (body rest : Forms) → AllTold upto (After (loop b (suc n) body rest) Nothing)
told_round b n body rest =
    told_front upto false b (upto_front b) (After rest Nothing) (After body (After (loop b n body rest) Nothing)) (After (loop b (suc n) body rest) Nothing)
    (told_forms rest Nothing told_nothing) (told_forms body (After (loop b n body rest) Nothing) (told_forms (loop b n body rest) Nothing told_nothing))
    (out_loop b n body rest Nothing)

told_part : (b : Block) (then else rest : Forms) → AllTold upto (After (cond b then else rest) Nothing)
told_part b then else rest =
    told_front upto false b (upto_front b) (After then (After rest Nothing)) (After else (After rest Nothing)) (After (cond b then else rest) Nothing)
    (told_forms then (After rest Nothing) (told_forms rest Nothing told_nothing)) (told_forms else (After rest Nothing) (told_forms rest Nothing told_nothing))
    (out_cond b then else rest Nothing)

-- Of forms that open with a visit.
told_on : {fs : Forms} → Step fs → AllTold upto (After fs Nothing)
told_on (past {b = b} {rest = rest}) =
    told_front upto false b (upto_front b) (After rest Nothing) None (After (leaf b rest) Nothing) (told_forms rest Nothing told_nothing) told_none
    (λ w c i. inl (out_leaf b rest Nothing w c i))
told_on (into {b = b} {fun = fun} {rest = rest}) =
    told_front upto false b (upto_front b) (After fun (After rest Nothing)) None (After (call b fun rest) Nothing)
    (told_forms fun (After rest Nothing) (told_forms rest Nothing told_nothing)) told_none (λ w c i. inl (out_call b fun rest Nothing w c i))
told_on (out {b = b} {n = zero} {body = body} {rest = rest}) =
    told_front upto false b (upto_front b) (After rest Nothing) None (After (loop b 0 body rest) Nothing) (told_forms rest Nothing told_nothing) told_none
    (λ w c i. inl (out_spent b body rest Nothing w c i))
told_on (out {b = b} {n = suc n} {body = body} {rest = rest}) = told_round b n body rest
told_on (again {b = b} {n = n} {body = body} {rest = rest}) = told_round b n body rest
told_on (first {b = b} {then = then} {else = else} {rest = rest}) = told_part b then else rest
told_on (second {b = b} {then = then} {else = else} {rest = rest}) = told_part b then else rest

-- Two causes have the same visits up to the next point or the end.
module _ (k : Block → ℕ) {fs : Forms} {h : List ℕ} (t : Traceable fs) (v : StepReport fs h) (x y : Cause k fs h) where
  lower : {a b : ℕ} → a < b → b ≤ a → {A : Type 0} → A
  lower l m = absurd (omega arith)

  pub one_cause : up_to_next x.run ≡ up_to_next y.run
  unfolding upto
  one_cause =
      elim (told_on v.step (x.run.at.block ∷ x.run.at.behind) (choices_from x.run) (y.run.at.block ∷ y.run.at.behind) (choices_from y.run) (continues k t v x.run) (continues k t v y.run)) [
        | alike e ↦ e
        | second_first a c d i j l ↦ lower (x.ties y.run a c d i l j) (y.largest x.run)
        | first_second a c d i j l ↦ lower (y.ties x.run a d c j l i) (x.largest y.run)
      ]

-- The sum of a cause is the stretch of the visit.
pub cause_sum : (k : Block → ℕ) {fs : Forms} {h : List ℕ} {s : ℕ} → VisitStretch k fs h s → (c : Cause k fs h) → sum k (up_to_next c.run) ≡ s
cause_sum k v c = let (u, e) = v.met in omega (arith, e, c.largest u, v.bound c.run)
