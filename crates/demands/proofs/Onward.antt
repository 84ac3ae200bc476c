-- Where a good release can go on: the next levels are found exactly for the points that some run standing there reports next, and the end exactly where
-- some run standing there ends.
use mathlib.Core.Bool.{true}
use mathlib.Core.List.{List, [], ◌∷◌, ◌++◌}
use mathlib.Core.Logic.{◌↔◌}
use mathlib.Core.Option.{some}
use mathlib.Core.Path.{◌≡◌, refl, ap, sym, ◌∙◌, subst}
use Prim.Native.Nat.{ℕ}
use Rattle.model.specs.Plan.{Plan}
use Rattle.model.specs.Forms.{main}
use Rattle.model.specs.Remaining.{Reported, Complete}
use Rattle.model.specs.Levels.{Standing, so_far, history, Frame, stack}
use Rattle.model.specs.Acceptance.{Accepted}
use Rattle.model.specs.Stack.{Levels}
use Rattle.model.specs.Decisions.{Place, at_release, at_report}
use Rattle.model.specs.Controller.{next_levels, can_close}
use Rattle.model.proofs.Links.{accepted_traceable}
use Rattle.model.proofs.Histories.{leads_reported}
use Rattle.model.proofs.Trails.{locate_at, never_at}
use Rattle.model.proofs.Nexts.{Top, next_found}
use Rattle.model.proofs.Outlooks.{last_of, Stands, stands_top, next_exactly}
use Rattle.model.proofs.Decoded.{known_plan}
use Rattle.model.proofs.Points.{standing_points}
use Rattle.model.proofs.Reachable.{stack_stands}
use Rattle.model.proofs.Refusing.{next_reported, close_complete}
use Rattle.control.specs.declared.OpenRelease.{OpenRelease}
use Rattle.control.specs.State.{stack_of, levels_of}
use Rattle.control.specs.Calls.{place_of}
use Rattle.control.proofs.Places.{decode_top, points_all, all_points}
use Rattle.control.proofs.Alike.{levels_some, levels_inner}
use Rattle.demands.specs.Rules.{CanReport, CanEnd}
use Rattle.demands.specs.Rules as rules

module _ (p : Plan) (a : Accepted p) where
  -- THE PLACE OF A HISTORY

  -- The place of levels to which a history leads.
  abbrev placed : List ℕ → Levels → Place
  placed h [] = at_release
  placed [] (g ∷ ks) = at_report 0 (g ∷ ks)
  placed (n ∷ h) (g ∷ ks) = at_report (last_of n h) (g ∷ ks)

  -- What comes next behind it, and whether a run can end there, is what the release's own place says.
  next_same : (o : OpenRelease) (h : List ℕ) (ls : Levels) (n : ℕ) → next_levels p (place_of o ls) n ≡ next_levels p (placed h ls) n
  next_same o h [] n = refl
  next_same o [] (g ∷ ks) n = refl
  next_same o (m ∷ h) (g ∷ ks) n = refl

  close_same : (o : OpenRelease) (h : List ℕ) (ls : Levels) → can_close p (place_of o ls) ≡ can_close p (placed h ls)
  close_same o h [] = refl
  close_same o [] (g ∷ ks) = refl
  close_same o (m ∷ h) (g ∷ ks) = refl

  -- Next levels are found exactly for the points that come next.
  found_exactly : (o : OpenRelease) (ls : Levels) (h : List ℕ) (n : ℕ) → Stands p (placed h ls) h →
      ((ls' : Levels) × (next_levels p (place_of o ls) n ≡ some ls')) ↔ Reported (main p) (h ++ (n ∷ []))
  found_exactly o ls h n w =
      let t = accepted_traceable p a in
      let q = next_same o h ls n in (
        (λ (ls', i). next_reported p t (placed h ls) h n ls' w (sym q ∙ i)),
        λ r.
            let (g, e) = (leads_reported (main p) (h ++ (n ∷ [])) t).1 r in
            let (ls', i, j) = next_found p (placed h ls) n g (stands_top p (placed h ls) h w) (sym (next_exactly p (placed h ls) h n w) ∙ e) in
            (ls', q ∙ i),
      )

  -- The levels may end exactly where a run does.
  end_exactly : (o : OpenRelease) (ls : Levels) (h : List ℕ) → Stands p (placed h ls) h → (can_close p (place_of o ls) ≡ true) ↔ Complete (main p) h
  end_exactly o ls h w = subst (λ b. (b ≡ true) ↔ Complete (main p) h) (sym (close_same o h ls)) (close_complete p (accepted_traceable p a) (placed h ls) h w)

  -- WHERE A RELEASE STANDS

  -- Levels that open with a visit, to which a history leads, are the place of that history.
  top_stands : (ls : Levels) → Top ls → (h : List ℕ) → locate_at (main p) [] h ≡ some ls → Stands p (placed h ls) h
  unfolding locate_at
  top_stands ls (g, ks, e, s) h l = subst (λ x. Stands p (placed h x) h) (sym e) (by h (l ∙ ap (λ x. some x) e))
    where
      by : (h : List ℕ) → locate_at (main p) [] h ≡ some (g ∷ ks) → Stands p (placed h (g ∷ ks)) h
      by [] l = never_at l
      by (m ∷ h) l = (m, h, refl, refl, l, (g, ks, refl, s))

  -- A run that stands at a stack has a history whose place is that of the stack's levels.
  run_stands : (ss : List Frame) (ls : Levels) → levels_of p ss ≡ some ls → (x : Standing (main p)) → stack [] (so_far x) ≡ ss → Stands p (placed (history x) ls) (history x)
  run_stands ss ls e x i =
      let k = known_plan p a x in
      let z : some k.ls ≡ some ls =
      sym (levels_some p a (stack [] (so_far x)) k.ls (all_points p (stack [] (so_far x)) (standing_points p x)) k.decoded) ∙ (ap (levels_of p) i ∙ e) in
      let y : k.ls ≡ ls = cc in
      subst (λ q. Stands p (placed (history x) q) (history x)) y (top_stands k.ls (decode_top (main p) [] (stack [] (so_far x)) k.ls k.decoded) (history x) k.located)

  -- A stack without frames is that of the release.
  none_stands : (ls : Levels) → levels_of p [] ≡ some ls → Stands p (placed [] ls) []
  none_stands ls e = let z : [] ≡ ls = cc in subst (λ q. Stands p (placed [] q) []) z refl

  -- A stack with frames has a run that stands there.
  some_run : (f : Frame) (fs : List Frame) (ls : Levels) → levels_of p (f ∷ fs) ≡ some ls → (x : Standing (main p)) × (stack [] (so_far x) ≡ f ∷ fs)
  some_run f fs ls e = let (q, d) = levels_inner p a f fs ls e in stack_stands p a (f ∷ fs) ls d (points_all p (f ∷ fs) q)

  -- WHERE IT CAN GO

  -- From the levels to a run, and back.
  report_to : (o : OpenRelease) (ls : Levels) (n : ℕ) (ss : List Frame) → stack_of o ≡ ss → levels_of p ss ≡ some ls → (ls' : Levels) × (next_levels p (place_of o ls) n ≡ some ls') →
      CanReport p o n
  report_to o ls n [] q e w = rules.from_the_release q ((found_exactly o ls [] n (none_stands ls e)).0 w)
  report_to o ls n (f ∷ fs) q e w =
      let (x, i) = some_run f fs ls e in
      rules.from_a_report x (i ∙ sym q) ((found_exactly o ls (history x) n (run_stands (f ∷ fs) ls e x i)).0 w)

  report_from : (o : OpenRelease) (ls : Levels) (n : ℕ) → levels_of p (stack_of o) ≡ some ls → CanReport p o n → (ls' : Levels) × (next_levels p (place_of o ls) n ≡ some ls')
  report_from o ls n e (rules.from_the_release q r) = (found_exactly o ls [] n (none_stands ls (ap (levels_of p) (sym q) ∙ e))).1 r
  report_from o ls n e (rules.from_a_report x i r) = (found_exactly o ls (history x) n (run_stands (stack_of o) ls e x i)).1 r

  -- A release that stands at levels finds the next levels exactly for the points that some run standing there reports next.
  pub can_report : (o : OpenRelease) (ls : Levels) (n : ℕ) → levels_of p (stack_of o) ≡ some ls → ((ls' : Levels) × (next_levels p (place_of o ls) n ≡ some ls')) ↔ CanReport p o n
  can_report o ls n e = (report_to o ls n (stack_of o) refl e, report_from o ls n e)

  -- The same of the end.
  end_to : (o : OpenRelease) (ls : Levels) (ss : List Frame) → stack_of o ≡ ss → levels_of p ss ≡ some ls → can_close p (place_of o ls) ≡ true → CanEnd p o
  end_to o ls [] q e w = rules.from_the_release q ((end_exactly o ls [] (none_stands ls e)).0 w)
  end_to o ls (f ∷ fs) q e w =
      let (x, i) = some_run f fs ls e in
      rules.from_a_report x (i ∙ sym q) ((end_exactly o ls (history x) (run_stands (f ∷ fs) ls e x i)).0 w)

  end_from : (o : OpenRelease) (ls : Levels) → levels_of p (stack_of o) ≡ some ls → CanEnd p o → can_close p (place_of o ls) ≡ true
  end_from o ls e (rules.from_the_release q r) = (end_exactly o ls [] (none_stands ls (ap (levels_of p) (sym q) ∙ e))).1 r
  end_from o ls e (rules.from_a_report x i r) = (end_exactly o ls (history x) (run_stands (stack_of o) ls e x i)).1 r

  -- It may end exactly where some run standing there ends.
  pub can_end : (o : OpenRelease) (ls : Levels) → levels_of p (stack_of o) ≡ some ls → (can_close p (place_of o ls) ≡ true) ↔ CanEnd p o
  can_end o ls e = (end_to o ls (stack_of o) refl e, end_from o ls e)
