-- A state that stands for one of a history is an open release of that history: some run with these reports stands at its stack, and its times are that
-- run's.
use mathlib.Core.List.{List, [], ◌∷◌}
use mathlib.Core.Option.{some}
use mathlib.Core.Path.{◌≡◌, ap, sym, ◌∙◌, subst}
use Prim.Native.Nat.{ℕ}
use native.Mathlib.Omega.{arith}
use Rattle.model.specs.Plan.{Plan}
use Rattle.model.specs.Forms.{Forms, main}
use Rattle.model.specs.Levels.{Standing, so_far, history, Frame, stack}
use Rattle.model.specs.Acceptance.{Accepted}
use Rattle.model.specs.Stack.{Levels, whole, decode, times}
use Rattle.model.specs.declared.Others.{Others}
use Rattle.model.specs.Decisions.{Place, at_release, Decision}
use Rattle.model.specs.Controller as places
use Rattle.model.specs.Controller.{idle, running}
use Rattle.model.proofs.Links.{accepted_traceable}
use Rattle.model.proofs.Histories.{leads_reported}
use Rattle.model.proofs.Trails.{locate_at}
use Rattle.model.proofs.Standing.{standing_of}
use Rattle.model.proofs.Decoded.{known_plan, standing_decodes}
use Rattle.model.proofs.OneStack.{one_stack}
use Rattle.model.proofs.Outlooks as outlooks
use Rattle.model.proofs.Since.{StateOf}
use Rattle.control.specs.declared.OpenRelease.{OpenRelease}
use Rattle.control.specs.declared.State.{State}
use Rattle.control.specs.declared.State.TheVariants.{Open}
use Rattle.control.specs.State.{stack_of, levels_of, standing}
use Rattle.control.specs.Calls.{place_of}
use Rattle.control.specs.Meaning.{HistoryState}
use Rattle.control.proofs.Alike.{Tied, timed_some, levels_inner}
use Rattle.control.proofs.Good.{stands_times}

-- The place of a state of the controller over places.
abbrev placed : places.State → Place
placed idle = at_release
placed (running x last others) = x

module _ (p : Plan) (a : Accepted p) where
  history_levels : (o : OpenRelease) (h : List ℕ) (ls : Levels) → levels_of p (stack_of o) ≡ some ls → o.times ≡ times (main p) ls → (x : Standing (main p)) → history x ≡ h →
      locate_at (main p) [] h ≡ some ls → decode (main p) [] (stack_of o) ≡ some ls → HistoryState p o h
  history_levels o h ls e t x q l d =
      let k = known_plan p a x in
      let z : some k.ls ≡ some ls = sym k.located ∙ (ap (locate_at (main p) []) q ∙ l) in
      let y = standing_decodes p a x in
      let w : some y.ls ≡ some ls = sym y.decoded ∙ (k.decoded ∙ z) in
      let v : y.ls ≡ ls = cc in
      record {
        run = x;
        history_is = q;
        stack_is = one_stack (main p) [] (stack [] (so_far x)) (stack_of o) ls (k.decoded ∙ z) d;
        times_are = rw (t ∙ ap (times (main p)) (sym v)) y.times_are;
      }

  inner_decodes : (ss : List Frame) (g : Forms) (ks : Levels) → levels_of p ss ≡ some (g ∷ ks) → decode (main p) [] ss ≡ some (g ∷ ks)
  inner_decodes [] g ks e = absurd (let i : ◌≡◌ {A = Levels} [] (g ∷ ks) = cc in let z : ◌≡◌ {A = ℕ} 0 1 = cc in omega arith)
  inner_decodes (f ∷ fs) g ks e = (levels_inner p a f fs (g ∷ ks) e).1

  history_found : (o : OpenRelease) (m : ℕ) (h : List ℕ) (ls : Levels) → standing p o ≡ some ls → outlooks.Stands p (place_of o ls) (m ∷ h) → HistoryState p o (m ∷ h)
  history_found o m h [] e st = absurd (let z : ◌≡◌ {A = ℕ} 0 1 = cc in omega arith)
  history_found o m h (g ∷ ks) e st =
      let (n, k, i, d, l, t) = st in
      let r = (leads_reported (main p) (m ∷ h) (accepted_traceable p a)).0 (whole (g ∷ ks), outlooks.stands_located p _ (g ∷ ks) (m ∷ h) st) in
      let j = timed_some p a o (levels_of p (stack_of o)) (g ∷ ks) e in
      let (x, q) = standing_of p (m ∷ h) r in
      history_levels o (m ∷ h) (g ∷ ks) j (stands_times p a o (g ∷ ks) e) x q l (inner_decodes (stack_of o) g ks j)

  pub history_state : (s : State) (x : places.State) (others : Others) (m : ℕ) (h : List ℕ) (ds : List Decision) → Tied p a s x → StateOf p (accepted_traceable p a) x others (m ∷ h) ds →
      (o : OpenRelease) × (s ≡ Open o) × HistoryState p o (m ∷ h)
  history_state s x others m h ds tie k =
      let t = subst (Tied p a s) k.state tie in (
        t.release,
        t.is,
        history_found t.release m h t.levels t.at.stands (subst (λ y. outlooks.Stands p y (m ∷ h)) (ap placed t.for) k.stands),
      )
