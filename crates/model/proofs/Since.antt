-- Which calls are accepted after a history, and what they answer: the state of the controller over places is that of the history, and so is that of every
-- controller that answers as it does.
use mathlib.Core.Bool.{Bool, true, false}
use mathlib.Core.List.{List, [], ◌∷◌, ◌++◌}
use mathlib.Core.Logic.{◌↔◌}
use mathlib.Core.Option.{Option, none, some}
use mathlib.Core.Path.{◌≡◌, refl, sym, ◌∙◌, subst}
use Prim.Native.Nat.{ℕ, ◌+◌, ◌≤◌}
use native.Mathlib.Omega.{arith}
use lib.Dec.{leb, ltb}
use borrow.Author.Tests.{le-leb, leb-true, le-ltb, ltb-false}
use Rattle.model.specs.declared.Refusal.TheVariants.{Unfit, Stranger, Backward, Astray}
use Rattle.model.specs.Plan.{C, Plan, all_leaves}
use Rattle.model.specs.Forms.{main}
use Rattle.model.specs.Total.{total}
use Rattle.model.specs.Remaining.{Reported, Complete}
use Rattle.model.specs.Places.{pick, Traceable}
use Rattle.model.specs.Stack.{Levels}
use Rattle.model.specs.Calls.{Call, Release, Report, End, Closed, Others, Running, Controller, Accepts, others_after, refuse}
use Rattle.model.specs.Decisions.{Place, at_release, at_report, late, Decision, MayRun, Fit}
use Rattle.model.specs.Timed.{last_reading, PointOf}
use Rattle.model.specs.Controller.{State, idle, running, is_point, next_levels, can_close, decided, reached, ending, respond}
use Rattle.model.specs.Histories as histories
use Rattle.model.specs.Histories.{Since}
use Rattle.model.proofs.Total.{total_largest}
use Rattle.model.proofs.Histories.{leads_reported}
use Rattle.model.proofs.Blocks.{is_point_of, point_of_is}
use Rattle.model.proofs.Nexts.{next_found}
use Rattle.model.proofs.Outlooks.{Stands, stands_top, next_stands, next_exactly}
use Rattle.model.proofs.Decisions.{largest_unique}
use Rattle.model.proofs.Permitted.{may_run_first, decision_right}
use Rattle.model.proofs.Refusing.{next_reported, close_complete}

-- Total and T are within D.
pub fit_exactly : (p : Plan) → (leb (total C (main p) + p.switch) p.deadline ≡ true) ↔ Fit p
fit_exactly p = (
  (λ e n t. let z = largest_unique t (total_largest C (main p)) in omega (arith, leb-true (total C (main p) + p.switch) p.deadline e)),
  λ f. le-leb (total C (main p) + p.switch) p.deadline (f (total C (main p)) (total_largest C (main p))),
)

module _ (p : Plan) where
  -- THE RELEASE

  pub release_exactly : Accepts (respond p idle Release).answer ↔ Fit p
  unfolding respond
  release_exactly = ((λ q. (fit_exactly p).0 ((by (leb (total C (main p) + p.switch) p.deadline)).0 q)), λ f. (by (leb (total C (main p) + p.switch) p.deadline)).1 ((fit_exactly p).1 f))
    where
      by : (i : Bool) → Accepts (pick i (decided p at_release 0 Running) (refuse idle Unfit)).answer ↔ (i ≡ true)
      by true = ((λ q. refl), λ e. tt)
      by false = ((λ q. absurd q), λ e. absurd (let z : ◌≡◌ {A = ℕ} 0 1 = cc in omega arith))

  pub release_decided : Accepts (respond p idle Release).answer → respond p idle Release ≡ decided p at_release 0 Running
  unfolding respond
  release_decided q = by (leb (total C (main p) + p.switch) p.deadline) q
    where
      by : (i : Bool) → Accepts (pick i (decided p at_release 0 Running) (refuse idle Unfit)).answer → pick i (decided p at_release 0 Running) (refuse idle Unfit) ≡ decided p at_release 0 Running
      by true q = refl
      by false q = absurd q

  -- A REPORT

  -- An accepted report found the next place.
  pub record Found (x : Place) (last : ℕ) (others : Others) (n t : ℕ) : Type 0 where
    pub levels : Levels
    pub point : is_point (all_leaves p.functions) n ≡ true
    pub in_order : last ≤ t
    pub next : next_levels p x n ≡ some levels
    pub reply : respond p (running x last others) (Report n t) ≡ decided p (at_report n levels) t others

  pub report_found : (x : Place) (last : ℕ) (others : Others) (n t : ℕ) → Accepts (respond p (running x last others) (Report n t)).answer → Found x last others n t
  unfolding respond
  report_found x last others n t q = by (is_point (all_leaves p.functions) n) refl (ltb t last) refl (next_levels p x n) refl q
    where
      by : (i : Bool) → is_point (all_leaves p.functions) n ≡ i → (j : Bool) → ltb t last ≡ j → (o : Option Levels) → next_levels p x n ≡ o →
          Accepts (pick i (pick j (refuse (running x last others) Backward) (reached p (running x last others) n t others o)) (refuse (running x last others) Stranger)).answer →
          Found x last others n t
      by true a false b (some ls) c q = record { levels = ls; point = a; in_order = ltb-false t last b; next = c; reply = rw (a, b, c) }
      by true a false b none c q = absurd q
      by true a true b o c q = absurd q
      by false a j b o c q = absurd q

  found_accepted : (x : Place) (last : ℕ) (others : Others) (n t : ℕ) (ls : Levels) → is_point (all_leaves p.functions) n ≡ true → last ≤ t →
      next_levels p x n ≡ some ls → Accepts (respond p (running x last others) (Report n t)).answer
  unfolding respond
  found_accepted x last others n t ls a b c = rw (a, le-ltb t last b, c) tt

  module _ (t : Traceable (main p)) where
    pub report_exactly : (x : Place) (h : List ℕ) → Stands p x h → (last : ℕ) (others : Others) (n u : ℕ) →
        Accepts (respond p (running x last others) (Report n u)).answer ↔ (PointOf p n × (last ≤ u) × Reported (main p) (h ++ (n ∷ [])))
    report_exactly x h s last others n u = (
      (λ q. let f = report_found x last others n u q in (is_point_of p n f.point, f.in_order, next_reported p t x h n f.levels s f.next)),
      λ (a, b, c).
          let (g, e) = (leads_reported (main p) (h ++ (n ∷ [])) t).1 c in
          let (ls, d, w) = next_found p x n g (stands_top p x h s) (sym (next_exactly p x h n s) ∙ e) in
          found_accepted x last others n u ls (point_of_is p n a) b d,
    )

    -- THE END

    pub end_exactly : (x : Place) (h : List ℕ) → Stands p x h → (last : ℕ) (others : Others) (u : ℕ) →
        Accepts (respond p (running x last others) (End u)).answer ↔ ((last ≤ u) × Complete (main p) h)
    unfolding respond
    end_exactly x h s last others u =
        let e = by (ltb u last) (can_close p x) in
        let m = close_complete p t x h s in (
          (λ q. let (a, b) = e.0 q in (ltb-false u last a, m.0 b)),
          λ (a, b). e.1 (le-ltb u last a, m.1 b),
        )
      where
        by : (i j : Bool) →
            Accepts (pick i (refuse (running x last others) Backward) (pick j (record { state = idle; answer = Closed (ending others) (late p u) }) (refuse (running x last others) Astray))).answer ↔
            ((i ≡ false) × (j ≡ true))
        by true j = ((λ q. absurd q), λ (a, b). absurd (let z : ◌≡◌ {A = ℕ} 0 1 = cc in omega arith))
        by false true = ((λ q. (refl, refl)), λ u. tt)
        by false false = ((λ q. absurd q), λ (a, b). absurd (let z : ◌≡◌ {A = ℕ} 0 1 = cc in omega arith))

    -- THE STATE OF A HISTORY

    -- The state after a release and reports: its place is that of the history, the others do what the answers said, and they run exactly when they may.
    pub record StateOf (x : State) (others : Others) (h : List ℕ) (ds : List Decision) : Type 0 where
      pub place : Place
      pub state : x ≡ running place (last_reading ds) others
      pub stands : Stands p place h
      pub right : (others ≡ Running) ↔ MayRun p ds

    after_release : Accepts (respond p idle Release).answer →
        StateOf (respond p idle Release).state (others_after (respond p idle Release).answer Running) [] (record { history = []; reading = 0; others = Running } ∷ [])
    after_release q =
        rw (release_decided q)
        (record {
          place = at_release;
          state = refl;
          stands = refl;
          right = decision_right p t at_release [] 0 Running [] refl ((λ e. may_run_first p), λ e. refl);
        })

    after_report : (x : State) (others : Others) (h : List ℕ) (ds : List Decision) (n u : ℕ) → StateOf x others h ds → Accepts (respond p x (Report n u)).answer →
        StateOf (respond p x (Report n u)).state (others_after (respond p x (Report n u)).answer others) (h ++ (n ∷ []))
        (record { history = h ++ (n ∷ []); reading = u; others = others } ∷ ds)
    after_report x others h ds n u k q =
        let e = k.state in
        let f = report_found k.place (last_reading ds) others n u (rw e at q) in
        let y = at_report n f.levels in
        let s = next_stands p k.place h n f.levels k.stands f.next in
        rw (e, f.reply)
        (record {
          place = y;
          state = refl;
          stands = s;
          right = decision_right p t y (h ++ (n ∷ [])) u others ds s k.right;
        })

    -- A controller whose states R ties to those of the controller over places, which answers as that one does.
    module _ {S : Type 0} (k : Controller S) (R : S → State → Type 0) (first : R k.fresh idle)
        (step : (s : S) (x : State) (c : Call) → R s x → ((k.respond s c).answer ≡ (respond p x c).answer) × R (k.respond s c).state (respond p x c).state) where
      pub since_state : {s : S} {others : Others} {h : List ℕ} {ds : List Decision} → Since k s others h ds → (x : State) × R s x × StateOf x others h ds
      since_state (histories.released q) =
          let (a, b) = step k.fresh idle Release first in (
            (respond p idle Release).state,
            b,
            subst (λ c. StateOf (respond p idle Release).state (others_after c Running) [] (record { history = []; reading = 0; others = Running } ∷ [])) (sym a)
                (after_release (subst Accepts a q)),
          )
      since_state (histories.reported {s = s} {others = others} {h = h} {ds = ds} w n r q) =
          let (x, i, j) = since_state w in
          let (a, b) = step s x (Report n r) i in (
            (respond p x (Report n r)).state,
            b,
            subst (λ c. StateOf (respond p x (Report n r)).state (others_after c others) (h ++ (n ∷ [])) (record { history = h ++ (n ∷ []); reading = r; others = others } ∷ ds)) (sym a)
                (after_report x others h ds n r j (subst Accepts a q)),
          )
