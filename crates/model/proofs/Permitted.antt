-- Behind a decision the others run exactly when they may: in edition 1 where the condition held at each decision, in edition 2 where the rule held at the
-- latest.
use mathlib.Core.Bool.{true}
use mathlib.Core.List.{List, [], ◌∷◌}
use mathlib.Core.Logic.{◌↔◌}
use mathlib.Core.Path.{◌≡◌, refl, ap, sym, ◌∙◌}
use Prim.Native.Nat.{ℕ}
use native.Mathlib.Omega.{arith}
use Rattle.model.specs.Plan.{Edition, First, Second, Plan}
use Rattle.model.specs.Forms.{main}
use Rattle.model.specs.Places.{Traceable}
use Rattle.model.specs.Calls.{Others, Running, Suspended, others_after}
use Rattle.model.specs.Decisions.{Place, outlook, may_return, decide, Decision, RuleAt, ConditionAt, ConditionAtEach, MayRunBy, MayRun}
use Rattle.model.proofs.Outlooks.{Stands, outlook_is}
use Rattle.model.proofs.Decisions.{holds_exactly}
use Rattle.model.proofs.Deadline.{run_on}

-- Before all decisions the others may run.
pub may_run_first : (p : Plan) → MayRun p []
unfolding ConditionAtEach
may_run_first p = by p.edition
  where
    by : (e : Edition) → MayRunBy e p []
    by First = tt
    by (Second u) = tt

-- Where the others ran before a decision exactly when they might, and run behind it exactly when the rule holds there, they run behind it exactly when they may.
pub may_run_more : (p : Plan) (d : Decision) (ds : List Decision) (next : Others) → (next ≡ Running) ↔ RuleAt p d.others d →
    (d.others ≡ Running) ↔ MayRun p ds → (next ≡ Running) ↔ MayRun p (d ∷ ds)
unfolding ConditionAtEach
may_run_more p d ds next r m = by p.edition refl m
  where
    suspended : RuleAt p Suspended d → may_return p.edition ≡ true
    suspended x = x.holds.0

    first : p.edition ≡ First → (x : Others) → (next ≡ Running) ↔ RuleAt p x d → (x ≡ Running) ↔ ConditionAtEach p ds →
        (next ≡ Running) ↔ (ConditionAt p d × ConditionAtEach p ds)
    first e Running r m = ((λ i. (r.0 i, m.0 refl)), λ i. r.1 i.0)
    first e Suspended r m = (
      (λ i. let f = sym (suspended (r.0 i)) ∙ ap may_return e in let z : ◌≡◌ {A = ℕ} 0 1 = cc in absurd (omega arith)),
      λ i. let f = m.1 i.1 in let z : ◌≡◌ {A = ℕ} 0 1 = cc in absurd (omega arith),
    )

    by : (e : Edition) → p.edition ≡ e → (d.others ≡ Running) ↔ MayRunBy e p ds → (next ≡ Running) ↔ MayRunBy e p (d ∷ ds)
    by First e m = first e d.others r m
    by (Second u) e m = r

-- Behind a decision the others run exactly when they may.
pub decision_right : (p : Plan) → Traceable (main p) → (x : Place) (h : List ℕ) (u : ℕ) (others : Others) (ds : List Decision) → Stands p x h → (others ≡ Running) ↔ MayRun p ds →
    (others_after (decide p (outlook p x) u others) others ≡ Running) ↔ MayRun p (record { history = h; reading = u; others = others } ∷ ds)
decision_right p t x h u others ds s m =
    let d : Decision = record { history = h; reading = u; others = others } in
    let a = run_on p (outlook p x) u others in
    let b = holds_exactly p d (outlook p x) others (outlook_is p t x h s) in
    may_run_more p d ds (others_after (decide p (outlook p x) u others) others) ((λ i. b.1 (a.0 i)), λ i. a.1 (b.0 i)) m
