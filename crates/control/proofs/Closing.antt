-- The end of a good release: whether its run can end here, and what is answered. Assumes nothing.
use mathlib.Core.Bool.{true, false}
use mathlib.Core.List.{[], ◌∷◌}
use mathlib.Core.Option.{some}
use mathlib.Core.Path.{◌≡◌, refl, ap, sym, ◌∙◌, subst}
use Prim.Native.Nat.{ℕ, ◌≤◌, ◌<◌}
use native.Mathlib.Omega.{arith}
use lib.Dec.{ltb}
use lib.ListN.{length}
use borrow.Author.Tests.{lt-ltb, le-ltb}
use Rattle.model.specs.declared.Refusal.TheVariants.{Backward, Astray}
use Rattle.model.specs.Calls.{refuse}
use Rattle.model.specs.Plan.{M, Plan}
use Rattle.model.specs.Forms.{main}
use Rattle.model.specs.Places.{can_end}
use Rattle.model.specs.Stack.{Levels, whole}
use Rattle.model.specs.declared.Call.TheVariants.{End}
use Rattle.model.specs.declared.Ending.{Ending}
use Rattle.model.specs.declared.Answer.TheVariants.{Closed}
use Rattle.model.specs.Decisions.{late}
use Rattle.model.specs.Controller.{can_close, ending, respond}
use Rattle.rows.specs.declared.PricedCode.{PricedCode}
use Rattle.rows.specs.Costs.{cost_in}
use Rattle.outlook.specs.declared.Ahead.{Ahead}
use Rattle.outlook.specs.Loads.{PlacePriced}
use Rattle.outlook.specs.Ahead.{ahead_of, ahead_at}
use Rattle.table.specs.declared.Head.{Head}
use Rattle.table.specs.Lent.{AtMaxLoad}
use Rattle.control.specs.declared.LentPlan.{LentPlan}
use Rattle.control.specs.declared.OpenRelease.{OpenRelease}
use Rattle.control.specs.declared.State.TheVariants.{Open}
use Rattle.control.specs.State.{fresh, standing}
use Rattle.control.specs.Calls.{place_of, running_at, reply, as_step}
use Rattle.control.specs.Private.{Rowed, WholeTable}
use Rattle.control.proofs.Judging.{stands_depth, stands_few, stands_decode}
use Rattle.control.proofs.Lending.{report_asked, report_ahead}
use Rattle.control.proofs.Reporting.{none_open}

end_onward : (p : Plan) (o : OpenRelease) (ls : Levels) → 1 ≤ length ls → can_close p (place_of o ls) ≡ can_end (whole ls)
end_onward p o [] h = absurd (omega arith)
end_onward p o (g ∷ ks) h = refl

-- What lies ahead of a good release behind its last report: what `at_report` asks for, and what it says.
module _ {l : LentPlan} (q : WholeTable l) (o : OpenRelease) (one : 1 ≤ o.place.level) (ls : Levels) (k : standing q.costed.rowed.head.plan o ≡ some ls)
    {c : PricedCode} (m : AtMaxLoad l.head.now l.code c) where
  pub spot_asked : PlacePriced c o.place
  spot_asked =
      let h = q.costed.rowed.head in
      let (g, u) = stands_decode h.plan h.accepted o ls one k in
      report_asked q m o.place ls one (stands_few h.plan h.accepted o ls k) g u

  pub spot_ahead : {a : Ahead} → ((t : PlacePriced c o.place) → a ≡ ahead_at (cost_in c.cost) (whole t.decoded.levels)) → a ≡ ahead_at M (whole ls)
  spot_ahead e =
      let h = q.costed.rowed.head in
      let (g, u) = stands_decode h.plan h.accepted o ls one k in
      report_ahead q m o.place ls one (stands_few h.plan h.accepted o ls k) g u e

module _ {l : LentPlan} (q : Rowed l) (o : OpenRelease) where
  abbrev of : Plan
  of = q.head.plan

  -- Where no point was reported.
  pub first_closes : o.place.level ≡ 0 → {a : Ahead} → a ≡ ahead_of M (main of) → (ls : Levels) → standing of o ≡ some ls → a.ends ≡ can_close of (place_of o ls)
  first_closes z {a} e ls k =
      let y = none_open ls (stands_depth of q.head.accepted o ls k ∙ z) in
      subst (λ (x : Levels). a.ends ≡ can_close of (place_of o x)) (sym y) (ap (λ (x : Ahead). x.ends) e)

  -- Behind a report.
  pub later_closes : 1 ≤ o.place.level → {a : Ahead} (ls : Levels) → standing of o ≡ some ls → a ≡ ahead_at M (whole ls) → a.ends ≡ can_close of (place_of o ls)
  later_closes one ls k e = rw (end_onward of o ls (omega (arith, stands_depth of q.head.accepted o ls k))) (ap (λ (x : Ahead). x.ends) e)

  -- What is answered: 16, 17, or the end.
  module _ (t : ℕ) (ls : Levels) where
    pub too_early : t < o.reading → as_step (refuse (Open o) Backward) ≡ as_step (reply of (Open o) (running_at o ls) (End t))
    unfolding respond
    too_early b = rw (lt-ltb t o.reading b)

    pub no_end : o.reading ≤ t → can_close of (place_of o ls) ≡ false → as_step (refuse (Open o) Astray) ≡ as_step (reply of (Open o) (running_at o ls) (End t))
    unfolding respond
    no_end b m = rw (le-ltb t o.reading b, m)

    late_here : ltb l.head.now.deadline t ≡ late of t
    late_here = ap (λ (k : Head). ltb k.deadline t) q.head.is

    pub closes : o.reading ≤ t → can_close of (place_of o ls) ≡ true → (e : Ending) → e ≡ ending o.others →
        record { answer = Closed e (ltb l.head.now.deadline t); state = fresh } ≡ as_step (reply of (Open o) (running_at o ls) (End t))
    unfolding respond
    closes b m e y = rw (le-ltb t o.reading b, m) (λ i. record { answer = Closed (y i) (late_here i); state = fresh })
