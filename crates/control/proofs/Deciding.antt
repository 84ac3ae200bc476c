-- A release as the code decides on it, on the lent memory of an accepted plan. Assumes nothing.
use mathlib.Core.Bool.{true, false}
use mathlib.Core.Path.{◌≡◌, ap, ◌∙◌}
use Prim.Native.Nat.{◌+◌, ◌^◌, ◌≤◌, ◌<◌}
use native.Mathlib.Omega.{arith}
use lib.Dec.{leb}
use borrow.Author.Tests.{le-leb, lt-leb}
use Rattle.model.specs.declared.Refusal.TheVariants.{Unfit}
use Rattle.model.specs.Plan.{C, M, Plan}
use Rattle.model.specs.Forms.{main}
use Rattle.model.specs.Total.{total}
use Rattle.model.specs.declared.Outlook.{Outlook}
use Rattle.model.specs.Decisions.{ahead}
use Rattle.model.specs.Stack.{kept}
use Rattle.model.specs.declared.Call.TheVariants.{Release}
use Rattle.model.specs.declared.Others.{Others}
use Rattle.model.specs.declared.Others.TheVariants.{Running}
use Rattle.model.specs.Calls.{refuse}
use Rattle.model.specs.Controller.{idle, respond}
use Rattle.model.proofs.Limits.{short_total}
use Rattle.outlook.specs.declared.Ahead.{Ahead}
use Rattle.outlook.specs.Ahead.{ahead_of}
use Rattle.table.specs.declared.Head.{Head}
use Rattle.control.specs.declared.LentPlan.{LentPlan}
use Rattle.control.specs.declared.OpenRelease.{OpenRelease}
use Rattle.control.specs.declared.State.{State}
use Rattle.control.specs.declared.State.TheVariants.{Open}
use Rattle.control.specs.declared.Step.{Step}
use Rattle.control.specs.declared.Weighing.{Weighing}
use Rattle.control.specs.State.{open_at_release}
use Rattle.control.specs.Calls.{reply, as_step}
use Rattle.control.specs.Private.{weighing, opened, Headed, Rowed}

-- The sum of total and switch cost of an accepted plan.
pub total_small : {h : Head} → Headed h → h.total + h.switch ≤ 2 ^ 40 + 2 ^ 20
total_small q =
    omega (
      arith,
      ap (λ k. k.total) q.is,
      ap (λ k. k.switch) q.is,
      (short_total C (main q.plan) (2 ^ 40)).0 q.accepted.short,
      q.accepted.formed.switch_range,
    )

module _ {l : LentPlan} (q : Rowed l) where
  abbrev p : Plan
  p = q.head.plan

  -- Total and switch cost are over D, or not.
  unfit : l.head.now.deadline < l.head.now.total + l.head.now.switch → leb (total C (main p) + p.switch) p.deadline ≡ false
  unfit lt =
      lt-leb (total C (main p) + p.switch) p.deadline
      (omega (arith, ap (λ k. k.deadline) q.head.is, ap (λ k. k.total) q.head.is, ap (λ k. k.switch) q.head.is))

  fit : l.head.now.total + l.head.now.switch ≤ l.head.now.deadline → leb (total C (main p) + p.switch) p.deadline ≡ true
  fit le =
      le-leb (total C (main p) + p.switch) p.deadline
      (omega (arith, ap (λ k. k.deadline) q.head.is, ap (λ k. k.total) q.head.is, ap (λ k. k.switch) q.head.is))

  pub release_unfit : (s : State) → l.head.now.deadline < l.head.now.total + l.head.now.switch → as_step (refuse s Unfit) ≡ as_step (reply p s idle Release)
  unfolding respond
  release_unfit s lt = rw (unfit lt)

  -- The release that is left open is the document's.
  opened_is : (others : Others) → opened l.head.now.total others ≡ open_at_release p 0 others
  unfolding kept
  opened_is others = ap (λ k. opened k.total others) q.head.is

  pub release_fit : (s : State) → l.head.now.total + l.head.now.switch ≤ l.head.now.deadline → {a : Ahead} → a ≡ ahead_of M (main p) →
      {w : Weighing} {after : OpenRelease} → w ≡ weighing p (record { remaining = l.head.now.total; stretch = a.stretch; last = a.last }) 0 Running →
      after ≡ opened l.head.now.total w.others → ◌≡◌ {A = Step} (record { answer = w.answer; state = Open after }) (as_step (reply p s idle Release))
  unfolding respond
  release_fit s le {a} f {w} {after} d e =
      let i : ◌≡◌ {A = Outlook} (record { remaining = l.head.now.total; stretch = a.stretch; last = a.last }) (ahead (main p)) =
      λ x. record { remaining = (q.head.is x).total; stretch = (f x).stretch; last = (f x).last } in
      let j : w ≡ weighing p (ahead (main p)) 0 Running = d ∙ ap (λ y. weighing p y 0 Running) i in
      let c : after ≡ open_at_release p 0 (weighing p (ahead (main p)) 0 Running).others = e ∙ (opened_is w.others ∙ ap (λ y. open_at_release p 0 y.others) j) in
      rw (fit le) (λ x. record { answer = (j x).answer; state = Open (c x) })
