-- Every list of delivered calls from a fresh state leads to a fresh state or to one after an accepted release and accepted reports; what the calls answer
-- there; and that the calls which the rules refuse there are those that a list of demand 3 may hold among the calls of its timed runs.
use mathlib.Core.Bool.{Bool, true, false}
use mathlib.Core.List.{List, [], ◌∷◌, ◌++◌}
use mathlib.Core.Logic.{◌⊎◌, ◌↔◌, inl, inr}
use mathlib.Core.Path.{◌≡◌, refl, ap, sym, ◌∙◌, subst}
use Prim.Native.Nat.{ℕ, ◌<◌}
use native.Mathlib.Omega.{arith}
use native.Mathlib.Decide.{dec_le}
use Rattle.model.specs.declared.Refusal.{Refusal}
use Rattle.model.specs.Refusals.{number_of}
use Rattle.model.specs.declared.Refusal.TheVariants.{Broken, Idle}
use Rattle.model.specs.Plan.{Block, Plan, all_leaves}
use Rattle.model.specs.Forms.{main}
use Rattle.model.specs.Remaining.{Reported, Complete}
use Rattle.model.specs.declared.Call.{Call}
use Rattle.model.specs.declared.Call.TheVariants.{Release, Report, End}
use Rattle.model.specs.declared.Answer.{Answer}
use Rattle.model.specs.declared.Answer.TheVariants.{Refused}
use Rattle.model.specs.declared.Others.{Others}
use Rattle.model.specs.Calls.{Accepts, Reply, refuse}
use Rattle.model.specs.Decisions.{Decision, Fit}
use Rattle.model.specs.Timed.{PointOf, last_reading, opened, Refusable}
use Rattle.model.specs.Timed as timed
use Rattle.model.specs.Histories.{Reached, at_first, after, Since}
use Rattle.model.specs.Histories as since
use Rattle.model.specs.Controller.{is_point}
use Rattle.reader.specs.Print.{print}
use Rattle.control.specs.declared.OpenRelease.{OpenRelease}
use Rattle.control.specs.declared.State.TheVariants as state
use Rattle.control.specs.Calls.{call_on}
use Rattle.control.specs.Meaning.{StandsSomewhere}
use Rattle.rolsipay.specs.declared.State.{State}
use Rattle.rolsipay.specs.Calling.{zeros, state_of, lent}
use Rattle.demands.specs.Delivered.{Memory, after_read, ReadAs, delivered}
use Rattle.demands.specs.Rules.{TableOf, Refuses, no_plan, nowhere, busy, unfit, idle_report, idle_end, stranger, backward_report, backward_end, astray_report, astray_end}
use Rattle.demands.specs.Decisions.{ClosesBy, resumes, just_ends}
use Rattle.demands.proofs.Tables.{table_held, own_text, read_holds, one_plan}
use Rattle.demands.proofs.Calls as calls
use Rattle.demands.proofs.Calls.{fate, point_test}
use Rattle.demands.proofs.Decisions as decisions
use Rattle.demands.proofs.Delivered.{answer_held, refused_keeps, accepted_leaves}

-- ANY MEMORY AND STATE

-- A delivered call is refused by k exactly when the rules refuse it by k, and accepted exactly when they refuse it by no number.
pub refused_exactly : (m : Memory) (s : State) (c : Call) (k : Refusal) → (((delivered m).respond s c).answer ≡ Refused k) ↔ Refuses m (state_of s) c k
refused_exactly m s c k = subst (λ a. (a ≡ Refused k) ↔ Refuses m (state_of s) c k) (sym (answer_held m s c)) (calls.refused_exactly m (state_of s) c k)

pub accepted_exactly : (m : Memory) (s : State) (c : Call) → Accepts ((delivered m).respond s c).answer ↔ ((k : Refusal) → ¬ Refuses m (state_of s) c k)
accepted_exactly m s c = subst (λ a. Accepts a ↔ ((k : Refusal) → ¬ Refuses m (state_of s) c k)) (sym (answer_held m s c)) (calls.accepted_exactly m (state_of s) c)

-- Lent states that read the same are answered the same.
pub alike_answered : (m : Memory) (s t : State) → state_of s ≡ state_of t → (c : Call) → ((delivered m).respond s c).answer ≡ ((delivered m).respond t c).answer
alike_answered m s t e c = answer_held m s c ∙ (ap (λ x. (call_on (table_held m) x c).answer) e ∙ sym (answer_held m t c))

-- An accepted release does not depend on what else an idle state holds.
pub idle_released : (m : Memory) (s : State) → state_of s ≡ state.Idle → Accepts ((delivered m).respond s Release).answer →
    (delivered m).respond s Release ≡ (delivered m).respond zeros Release
idle_released m s e q =
    let i : call_on (table_held m) (state_of s) Release ≡ call_on (table_held m) state.Idle Release = ap (λ x. call_on (table_held m) x Release) e in
    let a : Accepts (call_on (table_held m) (state_of s) Release).answer = subst Accepts (answer_held m s Release) q in
    let b : Accepts (call_on (table_held m) state.Idle Release).answer = subst (λ x. Accepts x.answer) i a in
    let answer_same : ((delivered m).respond s Release).answer ≡ ((delivered m).respond zeros Release).answer =
    answer_held m s Release ∙ (ap (λ x. x.answer) i ∙ sym (answer_held m zeros Release)) in
    let state_same : ((delivered m).respond s Release).state ≡ ((delivered m).respond zeros Release).state =
    accepted_leaves m s Release a ∙ (ap (λ x. lent x.state) i ∙ sym (accepted_leaves m zeros Release b)) in
    λ j. record { state = state_same j; answer = answer_same j }

-- A call on an idle state is refused by 11 exactly where no accepted text, read into whatever memory, leaves this one.
pub broken_exactly : (m : Memory) (s : State) → state_of s ≡ state.Idle → (c : Call) →
    (((delivered m).respond s c).answer ≡ Refused Broken) ↔ ((text : List ℕ) (before : Memory) (p : Plan) → ReadAs text before p → ¬ (after_read text before ≡ m))
broken_exactly m s e c = (
  (λ q text before p r i. by refl ((refused_exactly m s c Broken).0 q) (p, subst (TableOf p) i (read_holds text before p r))),
  λ f. (refused_exactly m s c Broken).1 (no_plan (λ p o. f (print p) m p (own_text p m o) o.unchanged)),
)
  where
    by : {c : Call} {k : Refusal} → number_of k ≡ 11 → Refuses m (state_of s) c k → ¬ ((p : Plan) × TableOf p m)
    by i (no_plan f) (p, o) = f p o
    by i (nowhere u r f) w = let z : ◌≡◌ {A = ℕ} 0 1 = cc in omega arith
    by i (busy u) w = omega arith
    by i (unfit u r f) w = omega arith
    by i (idle_report u r) w = omega arith
    by i (idle_end u r) w = omega arith
    by i (stranger u f) w = omega arith
    by i (backward_report u x l) w = omega arith
    by i (backward_end u l) w = omega arith
    by i (astray_report u x l f) w = omega arith
    by i (astray_end u l f) w = omega arith

-- On the table of an accepted plan an open release is refused by 11 exactly when no run stands where it stands.
pub nowhere_exactly : (p : Plan) (m : Memory) → TableOf p m → (s : State) (release : OpenRelease) → state_of s ≡ state.Open release → (c : Call) →
    (((delivered m).respond s c).answer ≡ Refused Broken) ↔ ¬ StandsSomewhere p release
nowhere_exactly p m o s release e c = ((λ q. by refl ((refused_exactly m s c Broken).0 q)), λ f. (refused_exactly m s c Broken).1 (nowhere o e f))
  where
    by : {c : Call} {k : Refusal} → number_of k ≡ 11 → Refuses m (state_of s) c k → ¬ StandsSomewhere p release
    by i (no_plan f) = absurd (f p o)
    by i (nowhere {p = q} {o = x} u r f) =
        let z : state.Open x ≡ state.Open release = sym r ∙ e in
        let y : x ≡ release = cc in
        subst (λ w. ¬ StandsSomewhere p w) y (subst (λ w. ¬ StandsSomewhere w x) (one_plan q p m u o) f)
    by i (busy u) = absurd (omega arith)
    by i (unfit u r f) = absurd (omega arith)
    by i (idle_report u r) = absurd (omega arith)
    by i (idle_end u r) = absurd (omega arith)
    by i (stranger u f) = absurd (omega arith)
    by i (backward_report u x l) = absurd (omega arith)
    by i (backward_end u l) = absurd (omega arith)
    by i (astray_report u x l f) = absurd (omega arith)
    by i (astray_end u l f) = absurd (omega arith)

-- THE TABLE OF AN ACCEPTED PLAN

module _ (p : Plan) (m : Memory) (o : TableOf p m) where
  -- The answer of a delivered call.
  abbrev answer : State → Call → Answer
  answer s c = ((delivered m).respond s c).answer

  -- WHERE CALLS LEAD

  -- A fresh state, or one after an accepted release and accepted reports.
  abbrev pub Known : State → Type 0
  Known s = (s ≡ zeros) ⊎ ((others : Others) × (h : List ℕ) × (ds : List Decision) × Since (delivered m) s others h ds)

  -- The state behind a call: where an accepted one leads, or the one before it.
  behind : (s : State) (c : Call) → (Accepts (answer s c) → Known ((delivered m).respond s c).state) → Known s → Known ((delivered m).respond s c).state
  behind s c f x = by (fate m (state_of s) c)
    where
      by : Accepts (call_on (table_held m) (state_of s) c).answer ⊎ ((k : Refusal) × Refuses m (state_of s) c k × (call_on (table_held m) (state_of s) c ≡ refuse (state_of s) k)) → Known ((delivered m).respond s c).state
      by (inl q) = f (subst Accepts (sym (answer_held m s c)) q)
      by (inr (k, w, e)) = subst Known (sym (refused_keeps m s c k ((refused_exactly m s c k).1 w))) x

  -- The end leaves a fresh state.
  closes_fresh : {may_run : Type 0} {r : ℕ} {x : Reply State} → ClosesBy may_run p r x → x.state ≡ zeros
  closes_fresh (resumes q) = refl
  closes_fresh (just_ends q) = refl

  -- A call on a fresh state.
  from_fresh : (c : Call) → Known ((delivered m).respond zeros c).state
  from_fresh Release = behind zeros Release (λ q. inr (_, [], _, since.released q)) (inl refl)
  from_fresh (Report n r) = inl (refused_keeps m zeros (Report n r) Idle ((refused_exactly m zeros (Report n r) Idle).1 (idle_report o refl)))
  from_fresh (End r) = inl (refused_keeps m zeros (End r) Idle ((refused_exactly m zeros (End r) Idle).1 (idle_end o refl)))

  -- A call on a state behind a history.
  from_known : {s : State} {others : Others} {h : List ℕ} {ds : List Decision} → Since (delivered m) s others h ds → (c : Call) →
      Known ((delivered m).respond s c).state
  from_known {s} w Release = behind s Release (λ q. absurd (decisions.none_released p m o w q)) (inr (_, _, _, w))
  from_known {s} w (Report n r) = behind s (Report n r) (λ q. inr (_, _, _, since.reported w n r q)) (inr (_, _, _, w))
  from_known {s} w (End r) = behind s (End r) (λ q. inl (closes_fresh (decisions.end_closes p m o w r q))) (inr (_, _, _, w))

  -- Every list of calls leads to such a state.
  pub reached_known : {s : State} → Reached (delivered m) s → Known s
  reached_known at_first = inl refl
  reached_known (after {s = s} z c) = by (reached_known z)
    where
      by : Known s → Known ((delivered m).respond s c).state
      by (inl e) = subst (λ x. Known ((delivered m).respond x c).state) (sym e) (from_fresh c)
      by (inr (others, h, ds, w)) = from_known w c

  -- THE CALLS THAT THE RULES REFUSE

  -- The rules refuse the call by some number.
  abbrev pub SomeRefusal : State → Call → Type 0
  SomeRefusal s c = (k : Refusal) × Refuses m (state_of s) c k

  -- A call that is not accepted is refused by some number.
  refusal_of : (s : State) (c : Call) → ¬ Accepts (answer s c) → SomeRefusal s c
  refusal_of s c f = by (fate m (state_of s) c)
    where
      by : Accepts (call_on (table_held m) (state_of s) c).answer ⊎ ((k : Refusal) × Refuses m (state_of s) c k × (call_on (table_held m) (state_of s) c ≡ refuse (state_of s) k)) → SomeRefusal s c
      by (inl q) = absurd (f (subst Accepts (sym (answer_held m s c)) q))
      by (inr (k, w, e)) = (k, w)

  -- And the other way round.
  not_accepted : (s : State) (c : Call) → SomeRefusal s c → ¬ Accepts (answer s c)
  not_accepted s c (k, w) q = (accepted_exactly m s c).0 q k w

  -- From a fresh state, where total + T is within D.
  pub refusable_fresh : Fit p → (c : Call) → SomeRefusal zeros c ↔ Refusable p timed.closed c
  unfolding Refusable
  refusable_fresh f Release = ((λ x. not_accepted zeros Release x ((decisions.release_exactly p m o).1 f)), λ u. absurd u)
  refusable_fresh f (Report n r) = ((λ x. tt), λ u. (Idle, idle_report o refl))
  refusable_fresh f (End r) = ((λ x. tt), λ u. (Idle, idle_end o refl))

  -- Behind a history.
  module _ {s : State} {others : Others} {h : List ℕ} {ds : List Decision} (w : Since (delivered m) s others h ds) where
    -- Why a report is refused, and that it is.
    report_why : (n r : ℕ) → SomeRefusal s (Report n r) → ¬ PointOf p n ⊎ ((r < last_reading ds) ⊎ ¬ Reported (main p) (h ++ (n ∷ [])))
    report_why n r x = by (is_point (all_leaves p.functions) n) (point_test p n)
      where
        by : (b : Bool) → (b ≡ true) ↔ PointOf p n → ¬ PointOf p n ⊎ ((r < last_reading ds) ⊎ ¬ Reported (main p) (h ++ (n ∷ [])))
        by false k = inl (λ q. let e = k.1 q in let z : ◌≡◌ {A = ℕ} 0 1 = cc in omega arith)
        by true k =
            elim (dec_le (last_reading ds) r) [
              | yes y ↦ inr (inr (λ q. not_accepted s (Report n r) x ((decisions.report_exactly p m o w n r).1 (k.0 refl, y, q))))
              | no y ↦ inr (inl (omega arith))
            ]

    report_not : (n r : ℕ) → ¬ PointOf p n ⊎ ((r < last_reading ds) ⊎ ¬ Reported (main p) (h ++ (n ∷ []))) → ¬ Accepts (answer s (Report n r))
    report_not n r (inl f) q = f ((decisions.report_exactly p m o w n r).0 q).0
    report_not n r (inr (inl f)) q = let y = ((decisions.report_exactly p m o w n r).0 q).1 in omega arith
    report_not n r (inr (inr f)) q = f ((decisions.report_exactly p m o w n r).0 q).2

    -- Why an end is refused, and that it is.
    end_why : (r : ℕ) → SomeRefusal s (End r) → (r < last_reading ds) ⊎ ¬ Complete (main p) h
    end_why r x =
        elim (dec_le (last_reading ds) r) [
          | yes y ↦ inr (λ q. not_accepted s (End r) x ((decisions.end_exactly p m o w r).1 (y, q)))
          | no y ↦ inl (omega arith)
        ]

    end_not : (r : ℕ) → (r < last_reading ds) ⊎ ¬ Complete (main p) h → ¬ Accepts (answer s (End r))
    end_not r (inl f) q = let y = ((decisions.end_exactly p m o w r).0 q).0 in omega arith
    end_not r (inr f) q = f ((decisions.end_exactly p m o w r).0 q).1

    -- These are the calls that a list of demand 3 may hold while the release is open.
    pub refusable_open : (clock : ℕ) (to_come : List Block) (c : Call) →
        SomeRefusal s c ↔ Refusable p (opened (record { clock = clock; to_come = to_come; history = h; decisions = ds })) c
    unfolding Refusable
    refusable_open clock to_come Release = ((λ x. tt), λ u. refusal_of s Release (decisions.none_released p m o w))
    refusable_open clock to_come (Report n r) = (report_why n r, λ u. refusal_of s (Report n r) (report_not n r u))
    refusable_open clock to_come (End r) = (end_why r, λ u. refusal_of s (End r) (end_not r u))
