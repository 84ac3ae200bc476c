-- A call is refused by a number exactly when the rules say that number.
use mathlib.Core.Bool.{Bool, true, false}
use mathlib.Core.Logic.{◌⊎◌, ◌↔◌, inl, inr}
use mathlib.Core.Option.{Option, none, some}
use mathlib.Core.Path.{◌≡◌, refl, ap, sym, ◌∙◌, subst}
use Prim.Native.Nat.{ℕ, ◌+◌}
use native.Mathlib.Omega.{arith}
use lib.Dec.{leb, ltb}
use borrow.Author.Tests.{ltb-true, ltb-false, lt-ltb, le-ltb}
use Rattle.model.specs.declared.Refusal.{Refusal}
use Rattle.model.specs.declared.Refusal.TheVariants.{Broken, Busy, Unfit, Idle, Stranger, Backward, Astray}
use Rattle.model.specs.Plan.{C, Plan, all_leaves}
use Rattle.model.specs.Forms.{main}
use Rattle.model.specs.Total.{total}
use Rattle.model.specs.Acceptance.{Accepted}
use Rattle.model.specs.Places.{pick}
use Rattle.model.specs.Stack.{Levels}
use Rattle.model.specs.declared.Call.{Call}
use Rattle.model.specs.declared.Call.TheVariants.{Release, Report, End}
use Rattle.model.specs.declared.Answer.{Answer}
use Rattle.model.specs.declared.Answer.TheVariants.{Refused, Closed}
use Rattle.model.specs.declared.Others.TheVariants.{Running}
use Rattle.model.specs.Calls.{Accepts, Reply, refuse}
use Rattle.model.specs.Decisions.{at_release, late}
use Rattle.model.specs.Timed.{PointOf}
use Rattle.model.specs.Controller as places
use Rattle.model.specs.Controller.{idle, is_point, next_levels, can_close, decided, reached, ending, respond}
use Rattle.model.proofs.Blocks.{is_point_of, point_of_is}
use Rattle.model.proofs.Since.{fit_exactly}
use Rattle.table.specs.Table.{plan_of}
use Rattle.table.proofs.Theorems as table
use Rattle.control.specs.declared.OpenRelease.{OpenRelease}
use Rattle.control.specs.declared.State.{State}
use Rattle.control.specs.declared.State.TheVariants as state
use Rattle.control.specs.State.{stack_of, levels_of, standing}
use Rattle.control.specs.Calls.{place_of, running_at, found_at, read_state, in_numbers, reply, on_state, on_plan, call_on}
use Rattle.control.specs.Meaning.{StandsSomewhere}
use Rattle.control.proofs.Alike.{timed_some}
use Rattle.control.proofs.Theorems as control
use Rattle.demands.specs.Rules.{TableOf, Underway, CanReport, Refuses, no_plan, nowhere, busy, unfit, idle_report, idle_end, stranger, backward_report, backward_end, astray_report, astray_end}
use Rattle.demands.specs.Delivered.{Memory}
use Rattle.demands.proofs.Tests.{failed, fails}
use Rattle.demands.proofs.Tables.{table_held, numbers_held, table_found}
use Rattle.demands.proofs.Onward.{can_report, can_end}

-- ANSWERS

-- An answer that is a refusal is no acceptance.
pub not_both : (x : Answer) (k : Refusal) → x ≡ Refused k → Accepts x → ⊥
not_both x k e q = subst Accepts e q

-- A refusal is one.
pub same_refusal : {k m : Refusal} → Refused k ≡ Refused m → k ≡ m
same_refusal e = cc

-- TESTS OF A CALL

-- The number is a point of the plan.
pub point_test : (p : Plan) (n : ℕ) → (is_point (all_leaves p.functions) n ≡ true) ↔ PointOf p n
point_test p n = (is_point_of p n, point_of_is p n)

-- The levels of a release are found exactly where it stands somewhere.
stands_test : (p : Plan) → Accepted p → (o : OpenRelease) → ((ls : Levels) × (standing p o ≡ some ls)) ↔ StandsSomewhere p o
stands_test = control.state_good_exactly

-- They are those of its stack.
levels_found : (p : Plan) → Accepted p → (o : OpenRelease) (ls : Levels) → standing p o ≡ some ls → levels_of p (stack_of o) ≡ some ls
levels_found p a o ls e = timed_some p a o (levels_of p (stack_of o)) ls e

-- WHAT BECOMES OF A CALL

-- The call is accepted; or the rules refuse it by a number, this is its answer, and the state is as it was.
abbrev Fate : Memory → State → Call → Reply State → Type 0
Fate m s c r = Accepts r.answer ⊎ ((k : Refusal) × Refuses m s c k × (r ≡ refuse s k))

-- The call is refused by k.
turned : {m : Memory} {s : State} {c : Call} (k : Refusal) → Refuses m s c k → Fate m s c (refuse s k)
turned k w = inr (k, w, refl)

-- A call on an idle state.
idle_fate : (m : Memory) (s : State) (p : Plan) → TableOf p m → s ≡ state.Idle → (c : Call) → Fate m s c (reply p s idle c)
unfolding respond
idle_fate m s p o e (Report n r) = turned Idle (idle_report o e)
idle_fate m s p o e (End r) = turned Idle (idle_end o e)
idle_fate m s p o e Release = by (leb (total C (main p) + p.switch) p.deadline) refl
  where
    by : (b : Bool) → leb (total C (main p) + p.switch) p.deadline ≡ b → Fate m s Release (in_numbers p s (pick b (decided p at_release 0 Running) (refuse idle Unfit)))
    by true i = inl tt
    by false i = turned Unfit (unfit o e (failed _ (fit_exactly p) i))

-- A report, an end and any call where the open release stands at levels.
module _ (m : Memory) (s : State) (p : Plan) (o : OpenRelease) (u : Underway p m s o) (ls : Levels) (e : standing p o ≡ some ls) where
  abbrev x : places.State
  x = running_at o ls

  abbrev levels : levels_of p (stack_of o) ≡ some ls
  levels = levels_found p u.table.accepted o ls e

  report_fate : (n r : ℕ) → Fate m s (Report n r) (reply p s (running_at o ls) (Report n r))
  unfolding respond
  report_fate n r = by (is_point (all_leaves p.functions) n) refl (ltb r o.reading) refl (next_levels p (place_of o ls) n) refl
    where
      by : (i : Bool) → is_point (all_leaves p.functions) n ≡ i → (j : Bool) → ltb r o.reading ≡ j → (q : Option Levels) → next_levels p (place_of o ls) n ≡ q →
          Fate m s (Report n r) (in_numbers p s (pick i (pick j (refuse x Backward) (reached p x n r o.others q)) (refuse x Stranger)))
      by true a false b (some ls') z = inl tt
      by true a false b none z =
          turned Astray (astray_report u (is_point_of p n a) (ltb-false r o.reading b)
          (λ w. let (ls', q) = (can_report p u.table.accepted o ls n levels).1 w in let i : ◌≡◌ {A = ℕ} 0 1 = cc in omega arith))
      by true a true b q z = turned Backward (backward_report u (is_point_of p n a) (ltb-true r o.reading b))
      by false a j b q z = turned Stranger (stranger u (failed _ (point_test p n) a))

  end_fate : (r : ℕ) → Fate m s (End r) (reply p s (running_at o ls) (End r))
  unfolding respond
  end_fate r = by (ltb r o.reading) refl (can_close p (place_of o ls)) refl
    where
      by : (j : Bool) → ltb r o.reading ≡ j → (i : Bool) → can_close p (place_of o ls) ≡ i →
          Fate m s (End r) (in_numbers p s (pick j (refuse x Backward) (pick i (record { state = idle; answer = Closed (ending o.others) (late p r) }) (refuse x Astray))))
      by true b i z = turned Backward (backward_end u (ltb-true r o.reading b))
      by false b true z = inl tt
      by false b false z = turned Astray (astray_end u (ltb-false r o.reading b) (failed _ (can_end p u.table.accepted o ls levels) z))

  running_fate : (c : Call) → Fate m s c (reply p s (running_at o ls) c)
  unfolding respond
  running_fate Release = turned Busy (busy u)
  running_fate (Report n r) = report_fate n r
  running_fate (End r) = end_fate r

-- A call on the table of a plan.
phase_fate : (m : Memory) (s : State) (c : Call) (p : Plan) → TableOf p m → (t : State) → s ≡ t → Fate m s c (on_state p s c (read_state p t))
phase_fate m s c p o state.Idle e = idle_fate m s p o e c
phase_fate m s c p o (state.Open release) e = by (standing p release) refl
  where
    by : (q : Option Levels) → standing p release ≡ q → Fate m s c (on_state p s c (found_at release q))
    by none i =
        turned Broken (nowhere o e (λ w. let (ls, q) = (stands_test p o.accepted release).1 w in let z : ◌≡◌ {A = ℕ} 0 1 = cc in omega arith))
    by (some ls) i = running_fate m s p release (record { table = o; running = e; stands = (stands_test p o.accepted release).0 (ls, i) }) ls i c

-- The plan of a table.
found_plan : (m : Memory) (p : Plan) → plan_of (table_held m) ≡ some p → TableOf p m
found_plan m p e = let (a, q) = (table.plan_of_table (table_held m) p).0 e in table_found p a m q

plan_found : (m : Memory) (p : Plan) → TableOf p m → plan_of (table_held m) ≡ some p
plan_found m p o = (table.plan_of_table (table_held m) p).1 (o.accepted, numbers_held p m o)

-- A call on any table.
pub fate : (m : Memory) (s : State) (c : Call) → Fate m s c (call_on (table_held m) s c)
unfolding call_on
fate m s c = by (plan_of (table_held m)) refl
  where
    by : (o : Option Plan) → plan_of (table_held m) ≡ o → Fate m s c (on_plan s c o)
    by none e = turned Broken (no_plan (λ p o. let q = plan_found m p o in let z : ◌≡◌ {A = ℕ} 0 1 = cc in omega arith))
    by (some p) e = phase_fate m s c p (found_plan m p e) s refl

-- FROM THE RULES TO THE CALL

-- A table of no accepted plan.
no_plan_found : (m : Memory) → ((p : Plan) → ¬ TableOf p m) → plan_of (table_held m) ≡ none
no_plan_found m f = by (plan_of (table_held m)) refl
  where
    by : (o : Option Plan) → plan_of (table_held m) ≡ o → o ≡ none
    by none e = refl
    by (some p) e = absurd (f p (found_plan m p e))

-- A call on the table of a plan.
on_table : (m : Memory) (s : State) (c : Call) (p : Plan) → TableOf p m → (t : State) → s ≡ t → call_on (table_held m) s c ≡ on_state p s c (read_state p t)
unfolding call_on
on_table m s c p o t e = ap (on_plan s c) (plan_found m p o) ∙ ap (λ x. on_state p s c (read_state p x)) e

-- A release that stands nowhere has no levels.
levels_missing : (p : Plan) → Accepted p → (o : OpenRelease) → ¬ StandsSomewhere p o → standing p o ≡ none
levels_missing p a o f = by (standing p o) refl
  where
    by : (q : Option Levels) → standing p o ≡ q → q ≡ none
    by none e = refl
    by (some ls) e = absurd (f ((stands_test p a o).0 (ls, e)))

-- The levels of a release that is under way, and the call there.
underway_call : (m : Memory) (s : State) (p : Plan) (o : OpenRelease) → Underway p m s o → (c : Call) →
    (ls : Levels) × (standing p o ≡ some ls) × (call_on (table_held m) s c ≡ reply p s (running_at o ls) c)
underway_call m s p o u c =
    let (ls, e) = (stands_test p u.table.accepted o).1 u.stands in
    (ls, e, on_table m s c p u.table (state.Open o) u.running ∙ ap (λ q. on_state p s c (found_at o q)) e)

-- No levels are found for a point that no run standing there reports next.
no_levels : (p : Plan) (a : Accepted p) (o : OpenRelease) (ls : Levels) → standing p o ≡ some ls → (n : ℕ) → ¬ CanReport p o n → next_levels p (place_of o ls) n ≡ none
no_levels p a o ls e n f = by (next_levels p (place_of o ls) n) refl
  where
    by : (q : Option Levels) → next_levels p (place_of o ls) n ≡ q → q ≡ none
    by none i = refl
    by (some ls') i = absurd (f ((can_report p a o ls n (levels_found p a o ls e)).0 (ls', i)))

-- A call that the rules refuse by k is refused by k and keeps the state.
rule_call : (m : Memory) (s : State) (c : Call) (k : Refusal) → Refuses m s c k → call_on (table_held m) s c ≡ refuse s k
unfolding respond
rule_call m s c k (no_plan f) = unfold call_on in ap (on_plan s c) (no_plan_found m f)
rule_call m s c k (nowhere {p = p} {o = r} o e f) = on_table m s c p o (state.Open r) e ∙ ap (λ q. on_state p s c (found_at r q)) (levels_missing p o.accepted r f)
rule_call m s c k (busy {p = p} {o = o} u) = (underway_call m s p o u Release).2
rule_call m s c k (unfit {p = p} o e f) = on_table m s Release p o state.Idle e ∙ rw (fails _ (fit_exactly p) f)
rule_call m s c k (idle_report {p = p} {n = n} {r = r} o e) = on_table m s (Report n r) p o state.Idle e
rule_call m s c k (idle_end {p = p} {r = r} o e) = on_table m s (End r) p o state.Idle e
rule_call m s c k (stranger {p = p} {o = o} {n = n} {r = r} u f) = (underway_call m s p o u (Report n r)).2 ∙ rw (fails _ (point_test p n) f)
rule_call m s c k (backward_report {p = p} {o = o} {n = n} {r = r} u x h) =
    (underway_call m s p o u (Report n r)).2 ∙ rw ((point_test p n).1 x, lt-ltb r o.reading h)
rule_call m s c k (backward_end {p = p} {o = o} {r = r} u h) = (underway_call m s p o u (End r)).2 ∙ rw (lt-ltb r o.reading h)
rule_call m s c k (astray_report {p = p} {o = o} {n = n} {r = r} u x h f) =
    let (ls, e, q) = underway_call m s p o u (Report n r) in
    q ∙ rw ((point_test p n).1 x, le-ltb r o.reading h, no_levels p u.table.accepted o ls e n f)
rule_call m s c k (astray_end {p = p} {o = o} {r = r} u h f) =
    let (ls, e, q) = underway_call m s p o u (End r) in
    q ∙ rw (le-ltb r o.reading h, fails _ (can_end p u.table.accepted o ls (levels_found p u.table.accepted o ls e)) f)

-- THE RULES, EXACTLY

-- A call is refused by k exactly when the rules refuse it by k.
pub refused_exactly : (m : Memory) (s : State) (c : Call) (k : Refusal) → ((call_on (table_held m) s c).answer ≡ Refused k) ↔ Refuses m s c k
refused_exactly m s c k = ((λ e. by e (fate m s c)), λ w. ap (λ r. r.answer) (rule_call m s c k w))
  where
    by : (call_on (table_held m) s c).answer ≡ Refused k → Fate m s c (call_on (table_held m) s c) → Refuses m s c k
    by e (inl q) = absurd (not_both (call_on (table_held m) s c).answer k e q)
    by e (inr (i, w, q)) = subst (Refuses m s c) (same_refusal (sym (ap (λ r. r.answer) q) ∙ e)) w

-- A call is accepted exactly when the rules refuse it by no number.
pub accepted_exactly : (m : Memory) (s : State) (c : Call) → Accepts (call_on (table_held m) s c).answer ↔ ((k : Refusal) → ¬ Refuses m s c k)
accepted_exactly m s c = ((λ q k w. not_both (call_on (table_held m) s c).answer k ((refused_exactly m s c k).1 w) q), λ f. by f (fate m s c))
  where
    by : ((k : Refusal) → ¬ Refuses m s c k) → Fate m s c (call_on (table_held m) s c) → Accepts (call_on (table_held m) s c).answer
    by f (inl q) = q
    by f (inr (i, w, q)) = absurd (f i w)
