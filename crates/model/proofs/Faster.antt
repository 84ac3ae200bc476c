-- Why a faster run shares no less (02, L8): at one place, the rule that holds at a reading holds at each that is no later, if the others run before the second
-- decision too.
use mathlib.Core.List.{List}
use mathlib.Core.Option.{some}
use mathlib.Core.Path.{◌≡◌, refl, sym, ◌∙◌, subst}
use Prim.Native.Nat.{ℕ, zero, suc, ◌≤◌}
use native.Mathlib.Omega.{arith}
use lib.ListN.{take}
use Rattle.model.specs.Plan.{Plan}
use Rattle.model.specs.Calls.{Release, Report, Others, Running, Suspended, Accepts, Reply, others_after}
use Rattle.model.specs.Decisions.{Outlook, Place, at_release, at_report, outlook, Rule, decide}
use Rattle.model.specs.Controller.{State, idle, running, decided, respond, controller}
use Rattle.model.specs.Histories.{Exchange, Answered}
use Rattle.model.specs.Faster.{ReportsNoLater, no_reports, both_report, NoLater, both_release, others_behind, SharesNoLess}
use Rattle.model.proofs.Decisions.{holds_rule}
use Rattle.model.proofs.Deadline.{run_on}
use Rattle.model.proofs.Since.{release_decided, report_found}

-- If the others run in the first, they run in the second.
abbrev RunToo : Others → Others → Type 0
RunToo second first = first ≡ Running → second ≡ Running

module _ (p : Plan) where
  -- ONE DECISION

  -- The rule that holds at a reading holds at one that is no later, if the others run before it too.
  rule_no_later : (o : Outlook) (t u : ℕ) (first second : Others) → u ≤ t → RunToo second first → Rule p o t first → Rule p o u second
  rule_no_later o t u Running Running e m r = omega arith
  rule_no_later o t u Running Suspended e m r = absurd (let i = m refl in let z : ◌≡◌ {A = ℕ} 0 1 = cc in omega arith)
  rule_no_later o t u Suspended Running e m (i, r) = omega arith
  rule_no_later o t u Suspended Suspended e m (i, r) = (i, omega arith)

  -- So behind it they run too.
  run_too : (o : Outlook) (t u : ℕ) (first second : Others) → u ≤ t → RunToo second first →
      RunToo (others_after (decide p o u second) second) (others_after (decide p o t first) first)
  run_too o t u first second e m i =
      let r = (holds_rule p o t first).0 ((run_on p o t first).0 i) in
      (run_on p o u second).1 ((holds_rule p o u second).1 (rule_no_later o t u first second e m r))

  -- TWO STATES SIDE BY SIDE

  -- A release is open in both, at the same place; and if the others run in the first, they run in the second.
  record Beside (x y : State) (first second : Others) : Type 0 where
    place : Place
    last_of_first : ℕ
    last_of_second : ℕ
    first_is : x ≡ running place last_of_first first
    second_is : y ≡ running place last_of_second second
    too : RunToo second first

  -- The states that two replies leave, and what the others do by their answers.
  abbrev BesideAfter : Reply State → Reply State → Others → Others → Type 0
  BesideAfter r s first second = Beside r.state s.state (others_after r.answer first) (others_after s.answer second)

  -- So it is behind a decision at one place.
  decided_beside : (x : Place) (t u : ℕ) (first second : Others) → u ≤ t → RunToo second first →
      BesideAfter (decided p x t first) (decided p x u second) first second
  decided_beside x t u first second e m =
      record {
        place = x;
        last_of_first = t;
        last_of_second = u;
        first_is = refl;
        second_is = refl;
        too = run_too (outlook p x) t u first second e m;
      }

  -- Behind an accepted release,
  release_beside : Accepts (respond p idle Release).answer → BesideAfter (respond p idle Release) (respond p idle Release) Running Running
  release_beside q = rw (release_decided p q) (decided_beside at_release 0 0 Running Running (omega arith) (λ i. i))

  -- and behind an accepted report of one point, which leads both to the same place.
  report_beside : {x y : State} {first second : Others} (n t u : ℕ) → Beside x y first second → u ≤ t →
      Accepts (respond p x (Report n t)).answer → Accepts (respond p y (Report n u)).answer →
      BesideAfter (respond p x (Report n t)) (respond p y (Report n u)) first second
  report_beside {x} {y} {first} {second} n t u w e a b =
      let i = w.first_is in
      let j = w.second_is in
      let f = report_found p w.place w.last_of_first first n t (rw i at a) in
      let g = report_found p w.place w.last_of_second second n u (rw j at b) in
      let same : some g.levels ≡ some f.levels = sym g.next ∙ f.next in
      let l : g.levels ≡ f.levels = cc in
      rw (i, j, f.reply, g.reply, l) (decided_beside (at_report n f.levels) t u first second e w.too)

  -- TWO SEQUENCES

  -- From two states side by side on, behind any number of reports.
  reports_share : {xs ys : List Exchange} → ReportsNoLater ys xs → {x y : State} {first second : Others} → Beside x y first second →
      Answered (controller p) x xs → Answered (controller p) y ys → (reports : ℕ) →
      RunToo (others_behind second (take reports ys)) (others_behind first (take reports xs))
  unfolding Answered others_behind
  reports_share no_reports w a b zero = w.too
  reports_share no_reports w a b (suc reports) = w.too
  reports_share (both_report h l e v) w a b zero = w.too
  reports_share (both_report {n = n} {t = t} {u = u} h l e v) {x} {y} {first} {second} w (i, a) (j, b) (suc reports) =
      let w' = report_beside n t u w e (subst Accepts (sym i) h) (subst Accepts (sym j) l) in
      rw (sym i, sym j) (reports_share v w' a b reports)

  -- From the release on.
  pub shares_no_less : (first second : List Exchange) → Answered (controller p) idle first → Answered (controller p) idle second →
      NoLater second first → SharesNoLess second first
  unfolding Answered others_behind
  shares_no_less first second a b w = by w a b
    where
      by : {xs ys : List Exchange} → NoLater ys xs → Answered (controller p) idle xs → Answered (controller p) idle ys → SharesNoLess ys xs
      by (both_release h l v) (i, a) (j, b) reports = rw (sym i, sym j) (reports_share v (release_beside (subst Accepts (sym i) h)) a b reports)
