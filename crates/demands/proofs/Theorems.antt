-- What is promised of the calls that integrators link: the three demands, rule 11 and the marked cases. Statements alone: each proof names the lemma that
-- shows it. `read_answer` and `after_read` are what the delivered `read` answers and leaves, `delivered` what `release`, `report` and `end` answer and leave,
-- and `read_returned` and `call_returned` the numbers that they return under their C names (specs/Delivered), each by its contract. docs/BELIEVE.md lists every
-- definition that these statements need.
use mathlib.Core.List.{List, [], ◌∷◌, ◌++◌, map}
use mathlib.Core.Logic.{◌⊎◌, ◌↔◌}
use mathlib.Core.Path.{◌≡◌, refl}
use Prim.Native.Nat.{ℕ, ◌≤◌}
use lib.ListN.{length, drop}
use Rattle.std.specs.Prelude.{Ok, Err}
use Rattle.model.specs.declared.Refusal.{Refusal}
use Rattle.model.specs.declared.Refusal.TheVariants.{Broken}
use Rattle.model.specs.Refusals.{number_of}
use Rattle.model.specs.declared.Edition.TheVariants.{First}
use Rattle.model.specs.Plan.{Block, Plan}
use Rattle.model.specs.Forms.{main}
use Rattle.model.specs.Runs.{Run, visits}
use Rattle.model.specs.Remaining.{Reported, Complete}
use Rattle.model.specs.Acceptance.{sizes, Fits, Accepted}
use Rattle.model.specs.declared.Call.{Call}
use Rattle.model.specs.declared.Call.TheVariants.{Release, Report, End}
use Rattle.model.specs.declared.Answer.TheVariants.{Refused}
use Rattle.model.specs.declared.Others.{Others}
use Rattle.model.specs.declared.Others.TheVariants.{Running}
use Rattle.model.specs.Calls.{Accepts}
use Rattle.model.specs.Decisions.{Decision, MayRun, Fit}
use Rattle.model.specs.Timed.{PointOf, last_reading, Refusable, CallList, closed, opened, KeepsDeadline, Plays}
use Rattle.model.specs.Histories.{Exchange, Reached, Since, Answered}
use Rattle.model.specs.Faster.{NoLater, SharesNoLess}
use Rattle.model.specs.Worked.{plan_A, returning_A}
use Rattle.model.proofs.Theorems as model
use Rattle.reader.specs.Print.{print}
use Rattle.table.proofs.Theorems as table
use Rattle.control.specs.declared.OpenRelease.{OpenRelease}
use Rattle.control.specs.declared.State.TheVariants.{Idle, Open}
use Rattle.control.specs.Meaning.{StandsSomewhere, HistoryState}
use Rattle.control.specs.Cases.{worst_of_A, faster_on_A, cases, worst_of_returning_A, two_returns, two_stays}
use Rattle.rolsipay.specs.declared.State.{State}
use Rattle.rolsipay.specs.Calling.{zeros, state_of}
use Rattle.rolsipay.proofs.Theorems as rolsipay
use Rattle.demands.specs.Delivered.{Memory, read_answer, after_read, ReadAs, delivered, read_returned, call_returned}
use Rattle.demands.specs.Rules.{refusals_in_order, Ruled, TableOf, Refuses}
use Rattle.demands.specs.Tables.{Numbers}
use Rattle.demands.specs.Decisions.{Decides, DecidesAsBefore, Closes, ClosesAsBefore}
use Rattle.demands.specs.Lists.{exchanges, before_end, text_A, text_returning_A}
use Rattle.demands.specs.Cases.{EachRight, MarkedNumbers}
use Rattle.demands.proofs.Tables as tables
use Rattle.demands.proofs.Decisions as decisions
use Rattle.demands.proofs.Reached as reached
use Rattle.demands.proofs.Delivered as delivering
use Rattle.demands.proofs.Worst as worst
use Rattle.demands.proofs.Faster as faster
use Rattle.demands.proofs.Cases as marked
use Rattle.demands.proofs.Returned as returned

-- DEMAND 1: THE RULES' NUMBERS, AND A REFUSAL CHANGES NOTHING

-- The documents number the refusals from 1 to 19 in this order, each by a number of its own.
pub refusals_numbered : map number_of refusals_in_order ≡ 1 ∷ 2 ∷ 3 ∷ 4 ∷ 5 ∷ 6 ∷ 7 ∷ 8 ∷ 9 ∷ 10 ∷ 11 ∷ 12 ∷ 13 ∷ 14 ∷ 15 ∷ 16 ∷ 17 ∷ 18 ∷ 19 ∷ []
refusals_numbered = refl

pub number_tells_refusal : (k l : Refusal) → number_of k ≡ number_of l → k ≡ l
number_tells_refusal = rolsipay.number_tells

-- Consider any text and any lent memory. Reading refuses the text by a refusal and a line exactly when the rules say this refusal and line.
pub plan_refused_exactly : (text : List ℕ) (m : Memory) (k : Refusal) (j : ℕ) →
    (read_answer text m ≡ Err (record { refusal = k; line = j })) ↔ Ruled (length m.row) text k j
plan_refused_exactly = tables.text_refused

-- Under its C name reading refuses the text by a number and a line exactly when the rules say this number and line; and number 0 says that it is accepted.
pub plan_refused_by_number : (text : List ℕ) (m : Memory) (n j : ℕ) → 1 ≤ n →
    (read_returned text m ≡ record { number = n; line = j }) ↔ ((k : Refusal) × Ruled (length m.row) text k j × (number_of k ≡ n))
plan_refused_by_number = returned.plan_by_number

pub plan_accepted_by_0 : (text : List ℕ) (m : Memory) → ((read_returned text m).number ≡ 0) ↔ (read_answer text m ≡ Ok tt)
plan_accepted_by_0 = returned.plan_accepted_by_0

-- A refused plan leaves the lent memory exactly as it was: every record of the row, and the head.
pub refused_plan_keeps_memory : (text : List ℕ) (m : Memory) (k : Refusal) (j : ℕ) → read_answer text m ≡ Err (record { refusal = k; line = j }) → after_read text m ≡ m
refused_plan_keeps_memory = tables.refused_leaves

-- Consider any lent memory, any lent state and any call. It is refused by a refusal exactly when the rules refuse it by that one; so by one only.
pub call_refused_exactly : (m : Memory) (s : State) (c : Call) (k : Refusal) → (((delivered m).respond s c).answer ≡ Refused k) ↔ Refuses m (state_of s) c k
call_refused_exactly = reached.refused_exactly

-- Under its C name it is refused by a number exactly when the rules refuse it by that number; so by one number only. Number 0 says that it is accepted, and so
-- does every word but 0.
pub call_refused_by_number : (m : Memory) (s : State) (c : Call) (n : ℕ) → 1 ≤ n →
    ((call_returned m s c).number ≡ n) ↔ ((k : Refusal) × Refuses m (state_of s) c k × (number_of k ≡ n))
call_refused_by_number = returned.call_by_number

pub call_accepted_by_0 : (m : Memory) (s : State) (c : Call) →
    (((call_returned m s c).number ≡ 0) ↔ Accepts ((delivered m).respond s c).answer) ×
    ((1 ≤ (call_returned m s c).word) ↔ Accepts ((delivered m).respond s c).answer)
call_accepted_by_0 = returned.call_accepted_by_0

-- A refused call leaves the lent state exactly as it was, every number of it.
pub refused_call_keeps_state : (m : Memory) (s : State) (c : Call) (k : Refusal) → ((delivered m).respond s c).answer ≡ Refused k → ((delivered m).respond s c).state ≡ s
refused_call_keeps_state = delivering.refused_keeps

-- DEMAND 2: ACCEPTED EXACTLY WHERE THE RULES ALLOW IT, REMAINING AND SUSPENSION

-- A text is accepted exactly when it is read as a plan.
pub plan_accepted_exactly : (text : List ℕ) (m : Memory) → (read_answer text m ≡ Ok tt) ↔ ((p : Plan) × ReadAs text m p)
plan_accepted_exactly = tables.text_accepted

-- It is read as the plan p exactly when it is the one text of p, p keeps the rules 3 to 10 and 19, and the lent row holds the leaves of p.
pub read_as_exactly : (text : List ℕ) (m : Memory) (p : Plan) → ReadAs text m p ↔ ((text ≡ print p) × Accepted p × Fits (length m.row) p)
read_as_exactly text m p = table.read_as_plan (length m.row) text p

-- The memory then holds the table of p, and the records past the last leaf of p keep their values.
pub table_written : (text : List ℕ) (m : Memory) (p : Plan) → ReadAs text m p → TableOf p (after_read text m)
table_written = tables.read_holds

pub later_records_kept : (text : List ℕ) (m : Memory) (p : Plan) → ReadAs text m p →
    drop (sizes p.functions) (after_read text m).row ≡ drop (sizes p.functions) m.row
later_records_kept = tables.later_records

-- Memory that holds the table of p has p's D and T, its edition with U, and its totals in its head; and it holds the table of one plan at most.
pub table_says : (p : Plan) (m : Memory) → TableOf p m → Numbers p m
table_says = tables.table_numbers

pub table_of_one_plan : (p q : Plan) (m : Memory) → TableOf p m → TableOf q m → p ≡ q
table_of_one_plan = tables.one_plan

-- A call, in any lent memory and on any lent state, is accepted exactly when the rules refuse it by no number.
pub call_accepted_exactly : (m : Memory) (s : State) (c : Call) → Accepts ((delivered m).respond s c).answer ↔ ((k : Refusal) → ¬ Refuses m (state_of s) c k)
call_accepted_exactly = reached.accepted_exactly

-- Lent states that read the same (any number but 0 says yes) are answered the same; and a release on any idle state is, once accepted, that on zeros.
pub alike_answered : (m : Memory) (s t : State) → state_of s ≡ state_of t → (c : Call) → ((delivered m).respond s c).answer ≡ ((delivered m).respond t c).answer
alike_answered = reached.alike_answered

pub idle_as_fresh : (m : Memory) (s : State) → state_of s ≡ Idle → Accepts ((delivered m).respond s Release).answer →
    (delivered m).respond s Release ≡ (delivered m).respond zeros Release
idle_as_fresh = reached.idle_released

-- Consider lent memory that holds the table of the accepted plan p.
module _ (p : Plan) (m : Memory) (o : TableOf p m) where
  -- Whatever the calls, refused ones included, each state that they lead to from one of zeros is all zeros, or comes after an accepted release and accepted
  -- reports h with the decisions ds, the latest first, and what the others do by the answers.
  pub every_state_known : {s : State} → Reached (delivered m) s →
      (s ≡ zeros) ⊎ ((others : Others) × (h : List ℕ) × (ds : List Decision) × Since (delivered m) s others h ds)
  every_state_known = reached.reached_known p m o

  -- After one report or more a release is open in the lent state, and its place and its remaining times are those of its history: some run with these reports
  -- stands at its stack of points, open loops and calls with their visit counts, and its 33 remaining times are that run's.
  pub state_is_of_history : {s : State} {others : Others} {n : ℕ} {h : List ℕ} {ds : List Decision} → Since (delivered m) s others (n ∷ h) ds →
      (o : OpenRelease) × (state_of s ≡ Open o) × HistoryState p o (n ∷ h)
  state_is_of_history = decisions.history_state p m o

  -- A release from a state of zeros is accepted exactly when total + T is within D.
  pub release_accepted_exactly : Accepts ((delivered m).respond zeros Release).answer ↔ Fit p
  release_accepted_exactly = decisions.release_exactly p m o

  -- Its answer has the total as remaining, and the release's stretch; it is go if the condition holds and suspend if not.
  pub release_decides : Accepts ((delivered m).respond zeros Release).answer →
      Decides p [] (record { history = []; reading = 0; others = Running }) ((delivered m).respond zeros Release).answer
  release_decides = decisions.release_decided p m o

  -- A plan whose task line has two numbers is of edition 1. On its table the answer is word for word what it was before there were editions.
  pub two_numbers_at_release : p.edition ≡ First → Accepts ((delivered m).respond zeros Release).answer →
      DecidesAsBefore p [] (record { history = []; reading = 0; others = Running }) ((delivered m).respond zeros Release).answer
  two_numbers_at_release = decisions.release_as_before p m o

  -- Consider any state after an accepted release and accepted reports h with the decisions ds, the latest first, where the others do this by the answers.
  module _ {s : State} {others : Others} {h : List ℕ} {ds : List Decision} (w : Since (delivered m) s others h ds) where
    -- The others run there exactly where they may: in edition 1 where the condition held at each of these decisions, in edition 2 where the rule held at the
    -- latest.
    pub others_known : (others ≡ Running) ↔ MayRun p ds
    others_known = decisions.others_told p m o w

    -- A report is accepted exactly when its number is a point of the plan, its reading is not below the last accepted one, and some run has these
    -- reports in this order.
    pub report_accepted_exactly : (n reading : ℕ) → Accepts ((delivered m).respond s (Report n reading)).answer ↔
        (PointOf p n × (last_reading ds ≤ reading) × Reported (main p) (h ++ (n ∷ [])))
    report_accepted_exactly = decisions.report_exactly p m o w

    -- Its answer has as remaining the largest isolated sum over all ways the run can still go, and the stretch of this visit. In edition 1 it says suspend
    -- exactly at the first decision where the condition fails, go before that and stay behind it. In edition 2, where the others ran before it, it says go
    -- exactly if the condition holds, else suspend; where they were suspended, resume exactly if the rule of return holds, else stay.
    pub report_decides : (n reading : ℕ) → Accepts ((delivered m).respond s (Report n reading)).answer →
        Decides p ds (record { history = h ++ (n ∷ []); reading = reading; others = others }) ((delivered m).respond s (Report n reading)).answer
    report_decides = decisions.report_decided p m o w

    -- In a plan of edition 1 it is word for word what it was before there were editions, whatever the others did: no U is in it.
    pub two_numbers_at_report : p.edition ≡ First → (n reading : ℕ) → Accepts ((delivered m).respond s (Report n reading)).answer →
        DecidesAsBefore p ds (record { history = h ++ (n ∷ []); reading = reading; others = others }) ((delivered m).respond s (Report n reading)).answer
    two_numbers_at_report = decisions.report_as_before p m o w

    -- An end is accepted exactly when its reading is not below the last accepted one and some run has exactly these reports.
    pub end_accepted_exactly : (reading : ℕ) → Accepts ((delivered m).respond s (End reading)).answer ↔ ((last_reading ds ≤ reading) × Complete (main p) h)
    end_accepted_exactly = decisions.end_exactly p m o w

    -- It answers ended if the others may run behind these decisions and resume if not, so that they were suspended, and every number of the state is 0 again.
    pub end_closes : (reading : ℕ) → Accepts ((delivered m).respond s (End reading)).answer → Closes p ds reading ((delivered m).respond s (End reading))
    end_closes = decisions.end_closes p m o w

    -- In a plan of edition 1 that is, as before there were editions, ended exactly if the condition held at each of them.
    pub two_numbers_at_end : p.edition ≡ First → (reading : ℕ) → Accepts ((delivered m).respond s (End reading)).answer →
        ClosesAsBefore p ds reading ((delivered m).respond s (End reading))
    two_numbers_at_end = decisions.end_as_before p m o w

-- DEMAND 3: THE DEADLINE

-- Consider any lent memory, any text that is read into it as a plan p, of either edition, and let p's total + T be within its D. Every list of release,
-- report and end calls on this memory that document 01 describes, from a state of zeros and with the others running, keeps the claim. Every call of a timed
-- run is accepted, each reading there is at most D and no late mark is set. After each call, also a refused one, the others run exactly when no release is
-- open or: in edition 1, the condition held at the open release and at every decision since; in edition 2, the rule held at the latest decision, the
-- condition where they ran before it, the rule of return where they were suspended. (Which plan a text is read as is said by `read_as_exactly`.)
pub deadline_kept : (text : List ℕ) (m : Memory) (p : Plan) → ReadAs text m p → Fit p → KeepsDeadline p (delivered (after_read text m))
deadline_kept text m p e f = delivering.keeps_deadline p (after_read text m) (table_written text m p e) f

-- THE LISTS OF DEMAND 3

-- The calls that such a list may hold besides those of its timed runs are exactly the calls that the rules refuse. While no release is open:
pub refusable_while_closed : (p : Plan) (m : Memory) → TableOf p m → Fit p → (c : Call) → ((k : Refusal) × Refuses m (state_of zeros) c k) ↔ Refusable p closed c
refusable_while_closed = reached.refusable_fresh

-- The same behind an accepted release and accepted reports.
pub refusable_while_open : (p : Plan) (m : Memory) → TableOf p m → {s : State} {others : Others} {h : List ℕ} {ds : List Decision} → Since (delivered m) s others h ds →
    (clock : ℕ) (to_come : List Block) (c : Call) →
    ((k : Refusal) × Refuses m (state_of s) c k) ↔ Refusable p (opened (record { clock = clock; to_come = to_come; history = h; decisions = ds })) c
refusable_while_open p m o w = reached.refusable_open p m o w

-- There are such lists: every run of the plan, with any ticks and any time for each switch and each return, is played by one.
pub every_run_played : (m : Memory) (p : Plan) (ticks switches : ℕ → ℕ) (r : Run (main p)) →
    (z : CallList p (delivered m) zeros Running closed) × Plays p (delivered m) ticks switches 0 z (visits r)
every_run_played m p ticks switches r = model.every_run_played p (delivered m) ticks switches r

-- The text of plan A is read as plan A, into any row of four records or more.
pub plan_A_read : (m : Memory) → 4 ≤ length m.row → ReadAs text_A m plan_A
plan_A_read m room = worst.read_A (length m.row) room

-- The worst case of plan A (m3) is a list of demand 3: its calls and their answers are these, up to the end at 57 + 4 + 20 = 81.
pub worst_case_played : (m : Memory) → 4 ≤ length m.row → (z : CallList plan_A (delivered (after_read text_A m)) zeros Running closed) ×
    (exchanges plan_A (delivered (after_read text_A m)) z ≡ worst_of_A)
worst_case_played m room = worst.worst_A (after_read text_A m) (table_written text_A m plan_A (plan_A_read m room))

-- The text of plan A with a third number, U 3, is read as that plan of edition 2, into any row of four records or more.
pub returning_A_read : (m : Memory) → 4 ≤ length m.row → ReadAs text_returning_A m returning_A
returning_A_read m room = worst.read_returning_A (length m.row) room

-- A run of it in which every visit takes its most, the switch T and the way back U is a list of demand 3: its calls and their answers are these. The others
-- are suspended at 57, resume at 73, and the end comes at 73 + 3 + 4 + 8 = 88.
pub return_played : (m : Memory) → 4 ≤ length m.row → (z : CallList returning_A (delivered (after_read text_returning_A m)) zeros Running closed) ×
    (exchanges returning_A (delivered (after_read text_returning_A m)) z ≡ worst_of_returning_A)
return_played m room = worst.worst_returning_A (after_read text_returning_A m) (table_written text_returning_A m returning_A (returning_A_read m room))

-- A FASTER RUN SHARES NO LESS

-- Consider any two lent memories, which may be one, and any text that is read into both as a plan, of either edition. Take two sequences of calls with their
-- answers, the first on the one memory and the second on the other, from a state of zeros: each an accepted release and accepted reports, of the same points in
-- the same order, no reading of the second later than the first's at the same place (`NoLater`). Wherever the others run in the first, behind the release or a
-- report, they run in the second behind the call at the same place (02, L8). What they do is said by the answers alone.
pub faster_shares_no_less : (text : List ℕ) (m n : Memory) (p : Plan) → ReadAs text m p → ReadAs text n p → (first second : List Exchange) →
    Answered (delivered (after_read text m)) zeros first → Answered (delivered (after_read text n)) zeros second →
    NoLater second first → SharesNoLess second first
faster_shares_no_less text m n p e f = faster.shares_no_less p (after_read text m) (after_read text n) (table_written text m p e) (table_written text n p f)

-- There are such pairs. On plan A the first is the worst case (m3) up to its last report, and at 57 the others are suspended; in the second the loop's body
-- takes 17 ticks for 20, and they run on.
pub faster_pair_on_A : (m : Memory) → 4 ≤ length m.row →
    Answered (delivered (after_read text_A m)) zeros (before_end worst_of_A) ×
    Answered (delivered (after_read text_A m)) zeros (before_end faster_on_A) ×
    NoLater (before_end faster_on_A) (before_end worst_of_A)
faster_pair_on_A m room = faster.pair_A (after_read text_A m) (table_written text_A m plan_A (plan_A_read m room))

-- On plan A with U 3 the others are suspended at 29 in both. In the first they stay so at 38 and 60 and resume at 76; in the second they resume at 35, are
-- suspended once more at 60, and resume at 76.
pub faster_pair_with_returns : (m : Memory) → 4 ≤ length m.row →
    Answered (delivered (after_read text_returning_A m)) zeros (before_end two_stays) ×
    Answered (delivered (after_read text_returning_A m)) zeros (before_end two_returns) ×
    NoLater (before_end two_returns) (before_end two_stays)
faster_pair_with_returns m room =
    faster.pair_returning_A (after_read text_returning_A m) (table_written text_returning_A m returning_A (returning_A_read m room))

-- RULE 11 AND THE MARKED CASES

-- Rule 11, the table: every call on an idle state is refused by 11 exactly when no accepted text, read into whatever memory, leaves this one.
pub table_good_exactly : (m : Memory) (s : State) → state_of s ≡ Idle → (c : Call) →
    (((delivered m).respond s c).answer ≡ Refused Broken) ↔ ((text : List ℕ) (before : Memory) (p : Plan) → ReadAs text before p → ¬ (after_read text before ≡ m))
table_good_exactly = reached.broken_exactly

-- Under its C name the call returns number 11 exactly then.
pub table_good_by_number : (m : Memory) (s : State) → state_of s ≡ Idle → (c : Call) →
    ((call_returned m s c).number ≡ 11) ↔ ((text : List ℕ) (before : Memory) (p : Plan) → ReadAs text before p → ¬ (after_read text before ≡ m))
table_good_by_number = returned.table_by_number

-- Rule 11, the state: on the table of an accepted plan every call while a release is open is refused by 11 exactly when the state neither stands at the
-- release with the times of the release, nor stands where some run of the plan stands, at its last point, open loops and calls with its visit counts, with
-- that run's 33 remaining times.
pub state_good_exactly : (p : Plan) (m : Memory) → TableOf p m → (s : State) (o : OpenRelease) → state_of s ≡ Open o → (c : Call) →
    (((delivered m).respond s c).answer ≡ Refused Broken) ↔ ¬ StandsSomewhere p o
state_good_exactly = reached.nowhere_exactly

-- Under its C name the call returns number 11 exactly then.
pub state_good_by_number : (p : Plan) (m : Memory) → TableOf p m → (s : State) (o : OpenRelease) → state_of s ≡ Open o → (c : Call) →
    ((call_returned m s c).number ≡ 11) ↔ ¬ StandsSomewhere p o
state_good_by_number = returned.state_by_number

-- The marked cases m1 to m12 hold, in one table: in every memory that holds the table of the case's plan.
pub marked_cases_right : EachRight cases
marked_cases_right = marked.each_right

-- Those of them that are refused return document 01's numbers: 17 in m4 and m8, 13 in m10.
pub marked_numbers_right : MarkedNumbers
marked_numbers_right = returned.marked_numbers
