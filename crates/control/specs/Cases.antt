-- The marked cases m1 to m12 of document 01 ('Plans worked through'), m5 and m11 as document 02 (L3 and L6) has them, as one table: a plan, and calls from a
-- fresh state on its table with their answers, each worked out by hand from the documents' sentences. Behind them stand further cases of edition 2 (02, L7),
-- as a table of the same form, and a faster run of plan A (02, L8).
-- Assumes nothing: these are definitions.
use Rattle.std.specs.Prelude.{false, List, [], ◌∷◌, map, ◌≡◌, ℕ, pos, negsuc}
use Rattle.model.specs.declared.Refusal.TheVariants.{Unfit, Astray}
use Rattle.model.specs.Plan.{Plan, all_leaves}
use Rattle.model.specs.Stretch.{stretch_of}
use Rattle.model.specs.Acceptance.{Accepted}
use Rattle.model.specs.declared.Call.TheVariants.{Release, Report, End}
use Rattle.model.specs.declared.Word.TheVariants.{Go, Suspend, Stay, Resume}
use Rattle.model.specs.declared.Ending.TheVariants.{Resumed, Ended}
use Rattle.model.specs.declared.Answer.{Answer}
use Rattle.model.specs.declared.Answer.TheVariants.{Refused, Decided, Closed}
use Rattle.model.specs.Histories.{Exchange, ◌gets◌, Answered}
use Rattle.model.specs.Worked.{plan_A, returning_A, plan_B, smallest}
use Rattle.table.specs.Table.{table_of}
use Rattle.control.specs.State.{fresh}
use Rattle.control.specs.Calls.{controller_of}

-- A plan with its totals and the printed stretches of its leaves (0 where silent), and calls from a fresh state on its table, each with its answer.
pub record Case : Type 0 where
  pub plan : Plan
  pub total : ℕ
  pub max_total : ℕ
  pub stretches : List ℕ
  pub exchanges : List Exchange

-- Calls on plan A: D 100, T 4, stretches 0 (release), 9 and 24. The margin at the loop's visits 1 to 3 is 100 − reading − remaining − 24 − 4; behind visit 4
-- come leaf 3 and the end, 4 + 8 = 12, and no point, and it is 100 − reading − 12.
abbrev pub on_A : List Exchange → Case
on_A xs = record { plan = plan_A; total = 49; max_total = 93; stretches = 9 ∷ 24 ∷ 0 ∷ 0 ∷ []; exchanges = xs }

-- Calls on plan B: D 200, T 5, stretches 0 (release), 4, 13, 2 and 2 of the points 0, 1, 2 and 4. Behind 1, 4, 0 no point can come, behind 1, 2, 0 one can.
-- m6: totals 15 and 19; m7: the stretch of point 1 is 13.
abbrev pub on_B : List Exchange → Case
on_B xs = record { plan = plan_B; total = 15; max_total = 19; stretches = 4 ∷ 13 ∷ 2 ∷ 0 ∷ 2 ∷ []; exchanges = xs }

-- The release of the smallest plan with this D: remaining 7, stretch 9, T 3. It has no point, so the margin is D − 9.
abbrev pub on_smallest : ℕ → Answer → Case
on_smallest D a = record { plan = smallest D; total = 7; max_total = 9; stretches = 0 ∷ []; exchanges = (Release gets a) ∷ [] }

-- The worst case of plan A (m3): visit 3 of the loop at 57 has margin −5 and suspends; the worst run then reports visit 4 at 57 + 4 + 2 + 10, with margin
-- 100 − 73 − 12, and ends at 57 + 4 + 20 = 81.
unfoldable pub worst_of_A : List Exchange
worst_of_A =
    (Release gets Decided Go 49 (pos 47) false) ∷ (Report 0 0 gets Decided Go 49 (pos 38) false) ∷ (Report 1 9 gets Decided Go 44 (pos 19) false) ∷
    (Report 1 33 gets Decided Go 32 (pos 7) false) ∷ (Report 1 57 gets Decided Suspend 20 (negsuc 4) false) ∷ (Report 1 73 gets Decided Stay 8 (pos 15) false) ∷
    (End 81 gets Closed Resumed false) ∷ []

unfoldable pub cases : List Case
cases =
    -- m1: remaining at the loop's visits 1 to 4 is 44, 32, 20, 8; m4: a fifth visit gives 17; m5: visit 4 at 88 goes on
    on_A ((Release gets Decided Go 49 (pos 47) false) ∷ (Report 0 0 gets Decided Go 49 (pos 38) false) ∷ (Report 1 9 gets Decided Go 44 (pos 19) false) ∷
    (Report 1 33 gets Decided Go 32 (pos 7) false) ∷ (Report 1 50 gets Decided Go 20 (pos 2) false) ∷ (Report 1 88 gets Decided Go 8 (pos 0) false) ∷ (Report 1 88 gets Refused Astray) ∷ []) ∷
    -- m2: visit 1 goes on at reading 28, and suspends at 29
    on_A ((Release gets Decided Go 49 (pos 47) false) ∷ (Report 0 0 gets Decided Go 49 (pos 38) false) ∷ (Report 1 28 gets Decided Go 44 (pos 0) false) ∷ []) ∷
    on_A ((Release gets Decided Go 49 (pos 47) false) ∷ (Report 0 0 gets Decided Go 49 (pos 38) false) ∷ (Report 1 29 gets Decided Suspend 44 (negsuc 0) false) ∷ []) ∷
    -- m3
    on_A worst_of_A ∷
    -- m5: visit 4 at 89 does not go on
    on_A ((Release gets Decided Go 49 (pos 47) false) ∷ (Report 0 0 gets Decided Go 49 (pos 38) false) ∷ (Report 1 9 gets Decided Go 44 (pos 19) false) ∷
    (Report 1 33 gets Decided Go 32 (pos 7) false) ∷ (Report 1 50 gets Decided Go 20 (pos 2) false) ∷ (Report 1 89 gets Decided Suspend 8 (negsuc 0) false) ∷ []) ∷
    -- m8: reports 1, 4, 0, end are accepted (the margin at point 1 is 200 − 15 − 13 − 5); m9: after 1, 4, 0 remaining is 3 (the margin is 200 − 4)
    on_B ((Release gets Decided Go 15 (pos 180) false) ∷ (Report 1 0 gets Decided Go 15 (pos 167) false) ∷ (Report 4 0 gets Decided Go 4 (pos 189) false) ∷
    (Report 0 0 gets Decided Go 3 (pos 196) false) ∷ (End 9 gets Closed Ended false) ∷ []) ∷
    -- m8: 1, 0 gives 17; m9: after 1, 2, 0 remaining is 7
    on_B ((Release gets Decided Go 15 (pos 180) false) ∷ (Report 1 0 gets Decided Go 15 (pos 167) false) ∷ (Report 0 0 gets Refused Astray) ∷
    (Report 2 0 gets Decided Go 8 (pos 185) false) ∷ (Report 0 0 gets Decided Go 7 (pos 184) false) ∷ []) ∷
    -- m10: D 9, release gives 13; m11: D 10 and D 18, go; m12: D 19, go
    on_smallest 9 (Refused Unfit) ∷ on_smallest 10 (Decided Go 7 (pos 1) false) ∷ on_smallest 18 (Decided Go 7 (pos 9) false) ∷
    on_smallest 19 (Decided Go 7 (pos 10) false) ∷ []

-- Calls on plan A with U 3 (02, L7): the margin of resume and of stay is less by 3 than on plan A, that of go and of suspend is as there.
abbrev pub on_returning_A : List Exchange → Case
on_returning_A xs = record { plan = returning_A; total = 49; max_total = 93; stretches = 9 ∷ 24 ∷ 0 ∷ 0 ∷ []; exchanges = xs }

-- Its worst case, m3 up to visit 3 of the loop: visit 4 at 73 has margin 100 − 73 − 12 − 3 and resumes, and the worst run then ends at 73 + 3 + 12 = 88, where
-- the others run.
unfoldable pub worst_of_returning_A : List Exchange
worst_of_returning_A =
    (Release gets Decided Go 49 (pos 47) false) ∷ (Report 0 0 gets Decided Go 49 (pos 38) false) ∷ (Report 1 9 gets Decided Go 44 (pos 19) false) ∷
    (Report 1 33 gets Decided Go 32 (pos 7) false) ∷ (Report 1 57 gets Decided Suspend 20 (negsuc 4) false) ∷ (Report 1 73 gets Decided Resume 8 (pos 12) false) ∷
    (End 88 gets Closed Ended false) ∷ []

-- Two stops and two returns: visit 2 at 35 has margin 100 − 35 − 32 − 24 − 4 − 3 and resumes, visit 3 at 60 has margin 100 − 60 − 20 − 24 − 4 and suspends,
-- and visit 4 at 76 has margin 100 − 76 − 12 − 3 and resumes.
unfoldable pub two_returns : List Exchange
two_returns =
    (Release gets Decided Go 49 (pos 47) false) ∷ (Report 0 0 gets Decided Go 49 (pos 38) false) ∷ (Report 1 29 gets Decided Suspend 44 (negsuc 0) false) ∷
    (Report 1 35 gets Decided Resume 32 (pos 2) false) ∷ (Report 1 60 gets Decided Suspend 20 (negsuc 7) false) ∷ (Report 1 76 gets Decided Resume 8 (pos 9) false) ∷
    (End 91 gets Closed Ended false) ∷ []

-- Two stays where a further point can come: visit 2 at 38 has margin 100 − 38 − 32 − 24 − 4 − 3, and visit 3 at 60 has margin 100 − 60 − 20 − 24 − 4 − 3. Visit
-- 4 at 76 resumes with the margin that it has in `two_returns`.
unfoldable pub two_stays : List Exchange
two_stays =
    (Release gets Decided Go 49 (pos 47) false) ∷ (Report 0 0 gets Decided Go 49 (pos 38) false) ∷ (Report 1 29 gets Decided Suspend 44 (negsuc 0) false) ∷
    (Report 1 38 gets Decided Stay 32 (negsuc 0) false) ∷ (Report 1 60 gets Decided Stay 20 (negsuc 10) false) ∷ (Report 1 76 gets Decided Resume 8 (pos 9) false) ∷
    (End 91 gets Closed Ended false) ∷ []

-- Returns and stays of edition 2, on plan A with U 3.
unfoldable pub returns : List Case
returns =
    on_returning_A worst_of_returning_A ∷
    -- visit 4 resumes at 85, 85 + 3 + 12 = 100, and stays suspended at 86
    on_returning_A ((Release gets Decided Go 49 (pos 47) false) ∷ (Report 0 0 gets Decided Go 49 (pos 38) false) ∷ (Report 1 9 gets Decided Go 44 (pos 19) false) ∷
    (Report 1 33 gets Decided Go 32 (pos 7) false) ∷ (Report 1 57 gets Decided Suspend 20 (negsuc 4) false) ∷ (Report 1 85 gets Decided Resume 8 (pos 0) false) ∷
    (End 100 gets Closed Ended false) ∷ []) ∷
    on_returning_A ((Release gets Decided Go 49 (pos 47) false) ∷ (Report 0 0 gets Decided Go 49 (pos 38) false) ∷ (Report 1 9 gets Decided Go 44 (pos 19) false) ∷
    (Report 1 33 gets Decided Go 32 (pos 7) false) ∷ (Report 1 57 gets Decided Suspend 20 (negsuc 4) false) ∷ (Report 1 86 gets Decided Stay 8 (negsuc 0) false) ∷
    (End 94 gets Closed Resumed false) ∷ []) ∷
    on_returning_A two_returns ∷ on_returning_A two_stays ∷ []

-- A run of plan A that is faster than m3 up to the last report (02, L8): the loop's body takes 17 ticks under load for 20. Visit 2 comes at 9 + 4 + 17 = 30 and
-- visit 3 at 51 with margin 100 − 51 − 20 − 24 − 4, and both go on; visit 4 comes at 72 with margin 100 − 72 − 12, and the end at 72 + 12 = 84.
unfoldable pub faster_on_A : List Exchange
faster_on_A =
    (Release gets Decided Go 49 (pos 47) false) ∷ (Report 0 0 gets Decided Go 49 (pos 38) false) ∷ (Report 1 9 gets Decided Go 44 (pos 19) false) ∷
    (Report 1 30 gets Decided Go 32 (pos 10) false) ∷ (Report 1 51 gets Decided Go 20 (pos 1) false) ∷ (Report 1 72 gets Decided Go 8 (pos 16) false) ∷
    (End 84 gets Closed Ended false) ∷ []

-- A case holds: its plan is accepted, its table has these totals and its leaves these stretches, and the calls on it answer so.
pub record CaseHolds (c : Case) : Type 0 where
  pub accepted : Accepted c.plan
  pub total_is : (table_of c.plan).head.total ≡ c.total
  pub max_total_is : (table_of c.plan).head.max_load_total ≡ c.max_total
  pub stretches_are : map (stretch_of c.plan) (all_leaves c.plan.functions) ≡ c.stretches
  pub answered : Answered (controller_of (table_of c.plan)) fresh c.exchanges

unfoldable pub CasesHold : List Case → Type 0
CasesHold [] = Unit
CasesHold (c ∷ cs) = CaseHolds c × CasesHold cs
