-- The decision (01; 02, L3, L6 and L7): what a release and a report weigh, the condition (001, formula 1: the safety condition), the rule of return and the
-- margin, and the answer.
-- Assumes nothing: these are definitions.
use Rattle.std.specs.Prelude.{Bool, true, false, ◌&&◌, List, [], ◌∷◌, ◌↔◌, ◌≡◌, ℕ, ◌+◌, ◌-◌, ◌^◌, ◌≤◌, leb, ltb, ℤ, negsuc}
use Rattle.std.proofs.Math.IntN.{sub_ℕ}
use Rattle.std.specs.Int.Signed.{le_z}
use Rattle.model.specs.Plan.{C, M, Edition, First, Second, resume_cost, Plan}
use Rattle.model.specs.Forms.{Forms, main}
use Rattle.model.specs.Total.{Total, total}
use Rattle.model.specs.Remaining.{Final, Remaining}
use Rattle.model.specs.Stretch.{VisitStretch, ReleaseStretch, silence, visit_stretch}
use Rattle.model.specs.Places.{pick, no_more, no_further}
use Rattle.model.specs.Stack.{Levels, whole}
-- Outlook: what a decision weighs, the remaining time (01), the stretch (01; 02, L6), and whether no further point can come (02, L3), a struct of the
-- code.
pub use Rattle.model.specs.declared.Outlook.{Outlook}
use Rattle.model.specs.Calls.{Word, Go, Suspend, Stay, Resume, Answer, Decided, Others, Running, Suspended}

-- MEANING, over the runs with a history of reports, which is empty at the release

-- Remaining at a decision (01): at release it is the total.
abbrev pub RemainingAt : Plan → List ℕ → ℕ → Type 0
RemainingAt p [] = Total (main p)
RemainingAt p (n ∷ h) = Remaining (main p) (n ∷ h)

-- The stretch at a decision: the release's (01), or that of this visit (02, L6).
abbrev pub StretchAt : Plan → List ℕ → ℕ → Type 0
StretchAt p [] = ReleaseStretch M (main p)
StretchAt p (n ∷ h) = VisitStretch M (main p) (n ∷ h)

-- This is the outlook at a decision with this history.
pub record OutlookAt (p : Plan) (h : List ℕ) (o : Outlook) : Type 0 where
  pub remaining_is : RemainingAt p h o.remaining
  pub stretch_is : StretchAt p h o.stretch
  pub last_is : (o.last ≡ true) ↔ Final (main p) h

-- BY COMPUTATION, at a place

-- Place: where the last decision was, at the release or at the report of a point, with what was left to run there, level by level.
pub data Place : Type 0 where
  at_release : Place
  at_report : ℕ → Levels → Place

-- The outlook between visits, where the forms are left to run. Of the main function it is that of the release.
abbrev pub ahead : Forms → Outlook
ahead fs = record { remaining = total C fs; stretch = silence M fs 0; last = no_more fs }

-- The outlook at the visit that the forms open with.
abbrev pub at_visit : Forms → Outlook
at_visit fs = record { remaining = total C fs; stretch = visit_stretch M fs 0; last = no_further fs }

-- The outlook at a decision, by its place: at release that of the whole main function, at a report that of the visit which all that is left opens with.
abbrev pub outlook : Plan → Place → Outlook
outlook p at_release = ahead (main p)
outlook p (at_report n ls) = at_visit (whole ls)

-- THE RULE

-- What is kept free behind the stretch, for the switch at the next point and all that is left then: remaining + T (01); where no further point can come,
-- nothing (02, L3).
abbrev pub reserve : Plan → Outlook → ℕ
reserve p o = pick o.last 0 (o.remaining + p.switch)

-- What is kept free besides, for the way back: U where the others are suspended in a plan of edition 2 (02, L7), else nothing.
abbrev pub way_back : Plan → Others → ℕ
way_back p Running = 0
way_back p Suspended = resume_cost p.edition

-- What is weighed against D − elapsed: remaining + stretch + T (01), or the stretch alone (02, L3); while the others are suspended, with U (02, L7).
abbrev pub need : Plan → Outlook → Others → ℕ
need p o others = reserve p o + o.stretch + way_back p others

-- Condition (01; 02, L3): what is weighed while the others run ≤ D − elapsed, with the elapsed time on the other side, so that nothing is cut off at 0.
abbrev pub Condition : Plan → Outlook → ℕ → Type 0
Condition p o elapsed = need p o Running + elapsed ≤ p.deadline

-- The others may resume before the end in edition 2 alone (02, L7).
abbrev pub may_return : Edition → Bool
may_return First = false
may_return (Second u) = true

-- The rule of return (02, L7): in edition 2, what is weighed while the others are suspended ≤ D − elapsed.
abbrev pub Return : Plan → Outlook → ℕ → Type 0
Return p o elapsed = (may_return p.edition ≡ true) × (need p o Suspended + elapsed ≤ p.deadline)

-- The rule of a decision, by what the others did before it (02, L7): the condition where they ran, the rule of return where they were suspended.
abbrev pub Rule : Plan → Outlook → ℕ → Others → Type 0
Rule p o elapsed Running = Condition p o elapsed
Rule p o elapsed Suspended = Return p o elapsed

-- The rule as a test.
abbrev pub holds : Plan → Outlook → ℕ → Others → Bool
holds p o elapsed Running = leb (need p o Running + elapsed) p.deadline
holds p o elapsed Suspended = may_return p.edition && leb (need p o Suspended + elapsed) p.deadline

-- Margin (01; 02, L3 and L7): D − elapsed less what is weighed, a signed number; one that would lie below −2^62 is given as −2^62.
abbrev pub lowest : ℤ
lowest = negsuc (2 ^ 62 - 1)

abbrev pub held : ℤ → ℤ
held z = pick (le_z lowest z) z lowest

abbrev pub margin : Plan → Outlook → ℕ → Others → ℤ
margin p o elapsed others = held (sub_ℕ p.deadline (need p o others + elapsed))

-- The late mark (01): set when the reading exceeds D.
abbrev pub late : Plan → ℕ → Bool
late p t = ltb p.deadline t

-- The word, by whether the rule holds and what the others did before (01; 02, L7): go or suspend where they ran, resume or stay where they were suspended.
abbrev pub word : Bool → Others → Word
word true Running = Go
word false Running = Suspend
word true Suspended = Resume
word false Suspended = Stay

-- The answer of a decision, from the plan, the outlook, the reading and what the others did before. What they do then is `others_after` of it.
abbrev pub decide : Plan → Outlook → ℕ → Others → Answer
decide p o t others = Decided (word (holds p o t others) others) o.remaining (margin p o t others) (late p t)

-- THE RULE AT DECISIONS

-- A decision (01) is an accepted release or report: the reports since the release up to it (none at the release), its reading, and what the others did
-- before it.
pub record Decision : Type 0 where
  pub history : List ℕ
  pub reading : ℕ
  pub others : Others

-- The rule, for what the others did before, holds at a decision.
pub record RuleAt (p : Plan) (others : Others) (d : Decision) : Type 0 where
  pub outlook : Outlook
  pub outlook_is : OutlookAt p d.history outlook
  pub holds : Rule p outlook d.reading others

-- The condition holds at a decision, whatever the others did before.
abbrev pub ConditionAt : Plan → Decision → Type 0
ConditionAt p d = RuleAt p Running d

-- It holds at each of these.
unfoldable pub ConditionAtEach : Plan → List Decision → Type 0
ConditionAtEach p [] = Unit
ConditionAtEach p (d ∷ ds) = ConditionAt p d × ConditionAtEach p ds

-- The rule held at the latest of these decisions, which is first: the condition where the others ran before it, the rule of return where they were
-- suspended. Before all decisions the others run.
abbrev pub RuleAtLatest : Plan → List Decision → Type 0
RuleAtLatest p [] = Unit
RuleAtLatest p (d ∷ ds) = RuleAt p d.others d

-- The others may run behind the decisions since the release, the latest first: in edition 1 where the condition held at each of them (01), in edition 2
-- where the rule held at the latest (02, L7).
abbrev pub MayRunBy : Edition → Plan → List Decision → Type 0
MayRunBy First p ds = ConditionAtEach p ds
MayRunBy (Second u) p ds = RuleAtLatest p ds

abbrev pub MayRun : Plan → List Decision → Type 0
MayRun p ds = MayRunBy p.edition p ds

-- Total + T is within D (01, refusal 13: else unfit).
abbrev pub Fit : Plan → Type 0
Fit p = (n : ℕ) → Total (main p) n → n + p.switch ≤ p.deadline
