-- What the rules of document 01, and of 02, L2, say of a text and of a call ('Calls', the table of refusals and the order below it).
-- Assumes nothing: these are definitions.
use Rattle.std.specs.Prelude.{List, [], ◌∷◌, ◌++◌, ◌⊎◌, ◌≡◌, ℕ, ◌^◌, ◌≤◌, ◌<◌, length}
use Rattle.model.specs.declared.Refusal.{Refusal}
use Rattle.model.specs.declared.Refusal.TheVariants.{Oversize, Form, Range, Count, Load, Target, Depth, Unseen, Uncalled, Long, Broken, Busy, Unfit, Idle, Stranger, Backward, Astray, Garbled, Costless}
use Rattle.model.specs.Plan.{C, M, Plan}
use Rattle.model.specs.Forms.{main}
use Rattle.model.specs.Runs.{Run, visits, sum}
use Rattle.model.specs.Remaining.{Reported, Complete}
use Rattle.model.specs.Levels.{Standing, so_far, history, stack}
use Rattle.model.specs.Acceptance.{Formed, Fits, SeenAll, Called, Accepted}
use Rattle.model.specs.declared.Call.{Call}
use Rattle.model.specs.declared.Call.TheVariants.{Release, Report, End}
use Rattle.model.specs.Decisions.{Fit}
use Rattle.model.specs.Timed.{PointOf}
use Rattle.reader.specs.Print.{print}
use Rattle.refusals.specs.Refusal.{RefusedAt}
use Rattle.control.specs.declared.OpenRelease.{OpenRelease}
use Rattle.control.specs.declared.State.{State}
use Rattle.control.specs.declared.State.TheVariants as state
use Rattle.control.specs.State.{stack_of}
use Rattle.control.specs.Meaning.{StandsSomewhere}
use Rattle.demands.specs.Delivered.{Memory, after_read}

-- THE REFUSALS

-- The refusals in the order of their numbers, 1 to 17 of 01, 18 and 19 of 02.
abbrev pub refusals_in_order : List Refusal
refusals_in_order =
    Oversize ∷ Form ∷ Range ∷ Count ∷ Load ∷ Target ∷ Depth ∷ Unseen ∷ Uncalled ∷ Long ∷ Broken ∷ Busy ∷ Unfit ∷ Idle ∷ Stranger ∷ Backward ∷ Astray ∷
    Garbled ∷ Costless ∷ []

-- READING A PLAN: 1; THEN LINE BY LINE, IN A LINE 2, 3, 4, 5, 19, 6, 7; THEN 8, 9, 10

-- The text is that of a plan that keeps rules 3 to 7 and 19 and whose leaves the lent row holds.
pub record Read (capacity : ℕ) (text : List ℕ) (p : Plan) : Type 0 where
  pub text_is : text ≡ print p
  pub formed : Formed p
  pub fits : Fits capacity p

-- The rules refuse a text by this refusal at this line (0 where there is none), where the caller lends so many records.
pub data Ruled (capacity : ℕ) (text : List ℕ) : Refusal → ℕ → Type 0 where
  -- 1: it has over 65,536 bytes.
  oversize : 65536 < length text → Ruled capacity text Oversize 0
  -- 2 to 7 and 19: no line before line j breaks one of them, and k is the first that line j breaks; or the text ends early (2).
  line_refused : {k : Refusal} {j : ℕ} → length text ≤ 65536 → RefusedAt capacity text k j → Ruled capacity text k j
  -- 8: a silent loop or call has a point inside it or in what it calls.
  unseen : {p : Plan} → Read capacity text p → ¬ SeenAll [] p.functions → Ruled capacity text Unseen 0
  -- 9: not 8, and no call names some function but the last.
  uncalled : {p : Plan} → Read capacity text p → SeenAll [] p.functions → ¬ Called p.functions → Ruled capacity text Uncalled 0
  -- 10: neither 8 nor 9, and the sum of C or the sum of M over some run is over 2^40.
  long : {p : Plan} → Read capacity text p → SeenAll [] p.functions → Called p.functions → (r : Run (main p)) →
      (2 ^ 40 < sum C (visits r)) ⊎ (2 ^ 40 < sum M (visits r)) → Ruled capacity text Long 0

-- CALLS

-- The memory holds the table of the accepted plan p: the text of p, read into it, is accepted and changes nothing.
pub record TableOf (p : Plan) (m : Memory) : Type 0 where
  pub accepted : Accepted p
  pub fits : Fits (length m.row) p
  pub unchanged : after_read (print p) m ≡ m

-- A release is open on the table of the accepted plan p, and it is good: it stands at the release itself, or where some run of p stands.
pub record Underway (p : Plan) (m : Memory) (s : State) (o : OpenRelease) : Type 0 where
  pub table : TableOf p m
  pub running : s ≡ state.Open o
  pub stands : StandsSomewhere p o

-- Some run that stands where the release stands (at the release itself, or at its last point, open loops and calls with its visit counts) reports n next.
pub data CanReport (p : Plan) (o : OpenRelease) (n : ℕ) : Type 0 where
  from_the_release : stack_of o ≡ [] → Reported (main p) (n ∷ []) → CanReport p o n
  from_a_report : (x : Standing (main p)) → stack [] (so_far x) ≡ stack_of o → Reported (main p) (history x ++ (n ∷ [])) → CanReport p o n

-- Some run that stands where the release stands ends without a further report.
pub data CanEnd (p : Plan) (o : OpenRelease) : Type 0 where
  from_the_release : stack_of o ≡ [] → Complete (main p) [] → CanEnd p o
  from_a_report : (x : Standing (main p)) → stack [] (so_far x) ≡ stack_of o → Complete (main p) (history x) → CanEnd p o

-- The rules refuse this call, on the table in this memory and on this state, by this refusal. Release: 11, 12, 13. Report: 11, 14, 15, 16, 17. End: 11, 14, 16, 17.
pub data Refuses (m : Memory) (s : State) : Call → Refusal → Type 0 where
  -- 11: the table is that of no accepted plan.
  no_plan : {c : Call} → ((p : Plan) → ¬ TableOf p m) → Refuses m s c Broken
  -- 11: a release is open and no run on this table stands where it stands, or its remaining times aren't those of that place.
  nowhere : {c : Call} {p : Plan} {o : OpenRelease} → TableOf p m → s ≡ state.Open o → ¬ StandsSomewhere p o → Refuses m s c Broken
  -- 12: release before the end.
  busy : {p : Plan} {o : OpenRelease} → Underway p m s o → Refuses m s Release Busy
  -- 13: total + T over D.
  unfit : {p : Plan} → TableOf p m → s ≡ state.Idle → ¬ Fit p → Refuses m s Release Unfit
  -- 14: report or end without a release.
  idle_report : {p : Plan} {n r : ℕ} → TableOf p m → s ≡ state.Idle → Refuses m s (Report n r) Idle
  idle_end : {p : Plan} {r : ℕ} → TableOf p m → s ≡ state.Idle → Refuses m s (End r) Idle
  -- 15: the number isn't a point of the plan.
  stranger : {p : Plan} {o : OpenRelease} {n r : ℕ} → Underway p m s o → ¬ PointOf p n → Refuses m s (Report n r) Stranger
  -- 16: a reading below the last accepted one.
  backward_report : {p : Plan} {o : OpenRelease} {n r : ℕ} → Underway p m s o → PointOf p n → r < o.reading → Refuses m s (Report n r) Backward
  backward_end : {p : Plan} {o : OpenRelease} {r : ℕ} → Underway p m s o → r < o.reading → Refuses m s (End r) Backward
  -- 17: no run that stands there reports this point next; for end, none can end there.
  astray_report : {p : Plan} {o : OpenRelease} {n r : ℕ} → Underway p m s o → PointOf p n → o.reading ≤ r → ¬ CanReport p o n → Refuses m s (Report n r) Astray
  astray_end : {p : Plan} {o : OpenRelease} {r : ℕ} → Underway p m s o → o.reading ≤ r → ¬ CanEnd p o → Refuses m s (End r) Astray
