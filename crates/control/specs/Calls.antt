-- The calls on a table (01, 'Calls'): from the table, the state and the call alone, the answer and every later field of the state. The plan is read off the
-- table, the place off the state, the controller over places answers, and the state that it leaves is written down.
-- Assumes nothing: these are definitions.
use Rattle.std.specs.Prelude.{[], ◌∷◌, ℕ, eqb, get_or}
use Rattle.std.proofs.Math.Option.{Option, none, some}
use Rattle.model.specs.declared.Refusal.TheVariants.{Broken}
use Rattle.model.specs.Plan.{Plan}
use Rattle.model.specs.Stack.{Levels}
use Rattle.model.specs.declared.Call.{Call}
use Rattle.model.specs.declared.Call.TheVariants.{Release, Report, End}
use Rattle.model.specs.declared.Answer.{Answer}
use Rattle.model.specs.declared.Answer.TheVariants.{Refused, Decided, Closed}
use Rattle.model.specs.Calls.{Reply, Controller, refuse}
use Rattle.model.specs.Places.{pick}
use Rattle.model.specs.Decisions.{Place, at_release, at_report}
use Rattle.model.specs.Controller as places
use Rattle.model.specs.Controller.{idle, running, respond}
use Rattle.table.specs.Table.{Table, plan_of}
use Rattle.control.specs.declared.OpenRelease.{OpenRelease}
use Rattle.control.specs.declared.State.{State}
use Rattle.control.specs.declared.State.TheVariants.{Idle, Open}
use Rattle.control.specs.declared.Step.{Step}
use Rattle.control.specs.State.{fresh, place_in, standing, open_at_release, open_at_report}

-- The place of an open release that stands at these levels: the release where none is open, else the report of the leaf kept for its level.
abbrev pub place_of : OpenRelease → Levels → Place
place_of o [] = at_release
place_of o (g ∷ ks) = at_report (get_or o.place.leaves o.place.level 0) (g ∷ ks)

-- The state of the controller over places that a state stands for: idle, or running where the open release stands; none where it stands nowhere.
abbrev pub running_at : OpenRelease → Levels → places.State
running_at o ls = running (place_of o ls) o.reading o.others

abbrev pub found_at : OpenRelease → Option Levels → Option places.State
found_at o none = none
found_at o (some ls) = some (running_at o ls)

abbrev pub read_state : Plan → State → Option places.State
read_state p Idle = some idle
read_state p (Open o) = found_at o (standing p o)

-- The state that it leaves, where s was before.
abbrev pub written : Plan → State → places.State → State
written p s idle = fresh
written p s (running at_release t others) = Open (open_at_release p t others)
written p s (running (at_report n ls) t others) = Open (open_at_report p (place_in s) n ls t others)

-- A refused call keeps every value of the state.
abbrev pub left : Plan → State → places.State → Answer → State
left p s x (Refused n) = s
left p s x (Decided w r m late) = written p s x
left p s x (Closed e late) = written p s x

abbrev pub in_numbers : Plan → State → Reply places.State → Reply State
in_numbers p s r = record { state = left p s r.state r.answer; answer = r.answer }

-- The reply to a call where the state stands for x.
abbrev pub reply : Plan → State → places.State → Call → Reply State
reply p s x c = in_numbers p s (respond p x c)

abbrev pub on_state : Plan → State → Call → Option places.State → Reply State
on_state p s c none = refuse s Broken
on_state p s c (some x) = reply p s x c

abbrev pub on_plan : State → Call → Option Plan → Reply State
on_plan s c none = refuse s Broken
on_plan s c (some p) = on_state p s c (read_state p s)

-- A call on a table: 11 where the table is that of no accepted plan, or an open release stands nowhere.
unfoldable pub call_on : Table → State → Call → Reply State
call_on t s c = on_plan s c (plan_of t)

-- What the code returns: the answer, and the state afterwards.
abbrev pub as_step : Reply State → Step
as_step r = record { answer = r.answer; state = r.state }

-- The controller of a table.
abbrev pub controller_of : Table → Controller State
controller_of t = record { fresh = fresh; respond = call_on t }

-- The call of a number: 0 release, 1 report, else end.
abbrev pub call_of : ℕ → ℕ → ℕ → Call
call_of k point reading = pick (eqb k 0) Release (pick (eqb k 1) (Report point reading) (End reading))
