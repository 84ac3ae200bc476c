-- The delivered calls (01, 'Calls'): from the lent row, head and state alone, the answer and every later number of the state.
-- Assumes nothing: these are definitions.
use Rattle.std.specs.Prelude.{Bool, true, false, List, ℕ, eqb, replicate}
use Rattle.model.specs.Places.{pick}
use Rattle.model.specs.Calls.{Reply}
use Rattle.model.specs.declared.Call.{Call}
use Rattle.model.specs.declared.Answer.{Answer}
use Rattle.model.specs.declared.Answer.TheVariants.{Refused, Decided, Closed}
use Rattle.model.specs.declared.Others.{Others}
use Rattle.model.specs.declared.Others.TheVariants.{Running, Suspended}
use Rattle.rows.specs.declared.Leaf.{Leaf}
use Rattle.table.specs.declared.Head.{Head}
use Rattle.control.specs.declared.OpenRelease.{OpenRelease}
use Rattle.control.specs.declared.State as control
use Rattle.control.specs.declared.State.TheVariants.{Idle, Open}
use Rattle.control.specs.declared.Step.{Step}
use Rattle.control.specs.Calls.{call_on, as_step}
use Rattle.rolsipay.specs.declared.State.{State}
use Rattle.rolsipay.specs.Lent.{table_in}

-- A fresh state in the caller's memory: every number in it 0 (01).
abbrev pub zeros : State
zeros = record { running = 0; suspended = 0; reading = 0; level = 0; leaves = replicate 33 0; earlier = replicate 33 0; times = replicate 33 0 }

-- What the others do, by a lent number, which says whether they are suspended; and the number that is lent.
abbrev pub others_of : ℕ → Others
others_of n = pick (eqb n 0) Running Suspended

abbrev pub others_number : Others → ℕ
others_number Running = 0
others_number Suspended = 1

-- The open release that the numbers of a lent state say, if one is open.
abbrev pub release_of : State → OpenRelease
release_of s =
    record { others = others_of s.suspended; reading = s.reading; place = record { level = s.level; leaves = s.leaves; earlier = s.earlier }; times = s.times }

-- The lent state has numbers alone, so that any bytes are one: 0 says that no release is open, and any other number that one is.
abbrev pub state_of : State → control.State
state_of s = pick (eqb s.running 0) Idle (Open (release_of s))

-- The lent state of a controller's: all zeros where no release is open, 1 where one is.
abbrev pub lent : control.State → State
lent Idle = zeros
lent (Open o) = record {
  running = 1;
  suspended = others_number o.others;
  reading = o.reading;
  level = o.place.level;
  leaves = o.place.leaves;
  earlier = o.place.earlier;
  times = o.times;
}

-- Whether an answer is a refusal.
abbrev pub refusing : Answer → Bool
refusing (Refused n) = true
refusing (Decided w r m late) = false
refusing (Closed e late) = false

-- The answer, and the lent state afterwards: a refused call leaves it as it was.
abbrev pub moved : State → Step → Reply State
moved s r = record { state = pick (refusing r.answer) s (lent r.state); answer = r.answer }

-- A delivered call: the controller's on the table in the lent row and head.
unfoldable pub called : List Leaf → Head → State → Call → Reply State
called ls h s c = moved s (as_step (call_on (table_in ls h) (state_of s) c))
