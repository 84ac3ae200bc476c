-- The replay of a flight log (02, L1 and L7), from the plan's text and the log's bytes alone: each line's answer, and after an accepted end the ticks of its
-- release.
-- Assumes nothing: these are definitions.
use Rattle.std.specs.Prelude.{ℕ, ◌+◌, ◌-◌, Bool, true, false, List, [], ◌∷◌, ◌++◌}
use Rattle.model.specs.declared.Refusal.TheVariants.{Garbled}
use Rattle.model.specs.Refusals.{number_of}
use Rattle.model.specs.Places.{pick}
use Rattle.model.specs.declared.Call.{Call}
use Rattle.model.specs.declared.Call.TheVariants.{Release, Report, End}
use Rattle.model.specs.declared.Word.TheVariants.{Go, Suspend, Stay, Resume}
use Rattle.model.specs.declared.Answer.{Answer}
use Rattle.model.specs.declared.Answer.TheVariants.{Refused, Decided, Closed}
use Rattle.model.specs.Calls.{Reply, refuse}
use Rattle.model.specs.Histories.{Exchange, ◌gets◌}
use Rattle.reader.specs.Outcome.{Outcome, plan, refused}
use Rattle.table.specs.Table.{Table, table_of}
use Rattle.table.specs.Reading.{verdict}
use Rattle.control.specs.declared.State.{State}
use Rattle.control.specs.State.{fresh}
use Rattle.control.specs.Calls.{call_on}
use Rattle.print.specs.Lines.{answer_line, ticks_line, refused_plan_line}
use Rattle.std.specs.Prelude.{Option, Some, None}
use Rattle.flight_log.specs.Log.{entries}

-- The reply to a line: 18 to one of another form, before all other checks of it; else that to the call which it says.
abbrev pub reply_to : Table → State → Option Call → Reply State
reply_to t s (Some c) = call_on t s c
reply_to t s None = refuse s Garbled

-- TICKS SHARED AND SUSPENDED

-- The reading of a call. That of a release is 0.
abbrev pub reading_of : Call → ℕ
reading_of Release = 0
reading_of (Report n e) = e
reading_of (End e) = e

-- The gap after a decision is shared: the answer was go, or resume before the end (02, L7).
abbrev pub shares : Answer → Bool
shares (Refused n) = false
shares (Decided Go r m late) = true
shares (Decided Suspend r m late) = false
shares (Decided Stay r m late) = false
shares (Decided Resume r m late) = true
shares (Closed e late) = false

-- The gap between two readings.
abbrev pub gap : Exchange → Exchange → ℕ
gap x y = reading_of y.call - reading_of x.call

-- Ticks shared: of accepted calls in order, the sum of those gaps between neighbouring readings where the decision before the gap was go or resume.
unfoldable pub shared : List Exchange → ℕ
shared [] = 0
shared (x ∷ []) = 0
shared (x ∷ y ∷ ys) = pick (shares x.answer) (gap x y) 0 + shared (y ∷ ys)

-- Ticks suspended: the sum of the other gaps.
unfoldable pub suspended : List Exchange → ℕ
suspended [] = 0
suspended (x ∷ []) = 0
suspended (x ∷ y ∷ ys) = pick (shares x.answer) 0 (gap x y) + suspended (y ∷ ys)

-- The accepted calls of a release, from it on in order, with one more, or of the release that it is.
abbrev pub with_call : List Exchange → Call → Answer → List Exchange
with_call xs Release a = (Release gets a) ∷ []
with_call xs (Report n e) a = xs ++ ((Report n e gets a) ∷ [])
with_call xs (End e) a = xs ++ ((End e gets a) ∷ [])

-- The same after any answer: a refused call moves nothing.
abbrev pub after_call : List Exchange → Call → Answer → List Exchange
after_call xs c (Refused n) = xs
after_call xs c (Decided w r m late) = with_call xs c (Decided w r m late)
after_call xs c (Closed e late) = with_call xs c (Closed e late)

abbrev pub after_entry : List Exchange → Option Call → Answer → List Exchange
after_entry xs (Some c) a = after_call xs c a
after_entry xs None a = xs

-- WHAT IS PRINTED

-- The line with the ticks of a release: shared, suspended and their sum.
abbrev pub ticks : List Exchange → List ℕ
ticks xs = ticks_line (shared xs) (suspended xs) (shared xs + suspended xs)

-- It follows the answer of an accepted end.
abbrev pub after_end : Answer → List Exchange → List ℕ
after_end (Refused n) xs = []
after_end (Decided w r m late) xs = []
after_end (Closed e late) xs = ticks xs

-- Where a replay stands: the state, and the accepted calls of the latest release.
pub record Progress : Type 0 where
  pub state : State
  pub accepted : List Exchange

-- After one more line.
abbrev pub next_progress : Table → Progress → Option Call → Progress
next_progress t x e =
    let r = reply_to t x.state e in
    record { state = r.state; accepted = after_entry x.accepted e r.answer }

-- After some lines.
unfoldable pub progress_after : Table → Progress → List (Option Call) → Progress
progress_after t x [] = x
progress_after t x (e ∷ es) = progress_after t (next_progress t x e) es

-- What is printed of one line: its answer, and after that of an accepted end the ticks.
abbrev pub line_told : Table → Progress → Option Call → List ℕ
line_told t x e =
    let a = (reply_to t x.state e).answer in
    answer_line a ++ after_end a (next_progress t x e).accepted

-- What is printed of lines, one after the other.
unfoldable pub told : Table → Progress → List (Option Call) → List ℕ
told t x [] = []
told t x (e ∷ es) = line_told t x e ++ told t (next_progress t x e) es

-- At first the state is fresh, and nothing was accepted.
abbrev pub at_first : Progress
at_first = record { state = fresh; accepted = [] }

-- The replay of a log on a table.
unfoldable pub transcript : Table → List ℕ → List ℕ
transcript t log = told t at_first (entries log)

-- The replay of a log on the plan that a text is read as, in a row of 512 records; of a refused plan its refusal is printed, whatever the log.
abbrev pub replayed : Outcome → List ℕ → List ℕ
replayed (plan p) log = transcript (table_of p) log
replayed (refused k j) log = refused_plan_line (number_of k) j

abbrev pub replay : List ℕ → List ℕ → List ℕ
replay text log = replayed (verdict 512 text) log

-- OF CALLS AND THEIR ANSWERS

-- What is printed of calls with these answers, one after the other, where those of the latest release that were accepted before are given.
unfoldable pub answers_told : List Exchange → List Exchange → List ℕ
answers_told accepted [] = []
answers_told accepted (x ∷ xs) =
    let now = after_call accepted x.call x.answer in
    (answer_line x.answer ++ after_end x.answer now) ++ answers_told now xs
