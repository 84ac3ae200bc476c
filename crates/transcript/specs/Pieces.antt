-- The replay of a log that comes in pieces: what the code answers and carries on, piece by piece. The theorems say that it is the replay of the whole log.
-- Assumes nothing: these are definitions.
use Rattle.std.specs.Prelude.{ℕ, ◌+◌, ◌-◌, ◌≤◌, ◌≡◌, List, [], ◌∷◌, ◌++◌, length, take}
use Rattle.model.specs.declared.Refusal.TheVariants.{Garbled}
use Rattle.model.specs.declared.Call.{Call}
use Rattle.model.specs.declared.Call.TheVariants.{Release, Report, End}
use Rattle.model.specs.declared.Answer.{Answer}
use Rattle.model.specs.declared.Answer.TheVariants.{Refused, Decided, Closed}
use Rattle.model.specs.declared.Others.{Others}
use Rattle.model.specs.declared.Others.TheVariants.{Running, Suspended}
use Rattle.table.specs.Table.{Table}
use Rattle.control.specs.declared.State.{State}
use Rattle.control.specs.declared.State.TheVariants.{Idle, Open}
use Rattle.control.specs.State.{fresh}
use Rattle.print.specs.Lines.{answer_line, ticks_line}
use Rattle.print.specs.Printed.{PrintedWithin}
use Rattle.std.specs.Prelude.{Option, Some, None}
use Rattle.flight_log.specs.Pieces.{entries_in, held_after}
use Rattle.transcript.specs.declared.Replay.{Replay}
use Rattle.transcript.specs.declared.Fed.{Fed}
use Rattle.transcript.specs.Transcript.{reply_to, reading_of}

-- What the lines so far came to: the state, and the ticks shared since the release.
pub record Ticked : Type 0 where
  pub state : State
  pub shared : ℕ

-- What is carried from piece to piece: the bytes held of the line being read, and what the lines before it came to.
pub record Carried : Type 0 where
  pub line : List ℕ
  pub before : Ticked

abbrev pub carried_of : Replay → Carried
carried_of r = record { line = take r.held r.line; before = record { state = r.state; shared = r.shared } }

-- Before the first byte.
abbrev pub begin : Carried
begin = record { line = []; before = record { state = fresh; shared = 0 } }

-- The ticks shared up to a reading: all but those that were suspended up to the last one, or, where the others are suspended, as many as before.
abbrev pub shared_to : Others → ℕ → ℕ → ℕ → ℕ
shared_to Running last e shared = e - (last - shared)
shared_to Suspended last e shared = shared

-- The same from a state, where a release is open; where none is, no ticks are shared.
abbrev pub shared_on : State → ℕ → ℕ → ℕ
shared_on Idle e shared = shared
shared_on (Open s) e shared = shared_to s.others s.reading e shared

-- After an accepted call.
abbrev pub shared_by : State → Call → ℕ → ℕ
shared_by s Release shared = 0
shared_by s (Report n e) shared = shared_on s e shared
shared_by s (End e) shared = shared_on s e shared

-- After any call: a refused one moves nothing.
abbrev pub shared_after : State → Call → Answer → ℕ → ℕ
shared_after s c (Refused n) shared = shared
shared_after s c (Decided w r m late) shared = shared_by s c shared
shared_after s c (Closed e late) shared = shared_by s c shared

-- The ticks of a release up to a reading: shared, suspended and their sum.
abbrev pub ticks_to : ℕ → ℕ → List ℕ
ticks_to e shared = ticks_line shared (e - shared) (shared + (e - shared))

-- They follow the answer of an end.
abbrev pub ticks_after : Answer → ℕ → ℕ → List ℕ
ticks_after (Refused n) e shared = []
ticks_after (Decided w r m late) e shared = []
ticks_after (Closed w late) e shared = ticks_to e shared

-- A line more, by its entry: what is printed of it, and what is carried on.
abbrev pub entry_shared : Table → State → ℕ → Option Call → ℕ
entry_shared t s shared (Some c) = shared_after s c (reply_to t s (Some c)).answer shared
entry_shared t s shared None = shared

abbrev pub entry_ticks : Table → State → ℕ → Option Call → List ℕ
entry_ticks t s shared (Some c) = ticks_after (reply_to t s (Some c)).answer (reading_of c) (entry_shared t s shared (Some c))
entry_ticks t s shared None = []

abbrev pub entry_told : Table → State → ℕ → Option Call → List ℕ
entry_told t s shared e = answer_line (reply_to t s e).answer ++ entry_ticks t s shared e

abbrev pub next_ticked : Table → Ticked → Option Call → Ticked
next_ticked t x e = record { state = (reply_to t x.state e).state; shared = entry_shared t x.state x.shared e }

-- Some lines more.
unfoldable pub entries_told : Table → Ticked → List (Option Call) → List ℕ
entries_told t x [] = []
entries_told t x (e ∷ es) = entry_told t x.state x.shared e ++ entries_told t (next_ticked t x e) es

unfoldable pub ticked_after : Table → Ticked → List (Option Call) → Ticked
ticked_after t x [] = x
ticked_after t x (e ∷ es) = ticked_after t (next_ticked t x e) es

-- A piece more: the lines that end in it.
abbrev pub piece_told : Table → Carried → List ℕ → List ℕ
piece_told t c bs = entries_told t c.before (entries_in c.line bs)

abbrev pub piece_after : Table → Carried → List ℕ → Carried
piece_after t c bs = record { line = held_after c.line bs; before = ticked_after t c.before (entries_in c.line bs) }

-- The end of the log: a line that was begun has no line feed, and is refused by 18.
abbrev pub cut_told : List ℕ → List ℕ
cut_told [] = []
cut_told (b ∷ bs) = answer_line (Refused Garbled)

abbrev pub close_told : Carried → List ℕ
close_told c = cut_told c.line

-- WHAT THE CALLS PROMISE

-- A piece was taken, of which at most 4,096 bytes are used: the answers to the lines that end in it, of at most 524,288 bytes, stand at the start of the
-- buffer, and what is carried on goes by the same bytes. What stands behind the bytes held of the line being read is left free. (`fits` follows from `told`:
-- callers use it as it is.)
pub record FedPiece (old : List ℕ) (t : Table) (c : Carried) (piece new : List ℕ) (r : Fed) : Type 0 where
  pub told : PrintedWithin 524288 old 0 (piece_told t c (take 4096 piece)) new r.size
  pub fits : r.size ≤ 524288
  pub carried : carried_of r.replay ≡ piece_after t c (take 4096 piece)

-- The log was ended: the answer to a line that was begun stands at the start of the buffer.
pub record ClosedLog (old : List ℕ) (c : Carried) (new : List ℕ) (n : ℕ) : Type 0 where
  pub told : PrintedWithin 524288 old 0 (close_told c) new n
  pub fits : n ≤ 524288

-- What is printed where a log comes in pieces of at most 4,096 bytes: each is taken in a buffer of 524,288 bytes, whatever it held, and as many of its bytes
-- are printed as the call says; after the last piece the log is ended.
pub data PrintedOf (t : Table) : Carried → List (List ℕ) → List ℕ → Type 0 where
  ended : {c : Carried} {old new : List ℕ} {n : ℕ} → length old ≡ 524288 → ClosedLog old c new n → PrintedOf t c [] (take n new)
  piece : {c : Carried} {p old new : List ℕ} {f : Fed} {ps : List (List ℕ)} {text : List ℕ} → length p ≤ 4096 → length old ≡ 524288 →
      FedPiece old t c p new f → PrintedOf t (carried_of f.replay) ps text → PrintedOf t c (p ∷ ps) (take f.size new ++ text)
