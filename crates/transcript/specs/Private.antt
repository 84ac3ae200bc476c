-- What only the private functions promise. Nothing of this stands in the contracts of `start`, `feed` and `close`.
-- Assumes nothing: these are definitions.
use Rattle.std.specs.Prelude.{ℕ, ◌≡◌, List}
use Rattle.table.specs.Table.{Table}
use Rattle.model.specs.declared.Call.{Call}
use Rattle.std.specs.Prelude.{Option}
use Rattle.print.specs.Printed.{PrintedWithin}
use Rattle.transcript.specs.declared.Told.{Told}
use Rattle.transcript.specs.declared.Fed.{Fed}
use Rattle.transcript.specs.Transcript.{reply_to}
use Rattle.transcript.specs.Pieces.{entry_told, entry_shared}

-- A line was answered: what is printed of it stands behind the others, and state and ticks moved on.
pub record Tells (old : List ℕ) (t : Table) (x : Told) (e : Option Call) (new : List ℕ) (r : Told) : Type 0 where
  pub text_told : PrintedWithin 128 old x.next (entry_told t x.state x.shared e) new r.next
  pub state_is : r.state ≡ (reply_to t x.state e).state
  pub shared_is : r.shared ≡ entry_shared t x.state x.shared e

-- What is handed back of a piece.
abbrev pub fed_of : List ℕ → ℕ → Told → Fed
fed_of line held x = record { size = x.next; replay = record { line = line; held = held; state = x.state; shared = x.shared } }
