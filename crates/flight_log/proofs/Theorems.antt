-- The theorems of this crate, to be read; each is proved in a file beside this one.
-- The definitions to believe are in specs/Log: what a line of a log is, the entries of a log, and the text of a call; and in specs/Pieces what is held of the
-- line being read, and which entries end in a piece.
-- Assumes nothing.
use Prim.Native.Nat.{ℕ, ◌≤◌, ◌<◌}
use mathlib.Core.Logic.{◌↔◌}
use mathlib.Core.Path.{◌≡◌}
use mathlib.Core.List.{List, [], ◌∷◌, ◌++◌, map}
use lib.ListN.{length, take}
use Rattle.text.specs.Text.{line_of}
use Rattle.model.specs.declared.Call.{Call}
use Rattle.std.specs.Prelude.{Some, None}
use Rattle.flight_log.specs.Log.{entry_of, entries, call_text, Small, Feedless, log_text, AllSmall}
use Rattle.flight_log.proofs.Calls as calls
use Rattle.flight_log.specs.Pieces.{entries_in, held_after, entry_left}
use Rattle.flight_log.proofs.Lines as log_lines
use Rattle.flight_log.proofs.Pieces as pieces

-- A call is read from its text.
pub reads_call : (c : Call) → Small c → entry_of (call_text c) ≡ Some c
reads_call = calls.reads_call

-- A call is read from no other line, and its numbers are below 2^64.
pub reads_only : (l : List ℕ) (c : Call) → entry_of l ≡ Some c → (l ≡ call_text c) × Small c
reads_only = calls.reads_only

-- A line is of another form exactly when it is the text of no call with numbers below 2^64.
pub other_exactly : (l : List ℕ) → (entry_of l ≡ None) ↔ ((c : Call) → Small c → l ≡ call_text c → ⊥)
other_exactly = calls.other_exactly

-- The text of a call has at most 48 bytes, its line feed included.
pub longest : (c : Call) → Small c → length (call_text c) ≤ 48
longest = calls.longest

-- A longer line is of another form.
pub long_line : (l : List ℕ) → 48 < length l → entry_of l ≡ None
long_line = calls.long_line

-- The first 64 bytes of a line tell what it is.
pub held_line : (l : List ℕ) → Feedless l → entry_of (line_of (take 64 (take 64 l ++ (10 ∷ [])))) ≡ entry_of (l ++ (10 ∷ []))
held_line = log_lines.held_line

-- A line without its line feed is of another form.
pub cut_line : (l : List ℕ) → Feedless l → entry_of l ≡ None
cut_line = log_lines.cut_line

-- An empty log has no entry.
pub entries_none : entries [] ≡ []
entries_none = log_lines.entries_none

-- A line with its line feed is the first entry of a log, and the lines behind it are the others.
pub entries_line : (l t : List ℕ) → Feedless l → entries (l ++ (10 ∷ t)) ≡ entry_of (l ++ (10 ∷ [])) ∷ entries t
entries_line = log_lines.entries_line

-- A last line without its line feed is an entry of another form.
pub entries_cut : (b : ℕ) (l : List ℕ) → Feedless (b ∷ l) → entries (b ∷ l) ≡ None ∷ []
entries_cut = log_lines.entries_cut

-- A log that says calls has an entry for each, in order.
pub entries_said : (cs : List Call) → AllSmall cs → entries (log_text cs) ≡ map Some cs
entries_said = log_lines.entries_said

-- PIECES

-- Two pieces, one behind the other, have the entries of one, and the same is held behind them.
pub entries_join : (l a b : List ℕ) → entries_in l (a ++ b) ≡ entries_in l a ++ entries_in (held_after l a) b
entries_join = pieces.entries_join

pub held_join : (l a b : List ℕ) → held_after l (a ++ b) ≡ held_after (held_after l a) b
held_join = pieces.held_join

-- The entries that end in the bytes of a whole log, and the one that is left at its end, are those of the log.
pub entries_whole : (log : List ℕ) → entries_in [] log ++ entry_left (held_after [] log) ≡ entries log
entries_whole = pieces.entries_whole
