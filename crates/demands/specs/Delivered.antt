-- The delivered calls, by their contracts (crates/rolsipay/src/lib.rt): what `read` answers and leaves in lent memory, and what `release`, `report` and
-- `end` answer and leave in the lent state. `verdict`, `answer_of`, `row_after`, `head_after` and `called` are what these contracts say the code gives.
-- Under their C names the calls return these answers as numbers, `ruling_of` and `reply_from`.
-- Assumes nothing: these are definitions.
use Rattle.std.specs.Prelude.{List, ◌≡◌, ℕ, length, Result}
use Rattle.model.specs.Plan.{Plan}
use Rattle.model.specs.declared.Call.{Call}
use Rattle.model.specs.Calls.{Controller}
use Rattle.rows.specs.declared.Leaf.{Leaf}
use Rattle.reader.specs.Outcome.{plan}
use Rattle.reader.specs.declared.RefusedAt.{RefusedAt}
use Rattle.table.specs.declared.Head.{Head}
use Rattle.table.specs.Reading.{verdict, head_after}
use Rattle.table.specs.Lent.{row_after}
use Rattle.rolsipay.specs.declared.State.{State}
use Rattle.rolsipay.specs.declared.Ruling.{Ruling}
use Rattle.rolsipay.specs.declared.Reply.{Reply}
use Rattle.rolsipay.specs.Reading.{answer_of}
use Rattle.rolsipay.specs.Calling.{zeros, called}
use Rattle.rolsipay.specs.Face.{ruling_of, reply_from}

-- The memory that a caller lends for a table (01): a row of leaf records, and the head beside it.
pub record Memory : Type 0 where
  pub row : List Leaf
  pub head : Head

-- READING A PLAN

-- What `read` answers to a text: accepted, or a refusal and its line.
abbrev pub read_answer : List ℕ → Memory → Result Unit RefusedAt
read_answer text m = answer_of (verdict (length m.row) text)

-- The memory that it leaves.
abbrev pub after_read : List ℕ → Memory → Memory
after_read text m = record { row = row_after (verdict (length m.row) text) m.row; head = head_after (verdict (length m.row) text) m.head }

-- The text is read into the memory as the plan p.
abbrev pub ReadAs : List ℕ → Memory → Plan → Type 0
ReadAs text m p = verdict (length m.row) text ≡ plan p

-- RELEASE, REPORT AND END

-- The delivered calls on lent memory: to each state and call the state that is left and the answer that is returned; a fresh state is all zeros (01).
abbrev pub delivered : Memory → Controller State
delivered m = record { fresh = zeros; respond = called m.row m.head }

-- UNDER C NAMES

-- What `rolsipay_read` returns to a text: the answer as numbers.
abbrev pub read_returned : List ℕ → Memory → Ruling
read_returned text m = ruling_of (read_answer text m)

-- What `rolsipay_release`, `rolsipay_report` and `rolsipay_end` return: the answer as numbers.
abbrev pub call_returned : Memory → State → Call → Reply
call_returned m s c = reply_from ((delivered m).respond s c).answer
