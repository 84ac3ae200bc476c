-- `print::answer_line` meets its contract, once for each kind of answer: its parts stand one behind the other. Assumes nothing.
use Rattle.std.proofs.Common.{arith, rules}
use mir.Val.{SFits}
use mir.Syntax.{w64}
use Rattle.text.specs.Text.{bytes}
use Rattle.print.specs.Lines.{answer_line}
use Rattle.print.proofs.Signed.{field_read}
use Rattle.print.proofs.Laws.{one_number, word_short, ending_short, mark_short, joined, written, wider}
use Rattle.print.proofs.answer_line.Goals as goal

pub returns-in-Refused : goal.returns-in-Refused
unfolding answer_line
returns-in-Refused c =
    rw (c.in-Refused.is, ← c.from.ensures)
    (wider (omega arith) (rw (one_number (bytes "refused") c.from.result) at c.numbers_line.ensures))

pub returns-in-Decided : goal.returns-in-Decided
unfolding answer_line
returns-in-Decided c =
    let fits : SFits w64 c.in-Decided.margin = search rules in
    rw c.in-Decided.is
    (joined (written c.word_text.ensures (word_short _) c.put_bytes-first.ensures)
    (joined c.put_field-second.ensures
    (joined (field_read _ fits c.put_signed-third.ensures)
    (written c.late_mark.ensures (mark_short _) c.put_bytes.ensures))))

pub returns-in-Closed : goal.returns-in-Closed
unfolding answer_line
returns-in-Closed c =
    rw c.in-Closed.is
    (wider (omega arith)
    (joined (written c.ending_text.ensures (ending_short _) c.put_bytes-first-in-Closed.ensures)
    (written c.late_mark-in-Closed.ensures (mark_short _) c.put_bytes-in-Closed.ensures)))
