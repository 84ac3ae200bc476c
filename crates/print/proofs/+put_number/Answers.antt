-- `print::put_number` meets its contract: its steps are those of `decimal`. Assumes nothing.
use Rattle.std.proofs.Common.{arith, refl}
use Rattle.print.proofs.Laws.{one_digit, last_digit}
use Rattle.print.proofs.+put_number.Goals as goal
use Rattle.print.proofs.+put_number.Goals.{then-n-lt-TEN, else-n-lt-TEN}

pub returns : goal.returns
returns t c =
    elim c.if-n-lt-TEN.branch [
      | then-n-lt-TEN w ↦ one_digit w.if-n-lt-TEN.true (omega arith) (rw (w.out-is, w.last-is) at c.put_byte.ensures)
      | else-n-lt-TEN w ↦ last_digit w.if-n-lt-TEN.false refl w.put_number-last.ensures (rw (w.out-is, w.last-is) at c.put_byte.ensures)
    ]
