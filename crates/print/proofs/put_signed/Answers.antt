-- `print::put_signed` meets its contract: the sign, and the size behind it. Assumes nothing.
use Rattle.std.proofs.Common.{true, false}
use Rattle.print.proofs.Signed.{put_parts}
use Rattle.print.proofs.put_signed.Goals as goal
use Rattle.print.proofs.put_signed.Goals.{then-z-lt0, else-z-lt0}

pub returns : goal.returns
returns c =
    let size = c.unsigned_abs.ensures in
    elim c.if-z-lt0.branch [
      | then-z-lt0 w ↦
          put_parts c.args.z true c.ranges.z w.if-z-lt0.true size.value size.bound w.put_bytes-first.ensures
          (rw (w.out-is, w.first-is) at c.put_number.ensures)
      | else-z-lt0 w ↦
          put_parts c.args.z false c.ranges.z w.if-z-lt0.false size.value size.bound w.put_byte-first.ensures
          (rw (w.out-is, w.first-is) at c.put_number.ensures)
    ]
