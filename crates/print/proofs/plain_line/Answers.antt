-- `print::plain_line` meets its contract: a number of at most 20 digits, and the others behind it. Assumes nothing.
use Rattle.print.specs.Lines.{numbers_line}
use Rattle.print.proofs.Laws.{joined, whole, digits_most}
use Rattle.print.proofs.plain_line.Goals as goal

pub returns : goal.returns
unfolding numbers_line
returns c =
    joined (record { printed = c.put_number-start.ensures; short = digits_most _ c.ranges.first.fits })
    (joined c.put_fields-end.ensures (whole c.put_byte.ensures))
