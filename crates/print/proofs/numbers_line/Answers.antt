-- `print::numbers_line` meets its contract: the word, the numbers as fields behind it, and a line feed. Assumes nothing.
use Rattle.print.specs.Lines.{numbers_line}
use Rattle.print.proofs.Laws.{joined, whole}
use Rattle.print.proofs.numbers_line.Goals as goal

pub returns : goal.returns
unfolding numbers_line
returns c = joined (whole c.put_bytes-first.ensures) (joined c.put_fields-end.ensures (whole c.put_byte.ensures))
