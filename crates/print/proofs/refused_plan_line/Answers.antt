-- `print::refused_plan_line` meets its contract: the line is one of a word and two numbers. Assumes nothing.
use Rattle.std.proofs.Common.{arith}
use Rattle.text.specs.Text.{bytes}
use Rattle.print.specs.Lines.{refused_plan_line}
use Rattle.print.proofs.Laws.{two_numbers, wider}
use Rattle.print.proofs.refused_plan_line.Goals as goal

pub returns : goal.returns
unfolding refused_plan_line
returns c = wider (omega arith) (rw (two_numbers (bytes "refused") c.args.number c.args.line) at c.numbers_line.ensures)
