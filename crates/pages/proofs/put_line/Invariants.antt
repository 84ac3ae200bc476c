-- `pages::put_line`: the numbers passed are written in their fields, and what is left of the line is that of the other numbers. Assumes nothing.
use Rattle.std.proofs.Common.{length}
use Rattle.pages.proofs.Lines.{Begun}
use Rattle.pages.proofs.put_line.Given as goal

abbrev pub invariant-loop-width : goal.invariant-loop-width
invariant-loop-width l = Begun l.widths l.numbers l.initial.out l.at l.out l.end l.left (length l.yielded)
