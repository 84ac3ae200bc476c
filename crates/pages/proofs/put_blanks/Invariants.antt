-- `pages::put_blanks`: as many blanks are written as were passed. Assumes nothing.
use Rattle.std.proofs.Common.{replicate}
use Rattle.print.specs.Printed.{Printed}
use Rattle.pages.proofs.put_blanks.Given as goal

abbrev pub invariant-loop-i : goal.invariant-loop-i
invariant-loop-i l = Printed l.initial.out l.at (replicate l._i 32) l.out l.end
