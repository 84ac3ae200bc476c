-- `print::put_bytes`: the bytes passed are written. Assumes nothing.
use Rattle.std.proofs.Common.{take}
use Rattle.print.specs.Printed.{Printed}
use Rattle.print.proofs.put_bytes.Given as goal

abbrev pub invariant-loop-b : goal.invariant-loop-b
invariant-loop-b l = Printed l.initial.out l.at (take l.b-index l.text) l.out l.end
