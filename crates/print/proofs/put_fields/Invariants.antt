-- `print::put_fields`: the fields of the numbers passed are written, 21 bytes at most for each. Assumes nothing.
use Rattle.std.proofs.Common.{◌*◌, take}
use Rattle.print.specs.Lines.{number_fields}
use Rattle.print.specs.Printed.{PrintedWithin}
use Rattle.print.proofs.put_fields.Given as goal

abbrev pub invariant-loop-n : goal.invariant-loop-n
invariant-loop-n l = PrintedWithin (l.n-index * 21) l.initial.out l.at (number_fields (take l.n-index l.numbers)) l.out l.end
