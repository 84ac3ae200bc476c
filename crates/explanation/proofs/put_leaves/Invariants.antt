-- `explanation::put_leaves`: the lines of the leaves passed are written, 42 bytes at most for each. Assumes nothing.
use Rattle.std.proofs.Common.{◌*◌}
use Rattle.rows.specs.Leaves.{numbers}
use Rattle.print.specs.Printed.{PrintedWithin}
use Rattle.explanation.specs.Private.{leaves_told}
use Rattle.explanation.proofs.put_leaves.Given as goal

abbrev pub invariant-loop-i : goal.invariant-loop-i
invariant-loop-i l = PrintedWithin (l.i * 42) l.initial.out 0 (leaves_told (numbers l.row) l.visits l.i) l.out l.end
