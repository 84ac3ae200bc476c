use Rattle.structure.proofs.Callers.{Marked}
use Rattle.rows.specs.Leaves.{numbers}
use Rattle.structure.proofs.called.Given as goal

abbrev pub invariant-loop-i : goal.invariant-loop-i
invariant-loop-i l = Marked (numbers l.code.row.now) l.named l.i
