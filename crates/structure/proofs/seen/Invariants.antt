use Rattle.structure.proofs.Seeing.{SeenSoFar}
use Rattle.rows.specs.Leaves.{numbers}
use Rattle.structure.proofs.seen.Given as goal

abbrev pub invariant-loop-i : goal.invariant-loop-i
invariant-loop-i l = SeenSoFar (numbers l.row) l.has l.from l.i l.until
