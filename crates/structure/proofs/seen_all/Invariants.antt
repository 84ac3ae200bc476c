use Rattle.structure.proofs.AllSeen.{SeenUpTo}
use Rattle.rows.specs.Leaves.{numbers}
use Rattle.structure.proofs.seen_all.Given as goal

abbrev pub invariant-loop-f : goal.invariant-loop-f
invariant-loop-f l = SeenUpTo (numbers l.code.row.now) l.code.bounds.now l.code.functions l.has l.f
