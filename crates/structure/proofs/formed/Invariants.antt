use Rattle.structure.proofs.Functions.{Read, Held}
use Rattle.rows.specs.Leaves.{numbers}
use Rattle.structure.proofs.formed.Given as goal

abbrev pub invariant-loop-f : goal.invariant-loop-f
invariant-loop-f l = Read (numbers l.code.row.now) l.code.bounds.now l.hs l.f × Held (numbers l.code.row.now) l.code.bounds.now l.code.functions l.hs l.f
