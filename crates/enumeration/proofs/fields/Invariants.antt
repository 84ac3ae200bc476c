-- The loop of `enumeration::fields`: the leaves passed stand at the start. Assumes nothing.
use Rattle.enumeration.proofs.Lining.{Filled}
use Rattle.enumeration.proofs.fields.Given as goal

abbrev pub invariant-loop-k : goal.invariant-loop-k
invariant-loop-k l = Filled l.leaves l.fields l.k
