-- The loop of `enumeration::sum`: the leaves passed are summed. Assumes nothing.
use Rattle.enumeration.proofs.Summing.{Summed}
use Rattle.enumeration.proofs.sum.Given as goal

abbrev pub invariant-loop-leaf : goal.invariant-loop-leaf
invariant-loop-leaf l = Summed l.row l.cost l.leaves l.leaf-index l.sum
