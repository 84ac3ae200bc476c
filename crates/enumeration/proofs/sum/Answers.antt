-- `enumeration::sum` meets its contract. Assumes nothing.
use native.Mathlib.Omega.{arith}
use Rattle.enumeration.proofs.Summing.{none_summed, one_summed, all_summed}
use Rattle.enumeration.proofs.sum.Goals as goal

pub loop-leaf-init : goal.loop-leaf-init
loop-leaf-init c = none_summed

pub overflow_add-sum : goal.overflow_add-sum
overflow_add-sum c =
    let y = one_summed c.requires c.loop-leaf.invariant c.loop-leaf-test.true in
    omega (arith, y.low, c.of-sum.ensures, c.requires.few, c.loop-leaf-test.true)

pub loop-leaf-preserved : goal.loop-leaf-preserved
loop-leaf-preserved c = rw c.of-sum.ensures (one_summed c.requires c.loop-leaf.invariant c.loop-leaf-test.true)

pub returns : goal.returns
returns c = all_summed c.loop-leaf.invariant (omega (arith, c.loop-leaf-test.false))
