-- `enumeration::fields` meets its contract. Assumes nothing.
use native.Mathlib.Omega.{arith}
use Rattle.enumeration.proofs.Lining.{sums_put}
use Rattle.enumeration.proofs.fields.Goals as goal

pub returns : goal.returns
returns c = sums_put c.requires.few c.loop-k.invariant (omega (arith, c.loop-k-test.false)) c.sum.ensures c.sum-2.ensures
