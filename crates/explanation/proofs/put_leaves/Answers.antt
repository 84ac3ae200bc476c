-- `explanation::put_leaves` meets its contract: the line of each leaf stands behind those before it. Assumes nothing.
use native.Mathlib.Numerals.{add-one}
use native.Mathlib.Omega.{arith}
use Rattle.print.proofs.Laws.{nothing_written, joined, wider}
use Rattle.explanation.specs.Private.{leaves_told}
use Rattle.explanation.proofs.put_leaves.Goals as goal

pub loop-i-init : goal.loop-i-init
unfolding leaves_told
loop-i-init c = record { printed = nothing_written c.args.out.now 0; short = omega arith }

pub loop-i-preserved : goal.loop-i-preserved
unfolding leaves_told
loop-i-preserved c = rw (add-one c.loop-i.i, ← c.max_load.ensures) (wider (omega arith) (joined c.loop-i.invariant c.put_leaf-end.ensures))
