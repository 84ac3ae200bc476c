-- `listing::collect_leaves` meets its contract. The loop's invariant: what is listed of the leaves passed is stored, at most one point for each.
-- Assumes nothing.
use Rattle.listing.proofs.Numbers.{first_none, first_point, first_silent}
use Rattle.listing.proofs.collect_leaves.Goals as goal
use Rattle.listing.proofs.collect_leaves.Goals.{then-leaf-eq1, else-leaf-eq1}

pub loop-i-init : goal.loop-i-init
loop-i-init c = first_none c.args.stretch.now c.args.leaves.now c.args.points.now

pub loop-i-preserved : goal.loop-i-preserved
loop-i-preserved c =
    elim c.if-leaf-eq1.branch [
      | then-leaf-eq1 w ↦ rw (w.points-is, w.count-is) (first_point c.loop-i.invariant c.loop-i-test.true w.if-leaf-eq1.true)
      | else-leaf-eq1 w ↦ rw (w.points-is, w.count-is) (first_silent c.loop-i.invariant c.loop-i-test.true w.if-leaf-eq1.false)
    ]
