-- `listing::collect_leaves` meets its contract. The loop's invariant: what is listed of the leaves passed is stored, at most one point for each.
-- Assumes nothing.
use Rattle.listing.proofs.Numbers.{First}
use Rattle.listing.proofs.collect_leaves.Given as goal

abbrev pub invariant-loop-i : goal.invariant-loop-i
invariant-loop-i l = First l.stretch l.leaves l.initial.points l.i l.points l.count
