-- `trail::next_leaf` meets its contract. Assumes nothing.
use native.Mathlib.Omega.{arith}
use Rattle.trail.proofs.Resting.{lies_low, left_front, left_end, left_opening}
use Rattle.trail.proofs.next_leaf.Goals as goal

pub overflow_add-result : goal.overflow_add-result
overflow_add-result c =
    let r = c.requires in
    let q = left_front (omega (arith, c.if-here-eq0.false)) r.left in
    omega (arith, lies_low q.lies q.there, r.leaves)

pub returns-then-here-eq0 : goal.returns-then-here-eq0
returns-then-here-eq0 c = λ w starts n t column f l. left_end c.if-here-eq0.true l

pub returns-else-here-eq0 : goal.returns-else-here-eq0
returns-else-here-eq0 c = λ w starts n t column f l. left_opening (omega (arith, c.if-here-eq0.false)) l
