use Rattle.place.proofs.Lent.{run_of}
use Rattle.place.proofs.Finding.{below_low, below_again, below_fresh, again_fits}
use native.Mathlib.Omega.{arith}
use Rattle.place.proofs.below.Goals as goal

pub returns-in_err-at : goal.returns-in_err-at
returns-in_err-at c = λ q. rw c.from_residual.ensures (c.in_err-at.ensures (run_of q))

pub offset_bounds-place-at : goal.offset_bounds-place-at
offset_bounds-place-at c = omega (arith, below_low c.requires.placed c.args.x c.requires.most (c.in_ok-at.ensures (run_of c.requires)))

pub bounds-place-at : goal.bounds-place-at
bounds-place-at c = omega (arith, below_low c.requires.placed c.args.x c.requires.most (c.in_ok-at.ensures (run_of c.requires)))

pub offset_bounds-place-at-then-place-at : goal.offset_bounds-place-at-then-place-at
offset_bounds-place-at-then-place-at c = omega (arith, below_low c.requires.placed c.args.x c.requires.most (c.in_ok-at.ensures (run_of c.requires)))

pub bounds-place-at-then-place-at : goal.bounds-place-at-then-place-at
bounds-place-at-then-place-at c = omega (arith, below_low c.requires.placed c.args.x c.requires.most (c.in_ok-at.ensures (run_of c.requires)))

pub overflow_add-result : goal.overflow_add-result
overflow_add-result c =
    omega (arith, again_fits c.requires.placed c.args.x c.requires.most c.if-place-at.true (c.in_ok-at.ensures (run_of c.requires)))

pub returns-then-place-at : goal.returns-then-place-at
returns-then-place-at c = λ q. below_again q.placed c.args.x c.requires.most c.if-place-at.true (c.in_ok-at.ensures (run_of q))

pub returns : goal.returns
returns c = λ q. below_fresh q.placed c.args.x c.requires.most c.if-place-at.false (c.in_ok-at.ensures (run_of q))
