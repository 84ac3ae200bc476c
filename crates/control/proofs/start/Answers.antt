-- `control::start` meets its contract. Assumes nothing.
use native.Mathlib.Omega.{arith}
use Rattle.control.proofs.Deciding.{total_small, release_unfit, release_fit}
use Rattle.control.proofs.Lending.{release_asked, release_ahead}
use Rattle.control.proofs.start.Goals as goal

pub overflow_add-head : goal.overflow_add-head
overflow_add-head c = omega (arith, total_small c.requires.costed.rowed.head)

pub returns-then-head : goal.returns-then-head
returns-then-head c = λ q. release_unfit q.costed.rowed c.args.state.now c.if-head.true

pub at_release-ahead-requires : goal.at_release-ahead-requires
at_release-ahead-requires c = release_asked c.requires c.at_max_load.ensures

pub returns : goal.returns
returns c =
    λ q.
    release_fit q.costed.rowed c.args.state.now c.if-head.false (release_ahead q c.at_max_load.ensures c.at_release-ahead.ensures) (c.weigh-weighing.ensures q.costed.rowed.head)
    c.opened.ensures
