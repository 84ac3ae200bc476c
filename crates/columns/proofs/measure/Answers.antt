-- `columns::measure` meets its contract. Assumes nothing.
use Rattle.columns.proofs.Functions.{fun_forms, measure_next, measured}
use Rattle.columns.proofs.measure.Goals as goal

pub sum_block-requires-clause-forms : goal.sum_block-requires-clause-forms
sum_block-requires-clause-forms c =
    rw (c.function-leaves.ensures.0, c.function-leaves.ensures.1) (fun_forms c.requires.plan_of c.loop-f.f c.loop-f-test.true)

pub loop-f-preserved : goal.loop-f-preserved
loop-f-preserved c =
    let e = c.function-leaves.ensures in
    let x = c.sum_block.ensures in
    measure_next c.loop-f-test.true c.requires.plan_of.bounds.few c.requires.plan_of x.upper_bound (rw (e.0, e.1) at x.value) (rw (e.0, e.1) at x.turn_after) c.loop-f.invariant

pub returns-clause-measured : goal.returns-clause-measured
returns-clause-measured c = λ v. measured c.loop-f-test.false c.loop-f.invariant v
