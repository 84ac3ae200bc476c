-- `columns::tails` meets its contract. Assumes nothing.
use Rattle.columns.proofs.Driving.{fun_sized, tails_start, tails_next}
use Rattle.rows.specs.Plans.{lines_of}
use native.Mathlib.Omega.{arith}
use Rattle.columns.proofs.tails.Goals as goal

pub loop-f-init : goal.loop-f-init
loop-f-init c = λ v. tails_start c.args.sums.now (lines_of v.plan) c.args.code.now.bounds.now c.args.tail.now

pub tail_block-requires : goal.tail_block-requires
tail_block-requires c =
    let lt = c.loop-f-test.true in
    let v = c.requires.summed in
    let e = c.function-leaves.ensures in
    rw (e.0, e.1) (record { sized = fun_sized v c.loop-f.f 0 lt (omega (arith, v.exact.small c.loop-f.f lt)) })

pub loop-f-preserved : goal.loop-f-preserved
loop-f-preserved c =
    let a = c.loop-f in
    let lt = c.loop-f-test.true in
    let e = c.function-leaves.ensures in
    λ v. tails_next c.args.tail.now v lt ((rw (e.0, e.1) at c.tail_block.ensures.out_after) (fun_sized v a.f 0 lt (omega (arith, v.exact.small a.f lt)))) (a.invariant v)
