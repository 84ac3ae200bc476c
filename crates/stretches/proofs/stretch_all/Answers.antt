-- `stretches::stretch_all` meets its contract. Assumes nothing.
use Rattle.columns.proofs.Driving.{fun_sized}
use Rattle.stretches.proofs.Driving.{drive_start, drive_fits, drive_on, driven}
use lib.ListN.{get_or}
use Prim.Native.Nat.{◌-◌, ◌<◌}
use mathlib.Core.Path.{refl}
use native.Mathlib.Omega.{arith}
use Rattle.stretches.proofs.stretch_all.Goals as goal

pub loop-f-init : goal.loop-f-init
loop-f-init c = λ v. drive_start v c.args.out.now

pub stretch_block-requires-clause-sized : goal.stretch_block-requires-clause-sized
stretch_block-requires-clause-sized c =
    let a = c.loop-f in
    let v = c.requires.summed in
    let f = a.f - 1 in
    let l : f < c.args.priced.now.code.functions = omega (arith, a.auto.f, c.loop-f-test.true) in
    let e = c.function-leaves.ensures in
    rw (e.0, e.1) (fun_sized v f (get_or a.follows f 0) l (drive_fits (a.invariant v) f l))

pub loop-f-preserved : goal.loop-f-preserved
loop-f-preserved c =
    let a = c.loop-f in
    let lt = c.loop-f-test.true in
    let x = c.stretch_block.ensures in
    let f = a.f - 1 in
    let l : f < c.args.priced.now.code.functions = omega (arith, a.auto.f, lt) in
    let e = c.function-leaves.ensures in
    λ v. let z = fun_sized v f (get_or a.follows f 0) l (drive_fits (a.invariant v) f l) in
    drive_on lt a.auto.f refl ((rw (e.0, e.1) at x.out_after) z) ((rw (e.0, e.1) at x.follows_after) z) (a.invariant v)

pub returns : goal.returns
returns c = λ v. driven (omega (arith, c.loop-f-test.false)) (c.loop-f.invariant v)
