-- The last visit that can be left for a later run is left for it; where there is none the run was the last.
use Rattle.std.specs.Prelude.{◌≡◌, ◌+◌, ◌-◌}
use Rattle.std.proofs.Common.{refl, arith, rules}
use Rattle.trail.specs.Trails.{TrailOf}
use Rattle.trail.proofs.Turning.{no_later_more, can_turn, turns, stays}
use Rattle.trail.proofs.next.Goals as goal

pub loop-k-init : goal.loop-k-init
loop-k-init c = (refl, omega arith, λ j h i. absurd (omega arith))

pub descend-requires : goal.descend-requires
descend-requires c =
    let (e, there, none) = c.loop-k.invariant in
    let s : TrailOf c.requires.on.table c.args.leasts.now c.loop-k.trail c.requires.runs = rw e c.requires.stands in
    can_turn c.args.code.now c.args.leasts.now c.loop-k.trail (c.loop-k.k - 1) c.in-Some.rest (search rules) (omega (arith, there, c.loop-k-test.true)) s.short
    c.in-Some.is c.requires.on.table c.requires.runs c.requires.on.noted s

pub returns-in-Some : goal.returns-in-Some
returns-in-Some c =
    let (e, there, none) = c.loop-k.invariant in
    let z : c.loop-k.k ≡ c.loop-k.k - 1 + 1 = omega (arith, c.loop-k-test.true) in
    λ h vs noted s.
    let s' : TrailOf h c.args.leasts.now c.loop-k.trail vs = rw e s in
    turns c.args.code.now c.args.leasts.now c.loop-k.trail (c.loop-k.k - 1) c.in-Some.rest (search rules) (omega (arith, there, c.loop-k-test.true)) s'.short
    c.in-Some.is (rw z at none) c.descend.new.trail c.descend.ensures h vs noted s'

pub loop-k-preserved : goal.loop-k-preserved
loop-k-preserved c =
    let (e, there, none) = c.loop-k.invariant in (e, omega (arith, there), no_later_more c.loop-k.trail c.loop-k.k c.in_default.is none)

pub returns : goal.returns
returns c =
    let (e, there, none) = c.loop-k.invariant in
    let z : c.loop-k.k ≡ 0 = omega (arith, c.loop-k-test.false) in
    λ h vs noted s. stays h c.args.leasts.now c.loop-k.trail vs (rw z at none) (rw e s)
