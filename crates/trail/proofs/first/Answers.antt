-- The first run is that of the main function, if a run of it ends within 64 visits.
use Rattle.std.proofs.Common.{refl, rules}
use Rattle.trail.proofs.Starting.{main_is, can_put_main, no_runs, can_descend_main, first_stands}
use Rattle.trail.proofs.first.Goals as goal

pub put-here-requires : goal.put-here-requires
put-here-requires c =
    let m = c.function-main.ensures in
    can_put_main c.args.code.now c.args.leasts.now (main_is c.args.code.now m.0 m.1 c.whole.ensures) c.requires _ refl

pub returns-then-trail-here : goal.returns-then-trail-here
returns-then-trail-here c =
    let m = c.function-main.ensures in
    λ h noted told.
    no_runs c.args.code.now c.args.leasts.now (main_is c.args.code.now m.0 m.1 c.whole.ensures) refl c.put-here.ensures c.if-trail-here.true h noted

pub descend-requires : goal.descend-requires
descend-requires c =
    let m = c.function-main.ensures in
    can_descend_main c.args.code.now c.args.leasts.now (main_is c.args.code.now m.0 m.1 c.whole.ensures) refl c.put-here.ensures c.if-trail-here.false _ refl
    c.requires

pub returns : goal.returns
returns c =
    let m = c.function-main.ensures in
    first_stands c.args.code.now c.args.leasts.now (main_is c.args.code.now m.0 m.1 c.whole.ensures) refl c.put-here.ensures c.if-trail-here.false _ refl
    (search rules) c.descend.new.trail c.descend.ensures
