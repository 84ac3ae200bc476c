-- At the end of what is left the trail ends; else the first run goes on with its visit and then on the way that is taken.
use Rattle.std.proofs.Common.{refl, arith, rules}
use Rattle.trail.proofs.Resting.{left_front}
use Rattle.trail.proofs.Descending.{front_least, end_runs, can_go_on, descends}
use Rattle.trail.proofs.+descend.Goals as goal

pub returns-then-here-eq0 : goal.returns-then-here-eq0
returns-then-here-eq0 t c =
    record {
      runs = λ h f noted left told fits. end_runs _ c.args.k c.if-here-eq0.true refl left;
      more = omega arith;
      short = omega (arith, c.requires.few);
      room = refl;
      leaves = λ j h. refl;
      later = λ j h. refl;
      rests = λ j h. refl;
    }

pub bounds-trail-k : goal.bounds-trail-k
bounds-trail-k t c = omega (arith, front_least (left_front (omega (arith, c.if-here-eq0.false)) c.requires.left), c.requires.fits)

pub choose-choice-requires : goal.choose-choice-requires
choose-choice-requires t c =
    let r = c.requires in
    record {
      table = r.table;
      noted = r.noted;
      forms = r.forms;
      left = r.left;
      told = r.told;
      some = omega (arith, c.if-here-eq0.false);
      early = r.early;
      few = omega (arith, front_least (left_front (omega (arith, c.if-here-eq0.false)) r.left), r.fits);
      fits = r.fits;
    }

pub bounds-trail-k-2 : goal.bounds-trail-k-2
bounds-trail-k-2 t c = omega (arith, front_least (left_front (omega (arith, c.if-here-eq0.false)) c.requires.left), c.requires.fits)

pub descend-requires : goal.descend-requires
descend-requires t c =
    let d = can_go_on c.requires c.choose-choice.ensures c.if-here-eq0.false (search rules) (search rules) in (omega (arith, c.decreases, d.few), d)

pub returns : goal.returns
returns t c = descends c.requires c.choose-choice.ensures c.if-here-eq0.false (search rules) (search rules) c.descend.new.trail c.descend.ensures
