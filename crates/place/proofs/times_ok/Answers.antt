use Rattle.place.proofs.Timing.{fares, right_none, wrong_none, right_next, wrong_next, fits_at, wrong_above}
use Prim.Native.Nat.{◌-◌}
use native.Mathlib.Omega.{arith}
use Rattle.place.proofs.times_ok.Goals as goal

pub returns-then-times-totals : goal.returns-then-times-totals
returns-then-times-totals c = λ q.
    let l = c.args.place.now.level in
    wrong_above c.args.times.now (wrong_none c.args.times.now c.if-times-totals.true) l l (omega arith) (fares q.least q.costed)

pub loop-l-init : goal.loop-l-init
loop-l-init c = right_none c.args.times.now c.if-times-totals.false

pub level_time-requires : goal.level_time-requires
level_time-requires c =
    let k = c.args.place.now.level in
    let q = c.requires in
    record {
      least = c.loop-l.auto.l;
      most = omega (arith, c.loop-l-test.true, q.most);
      fits = fits_at c.args.times.now c.loop-l.auto.l c.loop-l.invariant (k - c.loop-l.l) k (omega (arith, c.loop-l-test.true)) (fares q.least q.costed);
    }

pub returns-then-times-l : goal.returns-then-times-l
returns-then-times-l c = λ q.
    let k = c.args.place.now.level in
    let h = wrong_next c.args.times.now c.loop-l.auto.l c.loop-l.invariant c.level_time.ensures c.if-times-l.true in
    wrong_above c.args.times.now h (k - c.loop-l.l) k (omega (arith, c.loop-l-test.true)) (fares q.least q.costed)

pub loop-l-preserved : goal.loop-l-preserved
loop-l-preserved c = right_next c.args.times.now c.loop-l.auto.l c.loop-l.invariant c.level_time.ensures c.if-times-l.false

pub returns-else-times-l : goal.returns-else-times-l
returns-else-times-l c = λ q.
    right_next c.args.times.now c.loop-l.auto.l c.loop-l.invariant c.level_time.ensures c.if-times-l.false c.args.place.now.level (omega arith) (fares q.least q.costed)
