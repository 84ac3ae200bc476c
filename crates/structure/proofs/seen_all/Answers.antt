use Rattle.structure.proofs.AllSeen.{up_to_none, up_to_more, up_to_all, not_seen, its_text}
use Rattle.rows.proofs.Leaves.{numbers_length}
use Rattle.rows.proofs.Plans.{bound_le}
use mathlib.Core.Path.{◌≡◌, refl}
use native.Mathlib.Omega.{arith}
use Rattle.structure.proofs.seen_all.Goals as goal

pub loop-f-init : goal.loop-f-init
loop-f-init c = up_to_none _ refl

pub seen-requires : goal.seen-requires
seen-requires c =
    record {
      to_in_bounds = omega (arith, bound_le c.requires.plan c.loop-f-test.true, numbers_length);
      text = its_text c.loop-f.invariant c.loop-f-test.true c.requires.plan.bounds.few c.function-start.ensures.0 c.function-start.ensures.1 c.requires.plan;
    }

pub returns-then-not-seen : goal.returns-then-not-seen
returns-then-not-seen c = not_seen c.loop-f.invariant c.loop-f-test.true c.requires.plan.bounds.few c.function-start.ensures.0 c.function-start.ensures.1 c.seen.result c.if-not-seen.true c.seen.ensures

pub pointed-requires : goal.pointed-requires
pointed-requires c =
    record {
      to_in_bounds = omega (arith, bound_le c.requires.plan c.loop-f-test.true, numbers_length);
      text = its_text c.loop-f.invariant c.loop-f-test.true c.requires.plan.bounds.few c.function-start.ensures.0 c.function-start.ensures.1 c.requires.plan;
    }

pub loop-f-preserved : goal.loop-f-preserved
loop-f-preserved c =
    up_to_more c.loop-f.invariant c.loop-f-test.true c.requires.plan.bounds.few c.function-start.ensures.0 c.function-start.ensures.1 c.pointed.result c.seen.result
    c.if-not-seen.false c.seen.ensures c.pointed.ensures

pub returns : goal.returns
returns c =
    let e : c.loop-f.f ≡ c.args.code.now.functions = omega arith in
    up_to_all (rw e at c.loop-f.invariant)
