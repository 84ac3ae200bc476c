use Rattle.rows.proofs.Plans.{bound_le}
use Rattle.structure.proofs.Functions.{read_none, held_none, read_more, held_more, read_all, held_all, plan_part}
use lib.ListN.{length}
use Prim.Native.Nat.{◌<◌}
use mathlib.Core.Path.{◌≡◌}
use native.Mathlib.Omega.{arith}
use Rattle.structure.proofs.formed.Goals as goal
use Rattle.structure.proofs.formed.Goals.{then-leaves-end-via-then-leaves-end, then-leaves-end-via-else-leaves-end+then-not-valid}

pub loop-f-init : goal.loop-f-init
loop-f-init c = (read_none, held_none)

pub loop-f-preserved : goal.loop-f-preserved
loop-f-preserved c =
    let k : c.loop-f.f < length c.loop-f.hs = omega (arith, c.if-not-bounded.ensures.few) in (
      read_more k c.function-start.ensures.0 c.function-start.ensures.1 c.tall.ensures c.if-not-bounded.ensures.first c.loop-f.invariant.0 c.if-not-valid.ensures,
      held_more k c.function-start.ensures.0 c.function-start.ensures.1 c.tall.ensures c.loop-f-test.true c.loop-f.invariant.1,
    )

pub returns-then-leaves-end-clause-says : goal.returns-then-leaves-end-clause-says
returns-then-leaves-end-clause-says c = λ p.
    elim c.then-leaves-end.branch [
      | then-leaves-end-via-then-leaves-end w ↦ omega (arith, bound_le p c.loop-f-test.true)
      | then-leaves-end-via-else-leaves-end+then-not-valid w ↦ w.if-not-valid.ensures (plan_part p c.loop-f-test.true c.function-start.ensures.0 c.function-start.ensures.1 c.loop-f.invariant.1)
    ]

pub returns-clause-says : goal.returns-clause-says
returns-clause-says c =
    let e : c.loop-f.f ≡ c.args.code.now.functions = omega arith in
    read_all c.if-not-bounded.ensures (rw e at c.loop-f.invariant.0)

pub returns-clause-tall : goal.returns-clause-tall
returns-clause-tall c =
    let e : c.loop-f.f ≡ c.args.code.now.functions = omega arith in
    held_all (rw e at c.loop-f.invariant.1)
