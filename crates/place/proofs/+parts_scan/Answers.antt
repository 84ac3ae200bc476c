use Rattle.rows.specs.Leaves.{numbers}
use Rattle.place.proofs.Sights.{parts_none, parts_both, walk_stopped, walk_shut, walk_on, walk_done}
use Rattle.rows.specs.Rows.{kind_at}
use Rattle.rows.proofs.Shape.{ends}
use Rattle.place.proofs.Shape.{then_plan, else_plan, piece_after}
use Rattle.place.specs.Private.{series, sight_of}
use Rattle.place.specs.declared.Sight.{Sight}
use Rattle.model.specs.Forms.{forms}
use mathlib.Core.Path.{◌≡◌, sym, ap}
use Prim.Native.Nat.{◌-◌}
use native.Mathlib.Omega.{arith}
use borrow.Author.Rules.{rules}
use Rattle.place.proofs.+parts_scan.Goals as goal

pub parts-returns-then-ne : goal.parts-returns-then-ne
parts-returns-then-ne t c = let k : kind_at (numbers c.args.row.now) c.args.i ≡ 3 → ⊥ = search rules in λ left p G. parts_none c.requires.i_lt_to p G c.args.x k c.nothing.ensures

pub parts-scan-first-requires : goal.parts-scan-first-requires
parts-scan-first-requires t c =
    let k : kind_at (numbers c.args.row.now) c.args.i ≡ 3 = search rules in
    let p = c.requires.held.forms in
    let h = then_plan c.requires.i_lt_to p k c.other-other.ensures in
    let e = ends c.requires.i_lt_to p.part in
    (omega (arith, h.1, h.2, e), record { room = omega (arith, h.2, e, c.requires.held.room); left = c.requires.held.left - 2; forms = h.0 })

pub parts-scan-second-requires : goal.parts-scan-second-requires
parts-scan-second-requires t c =
    let k : kind_at (numbers c.args.row.now) c.args.i ≡ 3 = search rules in
    let h = else_plan c.requires.i_lt_to c.requires.held.forms k c.other-other.ensures c.after-after.ensures in
    (omega (arith, h.1, h.2), record { room = omega (arith, h.2, c.requires.held.room); left = c.requires.held.left - 2; forms = h.0 })

pub parts-returns : goal.parts-returns
parts-returns t c =
    let k : kind_at (numbers c.args.row.now) c.args.i ≡ 3 = search rules in
    λ left p G.
    parts_both c.requires.i_lt_to p G c.args.x k c.other-other.ensures c.after-after.ensures (c.scan-first.ensures (left - 2)) (c.scan-second.ensures (left - 2)) c.or.ensures

pub scan-loop-i-init : goal.scan-loop-i-init
scan-loop-i-init t c =
    (omega arith, c.requires, λ left p G. record { more = p; same = ap (λ (y : Sight). series y (sight_of (forms G p.part.lines) c.args.x)) (sym c.nothing-passed.ensures) })

pub scan-returns-then-point-eq1 : goal.scan-returns-then-point-eq1
scan-returns-then-point-eq1 t c = λ left p G. walk_stopped c.loop-i-test.true c.point.ensures c.if-point-eq1.true c.at.ensures c.then.ensures (c.loop-i.invariant.2 left p G)

pub scan-returns-else-passed : goal.scan-returns-else-passed
scan-returns-else-passed t c = λ left p G. walk_shut c.if-passed.false (c.loop-i.invariant.2 left p G)

pub scan-loop-i-smaller : goal.scan-loop-i-smaller
scan-loop-i-smaller t c = omega (arith, ends c.loop-i-test.true c.loop-i.invariant.1.forms.part)

pub scan-loop-i-preserved : goal.scan-loop-i-preserved
scan-loop-i-preserved t c = (
  omega (arith, ends c.loop-i-test.true c.loop-i.invariant.1.forms.part),
  record {
    room = c.loop-i.invariant.1.room;
    left = c.loop-i.invariant.1.left;
    forms = piece_after c.loop-i-test.true c.loop-i.invariant.1.forms c.after-i.ensures;
  },
  λ left p G. walk_on c.loop-i-test.true c.point.ensures c.if-point-eq1.false (c.parts-form.ensures left) c.then-passed.ensures c.after-i.ensures (c.loop-i.invariant.2 left p G),
)

pub scan-returns-after-loop-i : goal.scan-returns-after-loop-i
scan-returns-after-loop-i t c = λ left p G. walk_done c.loop-i-test.false (c.loop-i.invariant.2 left p G)
