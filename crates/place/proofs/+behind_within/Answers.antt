use Rattle.rows.specs.Leaves.{numbers}
use Rattle.place.proofs.Sights.{within_here, within_flat, within_then, within_else, leaf_before, leaf_past, leaf_later, leaf_missing, leaf_shut, leaf_leaves}
use Rattle.rows.specs.Rows.{kind_at}
use Rattle.rows.proofs.Shape.{ends, flat_end}
use Rattle.place.proofs.Shape.{then_plan, else_plan, piece_after}
use mathlib.Core.Path.{◌≡◌, refl, ◌∙◌}
use Prim.Native.Nat.{◌-◌}
use native.Mathlib.Omega.{arith}
use borrow.Author.Rules.{rules}
use borrow.Author.Tests.{not-true}
use Rattle.place.proofs.+behind_within.Goals as goal

pub behind-returns-then-p-from : goal.behind-returns-then-p-from
behind-returns-then-p-from t c = λ left q G. leaf_before c.if-p-from.true (record { more = q; same = refl })

pub behind-loop-i-init : goal.behind-loop-i-init
behind-loop-i-init t c = (omega arith, omega arith, c.requires, λ left q G. record { more = q; same = refl })

pub behind-next-after-requires : goal.behind-next-after-requires
behind-next-after-requires t c = (search rules, λ k. flat_end c.loop-i-test.true c.loop-i.invariant.2.forms.part k)

pub behind-returns-in_err-form : goal.behind-returns-in_err-form
behind-returns-in_err-form t c =
    λ left q G. c.from_residual.ensures ∙
    leaf_missing c.loop-i-test.true c.loop-i.invariant.0 c.next-after.ensures c.if-p-after.true (c.within.ensures left) c.in_err-form.was (c.loop-i.invariant.3 left q G)

pub behind-returns-then-not-form : goal.behind-returns-then-not-form
behind-returns-then-not-form t c =
    λ left q G.
    leaf_shut c.loop-i-test.true c.loop-i.invariant.0 c.next-after.ensures c.if-p-after.true (c.within.ensures left) c.in_ok-form.was (not-true _ c.if-not-form.true) (c.loop-i.invariant.3 left q G)

pub behind-scan-rest-requires : goal.behind-scan-rest-requires
behind-scan-rest-requires t c =
    record {
      room = c.loop-i.invariant.2.room;
      left = c.loop-i.invariant.2.left;
      forms = piece_after c.loop-i-test.true c.loop-i.invariant.2.forms c.next-after.ensures;
    }

pub behind-returns-then-p-after : goal.behind-returns-then-p-after
behind-returns-then-p-after t c =
    λ left q G.
    leaf_leaves c.loop-i-test.true c.loop-i.invariant.0 c.next-after.ensures c.if-p-after.true (c.within.ensures left) c.in_ok-form.was (c.scan-rest.ensures left) c.then.ensures
    (c.loop-i.invariant.3 left q G)

pub behind-loop-i-smaller : goal.behind-loop-i-smaller
behind-loop-i-smaller t c = omega (arith, ends c.loop-i-test.true c.loop-i.invariant.2.forms.part)

pub behind-loop-i-preserved : goal.behind-loop-i-preserved
behind-loop-i-preserved t c = (
  omega arith,
  omega (arith, ends c.loop-i-test.true c.loop-i.invariant.2.forms.part),
  record {
    room = c.loop-i.invariant.2.room;
    left = c.loop-i.invariant.2.left;
    forms = piece_after c.loop-i-test.true c.loop-i.invariant.2.forms c.next-after.ensures;
  },
  λ left q G. leaf_later c.loop-i-test.true c.next-after.ensures c.if-p-after.false (c.loop-i.invariant.3 left q G),
)

pub behind-returns : goal.behind-returns
behind-returns t c = λ left q G. leaf_past c.loop-i-test.false c.loop-i.invariant.0 (c.loop-i.invariant.3 left q G)

pub within-returns-then-p-i : goal.within-returns-then-p-i
within-returns-then-p-i t c = λ left q G. within_here c.requires.i_lt_to.0 q G _ c.args.x c.if-p-i.true (c.parts.ensures left)

pub within-returns-then-ne : goal.within-returns-then-ne
within-returns-then-ne t c = let k : kind_at (numbers c.args.row.now) c.args.i ≡ 3 → ⊥ = search rules in λ left q G. within_flat c.requires.i_lt_to.0 q G _ c.args.x c.if-p-i.false k

pub within-behind-requires : goal.within-behind-requires
within-behind-requires t c =
    let k : kind_at (numbers c.args.row.now) c.args.i ≡ 3 = search rules in
    let p = c.requires.held.forms in
    let h = then_plan c.requires.i_lt_to.0 p k c.other-other.ensures in
    let e = ends c.requires.i_lt_to.0 p.part in
    (omega (arith, h.1, h.2, e), record { room = omega (arith, h.2, e, c.requires.held.room); left = c.requires.held.left - 2; forms = h.0 })

pub within-returns-then-p-other : goal.within-returns-then-p-other
within-returns-then-p-other t c =
    let k : kind_at (numbers c.args.row.now) c.args.i ≡ 3 = search rules in
    λ left q G. within_then c.requires.i_lt_to.0 q G _ c.args.x c.if-p-i.false k c.other-other.ensures c.if-p-other.true (c.behind.ensures (left - 2))

pub within-behind-requires-2 : goal.within-behind-requires-2
within-behind-requires-2 t c =
    let k : kind_at (numbers c.args.row.now) c.args.i ≡ 3 = search rules in
    let h = else_plan c.requires.i_lt_to.0 c.requires.held.forms k c.other-other.ensures c.after-after.ensures in
    (omega (arith, h.1, h.2), record { room = omega (arith, h.2, c.requires.held.room); left = c.requires.held.left - 2; forms = h.0 })

pub within-returns : goal.within-returns
within-returns t c =
    let k : kind_at (numbers c.args.row.now) c.args.i ≡ 3 = search rules in
    λ left q G. within_else c.requires.i_lt_to.0 q G _ c.args.x c.if-p-i.false k c.other-other.ensures c.if-p-other.false c.after-after.ensures (c.behind-2.ensures (left - 2))
