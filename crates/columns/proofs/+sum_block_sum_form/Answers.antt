-- `columns::sum_block` and `columns::sum_form`, which call each other, meet their contracts. Assumes nothing.
use Rattle.columns.proofs.Summing.{leaf_turn, call_turn, if_turn, leaf_sum, call_sum, loop_sum, if_sum, loop_note, pass, passed_all}
use Rattle.columns.proofs.Fronts.{leaf_front, call_front, loop_again, front_if}
use Rattle.columns.proofs.Capped.{cost_le}
use Rattle.columns.specs.Columns.{turn_rule}
use Rattle.rows.specs.Costs.{cost_in}
use Rattle.rows.proofs.Shape.{ends, flat_end}
use Rattle.rows.specs.Leaves.{numbers}
use Rattle.rows.specs.Rows.{block_at}
use lib.ListN.{get_or}
use mathlib.Core.Path.{refl, ap}
use native.Mathlib.Omega.{arith}
use Prim.Native.Nat.{ℕ}
use Rattle.columns.proofs.Inner.{as_leaf, as_call, as_loop, as_if, ends_at, if_ends, body_forms, then_forms, else_forms, first_form}
use Rattle.columns.proofs.+sum_block_sum_form.Goals as goal

pub sum_block-loop-i-init : goal.sum_block-loop-i-init
sum_block-loop-i-init t c = (omega arith, omega arith, λ p. record { more = p; sum = omega arith; todo = refl })

pub sum_block-sum_form-x-requires : goal.sum_block-sum_form-x-requires
sum_block-sum_form-x-requires t c =
    let lt = c.loop-i-test.true in
    let v = c.loop-i.invariant in
    let p = (v.2 c.requires.forms).more in
    (omega (arith, c.decreases, v.0, ends lt p.part), (c.requires.under, first_form lt p))

pub sum_block-next-i-requires : goal.sum_block-next-i-requires
sum_block-next-i-requires t c =
    let lt = c.loop-i-test.true in
    let p = (c.loop-i.invariant.2 c.requires.forms).more in
    (omega (arith, lt, p.held), λ k. flat_end lt p.part k)

pub sum_block-loop-i-smaller : goal.sum_block-loop-i-smaller
sum_block-loop-i-smaller t c = omega (arith, ends c.loop-i-test.true (c.loop-i.invariant.2 c.requires.forms).more.part, c.next-i.ensures)

pub sum_block-loop-i-preserved : goal.sum_block-loop-i-preserved
sum_block-loop-i-preserved t c =
    let lt = c.loop-i-test.true in
    let v = c.loop-i.invariant in
    let x = c.sum_form-x.ensures in (
      omega (arith, v.0, ends lt (v.2 c.requires.forms).more.part, c.next-i.ensures),
      omega (arith, c.min-acc.ensures),
      λ p. let q = v.2 p in
          let y = first_form lt q.more in
          pass q lt (x.value y) c.min-acc.ensures c.next-i.ensures (x.turn_after y),
    )

pub sum_block-returns-clause-value : goal.sum_block-returns-clause-value
sum_block-returns-clause-value t c = λ p. (passed_all (c.loop-i.invariant.2 p) c.loop-i-test.false c.loop-i.invariant.1).0

pub sum_block-returns-clause-turn_after : goal.sum_block-returns-clause-turn_after
sum_block-returns-clause-turn_after t c = λ p. (passed_all (c.loop-i.invariant.2 p) c.loop-i-test.false c.loop-i.invariant.1).1

pub sum_form-sum_block-body-requires : goal.sum_form-sum_block-body-requires
sum_form-sum_block-body-requires t c =
    let z = c.requires.form in
    let he = c.after-after.ensures in
    (omega (arith, c.decreases, ends_at z he), (c.requires.under, body_forms z he (as_loop z c.in-Loop.ensures)))

pub sum_form-overflow_add-turn : goal.sum_form-overflow_add-turn
sum_form-overflow_add-turn t c =
    let h = as_loop c.requires.form c.in-Loop.ensures in
    omega (arith, cost_le c.args.cost (block_at (numbers c.args.row.now) c.args.i) h.costs, c.of-c.ensures, c.sum_block-body.ensures.upper_bound)

pub sum_form-looped-requires : goal.sum_form-looped-requires
sum_form-looped-requires t c =
    let h = as_loop c.requires.form c.in-Loop.ensures in
    (omega (arith, cost_le c.args.cost (block_at (numbers c.args.row.now) c.args.i) h.costs, c.of-c.ensures), omega (arith, h.bound, c.detail.ensures), c.sum_block-body.ensures.upper_bound)

pub sum_form-returns-in-Loop-clause-value : goal.sum_form-returns-in-Loop-clause-value
sum_form-returns-in-Loop-clause-value t c =
    λ p. let h = as_loop p c.in-Loop.ensures in
    loop_sum (cost_in c.args.cost) c.args.sums.now h c.of-c.ensures c.detail.ensures
    (c.sum_block-body.ensures.value (body_forms p c.after-after.ensures h)) c.looped.ensures

pub sum_form-returns-in-Loop-clause-turn_after : goal.sum_form-returns-in-Loop-clause-turn_after
sum_form-returns-in-Loop-clause-turn_after t c =
    let k = cost_in c.args.cost in
    let ts = c.args.sums.now in
    let he = c.after-after.ensures in
    let b = c.sum_block-body.ensures in
    λ p. let h = as_loop p c.in-Loop.ensures in
    let q = body_forms p he h in
    loop_again (turn_rule k ts) c.args.turn.now 0 0 h (loop_note k ts h c.of-c.ensures (b.value q)) refl (b.turn_after q)

pub sum_form-sum_block-a-requires : goal.sum_form-sum_block-a-requires
sum_form-sum_block-a-requires t c =
    let z = c.requires.form in
    let hm = c.other-other.ensures in
    let d = if_ends z c.in-If.ensures hm c.after-after-in-If.ensures in
    (omega (arith, c.decreases, d, c.after-after-in-If.ensures), (c.requires.under, then_forms z hm (as_if z c.in-If.ensures)))

pub sum_form-sum_block-b-requires : goal.sum_form-sum_block-b-requires
sum_form-sum_block-b-requires t c =
    let z = c.requires.form in
    let hm = c.other-other.ensures in
    let he = c.after-after-in-If.ensures in
    let d = if_ends z c.in-If.ensures hm he in
    (omega (arith, c.decreases, d, he), (c.requires.under, else_forms z hm he (as_if z c.in-If.ensures)))

pub sum_form-overflow_add-c : goal.sum_form-overflow_add-c
sum_form-overflow_add-c t c =
    let h = as_if c.requires.form c.in-If.ensures in
    omega (arith, cost_le c.args.cost (block_at (numbers c.args.row.now) c.args.i) h.costs, c.of-c.ensures, c.max.ensures, c.sum_block-a.ensures.upper_bound, c.sum_block-b.ensures.upper_bound)

pub sum_form-returns-in-If-clause-value : goal.sum_form-returns-in-If-clause-value
sum_form-returns-in-If-clause-value t c =
    let hm = c.other-other.ensures in
    λ p. let h = as_if p c.in-If.ensures in
    if_sum (cost_in c.args.cost) c.args.sums.now h c.of-c.ensures (c.sum_block-a.ensures.value (then_forms p hm h))
    (c.sum_block-b.ensures.value (else_forms p hm c.after-after-in-If.ensures h)) c.max.ensures c.min.ensures

pub sum_form-returns-in-If-clause-turn_after : goal.sum_form-returns-in-If-clause-turn_after
sum_form-returns-in-If-clause-turn_after t c =
    let k = cost_in c.args.cost in
    let ts = c.args.sums.now in
    let hm = c.other-other.ensures in
    λ p. let h = as_if p c.in-If.ensures in
    front_if (turn_rule k ts) c.args.turn.now 0 h hm (if_turn k ts h) (c.sum_block-a.ensures.turn_after (then_forms p hm h))
    (c.sum_block-b.ensures.turn_after (else_forms p hm c.after-after-in-If.ensures h))

pub sum_form-overflow_add-c-in-Call : goal.sum_form-overflow_add-c-in-Call
sum_form-overflow_add-c-in-Call t c =
    let h = as_call c.requires.form c.in-Call.ensures in
    omega (arith, cost_le c.args.cost (block_at (numbers c.args.row.now) c.args.i) h.costs, c.of-c.ensures, c.requires.under c.callee.result)

pub sum_form-returns-in-Call-clause-value : goal.sum_form-returns-in-Call-clause-value
sum_form-returns-in-Call-clause-value t c =
    let ts = c.args.sums.now in
    λ p. call_sum (cost_in c.args.cost) ts (as_call p c.in-Call.ensures) c.of-c.ensures
    (ap (λ (y : ℕ). get_or ts y 0) c.callee.ensures.0) c.min-in-Call.ensures

pub sum_form-returns-in-Call-clause-turn_after : goal.sum_form-returns-in-Call-clause-turn_after
sum_form-returns-in-Call-clause-turn_after t c =
    let k = cost_in c.args.cost in
    let ts = c.args.sums.now in
    λ p. let h = as_call p c.in-Call.ensures in call_front (turn_rule k ts) c.args.turn.now 0 h (call_turn k ts h)

pub sum_form-returns-in-Leaf-clause-upper_bound : goal.sum_form-returns-in-Leaf-clause-upper_bound
sum_form-returns-in-Leaf-clause-upper_bound t c =
    let h = as_leaf c.requires.form c.in-Leaf.ensures in
    omega (arith, cost_le c.args.cost (block_at (numbers c.args.row.now) c.args.i) h.costs, c.of-c.ensures)

pub sum_form-returns-in-Leaf-clause-value : goal.sum_form-returns-in-Leaf-clause-value
sum_form-returns-in-Leaf-clause-value t c =
    λ p. let h = as_leaf p c.in-Leaf.ensures in
    leaf_sum (cost_in c.args.cost) c.args.sums.now h (cost_le c.args.cost (block_at (numbers c.args.row.now) c.args.i) h.costs) c.of-c.ensures

pub sum_form-returns-in-Leaf-clause-turn_after : goal.sum_form-returns-in-Leaf-clause-turn_after
sum_form-returns-in-Leaf-clause-turn_after t c =
    let k = cost_in c.args.cost in
    let ts = c.args.sums.now in
    λ p. let h = as_leaf p c.in-Leaf.ensures in leaf_front (turn_rule k ts) c.args.turn.now 0 h (leaf_turn k ts h)
