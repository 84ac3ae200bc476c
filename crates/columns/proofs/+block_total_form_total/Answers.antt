-- `columns::block_total` and `columns::form_total`, which call each other, meet their contracts. Assumes nothing.
use mathlib.Core.Path.{refl, ap}
use Prim.Native.Nat.{ℕ}
use native.Mathlib.Omega.{arith}
use lib.ListN.{get_or}
use Rattle.rows.specs.Leaves.{numbers}
use Rattle.rows.specs.Costs.{cost_in, lent_turns_in}
use Rattle.rows.specs.Rows.{block_at}
use Rattle.rows.proofs.Shape.{ends, flat_end}
use Rattle.columns.proofs.Capped.{cost_le}
use Rattle.columns.proofs.Summing.{leaf_sum, call_sum}
use Rattle.columns.proofs.Inner.{as_leaf, as_call, as_loop, as_if, ends_at, if_ends, body_forms, then_forms, else_forms, first_form}
use Rattle.columns.proofs.Adding.{flat_total, loop_refuse, loop_total, then_refuse, else_refuse, if_total, add_start, add_refuse, add_next, add_end}
use Rattle.columns.proofs.+block_total_form_total.Goals as goal

pub block_total-loop-i-init : goal.block_total-loop-i-init
block_total-loop-i-init t c =
    let a = c.args.priced.now in
    (omega arith, omega arith, λ p. add_start (cost_in a.cost) a.totals.now (lent_turns_in a.cost a.code.row.now) p)

pub block_total-form_total-requires : goal.block_total-form_total-requires
block_total-form_total-requires t c =
    let lt = c.loop-i-test.true in
    let v = c.loop-i.invariant in
    let p = (v.2 c.requires).more in
    (omega (arith, c.decreases, v.0, ends lt p.part), first_form lt p)

pub block_total-returns-in_err-total : goal.block_total-returns-in_err-total
block_total-returns-in_err-total t c =
    let a = c.args.priced.now in
    let lt = c.loop-i-test.true in
    rw c.from_residual.ensures (λ p.
    let q = c.loop-i.invariant.2 p in
    add_refuse (cost_in a.cost) a.totals.now (lent_turns_in a.cost a.code.row.now) q lt (c.in_err-total.ensures (first_form lt q.more)))

pub block_total-overflow_add-acc : goal.block_total-overflow_add-acc
block_total-overflow_add-acc t c =
    let lt = c.loop-i-test.true in
    let v = c.loop-i.invariant in
    omega (arith, v.1, (c.in_ok-total.ensures (first_form lt (v.2 c.requires).more)).1)

pub block_total-next-i-requires : goal.block_total-next-i-requires
block_total-next-i-requires t c =
    let lt = c.loop-i-test.true in
    let p = (c.loop-i.invariant.2 c.requires).more in
    (omega (arith, lt, p.held), λ k. flat_end lt p.part k)

pub block_total-loop-i-smaller : goal.block_total-loop-i-smaller
block_total-loop-i-smaller t c = omega (arith, ends c.loop-i-test.true (c.loop-i.invariant.2 c.requires).more.part, c.next-i.ensures)

pub block_total-loop-i-preserved : goal.block_total-loop-i-preserved
block_total-loop-i-preserved t c =
    let a = c.args.priced.now in
    let lt = c.loop-i-test.true in
    let v = c.loop-i.invariant in (
      omega (arith, v.0, ends lt (v.2 c.requires).more.part, c.next-i.ensures),
      omega (arith, c.min-acc.ensures),
      λ p. let q = v.2 p in
          add_next (cost_in a.cost) a.totals.now (lent_turns_in a.cost a.code.row.now) q lt (c.in_ok-total.ensures (first_form lt q.more)) c.min-acc.ensures c.next-i.ensures,
    )

pub block_total-returns : goal.block_total-returns
block_total-returns t c =
    let a = c.args.priced.now in
    let v = c.loop-i.invariant in
    λ p. add_end (cost_in a.cost) a.totals.now (lent_turns_in a.cost a.code.row.now) (v.2 p) c.loop-i-test.false v.1

pub form_total-block_total-requires : goal.form_total-block_total-requires
form_total-block_total-requires t c =
    let z = c.requires in
    let he = c.after.ensures in
    (omega (arith, c.decreases, ends_at z he), body_forms z he (as_loop z c.in-Loop.ensures))

pub form_total-returns-in_err-body-in-Loop : goal.form_total-returns-in_err-body-in-Loop
form_total-returns-in_err-body-in-Loop t c =
    let a = c.args.priced.now in
    rw c.from_residual.ensures (λ p.
    let h = as_loop p c.in-Loop.ensures in
    loop_refuse (cost_in a.cost) a.totals.now (lent_turns_in a.cost a.code.row.now) h (c.in_err-body-in-Loop.ensures (body_forms p c.after.ensures h)))

pub form_total-overflow_add-c : goal.form_total-overflow_add-c
form_total-overflow_add-c t c =
    let a = c.args.priced.now in
    let z = c.requires in
    let h = as_loop z c.in-Loop.ensures in
    omega (arith, cost_le a.cost (block_at (numbers a.code.row.now) c.args.i) h.costs, c.of-c.ensures, (c.in_ok-body-in-Loop.ensures (body_forms z c.after.ensures h)).1)

pub form_total-looped-requires : goal.form_total-looped-requires
form_total-looped-requires t c =
    let a = c.args.priced.now in
    let z = c.requires in
    let h = as_loop z c.in-Loop.ensures in (
      omega (arith, cost_le a.cost (block_at (numbers a.code.row.now) c.args.i) h.costs, c.of-c.ensures),
      omega (arith, h.bound, c.detail.ensures),
      omega (arith, (c.in_ok-body-in-Loop.ensures (body_forms z c.after.ensures h)).1),
    )

pub form_total-returns-in_ok-body-in-Loop : goal.form_total-returns-in_ok-body-in-Loop
form_total-returns-in_ok-body-in-Loop t c =
    let a = c.args.priced.now in
    λ p. let h = as_loop p c.in-Loop.ensures in
    loop_total (cost_in a.cost) a.totals.now (lent_turns_in a.cost a.code.row.now) h c.of-c.ensures c.detail.ensures
    (c.in_ok-body-in-Loop.ensures (body_forms p c.after.ensures h)) c.turn-turn.ensures c.looped.ensures c.then_some.ensures

pub form_total-block_total-requires-in-If : goal.form_total-block_total-requires-in-If
form_total-block_total-requires-in-If t c =
    let z = c.requires in
    let hm = c.other-other.ensures in
    (omega (arith, c.decreases, if_ends z c.in-If.ensures hm refl), then_forms z hm (as_if z c.in-If.ensures))

pub form_total-returns-in_err-a-in-If : goal.form_total-returns-in_err-a-in-If
form_total-returns-in_err-a-in-If t c =
    let a = c.args.priced.now in
    let hm = c.other-other.ensures in
    rw c.from_residual-in_err-a-in-If.ensures (λ p.
    let h = as_if p c.in-If.ensures in
    then_refuse (cost_in a.cost) a.totals.now (lent_turns_in a.cost a.code.row.now) p.some p.part h hm (c.in_err-a-in-If.ensures (then_forms p hm h)))

pub form_total-block_total-requires-in-If-2 : goal.form_total-block_total-requires-in-If-2
form_total-block_total-requires-in-If-2 t c =
    let z = c.requires in
    let hm = c.other-other.ensures in
    let he = c.after-in-If.ensures in
    (omega (arith, c.decreases, if_ends z c.in-If.ensures hm he, he), else_forms z hm he (as_if z c.in-If.ensures))

pub form_total-returns-in_err-b-in-If : goal.form_total-returns-in_err-b-in-If
form_total-returns-in_err-b-in-If t c =
    let a = c.args.priced.now in
    let hm = c.other-other.ensures in
    rw c.from_residual-in_err-b-in-If.ensures (λ p.
    let h = as_if p c.in-If.ensures in
    else_refuse (cost_in a.cost) a.totals.now (lent_turns_in a.cost a.code.row.now) p.some p.part h hm
    (c.in_err-b-in-If.ensures (else_forms p hm c.after-in-If.ensures h)))

pub form_total-overflow_add-c-in-If : goal.form_total-overflow_add-c-in-If
form_total-overflow_add-c-in-If t c =
    let a = c.args.priced.now in
    let z = c.requires in
    let hm = c.other-other.ensures in
    let h = as_if z c.in-If.ensures in
    omega (
      arith,
      cost_le a.cost (block_at (numbers a.code.row.now) c.args.i) h.costs,
      c.of-c.ensures,
      c.max.ensures,
      (c.in_ok-a-in-If.ensures (then_forms z hm h)).1,
      (c.in_ok-b-in-If.ensures (else_forms z hm c.after-in-If.ensures h)).1,
    )

pub form_total-returns-in_ok-b-in-If : goal.form_total-returns-in_ok-b-in-If
form_total-returns-in_ok-b-in-If t c =
    let a = c.args.priced.now in
    let hm = c.other-other.ensures in
    let kind = c.in-If.ensures in
    λ p. let h = as_if p kind in
    if_total (cost_in a.cost) a.totals.now (lent_turns_in a.cost a.code.row.now) p.some p.part h hm kind c.of-c.ensures
    (c.in_ok-a-in-If.ensures (then_forms p hm h)) (c.in_ok-b-in-If.ensures (else_forms p hm c.after-in-If.ensures h))
    c.max.ensures c.turn-turn.ensures c.min.ensures c.then_some-in-If.ensures

pub form_total-overflow_add-c-in-Call : goal.form_total-overflow_add-c-in-Call
form_total-overflow_add-c-in-Call t c =
    let a = c.args.priced.now in
    let h = as_call c.requires c.in-Call.ensures in
    omega (arith, cost_le a.cost (block_at (numbers a.code.row.now) c.args.i) h.costs, c.of-c.ensures, c.min-total.ensures)

pub form_total-returns-in-Call : goal.form_total-returns-in-Call
form_total-returns-in-Call t c =
    let a = c.args.priced.now in
    let kind = c.in-Call.ensures in
    let called = ap (λ (y : ℕ). get_or a.totals.now y 0) c.callee.ensures.0 in
    λ p. flat_total (cost_in a.cost) a.totals.now (lent_turns_in a.cost a.code.row.now) p.some p.part (omega (arith, kind)) c.turn-turn.ensures
    (call_sum (cost_in a.cost) a.totals.now (as_call p kind) c.of-c.ensures called (omega (arith, c.min-in-Call.ensures, c.min-total.ensures)))
    c.then_some-in-Call.ensures

pub form_total-returns-in-Leaf : goal.form_total-returns-in-Leaf
form_total-returns-in-Leaf t c =
    let a = c.args.priced.now in
    let kind = c.in-Leaf.ensures in
    λ p. let h = as_leaf p kind in
    flat_total (cost_in a.cost) a.totals.now (lent_turns_in a.cost a.code.row.now) p.some p.part (omega (arith, kind)) c.turn-turn.ensures
    (leaf_sum (cost_in a.cost) a.totals.now h (cost_le a.cost (block_at (numbers a.code.row.now) c.args.i) h.costs) c.of-c.ensures)
    c.then_some-in-Leaf.ensures
