-- `stretches::weight` meets its contract. Assumes nothing.
use Rattle.columns.proofs.Readiness.{loop_weight}
use Rattle.columns.proofs.Sizes.{leaf_lead, call_lead, not_call, not_loop}
use Rattle.rows.specs.Costs.{cost_in}
use lib.ListN.{get_or}
use Prim.Native.Nat.{ℕ, ◌+◌, ◌*◌}
use mathlib.Core.Path.{sym, ap, ◌∙◌}
use native.Mathlib.Omega.{arith}
use Rattle.columns.proofs.Inner.{as_leaf, as_call, as_loop}
use Rattle.stretches.proofs.weight.Goals as goal

pub overflow_add-result : goal.overflow_add-result
overflow_add-result c =
    let z = c.requires.ready in
    let ts = c.args.priced.now.totals.now in
    let g = ap (λ (y : ℕ). get_or ts y 0) c.callee.ensures.0 in
    omega (arith, g, c.of-c.ensures, call_lead (cost_in c.args.priced.now.cost) ts (as_call z.form c.in-Call.ensures), z.small)

pub returns-in-Call : goal.returns-in-Call
returns-in-Call c =
    let ts = c.args.priced.now.totals.now in
    let g = ap (λ (y : ℕ). get_or ts y 0) c.callee.ensures.0 in
    λ p. omega (arith, g, c.of-c.ensures, call_lead (cost_in c.args.priced.now.cost) ts (as_call p.form c.in-Call.ensures))

pub overflow_mul-result : goal.overflow_mul-result
overflow_mul-result c =
    let z = c.requires.ready in
    let e = ap (λ (u : ℕ). c.detail.result * u) c.turn.ensures in
    omega (arith, e, loop_weight z (as_loop z.form c.in-Loop.ensures) c.of-c.ensures c.detail.ensures, z.small)

pub overflow_add-result-in-Loop : goal.overflow_add-result-in-Loop
overflow_add-result-in-Loop c =
    let z = c.requires.ready in
    let e = ap (λ (u : ℕ). c.detail.result * u) c.turn.ensures in
    omega (arith, e, loop_weight z (as_loop z.form c.in-Loop.ensures) c.of-c.ensures c.detail.ensures, z.small)

pub returns-in-Loop : goal.returns-in-Loop
returns-in-Loop c =
    λ p. ap (λ (u : ℕ). c.of-c.result + c.detail.result * u) c.turn.ensures ∙
    loop_weight p (as_loop p.form c.in-Loop.ensures) c.of-c.ensures c.detail.ensures

pub returns-in_default : goal.returns-in_default
returns-in_default c =
    let k = c.form_kind in
    let d = c.in_default in
    λ p. c.of-c.ensures ∙ sym (leaf_lead (cost_in c.args.priced.now.cost) c.args.priced.now.totals.now (as_leaf p.form (omega (arith, not_call k.result k.ensures d.not-Call, not_loop k.result k.ensures d.not-Loop, c.requires.kind))))
