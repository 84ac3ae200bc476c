-- `columns::weight` meets its contract. Assumes nothing.
use Rattle.columns.proofs.Readiness.{loop_weight}
use Rattle.columns.proofs.Sizes.{leaf_lead, call_lead, not_call, not_loop}
use Rattle.model.specs.Plan.{C}
use lib.ListN.{get_or}
use Prim.Native.Nat.{ℕ}
use mathlib.Core.Path.{sym, ap, ◌∙◌}
use native.Mathlib.Omega.{arith}
use Rattle.columns.proofs.Inner.{as_leaf, as_call, as_loop}
use Rattle.columns.proofs.weight.Goals as goal

pub overflow_add-result : goal.overflow_add-result
overflow_add-result c =
    let z = c.requires.ready in
    let ts = c.args.walk.now.sums.now in
    let g = ap (λ (y : ℕ). get_or ts y 0) c.callee.ensures.0 in
    omega (arith, g, c.isolated-c.ensures, call_lead C ts (as_call z.form c.in-Call.ensures), z.small)

pub returns-in-Call : goal.returns-in-Call
returns-in-Call c =
    let ts = c.args.walk.now.sums.now in
    let g = ap (λ (y : ℕ). get_or ts y 0) c.callee.ensures.0 in
    λ p. omega (arith, g, c.isolated-c.ensures, call_lead C ts (as_call p.form c.in-Call.ensures))

pub overflow_mul-result : goal.overflow_mul-result
overflow_mul-result c =
    let z = c.requires.ready in
    omega (arith, loop_weight z (as_loop z.form c.in-Loop.ensures) c.isolated-c.ensures c.detail.ensures, z.small)

pub overflow_add-result-in-Loop : goal.overflow_add-result-in-Loop
overflow_add-result-in-Loop c =
    let z = c.requires.ready in
    omega (arith, loop_weight z (as_loop z.form c.in-Loop.ensures) c.isolated-c.ensures c.detail.ensures, z.small)

pub returns-in-Loop : goal.returns-in-Loop
returns-in-Loop c =
    λ p. loop_weight p (as_loop p.form c.in-Loop.ensures) c.isolated-c.ensures c.detail.ensures

pub returns-in_default : goal.returns-in_default
returns-in_default c =
    let k = c.form_kind in
    let d = c.in_default in
    λ p. c.isolated-c.ensures ∙ sym (leaf_lead C c.args.walk.now.sums.now (as_leaf p.form (omega (arith, not_call k.result k.ensures d.not-Call, not_loop k.result k.ensures d.not-Loop, c.requires.kind))))
