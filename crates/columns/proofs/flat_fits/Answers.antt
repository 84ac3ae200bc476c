-- `columns::flat_fits` meets its contract. Assumes nothing.
use native.Mathlib.Omega.{arith}
use mathlib.Core.Path.{ap}
use Prim.Native.Nat.{ℕ, ◌-◌}
use lib.ListN.{get_or}
use Rattle.model.specs.Plan.{C}
use Rattle.columns.proofs.Sizes.{leaf_lead, call_lead, not_call}
use Rattle.columns.proofs.Fitting.{says_same, says_above}
use Rattle.columns.proofs.Inner.{as_leaf, as_call}
use Rattle.columns.proofs.flat_fits.Goals as goal

pub returns-then-total-d : goal.returns-then-total-d
returns-then-total-d c =
    let ts = c.args.lent.now.sums.now in
    let g = ap (λ (x : ℕ). get_or ts x 0) c.callee.ensures.0 in
    λ p. let h = call_lead C ts (as_call p c.in-Call.ensures) in
    says_same (c.args.d - get_or ts c.callee.result 0) c.isolated-c.result (λ e. omega (arith, e, c.if-total-d.true, g, c.isolated-c.ensures, h)) (λ e. omega (arith, e, g, c.isolated-c.ensures, h))

pub returns-else-total-d : goal.returns-else-total-d
returns-else-total-d c =
    let ts = c.args.lent.now.sums.now in
    let g = ap (λ (x : ℕ). get_or ts x 0) c.callee.ensures.0 in
    λ p. let h = call_lead C ts (as_call p c.in-Call.ensures) in
    says_above (get_or ts c.callee.result 0) c.args.d c.if-total-d.false (λ e. omega (arith, e, c.if-total-d.false, g, h))

pub returns-in_default : goal.returns-in_default
returns-in_default c =
    let k = c.form_kind in
    λ p. let h = leaf_lead C c.args.lent.now.sums.now (as_leaf p (omega (arith, not_call k.result k.ensures c.in_default.not-Call, c.requires.kind))) in
    says_same c.args.d c.isolated-c.result (λ e. omega (arith, e, c.isolated-c.ensures, h)) (λ e. omega (arith, e, c.isolated-c.ensures, h))
