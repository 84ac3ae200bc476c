-- `stretches::stretch_flat` meets its contract. Assumes nothing.
use Rattle.stretches.proofs.Widening as wide
use Rattle.columns.proofs.Capped.{cost_le}
use Rattle.columns.proofs.Sizes.{not_call}
use Rattle.stretches.specs.Stretches.{leaf_stretch, follow_call}
use Rattle.outlook.specs.Quiets.{quiet_sum}
use Rattle.stretches.specs.Private.{head_at}
use Rattle.rows.specs.Costs.{cost_in}
use Rattle.rows.specs.Leaves.{numbers}
use Rattle.rows.specs.Rows.{kind_at, block_at}
use lib.ListN.{set}
use Prim.Native.Nat.{ℕ}
use mathlib.Core.Path.{◌≡◌, ap, ◌∙◌}
use native.Mathlib.Omega.{arith}
use Rattle.columns.proofs.Inner.{as_leaf, as_call}
use Rattle.stretches.proofs.stretch_flat.Goals as goal

pub put_stretch-requires : goal.put_stretch-requires
put_stretch-requires c =
    let z = c.requires.form in
    let u = c.requires.under in
    let h = as_call z c.in-Call.ensures in
    let q = head_at c.args.heads.now c.callee-f.result in (
      omega (arith, z.some, z.held),
      cost_le c.args.priced.now.cost (block_at (numbers c.args.priced.now.code.row.now) c.args.i) h.costs,
      omega (arith, c.before-in-Call.ensures, wide.quiet_le q c.args.s (u.0 c.callee-f.result), u.1),
      omega (arith, z.some, z.few),
    )

pub put_stretch-requires-in_default : goal.put_stretch-requires-in_default
put_stretch-requires-in_default c =
    let z = c.requires.form in
    let k = c.form_kind in
    let h = as_leaf z (omega (arith, not_call k.result k.ensures c.in_default.not-Call, c.requires.kind)) in
    (omega (arith, z.some, z.held), cost_le c.args.priced.now.cost (block_at (numbers c.args.priced.now.code.row.now) c.args.i) h.costs, omega (arith, c.requires.under.1), omega (arith, z.some, z.few))

pub returns-in-Call : goal.returns-in-Call
returns-in-Call c =
    let k = cost_in c.args.priced.now.cost in
    let x = c.args.s in
    let o = c.args.out.now in
    let a = c.args.follows.now in
    let q : ℕ → ℕ → ℕ = λ f y. quiet_sum (head_at c.args.heads.now f) y in
    let e = c.before-in-Call.ensures ∙ ap (λ (f : ℕ). q f x) c.callee-f.ensures.0 in record {
      out_after = (λ p. wide.put_call k c.args.priced.now.totals.now q x o (as_call p c.in-Call.ensures)
          (c.put_stretch.ensures ∙ ap (λ (y : ℕ). set o c.args.i (leaf_stretch k (block_at (numbers c.args.priced.now.code.row.now) c.args.i) y)) e));
      follows_after = λ p. wide.call_follows k c.args.priced.now.totals.now x a (as_call p c.in-Call.ensures)
          (ap (λ (y : ℕ). set a c.callee-f.result y) c.max.ensures ∙ ap (λ (f : ℕ). follow_call a f x) c.callee-f.ensures.0);
    }

pub returns-in_default : goal.returns-in_default
returns-in_default c =
    let k = cost_in c.args.priced.now.cost in
    let z = c.form_kind in
    let q : ℕ → ℕ → ℕ = λ f y. quiet_sum (head_at c.args.heads.now f) y in
    let leaf : kind_at (numbers c.args.priced.now.code.row.now) c.args.i ≡ 0 = omega (arith, not_call z.result z.ensures c.in_default.not-Call, c.requires.kind) in record {
      out_after = (λ p. wide.put_leaf k c.args.priced.now.totals.now q c.args.s c.args.out.now (as_leaf p leaf) c.put_stretch-in_default.ensures);
      follows_after = λ p. wide.leaf_follows k c.args.priced.now.totals.now c.args.s c.args.follows.now (as_leaf p leaf);
    }
