-- `table::derive_all` meets its contract. Assumes nothing.
use mathlib.Core.Bool.{false}
use mathlib.Core.Logic.{inl, inr}
use mathlib.Core.Path.{◌≡◌, ap, ◌∙◌}
use native.Mathlib.Omega.{arith}
use lib.ListN.{length}
use Rattle.table.specs.Accepting.{short?}
use Rattle.table.proofs.Deriving.{long_isolated, long_loaded, row_summed, row_over, row_sums, row_tails, derives}
use borrow.Author.Rules.{rules}
use Rattle.table.proofs.derive_all.Goals as goal

pub returns-then-total-gt-LIMIT : goal.returns-then-total-gt-LIMIT
returns-then-total-gt-LIMIT c =
    let x = c.measure-totals.ensures.measured in
    let y = c.measure-max_load_totals.ensures.measured in
    λ p q same.
    let long : short? p ≡ false =
    elim c.then-total-gt-LIMIT.either [ inl h ↦ long_isolated p (row_over q p same x h) | inr h ↦ long_loaded p (row_over q p same y h.1) ] in
    long

pub tails-requires-clause-summed : goal.tails-requires-clause-summed
tails-requires-clause-summed c = row_summed c.requires.structured c.measure-totals.ensures.measured c.if-total-gt-LIMIT.false

pub returns : goal.returns
returns c =
    let x = c.measure-totals.ensures in
    let y = c.measure-max_load_totals.ensures in
    let low = c.if-total-gt-LIMIT.false in
    let light = c.if-max_load_total-gt-LIMIT.false in
    let totals-long : length c.measure-totals.result ≡ 16 = search (rules, c.measure-totals.type_inv) in
    let loads-long : length c.measure-max_load_totals.result ≡ 16 = search (rules, c.measure-max_load_totals.type_inv) in
    let tails-long : length c.args.columns.now.tails ≡ 512 = search rules in λ p q same.
    derives p
    (row_sums q p same x.measured low (record { long = totals-long; behind = x.by_index.0; wide = omega (arith, q.plan.small, x.by_index.1) }))
    (row_sums q p same y.measured light (record { long = loads-long; behind = y.by_index.0; wide = omega (arith, q.plan.small, y.by_index.1) }))
    (row_tails q c.args.columns.now.tails p same x.measured low tails-long c.tails.ensures) (ap length same ∙ q.plan.count)
