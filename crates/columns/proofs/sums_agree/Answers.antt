-- `columns::sums_agree` meets its contract. Assumes nothing.
use Prim.Native.Nat.{ℕ}
use native.Mathlib.Omega.{arith}
use mathlib.Core.Bool.{true, false}
use mathlib.Core.Path.{refl}
use Rattle.std.proofs.Common.{rules, tests}
use Rattle.std.proofs.lemmas.Iterator.{cases_from_all, YieldsList-from_range}
use Rattle.rows.specs.Plans.{lines_of}
use Rattle.rows.specs.Costs.{cost_in, lent_turns_in}
use Rattle.columns.specs.Private.{SumAnswer}
use Rattle.columns.proofs.Adding.{lent_long, fits_summed, summed_fits}
use Rattle.columns.proofs.Ranges.{all_says}
use Rattle.columns.proofs.sums_agree.Goals as goal

pub returns-then-settled : goal.returns-then-settled
returns-then-settled c =
    let a = c.args.priced.now in
    let n = a.code.functions in
    let o = lent_turns_in a.cost a.code.row.now in
    let so = λ (f : ℕ). SumAnswer a f true in
    let not_so = λ (f : ℕ). SumAnswer a f false in
    λ v. all_says {P = so} {Q = not_so} n c.all.result
    (cases_from_all _ _ _ so not_so c.all.ensures.ran (YieldsList-from_range 0 n n refl (omega arith)) (λ x q k. search (rules, tests)) (λ x q k. search (rules, tests)))
    (λ h. fits_summed (cost_in a.cost) a.totals.now o a.code.bounds.now (lines_of v) (lent_long a.cost a.code.row.now v) (λ f l. (h f l).says v) c.if-settled.ensures)
    (λ j l w z. w.says v (summed_fits (cost_in a.cost) a.totals.now o a.code.bounds.now (lines_of v) z j l))
