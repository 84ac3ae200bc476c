-- `columns::tails_agree` meets its contract. Assumes nothing.
use Prim.Native.Nat.{ℕ}
use native.Mathlib.Omega.{arith}
use mathlib.Core.Bool.{true, false}
use mathlib.Core.Path.{refl}
use Rattle.std.proofs.Common.{rules, tests}
use Rattle.std.proofs.lemmas.Iterator.{cases_from_all, YieldsList-from_range}
use Rattle.rows.proofs.Leaves.{numbers_length}
use Rattle.rows.specs.Plans.{lines_of}
use Rattle.columns.specs.declared.Lent.{Lent}
use Rattle.columns.specs.Private.{FunctionAnswer}
use Rattle.columns.proofs.Fitting.{fits_derived, derived_fits}
use Rattle.columns.proofs.Ranges.{all_says}
use Rattle.columns.proofs.tails_agree.Goals as goal

pub returns-then-settled : goal.returns-then-settled
returns-then-settled c =
    let row = c.args.code.now.row.now in
    let n = c.args.code.now.functions in
    let lent : Lent = record { code = c.args.code.now; sums = c.args.sums } in
    let so = λ (f : ℕ). FunctionAnswer lent f true in
    let not_so = λ (f : ℕ). FunctionAnswer lent f false in
    λ v. all_says {P = so} {Q = not_so} n c.all.result
    (cases_from_all _ _ _ so not_so c.all.ensures.ran (YieldsList-from_range 0 n n refl (omega arith)) (λ x q k. search (rules, tests)) (λ x q k. search (rules, tests)))
    (λ h. fits_derived c.args.sums.now c.args.code.now.bounds.now (lines_of v) row (omega (arith, v.bounds.held, numbers_length row)) (λ f l. (h f l).says v) c.if-settled.ensures)
    (λ j l w a. w.says v (derived_fits c.args.sums.now c.args.code.now.bounds.now (lines_of v) row a j l))
