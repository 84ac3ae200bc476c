use Rattle.rows.specs.Leaves.{numbers}
use Rattle.place.proofs.Lent.{leaves_held}
use Rattle.place.proofs.Views.{main_spanned}
use Rattle.model.specs.Stack.{onto}
use Rattle.place.proofs.Sights.{unmet}
use Rattle.place.proofs.Finding.{looked, first_some}
use Rattle.place.proofs.Stacking.{next_some}
use mathlib.Core.Path.{refl, ap}
use mathlib.Core.List.{[]}
use native.Mathlib.Omega.{arith}
use borrow.Author.Rules.{rules}
use borrow.Author.Tests.{not-true}
use Rattle.place.proofs.begin.Goals as goal

pub scan-requires : goal.scan-requires
scan-requires c =
    let h = main_spanned c.requires.function_table c.main_function-main.ensures.0 c.main_function-main.ensures.1 in
    record { room = leaves_held c.args.code.now.row.now h.room; left = 62; forms = h.piece }

pub returns-then-not-scan : goal.returns-then-not-scan
returns-then-not-scan c = λ p.
    let s = looked (main_spanned p c.main_function-main.ensures.0 c.main_function-main.ensures.1) c.args.x (c.scan.ensures 62) in
    (ap (onto []) (unmet s (not-true _ c.if-not-scan.true)), refl)

pub returns : goal.returns
returns c = λ p.
    let s = looked (main_spanned p c.main_function-main.ensures.0 c.main_function-main.ensures.1) c.args.x (c.scan.ensures 62) in
    next_some (numbers c.args.code.now.row.now) 0 (first_some p _ _ c.args.x s (search rules)) (λ k a b. absurd (omega arith)) c.requires.x_value c.put.ensures c.put-2.ensures
