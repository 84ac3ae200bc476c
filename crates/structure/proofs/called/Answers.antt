use Rattle.structure.proofs.Callers.{marked_yes, marked_no, call_few, called_callers, callers_called}
use Prim.Native.Nat.{◌+◌, ◌-◌, ◌<◌}
use mathlib.Core.Bool.{Bool, true, false}
use mathlib.Core.List.{List}
use mathlib.Core.Path.{◌≡◌, ◌∙◌, sym}
use native.Mathlib.Omega.{arith}
use lib.ListN.{length, get_or, take}
use borrow.Author.Rules.{rules}
use Rattle.std.proofs.Common.{tests, length-take}
use Rattle.std.proofs.lemmas.List.{get_or-take}
use Rattle.std.proofs.lemmas.Iterator.{cases_from_all, YieldsList-from_slice}
use Rattle.rows.proofs.Answers.{says_by}
use Rattle.structure.proofs.called.Goals as goal

pub bounds-named-target : goal.bounds-named-target
bounds-named-target c =
    let k = rw c.in-Some-Call.field-0-is at c.in-Some-Call.ensures in
    omega (arith, call_few c.requires.plan c.loop-i.i (omega arith) k)

pub returns : goal.returns
returns c =
    let n = c.args.code.now.functions in
    let named = c.loop-i.named in
    let xs : List Bool = take (n - 1) named in
    let few = c.requires.plan.bounds.few in
    let some = c.requires.plan.bounds.some in
    let many : length xs ≡ n - 1 = omega (arith, length-take (n - 1) named, c.loop-i.invariant.count) in
    let read : c.loop-i.i ≡ get_or c.args.code.now.bounds.now n 0 = omega arith in
    let by_call = cases_from_all _ _ c.all.result (λ (x : Bool). x ≡ true) (λ (x : Bool). x ≡ false) c.all.ensures.ran (YieldsList-from_slice xs c.iter.ensures.rest) (λ x q k. search (rules, tests)) (λ x q k. search (rules, tests)) in
    λ p. says_by c.all.result by_call
    (λ all. callers_called p
    (λ f lt. marked_yes f c.loop-i.invariant (omega arith) read (sym (get_or-take (n - 1) named f false (omega arith)) ∙ all f false (omega arith) (omega arith))))
    (λ some h.
    let lt : some.0 + 1 < n = omega (arith, some.1) in
    marked_no some.0 c.loop-i.invariant (omega arith) read (sym (get_or-take (n - 1) named some.0 false (omega arith)) ∙ some.2 false) (called_callers p h some.0 lt))
