-- `trail::onward` meets its contract. Assumes nothing.
use native.Mathlib.Omega.{arith}
use borrow.Author.Rules.{rules}
use Rattle.place.proofs.Lent.{leaf_held}
use Rattle.trail.proofs.Moving.{in_row, kind_three, call_is, loop_is, on_leaf, on_out, on_call, on_then, on_else, on_round}
use Rattle.trail.proofs.onward.Goals.{in_default-via-in-Some-Loop+else-second, in_default-via-in-Some+in_default, in_default-via-in_default}
use Rattle.trail.proofs.onward.Goals as goal

pub after-after-requires : goal.after-after-requires
after-after-requires c = let q = c.requires.there in leaf_held c.args.code.now.row.now (in_row q.lies q.there).0

pub kind_of-requires : goal.kind_of-requires
kind_of-requires c = let q = c.requires.there in leaf_held c.args.code.now.row.now (in_row q.lies q.there).0

pub target-requires : goal.target-requires
target-requires c = let q = c.requires.there in leaf_held c.args.code.now.row.now (in_row q.lies q.there).0

pub function-requires : goal.function-requires
function-requires c =
    let q = c.requires.there in
    let k = rw c.in-Some-Call.field-0-is at c.in-Some-Call.ensures in
    omega (arith, (call_is q.lies q.there k).1, q.table.fits)

pub overflow_add-result : goal.overflow_add-result
overflow_add-result c =
    let q = c.requires.there in
    let k = rw c.in-Some-Loop.field-0-is at c.in-Some-Loop.ensures in
    let (body, l, y, few, z) = loop_is q.lies q.there k in
    omega (arith, c.requires.round c.if-second.true k)

pub other-requires : goal.other-requires
other-requires c = let q = c.requires.there in leaf_held c.args.code.now.row.now (in_row q.lies q.there).0

pub other-requires-in-Some-If-2 : goal.other-requires-in-Some-If-2
other-requires-in-Some-If-2 c = let q = c.requires.there in leaf_held c.args.code.now.row.now (in_row q.lies q.there).0

pub returns-in-Some-Call : goal.returns-in-Some-Call
returns-in-Some-Call c = λ t column f noted h lt.
    let k = rw c.in-Some-Call.field-0-is at c.in-Some-Call.ensures in
    on_call h lt c.after-after.ensures noted k c.target.ensures c.function.ensures.0 c.function.ensures.1 c.whole.ensures c.args.second

pub returns-in-Some-Loop : goal.returns-in-Some-Loop
returns-in-Some-Loop c = λ t column f noted h lt.
    let k = rw c.in-Some-Loop.field-0-is at c.in-Some-Loop.ensures in
    rw c.if-second.true (on_round h lt c.after-after.ensures k (c.requires.round c.if-second.true k) c.whole-in-Some-Loop.ensures)

pub returns-in-Some-If : goal.returns-in-Some-If
returns-in-Some-If c = λ t column f noted h lt.
    let k = rw c.in-Some-If.field-0-is at c.in-Some-If.ensures in
    rw c.if-second-2.true (on_else h lt c.after-after.ensures k c.other.ensures c.whole-in-Some-If.ensures)

pub returns-in-Some-If-2 : goal.returns-in-Some-If-2
returns-in-Some-If-2 c = λ t column f noted h lt.
    let k = rw c.in-Some-If.field-0-is at c.in-Some-If.ensures in
    rw c.if-second-2.false (on_then h lt c.after-after.ensures k c.other-in-Some-If-2.ensures c.whole-in-Some-If-2.ensures)

pub returns-in_default : goal.returns-in_default
returns-in_default c = λ t column f noted h lt.
    elim c.in_default.branch [
      | in_default-via-in-Some-Loop+else-second w ↦
          let k = rw w.in-Some-Loop.field-0-is at w.in-Some-Loop.ensures in
          rw w.if-second.false (on_out h lt c.after-after.ensures k c.whole-in_default.ensures)
      | in_default-via-in-Some+in_default w ↦
          on_leaf h lt c.after-after.ensures (λ x. search rules) (λ x. search rules) (λ x. search rules) c.whole-in_default.ensures c.args.second
      | in_default-via-in_default w ↦ let k = rw w.in_default.is at c.kind_of.ensures in absurd (omega (arith, kind_three h lt))
    ]
