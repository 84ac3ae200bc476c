-- `trail::put` meets its contract. Assumes nothing.
use native.Mathlib.Omega.{arith}
use Rattle.trail.proofs.Resting.{lies_le, lies_least, lies_low, left_least, put_none, put_some}
use Rattle.trail.proofs.put.Goals as goal

pub returns-then-forms : goal.returns-then-forms
returns-then-forms c = put_none c.if-forms.true

pub offset_bounds-leasts-forms : goal.offset_bounds-leasts-forms
offset_bounds-leasts-forms c =
    let q = c.requires in
    let le = lies_le q.lies in
    omega (arith, lies_low q.lies (omega (arith, c.if-forms.false)))

pub bounds-leasts-forms : goal.bounds-leasts-forms
bounds-leasts-forms c =
    let q = c.requires in
    let le = lies_le q.lies in
    omega (arith, lies_low q.lies (omega (arith, c.if-forms.false)))

pub overflow_add-leasts : goal.overflow_add-leasts
overflow_add-leasts c =
    let q = c.requires in
    let le = lies_le q.lies in
    omega (arith, lies_least q.lies (omega (arith, c.if-forms.false)), left_least q.left)

pub returns : goal.returns
returns c =
    let a = c.args in
    put_some a.leasts.now a.rests.now a.number a.forms a.behind c.min.result c.if-forms.false (omega (arith, c.requires.few)) c.min.ensures
