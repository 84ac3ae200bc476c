-- `trail::forked` meets its contract. Assumes nothing.
use native.Mathlib.Omega.{arith}
use borrow.Author.Rules.{rules}
use Rattle.place.proofs.Lent.{leaf_held}
use Rattle.trail.proofs.Moving.{in_row, kind_three}
use Rattle.trail.proofs.Heads.{fork_flat, fork_turn, fork_parts}
use Rattle.trail.proofs.forked.Goals as goal

pub kind_of-requires : goal.kind_of-requires
kind_of-requires c = let q = c.requires in leaf_held c.args.code.now.row.now (in_row q.lies q.there).0

pub detail-requires : goal.detail-requires
detail-requires c = let q = c.requires in leaf_held c.args.code.now.row.now (in_row q.lies q.there).0

pub returns-in-Some-Loop : goal.returns-in-Some-Loop
returns-in-Some-Loop c = λ t column f g h lt.
    let k = rw c.in-Some-Loop.field-0-is at c.in-Some-Loop.ensures in
    fork_turn h lt g k c.detail.ensures

pub returns-in-Some-If : goal.returns-in-Some-If
returns-in-Some-If c = λ t column f g h lt.
    let k = rw c.in-Some-If.field-0-is at c.in-Some-If.ensures in
    fork_parts h lt g k

pub returns-in_default : goal.returns-in_default
returns-in_default c = λ t column f g h lt. fork_flat h lt g (λ x. search rules) (λ x. search rules)

pub returns-in_default-2 : goal.returns-in_default-2
returns-in_default-2 c = λ t column f g h lt.
    let k = rw c.in_default.is at c.kind_of.ensures in
    absurd (omega (arith, kind_three h lt))
