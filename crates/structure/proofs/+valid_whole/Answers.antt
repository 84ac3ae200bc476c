use Rattle.structure.proofs.Deciding.{head_of, head_sound, head_flat, head_loop, head_if, head_body, head_then, head_else, join, nothing}
use Rattle.rows.proofs.Shape.{rep_le, after, flat_end}
use Rattle.rows.specs.Leaves.{numbers}
use mathlib.Core.Path.{refl}
use native.Mathlib.Omega.{arith}
use borrow.Author.Rules.{rules}
use borrow.Author.Tests.{eqb-true, eqb-false}
use Rattle.rows.proofs.Answers.{says, same_answer}
use Rattle.structure.proofs.+valid_whole.Goals as goal

pub valid-returns-then-not-whole : goal.valid-returns-then-not-whole
valid-returns-then-not-whole t c = λ p. c.if-not-whole.ensures (head_of c.loop-i-test.true (c.loop-i.invariant.1 p))

pub valid-next-i-requires : goal.valid-next-i-requires
valid-next-i-requires t c =
    let h = c.if-not-whole.ensures in
    (search rules, λ k. flat_end h.grows h.part k)

pub valid-loop-i-preserved : goal.valid-loop-i-preserved
valid-loop-i-preserved t c = (
  λ p. c.loop-i.invariant.0 (join c.next-i.ensures c.if-not-whole.ensures p),
  λ p. after c.loop-i-test.true (c.loop-i.invariant.1 p) c.next-i.ensures,
)

pub valid-returns : goal.valid-returns
valid-returns t c =
    says _ (λ e. c.loop-i.invariant.0 (nothing (eqb-true _ _ e)))
    (λ e p.
    let q = c.loop-i.invariant.1 p in
    eqb-false _ _ e (omega (arith, rep_le (numbers c.args.row.now) c.args.l c.loop-i.i c.args.to q.lines q.rep)))

pub whole-returns-then-not-sound : goal.whole-returns-then-not-sound
whole-returns-then-not-sound t c = λ h. c.if-not-sound.ensures (head_sound h)

pub whole-returns-in-Some-Loop : goal.whole-returns-in-Some-Loop
whole-returns-in-Some-Loop t c =
    let k = rw c.in-Some-Loop.field-0-is at c.in-Some-Loop.ensures in
    same_answer c.valid.result (head_loop c.if-not-sound.ensures refl k c.after-after.ensures (omega arith))
    (λ h. head_body h refl k c.after-after.ensures (omega arith)) c.valid.ensures

pub whole-returns-then-valid : goal.whole-returns-then-valid
whole-returns-then-valid t c =
    let k = rw c.in-Some-If.field-0-is at c.in-Some-If.ensures in
    same_answer c.valid-then-valid.result (head_if c.if-not-sound.ensures refl k c.other-other.ensures c.after-after.ensures c.if-valid.ensures)
    (λ h. head_else h refl k c.other-other.ensures c.after-after.ensures) c.valid-then-valid.ensures

pub whole-returns-else-valid : goal.whole-returns-else-valid
whole-returns-else-valid t c =
    let k = rw c.in-Some-If.field-0-is at c.in-Some-If.ensures in
    rw c.if-valid.false (λ h. c.if-valid.ensures (head_then h refl k c.other-other.ensures))

pub whole-returns-in_default : goal.whole-returns-in_default
whole-returns-in_default t c = head_flat c.if-not-sound.ensures refl (λ x. search rules) (λ x. search rules)
