-- `control::good_call` meets its contract. Assumes nothing.
use mathlib.Core.Path.{◌≡◌, refl}
use borrow.Author.Rules.{rules}
use Rattle.std.specs.Prelude.{Err}
use Rattle.model.specs.Controller.{respond}
use Rattle.rows.proofs.Answers.{said_true, said_false}
use Rattle.control.proofs.Calling.{not_standing}
use Rattle.control.proofs.good_call.Goals as goal

pub returns-in-Release : goal.returns-in-Release
unfolding respond
returns-in-Release c =
    λ q.
    let (ls, k) = said_true c.stands.result c.if-stands.true (c.stands.ensures q.costed) in
    rw (c.in-Open.is, c.in-Release.is, k) refl

pub returns-in-Report : goal.returns-in-Report
returns-in-Report c =
    λ q.
    let (ls, k) = said_true c.stands.result c.if-stands.true (c.stands.ensures q.costed) in
    rw (c.in-Open.is, c.in-Report.is, k) (c.reported_at.ensures q ls k)

pub returns-in_err-answer-in-End : goal.returns-in_err-answer-in-End
returns-in_err-answer-in-End c =
    λ q.
    let (ls, k) = said_true c.stands.result c.if-stands.true (c.stands.ensures q.costed) in
    let is : c.from_residual.result ≡ Err c.in_err-answer-in-End.field-0.0 = search rules in
    rw (c.in-Open.is, c.in-End.is, k, is) (rw c.in_err-answer-in-End.was at (c.closed_at.ensures q ls k))

pub returns-in_ok-answer-in-End : goal.returns-in_ok-answer-in-End
returns-in_ok-answer-in-End c =
    λ q.
    let (ls, k) = said_true c.stands.result c.if-stands.true (c.stands.ensures q.costed) in
    rw (c.in-Open.is, c.in-End.is, k) (rw c.in_ok-answer-in-End.was at (c.closed_at.ensures q ls k))

pub returns-in-Open-2 : goal.returns-in-Open-2
returns-in-Open-2 c =
    λ q.
    rw (c.in-Open.is, not_standing q.costed.rowed.head.plan c.in-Open.release (said_false c.stands.result c.if-stands.false (c.stands.ensures q.costed))) refl
