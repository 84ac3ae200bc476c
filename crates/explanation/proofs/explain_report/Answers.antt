-- `explanation::explain_report` meets its contract: the answer of the call is printed, or the decision is explained at the release that it leaves open.
-- Assumes nothing.
use Rattle.std.proofs.Common.{rules, ◌∙◌, sym, arith}
use Rattle.print.proofs.Laws.{wider}
use Rattle.explanation.proofs.Explaining.{explains, report_explained, answer_told, decision_at, never_idle}
use Rattle.explanation.proofs.explain_report.Goals as goal

pub returns-then-not-is_decision : goal.returns-then-not-is_decision
returns-then-not-is_decision c =
    let a = c.args in
    let x = report_explained a.row.now a.head.now a.asked (search rules) (search rules) in
    let t = answer_told a.row.now a.head.now a.asked x c.call-step.ensures (sym c.is_decision.ensures ∙ c.if-not-is_decision.true) in
    explains (rw t (wider (omega arith) c.answer_line.ensures))

pub explain_decision-requires : goal.explain_decision-requires
explain_decision-requires c =
    let a = c.args in
    let x = report_explained a.row.now a.head.now a.asked (search rules) (search rules) in
    (decision_at a.row.now a.head.now a.asked x c.call-step.ensures (sym c.is_decision.ensures ∙ c.if-not-is_decision.false) c.in-Open.release c.in-Open.is).here

pub returns-in-Open : goal.returns-in-Open
returns-in-Open c =
    let a = c.args in
    let x = report_explained a.row.now a.head.now a.asked (search rules) (search rules) in
    let d = decision_at a.row.now a.head.now a.asked x c.call-step.ensures (sym c.is_decision.ensures ∙ c.if-not-is_decision.false) c.in-Open.release c.in-Open.is in
    explains (rw d.is_told (rw c.others_before.ensures at (c.explain_decision.ensures d.here a.asked.point)))

pub returns-in-Idle : goal.returns-in-Idle
returns-in-Idle c =
    let a = c.args in
    let x = report_explained a.row.now a.head.now a.asked (search rules) (search rules) in
    absurd (never_idle a.row.now a.head.now a.asked x c.call-step.ensures (sym c.is_decision.ensures ∙ c.if-not-is_decision.false) c.in-Idle.is)
