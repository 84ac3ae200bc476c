-- `reader::whole_task` meets its contract: the first line, then the functions. Assumes nothing.
use lib.ListN.{length}
use Rattle.reader.proofs.Tasks.{head_means, text_refused}
use Rattle.reader.proofs.whole_task.Goals as goal
use Rattle.std.specs.Prelude.{Ok, Err}
use Rattle.std.proofs.Common.{rules}
use mathlib.Core.Path.{◌≡◌, sym, ◌∙◌}

pub functions-requires : goal.functions-requires
functions-requires c =
    let e : c.task_line.result ≡ Ok (c.in_ok-deadline.deadline, c.in_ok-deadline.switch, c.in_ok-deadline.edition, c.in_ok-deadline.end) = search rules in
    let opened = head_means c.args.text.now (length c.args.row.now) (sym e ∙ c.task_line.ensures) in
    (opened.0, opened.1)

pub returns-in_err-deadline-clause-reads : goal.returns-in_err-deadline-clause-reads
returns-in_err-deadline-clause-reads c =
    let e : c.task_line.result ≡ Err c.in_err-deadline.field-0.0.refusal = search rules in
    let f : c.from_residual.result ≡ Err (record { refusal = c.in_err-deadline.field-0.0.refusal; line = 1 }) = search rules in
    rw f (text_refused (head_means c.args.text.now (length c.args.row.now) (sym e ∙ c.task_line.ensures)))
