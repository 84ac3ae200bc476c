-- `enumeration::enumerate` meets its contract. Assumes nothing.
use Rattle.table.proofs.Heads.{head_read, planned}
use Rattle.enumeration.proofs.Showing.{same_lines}
use Rattle.enumeration.proofs.Reading.{lines_read, lines_refused}
use Rattle.enumeration.proofs.enumerate.Goals as goal

pub show_plan-requires-clause-table : goal.show_plan-requires-clause-table
show_plan-requires-clause-table g c =
    let r = head_read c.args.text.now c.in-Ok.ensures.answers in (r.of, planned r _ c.in-Ok.ensures.row)

pub returns-in-Ok : goal.returns-in-Ok
returns-in-Ok g c =
    let r = head_read c.args.text.now c.in-Ok.ensures.answers in
    same_lines (lines_read r) (c.show_plan.ensures r.of (planned r _ c.in-Ok.ensures.row))

pub returns-in-Err : goal.returns-in-Err
returns-in-Err g c = same_lines (lines_refused c.args.text.now c.in-Err.ensures.answers) c.show_refusal.ensures
