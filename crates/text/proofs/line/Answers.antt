-- `text::line` meets its contract: a task line gives its form, and any other line is read as one of a block or without numbers. Assumes nothing.
use Rattle.std.proofs.Common.{rules}
use Rattle.text.specs.Grammar.{line_form, read_at}
use Rattle.text.specs.Private.{block_line_at}
use Rattle.text.proofs.Forms.{task_held, resume_held, answer_fit, answer_miss}
use Rattle.text.proofs.line.Goals as goal

pub returns-in-Some : goal.returns-in-Some
unfolding read_at line_form
returns-in-Some c = answer_fit _ _ _ _ _ c.in-Some.ensures (task_held (search rules) c.in-Some.ensures)

pub returns-in-Some-matches_word : goal.returns-in-Some-matches_word
unfolding read_at line_form
returns-in-Some-matches_word c =
    answer_miss _ _ _ _ _ c.in_default.ensures
    (answer_fit _ _ _ _ _ c.in-Some-matches_word.ensures (resume_held (search rules) c.in-Some-matches_word.ensures))

pub returns : goal.returns
unfolding read_at line_form block_line_at
returns c =
    answer_miss _ _ _ _ _ c.in_default.ensures
    (answer_miss _ _ _ _ _ c.in_default-matches_word.ensures c.block_line.ensures)
