-- `text::block_line` meets its contract: a pattern that fits gives the form, and the patterns before it have missed. Assumes nothing.
use Rattle.std.proofs.Common.{rules}
use Rattle.text.specs.Private.{plain_line_at, block_line_at}
use Rattle.text.proofs.Forms.{leaf_held, call_held, loop_held, if_held, answer_fit, answer_miss}
use Rattle.text.proofs.block_line.Goals as goal

pub returns-in-Some : goal.returns-in-Some
unfolding block_line_at
returns-in-Some c = answer_fit _ _ _ _ _ c.in-Some.ensures (leaf_held (search rules) c.in-Some.ensures)

pub returns-in-Some-matches_word : goal.returns-in-Some-matches_word
unfolding block_line_at
returns-in-Some-matches_word c =
    answer_miss _ _ _ _ _ c.in_default.ensures
    (answer_fit _ _ _ _ _ c.in-Some-matches_word.ensures (call_held (search rules) c.in-Some-matches_word.ensures))

pub returns-in-Some-matches_word-2 : goal.returns-in-Some-matches_word-2
unfolding block_line_at
returns-in-Some-matches_word-2 c =
    answer_miss _ _ _ _ _ c.in_default.ensures
    (answer_miss _ _ _ _ _ c.in_default-matches_word.ensures
    (answer_fit _ _ _ _ _ c.in-Some-matches_word-2.ensures (loop_held (search rules) c.in-Some-matches_word-2.ensures)))

pub returns-in-Some-matches_word-3 : goal.returns-in-Some-matches_word-3
unfolding block_line_at
returns-in-Some-matches_word-3 c =
    answer_miss _ _ _ _ _ c.in_default.ensures
    (answer_miss _ _ _ _ _ c.in_default-matches_word.ensures
    (answer_miss _ _ _ _ _ c.in_default-matches_word-2.ensures
    (answer_fit _ _ _ _ _ c.in-Some-matches_word-3.ensures (if_held (search rules) c.in-Some-matches_word-3.ensures))))

pub returns : goal.returns
unfolding block_line_at plain_line_at
returns c =
    answer_miss _ _ _ _ _ c.in_default.ensures
    (answer_miss _ _ _ _ _ c.in_default-matches_word.ensures
    (answer_miss _ _ _ _ _ c.in_default-matches_word-2.ensures
    (answer_miss _ _ _ _ _ c.in_default-matches_word-3.ensures
    c.plain_line.ensures)))
