-- `text::plain_line` meets its contract: a pattern that fits gives the form, and the patterns before it have missed. Assumes nothing.
use Rattle.std.proofs.Common.{refl}
use Rattle.text.specs.Private.{plain_line_at}
use Rattle.text.proofs.Forms.{answer_fit, answer_miss}
use Rattle.text.proofs.plain_line.Goals as goal

pub returns-in-Some : goal.returns-in-Some
unfolding plain_line_at
returns-in-Some c = answer_fit _ _ _ _ _ c.in-Some.ensures refl

pub returns-in-Some-matches_word : goal.returns-in-Some-matches_word
unfolding plain_line_at
returns-in-Some-matches_word c =
    answer_miss _ _ _ _ _ c.in_default.ensures
    (answer_fit _ _ _ _ _ c.in-Some-matches_word.ensures refl)

pub returns-in-Some-matches_word-2 : goal.returns-in-Some-matches_word-2
unfolding plain_line_at
returns-in-Some-matches_word-2 c =
    answer_miss _ _ _ _ _ c.in_default.ensures
    (answer_miss _ _ _ _ _ c.in_default-matches_word.ensures
    (answer_fit _ _ _ _ _ c.in-Some-matches_word-2.ensures refl))

pub returns-in_err-e : goal.returns-in_err-e
unfolding plain_line_at
returns-in_err-e c =
    answer_miss _ _ _ _ _ c.in_default.ensures
    (answer_miss _ _ _ _ _ c.in_default-matches_word.ensures
    (answer_miss _ _ _ _ _ c.in_default-matches_word-2.ensures
    (answer_miss _ _ _ _ _ c.in_err-e.ensures c.from_residual.ensures)))

pub returns : goal.returns
unfolding plain_line_at
returns c =
    answer_miss _ _ _ _ _ c.in_default.ensures
    (answer_miss _ _ _ _ _ c.in_default-matches_word.ensures
    (answer_miss _ _ _ _ _ c.in_default-matches_word-2.ensures
    (answer_fit _ _ _ _ _ c.in_ok-e.ensures refl)))
