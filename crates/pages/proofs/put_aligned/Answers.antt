-- `pages::put_aligned` meets its contract: the blanks, and the number behind them. Assumes nothing.
use Rattle.print.proofs.Laws.{behind}
use Rattle.pages.specs.Sheet.{right_aligned}
use Rattle.pages.proofs.put_aligned.Goals as goal

pub returns : goal.returns
unfolding right_aligned
returns c = behind (rw (c.saturating_sub.ensures, c.digit_count.ensures) at c.put_blanks-first.ensures) c.put_number.ensures
