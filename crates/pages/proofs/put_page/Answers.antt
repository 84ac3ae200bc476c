-- `pages::put_page` meets its contract: the three heading lines, and the lines of the points behind them. Assumes nothing.
use Rattle.pages.proofs.Lines.{page_whole}
use Rattle.pages.proofs.put_page.Goals as goal

pub returns : goal.returns
returns c =
    let s = c.args in
    page_whole s.task.now s.points.now s.k c.put_line-second.ensures c.put_line-third.ensures c.put_line-fourth.ensures c.put_points.ensures
