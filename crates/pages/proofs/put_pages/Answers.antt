-- `pages::put_pages` meets its contract. The loop's invariant: the pages passed are written. Assumes nothing.
use Rattle.pages.proofs.Lines.{no_pages, page_more}
use Rattle.pages.proofs.put_pages.Goals as goal

pub loop-k-init : goal.loop-k-init
loop-k-init c =
    let s = c.args in
    no_pages s.task.now s.points.now s.out.now

pub loop-k-preserved : goal.loop-k-preserved
loop-k-preserved c = page_more c.args.task.now c.args.points.now c.loop-k.k c.loop-k.invariant c.put_page-end.ensures
