-- `pages::put_blanks` meets its contract. Assumes nothing.
use Rattle.pages.proofs.Lines.{blank_more}
use Rattle.pages.proofs.put_blanks.Goals as goal

pub loop-i-preserved : goal.loop-i-preserved
loop-i-preserved c = blank_more c.loop-i._i c.loop-i.invariant c.put_bytes-end.ensures
