use Rattle.place.proofs.enclosed.Goals as goal

pub returns : goal.returns
returns c = let (x, y) = c.opening-inner.ensures in rw (x, y) at (c.scan.ensures 62)
