use Rattle.place.proofs.+fall.Given as goal

abbrev pub decreases-fall : goal.decreases-fall
decreases-fall l = l.l
