use Rattle.std.specs.Prelude.{◌-◌}
use Rattle.trail.proofs.+descend.Given as goal

abbrev pub decreases-descend : goal.decreases-descend
decreases-descend l = 64 - l.k
