-- `outlook::downward` meets its contract. Assumes nothing.
use Rattle.outlook.proofs.+downward.Given as goal

abbrev pub decreases-downward : goal.decreases-downward
decreases-downward l = l.l
