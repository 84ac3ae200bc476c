-- `stretch_visits::levels` meets its contract. Assumes nothing.
use Rattle.stretch_visits.proofs.+levels.Given as goal

abbrev pub decreases-levels : goal.decreases-levels
decreases-levels l = l.l
