-- `stretch_visits::enter` meets its contract. Assumes nothing.
use native.Mathlib.Omega.{arith}
use Rattle.stretch_visits.proofs.Summing.{grown}
use Rattle.stretch_visits.proofs.enter.Goals as goal

pub returns-then-priced-function-gt0-clause-grown : goal.returns-then-priced-function-gt0-clause-grown
returns-then-priced-function-gt0-clause-grown c = rw c.target-function.ensures (grown (omega arith))
