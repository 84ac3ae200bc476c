-- `stretch_visits::visit` meets its contract. Assumes nothing.
use native.Mathlib.Omega.{arith}
use Rattle.stretch_visits.proofs.Summing.{grown}
use Rattle.stretch_visits.proofs.visit.Goals as goal

pub returns-then-of-gt0-clause-grown : goal.returns-then-of-gt0-clause-grown
returns-then-of-gt0-clause-grown c = grown (omega arith)
