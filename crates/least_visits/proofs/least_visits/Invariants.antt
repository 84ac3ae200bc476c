-- `least_visits::least_visits` meets its contract. Assumes nothing.
use Rattle.place.specs.Lent.{CodeTable}
use Rattle.least_visits.proofs.Functions.{Done}
use Rattle.least_visits.proofs.least_visits.Given as goal

abbrev pub invariant-loop-f : goal.invariant-loop-f
invariant-loop-f l = (h : CodeTable l.code) → Done h l.f l.notes
