-- `stretch_visits::run_calls` meets its contract. Assumes nothing.
use Rattle.stretch_visits.specs.Private.{CallsHeld}
use Rattle.stretch_visits.proofs.Running.{Run}
use Rattle.stretch_visits.proofs.run_calls.Given as goal

abbrev pub invariant-loop-f : goal.invariant-loop-f
invariant-loop-f l = (h : CallsHeld l.priced l.initial.notes) → Run h l.f l.notes
