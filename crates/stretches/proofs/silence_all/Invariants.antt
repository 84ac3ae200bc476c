-- `stretches::silence_all` meets its contract. Assumes nothing.
use Rattle.stretches.proofs.Driving.{Keeping}
use Rattle.stretches.proofs.silence_all.Given as goal

abbrev pub invariant-loop-f : goal.invariant-loop-f
invariant-loop-f l = Keeping l.priced l.f l.heads
