-- `text::digits_end`: the digits passed make of any value no smaller one. Assumes nothing.
use Rattle.text.proofs.Laws.{Passing}
use Rattle.text.proofs.digits_end.Given as goal

abbrev pub invariant-loop-i : goal.invariant-loop-i
invariant-loop-i l = Passing l.text l.at l.i
