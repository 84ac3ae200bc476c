-- `text::number`: the value is that of the digits passed, up to the limit. Assumes nothing.
use Rattle.text.proofs.Laws.{Reading}
use Rattle.text.proofs.number.Given as goal

abbrev pub invariant-loop-i : goal.invariant-loop-i
invariant-loop-i l = Reading l.limit l.text l.at l.value l.i
