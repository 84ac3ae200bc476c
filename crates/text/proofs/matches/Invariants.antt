-- `text::matches`: the signs passed have taken the line up to here, and the lent row has the numbers found. Assumes nothing.
use Rattle.text.proofs.Laws.{Matching}
use Rattle.text.proofs.matches.Given as goal

abbrev pub invariant-loop-t : goal.invariant-loop-t
invariant-loop-t l = Matching l.limit l.text l.at l.pattern l.initial.row l.f l.row l.i l.t-index
