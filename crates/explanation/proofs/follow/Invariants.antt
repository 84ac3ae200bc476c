-- `explanation::follow` meets its contract. The loop's invariant: the bytes passed were taken. Assumes nothing.
use Rattle.table.specs.Lent.{table_with}
use Rattle.explanation.proofs.Following.{carried_at, Following}
use Rattle.explanation.proofs.follow.Given as goal

abbrev pub invariant-loop-b : goal.invariant-loop-b
invariant-loop-b l = Following (table_with l.row l.head) (carried_at l.initial.line l.initial.held l.initial.seen) l.b-items l.line l.held l.seen l.b-index
