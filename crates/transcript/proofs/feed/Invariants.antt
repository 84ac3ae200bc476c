-- `transcript::feed` meets its contract. The loop's invariant: the bytes passed were taken, 128 bytes at most being printed for each.
-- Assumes nothing.
use Rattle.table.specs.Lent.{table_with}
use Rattle.transcript.proofs.Feeding.{carried_at, Feeding}
use Rattle.transcript.proofs.feed.Given as goal

abbrev pub invariant-loop-b : goal.invariant-loop-b
invariant-loop-b l = Feeding (table_with l.row l.head) (carried_at l.initial.line l.initial.held l.initial.told) l.b-items l.initial.out l.out l.line l.held l.told l.b-index
