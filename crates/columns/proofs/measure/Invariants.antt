-- `columns::measure` meets its contract. Assumes nothing.
use Rattle.columns.proofs.Functions.{Measuring}
use Rattle.rows.specs.Costs.{cost_in}
use Rattle.columns.proofs.measure.Given as goal

abbrev pub invariant-loop-f : goal.invariant-loop-f
invariant-loop-f l = Measuring (cost_in l.cost) l.code.row.now l.code.bounds.now l.code.functions l.f l.totals l.turn
