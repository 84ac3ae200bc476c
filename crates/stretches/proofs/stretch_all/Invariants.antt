-- `stretches::stretch_all` meets its contract. Assumes nothing.
use Rattle.stretches.proofs.Driving.{Driving}
use Rattle.rows.specs.Leaves.{numbers}
use Rattle.stretches.specs.Stretches.{PricedSummed}
use Rattle.outlook.specs.Quiets.{quiet_sum}
use Rattle.stretches.specs.Private.{head_at}
use Rattle.rows.specs.Costs.{cost_in, lent_turns_in}
use Rattle.stretches.proofs.stretch_all.Given as goal

abbrev pub invariant-loop-f : goal.invariant-loop-f
invariant-loop-f l = (v : PricedSummed l.priced) → Driving (cost_in l.priced.cost) (numbers l.priced.code.row.now) l.priced.code.bounds.now l.priced.totals.now (lent_turns_in l.priced.cost l.priced.code.row.now) l.priced.code.functions (λ g x. quiet_sum (head_at l.heads g) x) v l.f l.follows l.out l.initial.out
