-- `stretches::stretch_block`, `stretches::stretch_form` and `stretches::stretch_if`, which call one another, meet their contracts. Assumes nothing.
use Rattle.columns.proofs.Backing.{Back}
use Rattle.stretches.specs.Stretches.{stretch_rule, follow_calls}
use Rattle.columns.specs.Walks.{later, Kept}
use Rattle.outlook.specs.Quiets.{quiet_sum}
use Rattle.stretches.specs.Private.{head_at, PricedSized}
use Rattle.rows.specs.Costs.{cost_in}
use Rattle.rows.specs.Leaves.{numbers}
use Rattle.rows.specs.Rows.{after_at}
use Prim.Native.Nat.{◌+◌, ◌-◌, ◌*◌, ◌≤◌}
use mathlib.Core.Path.{◌≡◌}
use Rattle.stretches.proofs.+stretch_block_stretch_form_stretch_if.Given as goal

abbrev pub decreases-stretch_block : goal.decreases-stretch_block
decreases-stretch_block l = (l.to - l.from) * 3 + 2

abbrev pub decreases-stretch_form : goal.decreases-stretch_form
decreases-stretch_form l = (after_at (numbers l.priced.now.code.row.now) l.i - l.i) * 3 + 1

abbrev pub decreases-stretch_if : goal.decreases-stretch_if
decreases-stretch_if l = (after_at (numbers l.priced.now.code.row.now) l.i - l.i) * 3

abbrev pub invariant-stretch_block-loop-k : goal.invariant-stretch_block-loop-k
invariant-stretch_block-loop-k l = (l.k ≤ l.n) × Kept (l.from + l.k) l.initial.seq l.seq × ((p : PricedSized l.priced l.from l.to l.s) → Back (stretch_rule (cost_in l.priced.cost) l.priced.totals.now (λ f y. quiet_sum (head_at l.heads f) y)) (numbers l.priced.code.row.now) l.from p.forms.part.lines l.s l.k l.t l.out l.initial.out) × ((p : PricedSized l.priced l.from l.to l.s) → l.follows ≡ follow_calls (cost_in l.priced.cost) l.priced.totals.now (later l.k p.forms.part.lines) l.s l.initial.follows)
