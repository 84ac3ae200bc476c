-- `columns::tail_block` and `columns::tail_form`, which call each other, meet their contracts. Assumes nothing.
use Rattle.columns.proofs.Backing.{Back}
use Rattle.columns.specs.Walks.{Kept}
use Rattle.columns.specs.Private.{WalkSized}
use Rattle.columns.specs.Columns.{tail_rule}
use Rattle.rows.specs.Leaves.{numbers}
use Rattle.rows.specs.Rows.{after_at}
use Prim.Native.Nat.{◌+◌, ◌-◌, ◌*◌, ◌≤◌}
use Rattle.columns.proofs.+tail_block_tail_form.Given as goal

abbrev pub decreases-tail_block : goal.decreases-tail_block
decreases-tail_block l = (l.to - l.from) * 2 + 1

abbrev pub decreases-tail_form : goal.decreases-tail_form
decreases-tail_form l = (after_at (numbers l.walk.now.code.row.now) l.i - l.i) * 2

abbrev pub invariant-tail_block-loop-k : goal.invariant-tail_block-loop-k
invariant-tail_block-loop-k l = (l.k ≤ l.n) × Kept (l.from + l.k) l.initial.seq l.seq × ((p : WalkSized l.walk l.from l.to l.e) → Back (tail_rule l.walk.sums.now) (numbers l.walk.code.row.now) l.from p.forms.part.lines l.e l.k l.t l.out l.initial.out)
