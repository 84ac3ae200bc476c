-- `columns::tails` meets its contract. Assumes nothing.
use Rattle.columns.specs.Whole.{tails_written, CodeSummed}
use mathlib.Core.Path.{◌≡◌}
use Rattle.model.specs.Plan.{C}
use Rattle.rows.specs.Plans.{lines_of}
use Rattle.columns.proofs.tails.Given as goal

abbrev pub invariant-loop-f : goal.invariant-loop-f
invariant-loop-f l = (v : CodeSummed C l.code l.sums l.turn) → l.tail ≡ tails_written l.sums (lines_of v.plan) l.code.bounds.now l.f l.initial.tail
