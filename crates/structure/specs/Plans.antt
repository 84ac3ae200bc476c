-- Whether a row of numbers, with these function bounds, is that of a plan that keeps rules 3 to 9 and 19. Assumes nothing: these are definitions.
use Rattle.std.specs.Prelude.{ℕ, List, []}
use Rattle.model.specs.Acceptance.{SeenAll, Called}
use Rattle.rows.specs.Plans.{PlanOf}
use Rattle.rows.specs.Leaves.{numbers}
use Rattle.rows.specs.declared.Code.{Code}

-- The row is that of functions that keep rules 3 to 7 and 19, and they keep rules 8 and 9.
pub record Structured (w s : List ℕ) (n : ℕ) : Type 0 where
  pub plan : PlanOf w s n
  pub seen : SeenAll [] plan.functions
  pub called : Called plan.functions

-- The same of a code that is lent.
abbrev pub CodeStructured : Code → Type 0
CodeStructured c = Structured (numbers c.row.now) c.bounds.now c.functions
