-- What reading a text says in the end.
-- Assumes nothing: these are definitions.
use Rattle.std.specs.Prelude.{ℕ}
use Rattle.model.specs.declared.Refusal.{Refusal}
use Rattle.model.specs.Plan.{Plan}

-- The plan; or a refusal with its line.
pub data Outcome : Type 0 where
  plan : Plan → Outcome
  refused : Refusal → ℕ → Outcome
