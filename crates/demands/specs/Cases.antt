-- The marked cases of document 01, in lent memory.
-- Assumes nothing: these are definitions.
use Rattle.std.specs.Prelude.{List, [], ◌∷◌, ◌≡◌, ℕ, get_or}
use Rattle.model.specs.Plan.{M}
use Rattle.model.specs.Forms.{main}
use Rattle.model.specs.Stretch.{Stretch}
use Rattle.model.specs.declared.Call.{Call}
use Rattle.model.specs.declared.Call.TheVariants.{Release, Report}
use Rattle.model.specs.Timed.{PointOf}
use Rattle.model.specs.Acceptance.{Accepted}
use Rattle.model.specs.Histories.{Answered}
use Rattle.model.specs.Worked.{plan_A, plan_B, smallest}
use Rattle.control.specs.Cases.{Case}
use Rattle.rolsipay.specs.declared.State.{State}
use Rattle.rolsipay.specs.Calling.{zeros}
use Rattle.demands.specs.Delivered.{Memory, delivered, call_returned}
use Rattle.demands.specs.Rules.{TableOf}

-- A case holds in a memory: its totals stand in the head, and the delivered calls answer as it says.
pub record RightIn (m : Memory) (c : Case) : Type 0 where
  pub total_is : m.head.total ≡ c.total
  pub max_total_is : m.head.max_load_total ≡ c.max_total
  pub answered : Answered (delivered m) zeros c.exchanges

-- The plan of a case is accepted, each of its points has over all its visits the stretch that the case lists at the point's number, and the case holds in
-- every memory that holds the plan's table. (A silent leaf has no stretch, and what is listed at its number is not spoken of here.)
pub record RightEverywhere (c : Case) : Type 0 where
  pub accepted : Accepted c.plan
  pub stretches_are : (n : ℕ) → PointOf c.plan n → Stretch M (main c.plan) n (get_or c.stretches n 0)
  pub right_in : (m : Memory) → TableOf c.plan m → RightIn m c

-- Each case is right.
unfoldable pub EachRight : List Case → Type 0
EachRight [] = Unit
EachRight (c ∷ cs) = RightEverywhere c × EachRight cs

-- The numbers that calls return under their C names, made one after the other from a state on, each on the state that the last one left.
unfoldable pub numbers_returned : Memory → State → List Call → List ℕ
numbers_returned m s [] = []
numbers_returned m s (c ∷ cs) = (call_returned m s c).number ∷ numbers_returned m ((delivered m).respond s c).state cs

-- The refusals of the marked cases by document 01's numbers (0: accepted), in every memory that holds the table of the case's plan.
pub record MarkedNumbers : Type 0 where
  -- m4: a fifth visit gives 17
  pub m4 : (m : Memory) → TableOf plan_A m →
      numbers_returned m zeros (Release ∷ Report 0 0 ∷ Report 1 9 ∷ Report 1 33 ∷ Report 1 50 ∷ Report 1 88 ∷ Report 1 88 ∷ []) ≡ 0 ∷ 0 ∷ 0 ∷ 0 ∷ 0 ∷ 0 ∷ 17 ∷ []
  -- m8: 1, 0 gives 17; 1, 2, 0 is accepted
  pub m8 : (m : Memory) → TableOf plan_B m →
      numbers_returned m zeros (Release ∷ Report 1 0 ∷ Report 0 0 ∷ Report 2 0 ∷ Report 0 0 ∷ []) ≡ 0 ∷ 0 ∷ 17 ∷ 0 ∷ 0 ∷ []
  -- m10: D 9, release gives 13
  pub m10 : (m : Memory) → TableOf (smallest 9) m → numbers_returned m zeros (Release ∷ []) ≡ 13 ∷ []
