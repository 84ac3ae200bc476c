-- What only the private functions promise. Nothing of this stands in the contracts of `start`, `follow` and `explain`.
-- Assumes nothing: these are definitions.
use Rattle.std.specs.Prelude.{Bool, true, false, ℕ, zero, suc, ◌≡◌, ◌≤◌, ◌||◌, List, [], ◌∷◌, ◌++◌, get_or, eqb}
use Rattle.std.proofs.Math.Option.{some}
use Rattle.model.specs.Plan.{Plan}
use Rattle.model.specs.Acceptance.{Accepted}
use Rattle.model.specs.Places.{pick}
use Rattle.model.specs.Stack.{Levels}
use Rattle.model.specs.declared.Answer.{Answer}
use Rattle.model.specs.declared.Answer.TheVariants.{Refused, Decided, Closed}
use Rattle.model.specs.declared.Others.{Others}
use Rattle.model.specs.declared.Others.TheVariants.{Running}
use Rattle.rows.specs.declared.Leaf.{Leaf}
use Rattle.rows.specs.Rows.{max_load_at}
use Rattle.table.specs.declared.Head.{Head}
use Rattle.table.specs.Table.{table_of}
use Rattle.table.specs.Lent.{table_with}
use Rattle.control.specs.declared.OpenRelease.{OpenRelease}
use Rattle.control.specs.declared.State.{State}
use Rattle.control.specs.declared.State.TheVariants.{Idle, Open}
use Rattle.control.specs.State.{standing}
use Rattle.print.specs.Lines.{plain_line}

-- What is printed of a leaf with this M and so many visits: nothing where M or the visits are 0.
abbrev pub leaf_told : ℕ → ℕ → ℕ → List ℕ
leaf_told n m visits = pick (eqb m 0 || eqb visits 0) [] (plain_line n (visits ∷ []))

-- What is printed of the first leaves of a row, with so many visits of each.
unfoldable pub leaves_told : List ℕ → List ℕ → ℕ → List ℕ
leaves_told w visits zero = []
leaves_told w visits (suc i) = leaves_told w visits i ++ leaf_told i (max_load_at w i) (get_or visits i 0)

-- What the others do in a state.
abbrev pub others_before : State → Others
others_before Idle = Running
others_before (Open o) = o.others

-- A decision is answered.
abbrev pub decides : Answer → Bool
decides (Refused k) = false
decides (Decided w r m late) = true
decides (Closed e late) = false

-- A good release that stands at a point, on lent memory that holds the table of an accepted plan.
pub record GoodAtPoint (row : List Leaf) (h : Head) (o : OpenRelease) : Type 0 where
  pub plan : Plan
  pub accepted : Accepted plan
  pub table_is : table_with row h ≡ table_of plan
  pub levels : Levels
  pub stands : standing plan o ≡ some levels
  pub at_point : 1 ≤ o.place.level
