-- Lemmas about the calls on a table, with the state by value; each is proved in a file beside this one. What is promised of the delivered calls
-- stands in `demands`.
use mathlib.Core.List.{List, ◌∷◌}
use mathlib.Core.Logic.{◌↔◌}
use mathlib.Core.Option.{some}
use mathlib.Core.Path.{◌≡◌}
use Prim.Native.Nat.{ℕ}
use Rattle.model.specs.Plan.{Plan}
use Rattle.model.specs.Acceptance.{Accepted}
use Rattle.model.specs.Stack.{Levels}
use Rattle.model.specs.declared.Call.{Call}
use Rattle.model.specs.declared.Others.{Others}
use Rattle.model.specs.Decisions.{Decision}
use Rattle.model.specs.Controller as places
use Rattle.model.proofs.Links.{accepted_traceable}
use Rattle.model.proofs.Since.{StateOf}
use Rattle.table.specs.Table.{table_of}
use Rattle.control.specs.declared.OpenRelease.{OpenRelease}
use Rattle.control.specs.declared.State.{State}
use Rattle.control.specs.declared.State.TheVariants.{Open}
use Rattle.control.specs.State.{standing}
use Rattle.control.specs.Calls.{call_on}
use Rattle.control.specs.Meaning.{StandsSomewhere, HistoryState}
use Rattle.control.proofs.Alike as alike
use Rattle.control.proofs.Alike.{Tied}
use Rattle.control.proofs.Histories as histories
use Rattle.control.proofs.Good as good

-- Rule 11, the state: consider the table of an accepted plan. An open release is good exactly when it stands at the release with the times of the
-- release, or some run of the plan stands at its last point, open loops and calls with its visit counts and its remaining times are that run's 33.
pub state_good_exactly : (p : Plan) → Accepted p → (o : OpenRelease) → ((ls : Levels) × (standing p o ≡ some ls)) ↔ StandsSomewhere p o
state_good_exactly = good.good_exactly

-- The calls on the table of an accepted plan answer as the controller over places does, and keep the tie between its states and theirs.
pub calls_alike : (p : Plan) (a : Accepted p) (s : State) (x : places.State) (c : Call) → Tied p a s x →
    ((call_on (table_of p) s c).answer ≡ (places.respond p x c).answer) × Tied p a (call_on (table_of p) s c).state (places.respond p x c).state
calls_alike = alike.alike

-- A state that stands for one after an accepted release and accepted reports is an open release of that history: some run with these reports stands at its
-- stack, and its remaining times are that run's 33.
pub state_is_of_history : (p : Plan) (a : Accepted p) (s : State) (x : places.State) (others : Others) (m : ℕ) (h : List ℕ) (ds : List Decision) → Tied p a s x →
    StateOf p (accepted_traceable p a) x others (m ∷ h) ds → (o : OpenRelease) × (s ≡ Open o) × HistoryState p o (m ∷ h)
state_is_of_history = histories.history_state
