-- A refused call keeps the state, whatever table and state are. Assumes nothing.
use mathlib.Core.Option.{Option, none, some}
use mathlib.Core.Path.{◌≡◌, refl, subst, sym}
use Rattle.model.specs.declared.Refusal.{Refusal}
use Rattle.model.specs.Plan.{Plan}
use Rattle.model.specs.declared.Call.{Call}
use Rattle.model.specs.declared.Answer.TheVariants.{Refused}
use Rattle.model.specs.Calls.{Reply}
use Rattle.model.specs.Controller as places
use Rattle.model.specs.Controller.{respond}
use Rattle.table.specs.Table.{Table, plan_of}
use Rattle.control.specs.declared.State.{State}
use Rattle.control.specs.Calls.{read_state, left, on_state, on_plan, call_on}

-- A reply that refuses leaves the state.
abbrev Keeps : State → Reply State → Type 0
Keeps s r = (k : Refusal) → r.answer ≡ Refused k → r.state ≡ s

state_keeps : (p : Plan) (s : State) (c : Call) (o : Option places.State) → Keeps s (on_state p s c o)
state_keeps p s c none = λ k e. refl
state_keeps p s c (some x) = λ k e. subst (λ a. left p s (respond p x c).state a ≡ s) (sym e) refl

plan_keeps : (s : State) (c : Call) (o : Option Plan) → Keeps s (on_plan s c o)
plan_keeps s c none = λ k e. refl
plan_keeps s c (some p) = state_keeps p s c (read_state p s)

pub refused_keeps : (t : Table) (s : State) (c : Call) (k : Refusal) → (call_on t s c).answer ≡ Refused k → (call_on t s c).state ≡ s
unfolding call_on
refused_keeps t s c = plan_keeps s c (plan_of t)
