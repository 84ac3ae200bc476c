-- The delivered calls answer as the controller does on the table in lent memory; a refused one leaves the lent state, and the states that the others lead
-- to stand for the controller's. So on the table of an accepted plan they answer as the controller over places does, and keep the deadline.
use mathlib.Core.List.{List}
use mathlib.Core.Path.{◌≡◌, refl, ap, sym, ◌∙◌, subst}
use Rattle.model.specs.Plan.{Plan}
use Rattle.model.specs.declared.Call.{Call}
use Rattle.model.specs.declared.Answer.{Answer}
use Rattle.model.specs.declared.Refusal.{Refusal}
use Rattle.model.specs.declared.Answer.TheVariants.{Refused, Decided, Closed}
use Rattle.model.specs.Calls.{Accepts, Reply}
use Rattle.model.specs.Decisions.{Fit}
use Rattle.model.specs.Timed.{KeepsDeadline}
use Rattle.model.specs.Histories.{Exchange, Answered}
use Rattle.model.specs.Controller as places
use Rattle.model.specs.Places.{pick}
use Rattle.model.proofs.Theorems as model
use Rattle.table.specs.Table.{Table}
use Rattle.control.specs.declared.State as control
use Rattle.control.specs.Calls.{call_on, controller_of}
use Rattle.control.proofs.Theorems.{calls_alike}
use Rattle.control.proofs.Alike.{Tied}
use Rattle.rolsipay.specs.declared.State.{State}
use Rattle.rolsipay.specs.Calling.{state_of, lent, refusing, called}
use Rattle.rolsipay.proofs.Theorems.{call_answer, call_state}
use Rattle.demands.specs.Delivered.{Memory, delivered}
use Rattle.demands.specs.Rules.{TableOf}
use Rattle.demands.proofs.Tables.{table_held, numbers_held}

-- An accepted call moves the lent state on.
moves : (s x : State) (a : Answer) → Accepts a → pick (refusing a) s x ≡ x
moves s x (Refused n) q = absurd q
moves s x (Decided w r m late) q = refl
moves s x (Closed e late) q = refl

module _ (m : Memory) where
  -- The reply of the controller on the table in the memory, to the state that the lent one stands for.
  abbrev reply : State → Call → Reply control.State
  reply s c = call_on (table_held m) (state_of s) c

  -- The answer of a delivered call is that of this reply.
  pub answer_held : (s : State) (c : Call) → ((delivered m).respond s c).answer ≡ (reply s c).answer
  answer_held s c = call_answer m.row m.head s c

  -- A refused call leaves every number of the lent state.
  pub refused_keeps : (s : State) (c : Call) (k : Refusal) → ((delivered m).respond s c).answer ≡ Refused k → ((delivered m).respond s c).state ≡ s
  unfolding called
  refused_keeps s c k e = ap (λ a. pick (refusing a) s (lent (reply s c).state)) (sym (answer_held s c) ∙ e)

  -- The state that a delivered call leaves stands for that of this reply.
  pub state_left : (s : State) (c : Call) → state_of ((delivered m).respond s c).state ≡ (reply s c).state
  state_left = call_state m.row m.head

  -- An accepted call leaves the lent form of the controller's state.
  pub accepted_leaves : (s : State) (c : Call) → Accepts (reply s c).answer → ((delivered m).respond s c).state ≡ lent (reply s c).state
  unfolding called
  accepted_leaves s c q = moves s (lent (reply s c).state) (reply s c).answer q

  -- So each call answers as there and leaves a state that stands for the one that is left there.
  pub as_there : (s : State) (x : control.State) (c : Call) → state_of s ≡ x →
      (((delivered m).respond s c).answer ≡ (call_on (table_held m) x c).answer) × (state_of ((delivered m).respond s c).state ≡ (call_on (table_held m) x c).state)
  as_there s x c e =
      (answer_held s c ∙ ap (λ y. (call_on (table_held m) y c).answer) e, state_left s c ∙ ap (λ y. (call_on (table_held m) y c).state) e)

  -- Calls have the answers that they have there.
  pub answered_held : (s : State) (xs : List Exchange) → Answered (controller_of (table_held m)) (state_of s) xs → Answered (delivered m) s xs
  answered_held s =
      model.answered_alike (controller_of (table_held m)) (delivered m) (λ x t. state_of t ≡ x)
      (λ x t c e. let (i, j) = as_there t x c e in (sym i, j)) (state_of s) s refl

module _ (p : Plan) (m : Memory) (o : TableOf p m) where
  -- A lent state stands for one of the controller over places.
  abbrev pub StandsFor : State → places.State → Type 0
  StandsFor s x = Tied p o.accepted (state_of s) x

  -- Each call answers as that one does, and keeps the tie.
  pub alike : (s : State) (x : places.State) (c : Call) → StandsFor s x →
      (((delivered m).respond s c).answer ≡ (places.respond p x c).answer) × StandsFor ((delivered m).respond s c).state (places.respond p x c).state
  alike s x c t =
      let y = calls_alike p o.accepted (state_of s) x c t in (
        answer_held m s c ∙ (ap (λ (u : Table). (call_on u (state_of s) c).answer) (numbers_held p m o) ∙ y.0),
        subst (λ k. Tied p o.accepted k (places.respond p x c).state)
            (sym (state_left m s c ∙ ap (λ (u : Table). (call_on u (state_of s) c).state) (numbers_held p m o))) y.1,
      )

  -- Where total + T is within D they keep the deadline.
  pub keeps_deadline : Fit p → KeepsDeadline p (delivered m)
  keeps_deadline f = model.deadline_kept_alike p (delivered m) StandsFor o.accepted f refl alike
