-- What only the private functions promise, on lent memory that holds the table of an accepted plan. Nothing of this stands in the contract of `call`.
-- Assumes nothing: these are definitions.
use Rattle.std.specs.Prelude.{Bool, ◌&&◌, ◌≡◌, [], ◌∷◌, ℕ, replicate, Result, Ok, Err}
use Rattle.std.proofs.Math.Option.{some}
use Rattle.model.specs.declared.Answer.{Answer}
use Rattle.model.specs.declared.Answer.TheVariants.{Refused}
use Rattle.model.specs.declared.Refusal.{Refusal}
use Rattle.model.specs.declared.Edition.{Edition}
use Rattle.model.specs.declared.Edition.TheVariants.{Second}
use Rattle.model.specs.Plan.{Plan}
use Rattle.model.specs.Forms.{main}
use Rattle.model.specs.Decisions.{at_report, may_return, decide}
use Rattle.model.specs.Acceptance.{Accepted}
use Rattle.model.specs.declared.Others.{Others}
use Rattle.model.specs.declared.Others.TheVariants.{Running, Suspended}
use Rattle.model.specs.declared.Outlook.{Outlook}
use Rattle.model.specs.Calls.{Reply, others_after}
use Rattle.model.specs.Controller.{next_levels, decided}
use Rattle.model.specs.Stack.{Levels}
use Rattle.rows.specs.declared.Code.{Code}
use Rattle.rows.specs.Leaves.{numbers, lent_turns, lent_tails, lent_max_load_turns}
use Rattle.place.specs.Stack.{Stacked}
use Rattle.place.specs.declared.Place.{Place}
use Rattle.table.specs.declared.Head.{Head}
use Rattle.table.specs.Table.{table_of, head_of}
use Rattle.table.specs.Lent.{CodeOf, Coded}
use Rattle.control.specs.declared.LentPlan.{LentPlan}
use Rattle.control.specs.declared.OpenRelease.{OpenRelease}
use Rattle.control.specs.declared.State.{State}
use Rattle.control.specs.declared.State.TheVariants.{Idle, Open}
use Rattle.control.specs.declared.Step.{Step}
use Rattle.control.specs.declared.Weighing.{Weighing}
use Rattle.control.specs.State.{place_at_release, standing}
use Rattle.control.specs.Calls.{place_of, in_numbers}

-- A plan with this D, T and U: the margin asks no more of a plan. (That of edition 1 is the one with U 0.)
abbrev pub terms : ℕ → ℕ → ℕ → Plan
terms deadline switch resume = record { deadline = deadline; switch = switch; edition = Second resume; functions = [] }

-- Whether the rule of a decision holds, by the edition, whether the margin is 0 or more, and what the others did before.
abbrev pub rule_met : Edition → Bool → Others → Bool
rule_met edition free Running = free
rule_met edition free Suspended = may_return edition && free

-- A decision: its answer, and what the others do then.
abbrev pub weighing : Plan → Outlook → ℕ → Others → Weighing
weighing p o t others = record { answer = decide p o t others; others = others_after (decide p o t others) others }

-- The release that is accepted, where `total` remains.
abbrev pub opened : ℕ → Others → OpenRelease
opened total others = record { others = others; reading = 0; place = place_at_release; times = total ∷ replicate 32 0 }

-- The step of a call that answers so and leaves this state.
abbrev pub stepped : Result Answer Refusal → State → Step
stepped (Ok a) s = record { answer = a; state = s }
stepped (Err k) s = record { answer = Refused k; state = s }

-- The step of an end that answers so: where it is accepted, no release is open then.
abbrev pub closing : State → Result Answer Refusal → Step
closing s (Ok a) = record { answer = a; state = Idle }
closing s (Err k) = record { answer = Refused k; state = s }

-- The head is that of an accepted plan.
pub record Headed (h : Head) : Type 0 where
  pub plan : Plan
  pub accepted : Accepted plan
  pub is : h ≡ head_of plan

-- Head and code are those of an accepted plan.
pub record Rowed (l : LentPlan) : Type 0 where
  pub head : Headed l.head.now
  pub code_is : CodeOf head.plan l.code

-- So are the turns and tails in the row.
pub record Costed (l : LentPlan) : Type 0 where
  pub rowed : Rowed l
  pub turns_are : lent_turns l.code.row.now ≡ (table_of rowed.head.plan).turns
  pub tails_are : lent_tails l.code.row.now ≡ (table_of rowed.head.plan).tails

-- And so are the max-load turns.
pub record WholeTable (l : LentPlan) : Type 0 where
  pub costed : Costed l
  pub max_load_turns_are : lent_max_load_turns l.code.row.now ≡ (table_of costed.rowed.head.plan).max_load_turns

-- The open release is good: it stands at some levels of the plan (01, refusal 11).
abbrev pub GoodState : Plan → OpenRelease → Type 0
GoodState p o = (ls : Levels) × (standing p o ≡ some ls)

-- An open release that is good, on a code.
pub record GoodOnCode (c : Code) (o : OpenRelease) : Type 0 where
  pub coded : Coded c
  pub stands : GoodState coded.plan o

-- The same on a whole table.
pub record GoodOnTable (l : LentPlan) (o : OpenRelease) : Type 0 where
  pub whole : WholeTable l
  pub stands : GoodState whole.costed.rowed.head.plan o

-- The release at another place, and else as it was.
abbrev pub moved_to : OpenRelease → Place → OpenRelease
moved_to o x = record { others = o.others; reading = o.reading; place = x; times = o.times }

-- A release that was good, and came to the place of the point next.
pub record Arriving (l : LentPlan) (o : OpenRelease) : Type 0 where
  pub whole : WholeTable l
  pub before : OpenRelease
  pub moved : o ≡ moved_to before o.place
  pub levels : Levels
  pub stands : standing whole.costed.rowed.head.plan before ≡ some levels
  pub point : ℕ
  pub new : Stacked (numbers l.code.row.now) (main whole.costed.rowed.head.plan) (next_levels whole.costed.rowed.head.plan (place_of before levels) point)
      before.place.leaves before.place.earlier point o.place.leaves o.place.earlier o.place.level

-- The reply to the report of n that comes to the levels ls: the decision there.
abbrev pub arrived : Plan → OpenRelease → ℕ → Levels → ℕ → Reply State
arrived p o n ls reading = in_numbers p (Open o) (decided p (at_report n ls) reading o.others)
