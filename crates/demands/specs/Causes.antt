-- What is printed of an accepted report (02, L9), over runs of the plan with its history, and the lent state that the lines of a log lead to.
-- Assumes nothing: these are definitions.
use Rattle.std.specs.Prelude.{List, [], ◌∷◌, ◌++◌, ◌≡◌, ℕ, ◌+◌, flat_map, Option, Some, None}
use Rattle.std.proofs.Math.IntN.{sub_ℕ}
use Rattle.model.specs.Plan.{M, Plan, all_leaves}
use Rattle.model.specs.Forms.{main}
use Rattle.model.specs.declared.Call.{Call}
use Rattle.model.specs.declared.Call.TheVariants.{Report}
use Rattle.model.specs.declared.Word.{Word}
use Rattle.model.specs.declared.Answer.{Answer}
use Rattle.model.specs.declared.Refusal.{Refusal}
use Rattle.model.specs.declared.Answer.TheVariants.{Refused, Decided}
use Rattle.model.specs.declared.Others.{Others}
use Rattle.model.specs.declared.Outlook.{Outlook}
use Rattle.model.specs.Calls.{Controller}
use Rattle.model.specs.Decisions.{OutlookAt, held, late, Decision}
use Rattle.model.specs.Histories.{Since}
use Rattle.model.specs.Cause.{Cause, up_to_next, LeafCount, listed, added, remaining_weighed, taken}
use Rattle.print.specs.Lines.{answer_line}
use Rattle.rolsipay.specs.declared.State.{State}
use Rattle.explanation.specs.Explanation.{counted_line, last_line}

-- The state that the lines of a log lead to: by the calls that they say, one after the other. (A line of another form makes no call.)
unfoldable pub state_by_lines : {S : Type 0} → Controller S → S → List (Option Call) → S
state_by_lines k s [] = s
state_by_lines k s (Some c ∷ es) = state_by_lines k (k.respond s c).state es
state_by_lines k s (None ∷ es) = state_by_lines k s es

-- The text explains the answer to a report with this history and reading, before which the others did this: its lines are those of the leaves that are listed
-- of a cause's visits, with how often, and then D, the elapsed time, the remaining time as it counts, and the T and U taken off. M times count adds up to the
-- stretch of the decision, and the margin that was answered is what all these leave of D, held at its floor.
pub record AnswerExplained (p : Plan) (h : List ℕ) (elapsed : ℕ) (others : Others) (a : Answer) (text : List ℕ) : Type 0 where
  pub cause : Cause M (main p) h
  pub outlook : Outlook
  pub outlook_is : OutlookAt p h outlook
  pub leaves : List LeafCount
  pub leaves_are : leaves ≡ listed (all_leaves p.functions) (up_to_next cause.run)
  pub text_is : text ≡ flat_map counted_line leaves ++ last_line p outlook elapsed others
  pub adds_up : added leaves ≡ outlook.stretch
  pub word : Word
  pub answer_is : a ≡ Decided word outlook.remaining
      (held (sub_ℕ p.deadline (elapsed + remaining_weighed outlook + taken p outlook others + added leaves))) (late p elapsed)

-- What is printed of a report, asked of a lent state on a memory with this plan's table: its refusal, if it is refused; and if it is accepted, the state is one
-- after an accepted release and accepted reports u, and the text explains the answer.
pub data Told (p : Plan) (k : Controller State) (s : State) (n r : ℕ) (text : List ℕ) : Type 0 where
  by_refusal : (i : Refusal) → (k.respond s (Report n r)).answer ≡ Refused i → text ≡ answer_line (Refused i) → Told p k s n r text
  by_decision : (others : Others) (u : List ℕ) (ds : List Decision) → Since k s others u ds →
      AnswerExplained p (u ++ (n ∷ [])) r others (k.respond s (Report n r)).answer text → Told p k s n r text
