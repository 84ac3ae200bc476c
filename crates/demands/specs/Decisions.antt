-- What an accepted call answers (demand 2), over runs of the plan, the decisions since the release, their readings and what the others did before them alone.
-- Assumes nothing: these are definitions.
use Rattle.std.specs.Prelude.{List, ◌≡◌, ℕ, ◌+◌}
use Rattle.std.proofs.Math.IntN.{sub_ℕ}
use Rattle.model.specs.declared.Edition.{Edition}
use Rattle.model.specs.declared.Edition.TheVariants.{First, Second}
use Rattle.model.specs.Plan.{Plan}
use Rattle.model.specs.declared.Word.{Word}
use Rattle.model.specs.declared.Word.TheVariants.{Go, Suspend, Stay, Resume}
use Rattle.model.specs.declared.Ending.TheVariants.{Resumed, Ended}
use Rattle.model.specs.declared.Answer.{Answer}
use Rattle.model.specs.declared.Answer.TheVariants.{Decided, Closed}
use Rattle.model.specs.declared.Others.TheVariants.{Running, Suspended}
use Rattle.model.specs.declared.Outlook.{Outlook}
use Rattle.model.specs.Calls.{Reply}
use Rattle.model.specs.Decisions.{OutlookAt, reserve, held, margin, late, Decision, RuleAt, ConditionAt, ConditionAtEach, MayRun}
use Rattle.rolsipay.specs.declared.State.{State}
use Rattle.rolsipay.specs.Calling.{zeros}

-- The word of a decision d in edition 1 (01), where `before` are the decisions before it since the release: suspend exactly at the first decision where the
-- condition fails, go at each one before that, stay at each one behind it.
pub data WordedInFirst (p : Plan) (before : List Decision) (d : Decision) : Word → Type 0 where
  goes : ConditionAtEach p before → ConditionAt p d → WordedInFirst p before d Go
  suspends : ConditionAtEach p before → ¬ ConditionAt p d → WordedInFirst p before d Suspend
  stays : ¬ ConditionAtEach p before → WordedInFirst p before d Stay

-- The word of a decision d in edition 2 (02, L7), by what the others did before it: where they ran, go exactly if the condition holds, else suspend; where
-- they were suspended, resume exactly if the rule of return holds, else stay.
pub data WordedInSecond (p : Plan) (d : Decision) : Word → Type 0 where
  goes_by_condition : d.others ≡ Running → ConditionAt p d → WordedInSecond p d Go
  suspends_by_condition : d.others ≡ Running → ¬ ConditionAt p d → WordedInSecond p d Suspend
  resumes_by_return : d.others ≡ Suspended → RuleAt p Suspended d → WordedInSecond p d Resume
  stays_by_return : d.others ≡ Suspended → ¬ RuleAt p Suspended d → WordedInSecond p d Stay

-- The word of a decision, by edition.
abbrev pub WordedBy : Edition → Plan → List Decision → Decision → Word → Type 0
WordedBy First p before d word = WordedInFirst p before d word
WordedBy (Second u) p before d word = WordedInSecond p d word

abbrev pub Worded : Plan → List Decision → Decision → Word → Type 0
Worded p before d word = WordedBy p.edition p before d word

-- The answer of a decision: its word is as above, and with it come remaining, margin and late mark, of the outlook that the document says.
pub record Decides (p : Plan) (before : List Decision) (d : Decision) (a : Answer) : Type 0 where
  pub word : Word
  pub outlook : Outlook
  pub worded : Worded p before d word
  pub outlook_is : OutlookAt p d.history outlook
  pub answer_is : a ≡ Decided word outlook.remaining (margin p outlook d.reading d.others) (late p d.reading)

-- The answer of a decision as it was before there were editions (01; 02, L3 and L6): its word is that of edition 1, and its margin, whatever the others did,
-- D − elapsed less what is kept free and the stretch.
pub record DecidesAsBefore (p : Plan) (before : List Decision) (d : Decision) (a : Answer) : Type 0 where
  pub word : Word
  pub outlook : Outlook
  pub worded : WordedInFirst p before d word
  pub outlook_is : OutlookAt p d.history outlook
  pub answer_is : a ≡ Decided word outlook.remaining (held (sub_ℕ p.deadline (reserve p outlook + outlook.stretch + d.reading))) (late p d.reading)

-- The reply of an accepted end with this reading, by when the others may run before it: ended where they may, resume where they may not; and the lent state
-- is fresh again, every number in it 0.
pub data ClosesBy (may_run : Type 0) (p : Plan) (reading : ℕ) : Reply State → Type 0 where
  resumes : ¬ may_run → ClosesBy may_run p reading (record { state = zeros; answer = Closed Resumed (late p reading) })
  just_ends : may_run → ClosesBy may_run p reading (record { state = zeros; answer = Closed Ended (late p reading) })

-- In either edition they may run where the rules say so of these decisions (`MayRun`), and then they do (`others_known`).
abbrev pub Closes : Plan → List Decision → ℕ → Reply State → Type 0
Closes p decisions reading reply = ClosesBy (MayRun p decisions) p reading reply

-- The same as it was before there were editions: where the condition held at each of them.
abbrev pub ClosesAsBefore : Plan → List Decision → ℕ → Reply State → Type 0
ClosesAsBefore p decisions reading reply = ClosesBy (ConditionAtEach p decisions) p reading reply
