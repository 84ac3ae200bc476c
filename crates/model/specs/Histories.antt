-- Histories of calls, for any controller: the states that calls lead to from a fresh one, and calls with their answers.
-- Assumes nothing: these are definitions.
use Rattle.std.specs.Prelude.{List, [], ◌∷◌, ◌++◌, ◌≡◌, ℕ}
use Rattle.model.specs.Decisions.{Decision}
use Rattle.model.specs.Calls.{Call, Release, Report, Answer, Others, Running, Accepts, Controller, others_after}

-- A call and its answer.
pub record Exchange : Type 0 where
  pub call : Call
  pub answer : Answer

infixl 20 ◌gets◌
-- The call c with the answer a.
abbrev pub ◌gets◌ : Call → Answer → Exchange
c gets a = record { call = c; answer = a }

module _ {S : Type 0} (k : Controller S) where
  -- The states that calls lead to, whatever the calls: a fresh one first, then the one that the last call returned or left.
  pub data Reached : S → Type 0 where
    at_first : Reached k.fresh
    after : {s : S} → Reached s → (c : Call) → Reached (k.respond s c).state

  -- The state is the one after an accepted release and accepted reports of these points, in this order; with what the others do by the answers (before the
  -- release they run), and with the decisions that these were, the latest first. (Refused calls keep the state, so any number of them may stand anywhere
  -- between.)
  pub data Since : S → Others → List ℕ → List Decision → Type 0 where
    released : Accepts (k.respond k.fresh Release).answer →
        Since (k.respond k.fresh Release).state (others_after (k.respond k.fresh Release).answer Running) []
        (record { history = []; reading = 0; others = Running } ∷ [])
    reported : {s : S} {others : Others} {h : List ℕ} {ds : List Decision} → Since s others h ds → (n r : ℕ) → Accepts (k.respond s (Report n r)).answer →
        Since (k.respond s (Report n r)).state (others_after (k.respond s (Report n r)).answer others) (h ++ (n ∷ []))
        (record { history = h ++ (n ∷ []); reading = r; others = others } ∷ ds)

  -- These calls, made one after the other from a state on, each on the state that the last one left, have these answers.
  unfoldable pub Answered : S → List Exchange → Type 0
  Answered s [] = Unit
  Answered s (x ∷ xs) = ((k.respond s x.call).answer ≡ x.answer) × Answered (k.respond s x.call).state xs
