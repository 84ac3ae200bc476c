-- What the calls return under their C names: the number of a refusal exactly where they answer this refusal, and 0 exactly where they accept.
use Rattle.std.specs.Prelude.{Result, Ok, Err}
use mathlib.Core.List.{List, [], ◌∷◌, map}
use mathlib.Core.Logic.{◌↔◌}
use mathlib.Core.Path.{◌≡◌, refl, ap, ◌∙◌}
use Prim.Native.Nat.{ℕ, ◌≤◌}
use native.Mathlib.Omega.{arith}
use lib.ListN.{length}
use Rattle.model.specs.declared.Refusal.{Refusal}
use Rattle.model.specs.declared.Refusal.TheVariants.{Broken}
use Rattle.model.specs.Refusals.{number_of}
use Rattle.model.specs.Plan.{Plan}
use Rattle.model.specs.declared.Call.{Call}
use Rattle.model.specs.declared.Word.{Word}
use Rattle.model.specs.declared.Word.TheVariants.{Go, Suspend, Stay, Resume}
use Rattle.model.specs.declared.Ending.{Ending}
use Rattle.model.specs.declared.Ending.TheVariants.{Resumed, Ended}
use Rattle.model.specs.declared.Answer.{Answer}
use Rattle.model.specs.declared.Answer.TheVariants.{Refused, Decided, Closed}
use Rattle.model.specs.Words.{word_number, ending_number}
use Rattle.model.specs.Calls.{Accepts}
use Rattle.model.specs.Histories.{Exchange, Answered}
use Rattle.reader.specs.declared.RefusedAt.{RefusedAt}
use Rattle.control.specs.declared.OpenRelease.{OpenRelease}
use Rattle.control.specs.declared.State.TheVariants as state
use Rattle.control.specs.Meaning.{StandsSomewhere}
use Rattle.control.specs.Cases.{cases}
use Rattle.rolsipay.specs.declared.State.{State}
use Rattle.rolsipay.specs.declared.Ruling.{Ruling}
use Rattle.rolsipay.specs.Calling.{state_of}
use Rattle.rolsipay.specs.Face.{ruling_of, reply_from}
use Rattle.rolsipay.proofs.Theorems.{number_tells, numbered_from_1}
use Rattle.demands.specs.Delivered.{Memory, read_answer, after_read, ReadAs, delivered, read_returned, call_returned}
use Rattle.demands.specs.Rules.{Ruled, TableOf, Refuses}
use Rattle.demands.specs.Cases.{EachRight, numbers_returned, MarkedNumbers}
use Rattle.demands.proofs.Tables.{text_refused}
use Rattle.demands.proofs.Reached.{refused_exactly, broken_exactly, nowhere_exactly}
use Rattle.demands.proofs.Cases.{each_right}

-- READING A PLAN

-- A number from 1 on and a line are those of a refusal.
ruling_refused : (a : Result Unit RefusedAt) (n j : ℕ) → 1 ≤ n → ruling_of a ≡ record { number = n; line = j } →
    (k : Refusal) × (a ≡ Err (record { refusal = k; line = j })) × (number_of k ≡ n)
ruling_refused (Ok u) n j h e = let z : 0 ≡ n = ap (λ (r : Ruling). r.number) e in absurd (omega arith)
ruling_refused (Err x) n j h e =
    (x.refusal, ap (λ i. Err (record { refusal = x.refusal; line = i })) (ap (λ (r : Ruling). r.line) e), ap (λ (r : Ruling). r.number) e)

-- So they are returned exactly when the rules refuse the text at this line by a refusal of this number.
pub plan_by_number : (text : List ℕ) (m : Memory) (n j : ℕ) → 1 ≤ n →
    (read_returned text m ≡ record { number = n; line = j }) ↔ ((k : Refusal) × Ruled (length m.row) text k j × (number_of k ≡ n))
plan_by_number text m n j h = (
  (λ e. let (k, q, i) = ruling_refused (read_answer text m) n j h e in (k, (text_refused text m k j).0 q, i)),
  λ (k, w, i). ap ruling_of ((text_refused text m k j).1 w) ∙ ap (λ x. record { number = x; line = j }) i,
)

-- Number 0 is that of an acceptance.
accepted_of_0 : (a : Result Unit RefusedAt) → (ruling_of a).number ≡ 0 → a ≡ Ok tt
accepted_of_0 (Ok tt) e = refl
accepted_of_0 (Err x) e = absurd (numbered_from_1 x.refusal e)

pub plan_accepted_by_0 : (text : List ℕ) (m : Memory) → ((read_returned text m).number ≡ 0) ↔ (read_answer text m ≡ Ok tt)
plan_accepted_by_0 text m = (accepted_of_0 (read_answer text m), λ e. ap (λ a. (ruling_of a).number) e)

-- CALLS

-- A number from 1 on is that of a refusal.
reply_refused : (a : Answer) (n : ℕ) → 1 ≤ n → (reply_from a).number ≡ n → (k : Refusal) × (a ≡ Refused k) × (number_of k ≡ n)
reply_refused (Refused k) n h e = (k, refl, e)
reply_refused (Decided w r m late) n h e = absurd (omega arith)
reply_refused (Closed w late) n h e = absurd (omega arith)

-- So it is returned exactly when the rules refuse the call by a refusal of this number.
pub call_by_number : (m : Memory) (s : State) (c : Call) (n : ℕ) → 1 ≤ n →
    ((call_returned m s c).number ≡ n) ↔ ((k : Refusal) × Refuses m (state_of s) c k × (number_of k ≡ n))
call_by_number m s c n h = (
  (λ e. let (k, q, i) = reply_refused ((delivered m).respond s c).answer n h e in (k, (refused_exactly m s c k).0 q, i)),
  λ (k, w, i). ap (λ a. (reply_from a).number) ((refused_exactly m s c k).1 w) ∙ i,
)

-- Number 0 is that of an acceptance, and so is each word but 0.
number_of_accepted : (a : Answer) → ((reply_from a).number ≡ 0) ↔ Accepts a
number_of_accepted (Refused k) = (numbered_from_1 k, λ u. absurd u)
number_of_accepted (Decided w r m late) = ((λ e. tt), λ u. refl)
number_of_accepted (Closed w late) = ((λ e. tt), λ u. refl)

decided_from_1 : (w : Word) → 1 ≤ word_number w
decided_from_1 Go = omega arith
decided_from_1 Suspend = omega arith
decided_from_1 Stay = omega arith
decided_from_1 Resume = omega arith

closed_from_1 : (w : Ending) → 1 ≤ ending_number w
closed_from_1 Resumed = omega arith
closed_from_1 Ended = omega arith

word_of_accepted : (a : Answer) → (1 ≤ (reply_from a).word) ↔ Accepts a
word_of_accepted (Refused k) = ((λ h. omega arith), λ u. absurd u)
word_of_accepted (Decided w r m late) = ((λ h. tt), λ u. decided_from_1 w)
word_of_accepted (Closed w late) = ((λ h. tt), λ u. closed_from_1 w)

pub call_accepted_by_0 : (m : Memory) (s : State) (c : Call) →
    (((call_returned m s c).number ≡ 0) ↔ Accepts ((delivered m).respond s c).answer) ×
    ((1 ≤ (call_returned m s c).word) ↔ Accepts ((delivered m).respond s c).answer)
call_accepted_by_0 m s c = (number_of_accepted ((delivered m).respond s c).answer, word_of_accepted ((delivered m).respond s c).answer)

-- RULE 11

-- Number 11 is returned exactly when the answer is this refusal.
broken_by_number : (a : Answer) → ((reply_from a).number ≡ 11) ↔ (a ≡ Refused Broken)
broken_by_number a = (
  (λ e. let (k, q, i) = reply_refused a 11 (omega arith) e in q ∙ ap (λ x. Refused x) (number_tells k Broken i)),
  λ e. ap (λ x. (reply_from x).number) e,
)

pub table_by_number : (m : Memory) (s : State) → state_of s ≡ state.Idle → (c : Call) →
    ((call_returned m s c).number ≡ 11) ↔ ((text : List ℕ) (before : Memory) (p : Plan) → ReadAs text before p → ¬ (after_read text before ≡ m))
table_by_number m s e c =
    let x = broken_by_number ((delivered m).respond s c).answer in
    let y = broken_exactly m s e c in
    ((λ i. y.0 (x.0 i)), λ f. x.1 (y.1 f))

pub state_by_number : (p : Plan) (m : Memory) → TableOf p m → (s : State) (o : OpenRelease) → state_of s ≡ state.Open o → (c : Call) →
    ((call_returned m s c).number ≡ 11) ↔ ¬ StandsSomewhere p o
state_by_number p m u s o e c =
    let x = broken_by_number ((delivered m).respond s c).answer in
    let y = nowhere_exactly p m u s o e c in
    ((λ i. y.0 (x.0 i)), λ f. x.1 (y.1 f))

-- THE MARKED CASES

-- Calls with known answers return the numbers of these.
returned_as : (m : Memory) (s : State) (xs : List Exchange) → Answered (delivered m) s xs →
    numbers_returned m s (map (λ (x : Exchange). x.call) xs) ≡ map (λ (x : Exchange). (reply_from x.answer).number) xs
unfolding numbers_returned Answered
returned_as m s [] u = refl
returned_as m s (x ∷ xs) (e, u) = λ j. (reply_from (e j)).number ∷ returned_as m ((delivered m).respond s x.call).state xs u j

pub marked_numbers : MarkedNumbers
unfolding cases EachRight
marked_numbers = record {
  m4 = λ m o. returned_as m _ _ (each_right.0.right_in m o).answered;
  m8 = λ m o. returned_as m _ _ (each_right.1.1.1.1.1.1.0.right_in m o).answered;
  m10 = λ m o. returned_as m _ _ (each_right.1.1.1.1.1.1.1.0.right_in m o).answered;
}
