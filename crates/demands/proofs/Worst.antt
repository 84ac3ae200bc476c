-- The worst case of plan A: a timed run in which every visit takes the most ticks that it may, and the switch too. Its answers are those of the marked
-- case m3. The same with a third number, where the others resume behind the last visit of the loop, and the way back takes its most as well.
use mathlib.Core.Bool.{true, false}
use mathlib.Core.List.{List, [], ◌∷◌}
use mathlib.Core.Path.{◌≡◌, refl, ap, subst}
use Prim.Native.Nat.{ℕ, ◌+◌, ◌≤◌}
use native.Mathlib.Omega.{arith}
use lib.IntN.{pos, negsuc}
use Rattle.model.specs.declared.Edition.{Edition}
use Rattle.model.specs.declared.Edition.TheVariants.{First, Second}
use Rattle.model.specs.Plan.{Block, Plan}
use Rattle.model.specs.Forms.{forms, linked, last, main}
use Rattle.model.specs.Runs.{Run, ends, visit, leave, turn, visits}
use Rattle.model.specs.declared.Call.{Call}
use Rattle.model.specs.declared.Call.TheVariants.{Release, Report, End}
use Rattle.model.specs.declared.Word.TheVariants.{Go, Suspend}
use Rattle.model.specs.declared.Answer.{Answer}
use Rattle.model.specs.declared.Answer.TheVariants.{Decided}
use Rattle.model.specs.declared.Others.{Others}
use Rattle.model.specs.declared.Others.TheVariants.{Running, Suspended}
use Rattle.model.specs.Calls.{Controller, cost, others_after, longest_pause}
use Rattle.model.specs.Decisions.{Decision}
use Rattle.model.specs.Timed.{Phase, opened, closed, Open, passed_point, passed_silent, CallList, stops, releases, silent_visit, point_visit}
use Rattle.model.specs.Timed as timed
use Rattle.model.specs.Histories.{Exchange, ◌gets◌, Answered}
use Rattle.model.specs.Acceptance.{size, sizes}
use Rattle.model.specs.Worked.{plan_A, returning_A, point_block, silent_block}
use Rattle.model.proofs.Worked.{plan_A_accepted}
use Rattle.text.specs.Spelling.{decimal, numerals, spell}
use Rattle.reader.specs.Outcome.{plan}
use Rattle.reader.specs.Print.{forms_in, forms_all, forms_of, join_all, print}
use Rattle.table.specs.Reading.{verdict}
use Rattle.table.proofs.Theorems as table
use Rattle.control.specs.Cases.{worst_of_A, cases, worst_of_returning_A, returns}
use Rattle.demands.specs.Lists.{exchanges, text_A, text_returning_A}
use Rattle.rolsipay.specs.Calling.{zeros}
use Rattle.demands.specs.Delivered.{Memory, delivered}
use Rattle.demands.specs.Rules.{TableOf}
use Rattle.demands.specs.Cases.{EachRight}
use Rattle.demands.proofs.Cases.{each_right, each_return_right}

module _ {S : Type 0} (p : Plan) (k : Controller S) where
  -- A list of calls from a state on, with these exchanges.
  abbrev Played : S → Others → Phase → List Exchange → Type 0
  Played s others phase xs = (z : CallList p k s others phase) × (exchanges p k z ≡ xs)

  -- The first answer, and those behind it.
  first_answer : (s : S) (c : Call) (a : Answer) (xs : List Exchange) → Answered k s ((c gets a) ∷ xs) → ((k.respond s c).answer ≡ a) × Answered k (k.respond s c).state xs
  unfolding Answered
  first_answer s c a xs e = e

  -- Lists that begin with a release, a silent visit, a point's visit and an end, where the answers are known.
  release_played : {s : S} {others : Others} {a : Answer} {xs : List Exchange} (r : Run (main p)) (switch : ℕ) → switch ≤ longest_pause p a →
      Answered k s ((Release gets a) ∷ xs) →
      (Answered k (k.respond s Release).state xs →
      Played (k.respond s Release).state (others_after a others) (opened (timed.released others switch (visits r))) xs) →
      Played s others closed ((Release gets a) ∷ xs)
  unfolding exchanges
  release_played {s} {others} {a} {xs} r switch q e f =
      let (i, j) = first_answer s Release a xs e in
      subst (λ y. switch ≤ longest_pause p y → Played (k.respond s Release).state (others_after y others) (opened (timed.released others switch (visits r))) xs → Played s others closed ((Release gets y) ∷ xs)) i
      (λ q (z, w). (releases r switch q z, ap (λ l. (Release gets (k.respond s Release).answer) ∷ l) w)) q (f j)

  silent_played : {s : S} {others : Others} {o : Open} {xs : List Exchange} (b : Block) (w : List Block) (ticks : ℕ) → o.to_come ≡ b ∷ w → b.point ≡ false →
      ticks ≤ cost others b → Played s others (opened (passed_silent o w ticks)) xs → Played s others (opened o) xs
  unfolding exchanges
  silent_played b w ticks d q h (z, i) = (silent_visit b w ticks d q h z, i)

  point_played : {s : S} {others : Others} {o : Open} {a : Answer} {xs : List Exchange} (b : Block) (w : List Block) (switch ticks : ℕ) →
      o.to_come ≡ b ∷ w → b.point ≡ true → switch ≤ longest_pause p a → Answered k s ((Report b.number o.clock gets a) ∷ xs) → ticks ≤ cost (others_after a others) b →
      (Answered k (k.respond s (Report b.number o.clock)).state xs →
      Played (k.respond s (Report b.number o.clock)).state (others_after a others) (opened (passed_point others o b.number w (o.clock + switch + ticks))) xs) →
      Played s others (opened o) ((Report b.number o.clock gets a) ∷ xs)
  unfolding exchanges
  point_played {s} {others} {o} {a} {xs} b w switch ticks d q h e l f =
      let c = Report b.number o.clock in
      let (i, j) = first_answer s c a xs e in
      subst (λ y. switch ≤ longest_pause p y → ticks ≤ cost (others_after y others) b → Played (k.respond s c).state (others_after y others) (opened (passed_point others o b.number w (o.clock + switch + ticks))) xs → Played s others (opened o) ((c gets y) ∷ xs)) i
      (λ h l (z, v). (point_visit b w switch ticks d q h l z, ap (λ l. (c gets (k.respond s c).answer) ∷ l) v)) h l (f j)

  end_played : {s : S} {others : Others} {o : Open} {a : Answer} → o.to_come ≡ [] → Answered k s ((End o.clock gets a) ∷ []) →
      Played s others (opened o) ((End o.clock gets a) ∷ [])
  unfolding exchanges
  end_played {s} {others} {o} {a} d e = (timed.ends d stops, ap (λ y. (End o.clock gets y) ∷ []) (first_answer s (End o.clock) a [] e).0)

-- Plan A in any edition, and its longest run: three rounds of the loop.
abbrev A_in : Edition → Plan
A_in e = record { deadline = 100; switch = 4; edition = e; functions = plan_A.functions }

run_A : (e : Edition) → Run (main (A_in e))
unfolding plan_A forms linked last
run_A e = visit (turn (visit ends) (turn (visit ends) (turn (visit ends) (leave (visit ends)))))

-- The first calls of its worst case: visit 3 of the loop at 57 suspends the others.
abbrev up_to_visit_3 : List Exchange → List Exchange
up_to_visit_3 xs =
    (Release gets Decided Go 49 (pos 47) false) ∷ (Report 0 0 gets Decided Go 49 (pos 38) false) ∷ (Report 1 9 gets Decided Go 44 (pos 19) false) ∷
    (Report 1 33 gets Decided Go 32 (pos 7) false) ∷ (Report 1 57 gets Decided Suspend 20 (negsuc 4) false) ∷ xs

-- Where a list goes on from visit 4 at 57 + 4 + 2 + 10, one from the release on has these calls before it.
up_to_visit_4 : (e : Edition) {S : Type 0} (k : Controller S) (s : S) (xs : List Exchange) → Answered k s (up_to_visit_3 xs) →
    ((s : S) (h : List ℕ) (ds : List Decision) → Answered k s xs →
    Played (A_in e) k s Suspended (opened (record { clock = 73; to_come = point_block 1 2 4 ∷ silent_block 3 6 8 ∷ []; history = h; decisions = ds })) xs) →
    Played (A_in e) k s Running closed (up_to_visit_3 xs)
unfolding run_A plan_A forms linked last visits
up_to_visit_4 e k s xs a f =
    let p = A_in e in
    release_played p k (run_A e) 0 (omega arith) a (λ a.
    point_played p k (point_block 0 5 9) _ 0 9 refl refl (omega arith) a (omega arith) (λ a.
    point_played p k (point_block 1 2 4) _ 0 4 refl refl (omega arith) a (omega arith) (λ a.
    silent_played p k (silent_block 2 10 20) _ 20 refl refl (omega arith) (
    point_played p k (point_block 1 2 4) _ 0 4 refl refl (omega arith) a (omega arith) (λ a.
    silent_played p k (silent_block 2 10 20) _ 20 refl refl (omega arith) (
    point_played p k (point_block 1 2 4) _ 4 2 refl refl (omega arith) a (omega arith) (λ a.
    silent_played p k (silent_block 2 10 20) _ 10 refl refl (omega arith) (f _ _ _ a))))))))

-- The list of calls that it makes in edition 1, where the calls have these answers: visit 4 and leaf 3 take their isolated cost.
played_A : {S : Type 0} (k : Controller S) (s : S) → Answered k s worst_of_A → Played plan_A k s Running closed worst_of_A
unfolding worst_of_A plan_A
played_A k s a =
    up_to_visit_4 First k s _ a (λ s h ds a.
    point_played plan_A k (point_block 1 2 4) _ 0 2 refl refl (omega arith) a (omega arith) (λ a.
    silent_played plan_A k (silent_block 3 6 8) _ 6 refl refl (omega arith) (
    end_played plan_A k refl a)))

-- And in edition 2: the way back takes U, and visit 4 and leaf 3 take their max-load cost.
played_returning_A : {S : Type 0} (k : Controller S) (s : S) → Answered k s worst_of_returning_A → Played returning_A k s Running closed worst_of_returning_A
unfolding worst_of_returning_A returning_A plan_A
played_returning_A k s a =
    up_to_visit_4 (Second 3) k s _ a (λ s h ds a.
    point_played returning_A k (point_block 1 2 4) _ 3 4 refl refl (omega arith) a (omega arith) (λ a.
    silent_played returning_A k (silent_block 3 6 8) _ 8 refl refl (omega arith) (
    end_played returning_A k refl a)))

-- The answers are those of m3, and of the first case of edition 2.
pub answers_A : (m : Memory) → TableOf plan_A m → Answered (delivered m) zeros worst_of_A
unfolding cases EachRight
answers_A m o = (each_right.1.1.1.0.right_in m o).answered

answers_returning_A : (m : Memory) → TableOf returning_A m → Answered (delivered m) zeros worst_of_returning_A
unfolding returns EachRight
answers_returning_A m o = (each_return_right.0.right_in m o).answered

-- In every memory that holds the table of the plan there is a list of calls with these exchanges.
pub worst_A : (m : Memory) → TableOf plan_A m → Played plan_A (delivered m) zeros Running closed worst_of_A
worst_A m o = played_A (delivered m) zeros (answers_A m o)

pub worst_returning_A : (m : Memory) → TableOf returning_A m → Played returning_A (delivered m) zeros Running closed worst_of_returning_A
worst_returning_A m o = played_returning_A (delivered m) zeros (answers_returning_A m o)

-- The text of the plan is the one that it is printed as.
print_A : text_A ≡ print plan_A
unfolding text_A plan_A print forms_of forms_all forms_in join_all spell decimal numerals
print_A = refl

print_returning_A : text_returning_A ≡ print returning_A
unfolding text_returning_A returning_A plan_A print forms_of forms_all forms_in join_all spell decimal numerals
print_returning_A = refl

-- So it is read as the plan.
pub read_A : (capacity : ℕ) → 4 ≤ capacity → verdict capacity text_A ≡ plan plan_A
unfolding plan_A sizes size
read_A capacity h = (table.read_as_plan capacity text_A plan_A).1 (print_A, plan_A_accepted, h)

pub read_returning_A : (capacity : ℕ) → 4 ≤ capacity → verdict capacity text_returning_A ≡ plan returning_A
unfolding returning_A plan_A sizes size returns EachRight
read_returning_A capacity h = (table.read_as_plan capacity text_returning_A returning_A).1 (print_returning_A, each_return_right.0.accepted, h)
