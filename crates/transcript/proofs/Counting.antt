-- The ticks that are counted on the way are those of the accepted calls: each gap goes to one of both sums. Assumes nothing.
use mathlib.Core.Bool.{Bool, true, false}
use mathlib.Core.List.{List, [], ◌∷◌, ◌++◌, append_assoc}
use mathlib.Core.Logic.{◌↔◌}
use mathlib.Core.Path.{◌≡◌, refl, sym, ap, ◌∙◌}
use Prim.Native.Nat.{ℕ, ◌+◌, ◌-◌, ◌≤◌}
use native.Mathlib.Omega.{arith}
use Rattle.model.specs.declared.Refusal.{Refusal}
use Rattle.model.specs.declared.Refusal.TheVariants.{Garbled}
use Rattle.model.specs.Refusals.{number_of}
use Rattle.model.specs.Places.{pick}
use Rattle.model.specs.declared.Call.{Call}
use Rattle.model.specs.declared.Call.TheVariants.{Release, Report, End}
use Rattle.model.specs.declared.Answer.TheVariants.{Refused, Decided, Closed}
use Rattle.model.specs.declared.Ending.{Ending}
use Rattle.model.specs.Calls.{Reply}
use Rattle.model.specs.Histories.{Exchange, ◌gets◌}
use Rattle.table.specs.Table.{Table}
use Rattle.control.specs.declared.State.{State}
use Rattle.control.specs.declared.State.TheVariants.{Idle, Open}
use Rattle.control.specs.declared.OpenRelease.{OpenRelease}
use Rattle.print.specs.Lines.{answer_line}
use Rattle.std.specs.Prelude.{Option, Some, None}
use Rattle.flight_log.specs.Log.{entry_of, call_text, Small}
use Rattle.flight_log.proofs.Theorems.{other_exactly}
use Rattle.transcript.specs.Transcript.{reply_to, reading_of, shares, gap, shared, suspended, after_call, ticks, after_end}
use Rattle.transcript.specs.Transcript.{Progress, next_progress, progress_after, line_told, at_first}
use Rattle.transcript.specs.Pieces.{shared_to, shared_after, ticks_to, ticks_after, entry_shared, entry_told}
use Rattle.transcript.proofs.Effects.{Effect, kept, opens, goes, ends, doing, effect}

-- GAPS

-- The last of some accepted calls.
pub data LastOf : List Exchange → Exchange → Type 0 where
  only : {z : Exchange} → LastOf (z ∷ []) z
  later : {x y z : Exchange} {ys : List Exchange} → LastOf (y ∷ ys) z → LastOf (x ∷ y ∷ ys) z

pub last_more : (xs : List Exchange) (y : Exchange) → LastOf (xs ++ (y ∷ [])) y
last_more [] y = only
last_more (x ∷ []) y = later only
last_more (x ∷ w ∷ xs) y = later (last_more (w ∷ xs) y)

-- A further call adds the gap before it to one of both sums, by the decision before the gap.
pub shared_more : {xs : List Exchange} {z : Exchange} → LastOf xs z → (y : Exchange) →
    shared (xs ++ (y ∷ [])) ≡ shared xs + pick (shares z.answer) (gap z y) 0
unfolding shared
shared_more only y = omega arith
shared_more (later {x} {y = w} h) y = omega (arith, shared_more h y)

pub suspended_more : {xs : List Exchange} {z : Exchange} → LastOf xs z → (y : Exchange) →
    suspended (xs ++ (y ∷ [])) ≡ suspended xs + pick (shares z.answer) 0 (gap z y)
unfolding suspended
suspended_more only y = omega arith
suspended_more (later {x} {y = w} h) y = omega (arith, suspended_more h y)

-- One call alone has none.
pub no_gap : (x : Exchange) → (shared (x ∷ []) ≡ 0) × (suspended (x ∷ []) ≡ 0)
unfolding shared suspended
no_gap x = (refl, refl)

-- The same of any calls and two more.
pub gap_counted : (xs : List Exchange) (x y : Exchange) →
    (shared (xs ++ (x ∷ y ∷ [])) ≡ shared (xs ++ (x ∷ [])) + pick (shares x.answer) (gap x y) 0) ×
    (suspended (xs ++ (x ∷ y ∷ [])) ≡ suspended (xs ++ (x ∷ [])) + pick (shares x.answer) 0 (gap x y))
gap_counted xs x y =
    let two : (xs ++ (x ∷ [])) ++ (y ∷ []) ≡ xs ++ (x ∷ y ∷ []) = append_assoc xs (x ∷ []) (y ∷ []) in
    (rw two at (shared_more (last_more xs x) y), rw two at (suspended_more (last_more xs x) y))

-- COUNTING

-- The accepted calls of an open release, where n ticks were counted as shared: the last of them tells its reading and what the others do, and both sums
-- together are the reading.
pub record Counted (s : OpenRelease) (xs : List Exchange) (n : ℕ) : Type 0 where
  pub last : Exchange
  pub is_last : LastOf xs last
  pub reading_is : s.reading ≡ reading_of last.call
  pub others_are : s.others ≡ doing (shares last.answer)
  pub shared_is : n ≡ shared xs
  pub sum_is : shared xs + suspended xs ≡ s.reading

-- Where a release is open its calls were counted.
abbrev pub CountedOpen : State → List Exchange → ℕ → Type 0
CountedOpen Idle xs n = Unit
CountedOpen (Open s) xs n = Counted s xs n

-- One gap more.
module _ {s : OpenRelease} {xs : List Exchange} {n : ℕ} (k : Counted s xs n) (y : Exchange) (onward : s.reading ≤ reading_of y.call) where
  abbrev now_read : ℕ
  now_read = reading_of y.call

  gap_shared : shared_to s.others s.reading now_read n ≡ shared (xs ++ (y ∷ []))
  gap_shared = rw k.others_are (go (shares k.last.answer) (shared_more k.is_last y))
    where
      go : (b : Bool) → shared (xs ++ (y ∷ [])) ≡ shared xs + pick b (gap k.last y) 0 → shared_to (doing b) s.reading now_read n ≡ shared (xs ++ (y ∷ []))
      go true q = omega (arith, k.shared_is, k.sum_is, k.reading_is)
      go false q = omega (arith, k.shared_is)

  gap_sum : shared (xs ++ (y ∷ [])) + suspended (xs ++ (y ∷ [])) ≡ now_read
  gap_sum = go (shares k.last.answer) (shared_more k.is_last y) (suspended_more k.is_last y)
    where
      go : (b : Bool) → shared (xs ++ (y ∷ [])) ≡ shared xs + pick b (gap k.last y) 0 →
          suspended (xs ++ (y ∷ [])) ≡ suspended xs + pick b 0 (gap k.last y) →
          shared (xs ++ (y ∷ [])) + suspended (xs ++ (y ∷ [])) ≡ now_read
      go true q r = omega (arith, k.sum_is, k.reading_is)
      go false q r = omega (arith, k.sum_is, k.reading_is)

  -- The ticks up to the reading of an end.
  gap_ticks : ticks_to now_read (shared_to s.others s.reading now_read n) ≡ ticks (xs ++ (y ∷ []))
  gap_ticks =
      let a = shared (xs ++ (y ∷ [])) in
      let b = suspended (xs ++ (y ∷ [])) in
      let rest : now_read - a ≡ b = omega (arith, gap_sum) in
      rw (gap_shared, rest) refl

-- ONE LINE MORE

-- What is printed of a call, and what is counted then, by what it does to the state.
counted_step : {s : State} {c : Call} {r : Reply State} → Effect s c r → (xs : List Exchange) (n : ℕ) → CountedOpen s xs n →
    (answer_line r.answer ++ ticks_after r.answer (reading_of c) (shared_after s c r.answer n)
    ≡ answer_line r.answer ++ after_end r.answer (after_call xs c r.answer))
    × CountedOpen r.state (after_call xs c r.answer) (shared_after s c r.answer n)
counted_step (kept s c k h) xs n counts = (refl, counts)
counted_step (opens s w r m l x z o) xs n counts = (
  refl,
  record {
    last = Release gets Decided w r m l;
    is_last = only;
    reading_is = z;
    others_are = o;
    shared_is = unfold shared in refl;
    sum_is = unfold shared suspended in sym z;
  },
)
counted_step (goes s i e w r m l x onward z o) xs n counts =
    let y : Exchange = Report i e gets Decided w r m l in (
      refl,
      record {
        last = y;
        is_last = last_more xs y;
        reading_is = z;
        others_are = o;
        shared_is = gap_shared counts y onward;
        sum_is = gap_sum counts y onward ∙ sym z;
      },
    )
counted_step (ends s e w l onward) xs n counts =
    (ap (λ (t : List ℕ). answer_line (Closed w l) ++ t) (gap_ticks counts (End e gets Closed w l) onward), tt)

-- The same of any line of a log.
pub counted_line : (t : Table) (s : State) (xs : List Exchange) (n : ℕ) (e : Option Call) → CountedOpen s xs n →
    (entry_told t s n e ≡ line_told t (record { state = s; accepted = xs }) e)
    × CountedOpen (next_progress t (record { state = s; accepted = xs }) e).state (next_progress t (record { state = s; accepted = xs }) e).accepted
    (entry_shared t s n e)
counted_line t s xs n (Some c) counts = counted_step (effect t s c) xs n counts
counted_line t s xs n None counts = (refl, counts)

-- LINES OF A LOG

-- A refused line moves nothing.
abbrev progress : State → List Exchange → Progress
progress s xs = record { state = s; accepted = xs }

kept_progress : {s : State} {c : Call} {r : Reply State} → Effect s c r → (xs : List Exchange) (k : Refusal) → r.answer ≡ Refused k →
    progress r.state (after_call xs c r.answer) ≡ progress s xs
kept_progress (kept s c n h) xs k q = refl
kept_progress (opens s w r m l x z o) xs k q = let z : ◌≡◌ {A = ℕ} 0 1 = cc in absurd (omega arith)
kept_progress (goes s i n w r m l x h z o) xs k v = let z : ◌≡◌ {A = ℕ} 0 1 = cc in absurd (omega arith)
kept_progress (ends s n w l h) xs k v = let z : ◌≡◌ {A = ℕ} 0 1 = cc in absurd (omega arith)

pub refused_moves_nothing : (t : Table) (x : Progress) (e : Option Call) (k : Refusal) → (reply_to t x.state e).answer ≡ Refused k → next_progress t x e ≡ x
refused_moves_nothing t x (Some c) k q = kept_progress (effect t x.state c) x.accepted k q
refused_moves_nothing t x None k q = refl

-- A call is never refused by 18.
below_garbled : {s : State} {c : Call} {r : Reply State} → Effect s c r → r.answer ≡ Refused Garbled → ⊥
below_garbled (kept s c k h) e = let z : number_of k ≡ 18 = ap number_of {y = Garbled} cc in omega arith
below_garbled (opens s w r m l x z o) e = let z : ◌≡◌ {A = ℕ} 0 1 = cc in omega arith
below_garbled (goes s i n w r m l x h z o) e = let z : ◌≡◌ {A = ℕ} 0 1 = cc in omega arith
below_garbled (ends s n w l h) e = let z : ◌≡◌ {A = ℕ} 0 1 = cc in omega arith

garbled_other : (t : Table) (s : State) (e : Option Call) → ((reply_to t s e).answer ≡ Refused Garbled) ↔ (e ≡ None)
garbled_other t s (Some c) = (λ h. absurd (below_garbled (effect t s c) h), λ h. let z : ◌≡◌ {A = ℕ} 0 1 = cc in absurd (omega arith))
garbled_other t s None = (λ h. refl, λ h. refl)

pub garbled_exactly : (t : Table) (s : State) (l : List ℕ) → ((reply_to t s (entry_of l)).answer ≡ Refused Garbled) ↔ ((c : Call) → Small c → l ≡ call_text c → ⊥)
garbled_exactly t s l = (
  λ h. (other_exactly l).0 ((garbled_other t s (entry_of l)).0 h),
  λ h. (garbled_other t s (entry_of l)).1 ((other_exactly l).1 h),
)

-- Behind any lines the accepted calls of an open release are counted.
counted_after : (t : Table) (es : List (Option Call)) (x : Progress) (n : ℕ) → CountedOpen x.state x.accepted n →
    (m : ℕ) × CountedOpen (progress_after t x es).state (progress_after t x es).accepted m
unfolding progress_after
counted_after t [] x n k = (n, k)
counted_after t (e ∷ es) x n k = counted_after t es (next_progress t x e) (entry_shared t x.state n e) (counted_line t x.state x.accepted n e k).1

-- At an accepted end both sums together are its reading.
end_sum : {s : State} {e : ℕ} {r : Reply State} → Effect s (End e) r → (xs : List Exchange) (n : ℕ) → CountedOpen s xs n → {w : Ending} {late : Bool} →
    r.answer ≡ Closed w late → shared (after_call xs (End e) r.answer) + suspended (after_call xs (End e) r.answer) ≡ e
end_sum (kept s c k h) xs n counts q = let z : ◌≡◌ {A = ℕ} 0 1 = cc in absurd (omega arith)
end_sum (ends s e w l onward) xs n counts q = gap_sum counts (End e gets Closed w l) onward

pub sum_is_end_reading : (t : Table) (es : List (Option Call)) (e : ℕ) (w : Ending) (late : Bool) →
    let x = progress_after t at_first es in
    let xs = (next_progress t x (Some (End e))).accepted in
    (reply_to t x.state (Some (End e))).answer ≡ Closed w late → shared xs + suspended xs ≡ e
sum_is_end_reading t es e w late q =
    let x = progress_after t at_first es in
    let (n, k) = counted_after t es at_first 0 tt in
    end_sum (effect t x.state (End e)) x.accepted n k q
