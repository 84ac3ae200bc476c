-- What a call on a table does to the state, and what it answers. Assumes nothing.
use mathlib.Core.Bool.{Bool, true, false}
use mathlib.Core.Option.{Option, none, some}
use mathlib.Core.Path.{◌≡◌, refl}
use Prim.Native.Nat.{ℕ, ◌+◌, ◌≤◌}
use native.Mathlib.Omega.{arith}
use lib.IntN.{ℤ}
use lib.Dec.{leb, ltb}
use borrow.Author.Tests.{ltb-false}
use Rattle.model.specs.declared.Refusal.{Refusal}
use Rattle.model.specs.declared.Refusal.TheVariants as refusals
use Rattle.model.specs.declared.Refusal.TheVariants.{Broken, Busy, Unfit, Stranger, Backward, Astray}
use Rattle.model.specs.Refusals.{number_of}
use Rattle.model.specs.Plan.{C, Plan, all_leaves}
use Rattle.model.specs.Forms.{main}
use Rattle.model.specs.Total.{total}
use Rattle.model.specs.Places.{pick}
use Rattle.model.specs.Stack.{Levels}
use Rattle.model.specs.Decisions.{at_release, at_report, outlook, holds, margin, late, word}
use Rattle.model.specs.Controller.{idle, is_point, next_levels, can_close, decided, reached, ending, respond}
use Rattle.model.specs.declared.Call.{Call}
use Rattle.model.specs.declared.Call.TheVariants.{Release, Report, End}
use Rattle.model.specs.declared.Answer.{Answer}
use Rattle.model.specs.declared.Answer.TheVariants.{Decided, Closed}
use Rattle.model.specs.declared.Others.{Others}
use Rattle.model.specs.declared.Others.TheVariants.{Running, Suspended}
use Rattle.model.specs.declared.Word.{Word}
use Rattle.model.specs.declared.Ending.{Ending}
use Rattle.model.specs.Calls.{Reply, refuse, others_by_word}
use Rattle.table.specs.Table.{Table, plan_of}
use Rattle.control.specs.declared.State.{State}
use Rattle.control.specs.declared.State.TheVariants.{Idle, Open}
use Rattle.control.specs.declared.OpenRelease.{OpenRelease}
use Rattle.control.specs.State.{fresh, standing, open_at_release, open_at_report}
use Rattle.control.specs.Calls.{place_of, running_at, found_at, read_state, in_numbers, reply, on_state, on_plan, call_on}
use Rattle.transcript.specs.Transcript.{shares}

abbrev replied : State → Answer → Reply State
replied x a = record { state = x; answer = a }

-- What the others do after a decision, by whether the gap after it is shared.
abbrev pub doing : Bool → Others
doing true = Running
doing false = Suspended

-- A refused call keeps the state. After an accepted release or report one is open with its reading, and the others run exactly if the gap after it is
-- shared. An accepted report or end comes where one is open, its reading is not below the last one, and an end leaves a fresh state.
pub data Effect : State → Call → Reply State → Type 0 where
  kept : (s : State) (c : Call) (k : Refusal) → number_of k ≤ 17 → Effect s c (refuse s k)
  opens : (s : State) (w : Word) (r : ℕ) (m : ℤ) (l : Bool) (x : OpenRelease) → x.reading ≡ 0 → x.others ≡ doing (shares (Decided w r m l)) →
      Effect s Release (replied (Open x) (Decided w r m l))
  goes : (o : OpenRelease) (n e : ℕ) (w : Word) (r : ℕ) (m : ℤ) (l : Bool) (x : OpenRelease) → o.reading ≤ e → x.reading ≡ e →
      x.others ≡ doing (shares (Decided w r m l)) → Effect (Open o) (Report n e) (replied (Open x) (Decided w r m l))
  ends : (o : OpenRelease) (e : ℕ) (w : Ending) (l : Bool) → o.reading ≤ e → Effect (Open o) (End e) (replied fresh (Closed w l))

-- The word of a decision tells what the others do then.
word_tells : (h : Bool) (others : Others) (r : ℕ) (m : ℤ) (l : Bool) → others_by_word (word h others) others ≡ doing (shares (Decided (word h others) r m l))
word_tells true Running r m l = refl
word_tells false Running r m l = refl
word_tells true Suspended r m l = refl
word_tells false Suspended r m l = refl

module _ (p : Plan) where
  -- No release is open.
  idle_effect : (s : State) (c : Call) → Effect s c (reply p s idle c)
  unfolding respond
  idle_effect s Release = go (leb (total C (main p) + p.switch) p.deadline)
    where
      go : (b : Bool) → Effect s Release (in_numbers p s (pick b (decided p at_release 0 Running) (refuse idle Unfit)))
      go true =
          let o = outlook p at_release in
          opens s (word (holds p o 0 Running) Running) o.remaining (margin p o 0 Running) (late p 0)
          (open_at_release p 0 (others_by_word (word (holds p o 0 Running) Running) Running)) refl
          (word_tells (holds p o 0 Running) Running o.remaining (margin p o 0 Running) (late p 0))
      go false = kept s Release Unfit (omega arith)
  idle_effect s (Report n e) = kept s (Report n e) refusals.Idle (omega arith)
  idle_effect s (End e) = kept s (End e) refusals.Idle (omega arith)

  -- One is open, and it stands at these levels.
  module _ (s : OpenRelease) (ls : Levels) where
    found_effect : (n e : ℕ) → s.reading ≤ e → (o : Option Levels) →
        Effect (Open s) (Report n e) (in_numbers p (Open s) (reached p (running_at s ls) n e s.others o))
    found_effect n e h none = kept (Open s) (Report n e) Astray (omega arith)
    found_effect n e h (some ms) =
        let o = outlook p (at_report n ms) in
        goes s n e (word (holds p o e s.others) s.others) o.remaining (margin p o e s.others) (late p e)
        (open_at_report p s.place n ms e (others_by_word (word (holds p o e s.others) s.others) s.others)) h refl
        (word_tells (holds p o e s.others) s.others o.remaining (margin p o e s.others) (late p e))

    running_effect : (c : Call) → Effect (Open s) c (reply p (Open s) (running_at s ls) c)
    unfolding respond
    running_effect Release = kept (Open s) Release Busy (omega arith)
    running_effect (Report n e) = go (is_point (all_leaves p.functions) n) (ltb e s.reading) refl
      where
        go : (b d : Bool) → ltb e s.reading ≡ d → Effect (Open s) (Report n e) (in_numbers p (Open s) (pick b
            (pick d (refuse (running_at s ls) Backward) (reached p (running_at s ls) n e s.others (next_levels p (place_of s ls) n)))
            (refuse (running_at s ls) Stranger)))
        go false d h = kept (Open s) (Report n e) Stranger (omega arith)
        go true true h = kept (Open s) (Report n e) Backward (omega arith)
        go true false h = found_effect n e (ltb-false e s.reading h) (next_levels p (place_of s ls) n)
    running_effect (End e) = go (ltb e s.reading) (can_close p (place_of s ls)) refl
      where
        go : (d b : Bool) → ltb e s.reading ≡ d → Effect (Open s) (End e) (in_numbers p (Open s) (pick d (refuse (running_at s ls) Backward)
            (pick b (record { state = idle; answer = Closed (ending s.others) (late p e) }) (refuse (running_at s ls) Astray))))
        go true b h = kept (Open s) (End e) Backward (omega arith)
        go false true h = ends s e (ending s.others) (late p e) (ltb-false e s.reading h)
        go false false h = kept (Open s) (End e) Astray (omega arith)

  -- By whether an open release stands anywhere, and whether one is open.
  standing_effect : (s : OpenRelease) (c : Call) (o : Option Levels) → Effect (Open s) c (on_state p (Open s) c (found_at s o))
  standing_effect s c none = kept (Open s) c Broken (omega arith)
  standing_effect s c (some ls) = running_effect s ls c

  state_effect : (s : State) (c : Call) → Effect s c (on_state p s c (read_state p s))
  state_effect Idle c = idle_effect Idle c
  state_effect (Open s) c = standing_effect s c (standing p s)

-- Any call on any table.
pub effect : (t : Table) (s : State) (c : Call) → Effect s c (call_on t s c)
unfolding call_on
effect t s c = go (plan_of t)
  where
    go : (o : Option Plan) → Effect s c (on_plan s c o)
    go none = kept s c Broken (omega arith)
    go (some p) = state_effect p s c
