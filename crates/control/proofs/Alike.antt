-- The state that a call writes stands for the state that the controller over places leaves: so the calls on the table of an accepted plan answer as that
-- controller does, call after call.
use mathlib.Core.Bool.{Bool, true, false}
use mathlib.Core.List.{List, [], ◌∷◌, ◌++◌}
use mathlib.Core.Option.{Option, none, some}
use mathlib.Core.Path.{◌≡◌, refl, ap, sym, ◌∙◌, subst}
use Prim.Native.Nat.{ℕ, ◌+◌, ◌-◌, ◌≤◌}
use native.Mathlib.Omega.{arith}
use lib.Dec.{leb, ltb}
use lib.ListN.{length, take, drop, length-replicate}
use Rattle.model.specs.declared.Refusal.TheVariants.{Unfit, Backward, Astray}
use Rattle.model.specs.Plan.{C, Plan, all_leaves}
use Rattle.model.specs.Forms.{main}
use Rattle.model.specs.Total.{total}
use Rattle.model.specs.Levels.{Frame, framed}
use Rattle.model.specs.Acceptance.{Accepted}
use Rattle.model.specs.Places.{pick}
use Rattle.model.specs.Stack.{Levels, times, decode}
use Rattle.model.specs.declared.Call.{Call}
use Rattle.model.specs.declared.Call.TheVariants.{Release, Report, End}
use Rattle.model.specs.declared.Answer.TheVariants.{Closed}
use Rattle.model.specs.declared.Others.{Others}
use Rattle.model.specs.declared.Others.TheVariants.{Running}
use Rattle.model.specs.Calls.{Reply, refuse}
use Rattle.model.specs.Decisions.{at_release, at_report, late}
use Rattle.model.specs.Controller as places
use Rattle.model.specs.Controller.{idle, running, is_point, next_levels, can_close, decided, reached, ending, respond}
use Rattle.model.proofs.Frames.{framed_leaf}
use Rattle.model.proofs.Nexts.{Top}
use Rattle.table.specs.Table.{table_of, same_numbers}
use Rattle.table.proofs.Plans.{plan_of_exactly, same_list}
use Rattle.place.specs.Stack.{frames}
use Rattle.place.specs.declared.Place.{Place}
use Rattle.control.specs.declared.OpenRelease.{OpenRelease}
use Rattle.control.specs.declared.State.{State}
use Rattle.control.specs.declared.State.TheVariants.{Idle, Open}
use Rattle.control.specs.State.{stack_at, stack_of, points?, levels_of, timed, standing, open_at_release, open_at_report}
use Rattle.control.specs.Calls.{place_of, running_at, found_at, read_state, written, left, reply, on_state, on_plan, call_on}
use Rattle.control.proofs.Arrays.{length_put, put_at, length_frames, frames_moved}
use Rattle.control.proofs.Places.{decode_top, moved, Moved, first_moved, next_moved}

module _ (p : Plan) (a : Accepted p) where
  -- An open release that stands at levels.
  pub record Stands (o : OpenRelease) (ls : Levels) : Type 0 where
    pub stands : standing p o ≡ some ls
    pub leaves_33 : length o.place.leaves ≡ 33
    pub earlier_33 : length o.place.earlier ≡ 33

  -- The state is an open release that stands at levels, and so it stands for x.
  pub record OpenAt (s : State) (x : places.State) : Type 0 where
    pub release : OpenRelease
    pub levels : Levels
    pub is : s ≡ Open release
    pub at : Stands release levels
    pub for : x ≡ running_at release levels

  -- The tie between a state and the state of the controller over places that it stands for.
  abbrev pub Tied : State → places.State → Type 0
  Tied s idle = s ≡ Idle
  Tied s (running x last others) = OpenAt s (running x last others)

  -- The calls on this plan's table, where the state stands for x.
  on_table : (s : State) (c : Call) → call_on (table_of p) s c ≡ on_state p s c (read_state p s)
  unfolding call_on
  on_table s c = ap (λ o. on_plan s c o) ((plan_of_exactly (table_of p) p).1 (a, refl))

  pub on_tied : (s : State) (x : places.State) (c : Call) → Tied s x → call_on (table_of p) s c ≡ reply p s x c
  on_tied s idle c e = on_table s c ∙ ap (λ (t : State). on_state p s c (read_state p t)) e
  on_tied s (running x last others) c k =
      on_table s c ∙ (
      ap (λ (t : State). on_state p s c (read_state p t)) k.is ∙
      (ap (λ (q : Option Levels). on_state p s c (found_at k.release q)) k.at.stands ∙ ap (λ (y : places.State). reply p s y c) (sym k.for))
      )

  -- The same numbers pass the test.
  pub timed_same : (o : OpenRelease) (ls : Levels) → o.times ≡ times (main p) ls → timed p o (some ls) ≡ some ls
  timed_same o ls e = rw ((same_list o.times (times (main p) ls)).1 e)

  -- STATES AFTER A CALL

  stands_release : (t : ℕ) (others : Others) → Stands (open_at_release p t others) []
  unfolding frames
  stands_release t others =
      record {
        stands = timed_same (open_at_release p t others) [] refl;
        leaves_33 = length-replicate {A = ℕ} 33 0;
        earlier_33 = length-replicate {A = ℕ} 33 0;
      }

  -- Levels of a stack that is not empty.
  pub levels_some : (ss : List Frame) (ls : Levels) → points? p ss ≡ true → decode (main p) [] ss ≡ some ls → levels_of p ss ≡ some ls
  unfolding decode
  levels_some [] ls q d = absurd (let z : ◌≡◌ {A = ℕ} 0 1 = cc in omega arith)
  levels_some (f ∷ fs) ls q d = rw q d

  new_frame : (n : ℕ) (above : List Frame) → framed n above ≡ record { leaf = n; earlier = (framed n above).earlier }
  new_frame n above = λ i. record { leaf = framed_leaf n above i; earlier = (framed n above).earlier }

  pub stack_moved : (x : Place) (n : ℕ) (ls : Levels) (t : ℕ) (others : Others) → length x.leaves ≡ 33 → length x.earlier ≡ 33 → 1 ≤ length ls → length ls ≤ 32 →
      length ls - 1 ≤ length (stack_at x) → stack_of (open_at_report p x n ls t others) ≡ moved (stack_at x) n (length ls)
  stack_moved x n ls t others u v l h f =
      let c = (framed n (drop (length ls - 1) (stack_at x))).earlier in
      frames_moved x.leaves x.earlier (length ls) n c x.level u v l h (omega (arith, f, length_frames x.leaves x.earlier 1 x.level)) ∙
      ap (λ g. take (length ls - 1) (stack_at x) ++ (g ∷ [])) (sym (new_frame n (drop (length ls - 1) (stack_at x))))

  stands_report : (x : Place) (n : ℕ) (ls : Levels) (t : ℕ) (others : Others) → length x.leaves ≡ 33 → length x.earlier ≡ 33 → Moved p (stack_at x) n ls →
      Stands (open_at_report p x n ls t others) ls
  stands_report x n ls t others u v m =
      let o = open_at_report p x n ls t others in
      let e : stack_of o ≡ moved (stack_at x) n (length ls) = stack_moved x n ls t others u v m.low m.high m.fits in
      let d : levels_of p (stack_of o) ≡ some ls = ap (levels_of p) e ∙ levels_some (moved (stack_at x) n (length ls)) ls m.points m.decoded in
      record {
        stands = ap (timed p o) d ∙ timed_same o ls refl;
        leaves_33 = length_put x.leaves (length ls) n u m.high;
        earlier_33 = length_put x.earlier (length ls) (framed n (drop (length ls - 1) (stack_at x))).earlier v m.high;
      }

  -- WHERE AN OPEN RELEASE STANDS

  pub timed_some : (o : OpenRelease) (q : Option Levels) (ls : Levels) → timed p o q ≡ some ls → q ≡ some ls
  timed_some o none ls e = e
  timed_some o (some ks) ls e = by (same_numbers o.times (times (main p) ks)) e
    where
      by : (q : Bool) → pick q (some ks) none ≡ some ls → some ks ≡ some ls
      by true e = e
      by false e = absurd (let z : ◌≡◌ {A = ℕ} 0 1 = cc in omega arith)

  -- A stack that is not empty is of points and decodes.
  pub levels_inner : (f : Frame) (fs : List Frame) (ls : Levels) → levels_of p (f ∷ fs) ≡ some ls → (points? p (f ∷ fs) ≡ true) × (decode (main p) [] (f ∷ fs) ≡ some ls)
  levels_inner f fs ls e = by (points? p (f ∷ fs)) refl e
    where
      by : (q : Bool) → points? p (f ∷ fs) ≡ q → pick q (decode (main p) [] (f ∷ fs)) none ≡ some ls → (points? p (f ∷ fs) ≡ true) × (decode (main p) [] (f ∷ fs) ≡ some ls)
      by true h e = (h, e)
      by false h e = absurd (let z : ◌≡◌ {A = ℕ} 0 1 = cc in omega arith)

  -- What comes next there moves the stack.
  moved_top : (o : OpenRelease) (f : Frame) (fs : List Frame) (ls : Levels) → Top ls → points? p (f ∷ fs) ≡ true → decode (main p) [] (f ∷ fs) ≡ some ls → (n : ℕ) (ls' : Levels) →
      next_levels p (place_of o ls) n ≡ some ls' → Moved p (f ∷ fs) n ls'
  moved_top o f fs ls (g, ks, z, t) q d n ls' e = next_moved p a (f ∷ fs) (g ∷ ks) (rw z at d) q n ls' (subst (λ l. next_levels p (place_of o l) n ≡ some ls') z e)

  pub next_moves : (o : OpenRelease) (ls : Levels) → standing p o ≡ some ls → (n : ℕ) (ls' : Levels) → next_levels p (place_of o ls) n ≡ some ls' → Moved p (stack_of o) n ls'
  next_moves o ls e n ls' q = by (stack_of o) (timed_some o (levels_of p (stack_of o)) ls e)
    where
      by : (ss : List Frame) → levels_of p ss ≡ some ls → Moved p ss n ls'
      by [] i = let z : [] ≡ ls = cc in first_moved p a n ls' (subst (λ l. next_levels p (place_of o l) n ≡ some ls') (sym z) q)
      by (f ∷ fs) i =
          let (x, d) = levels_inner f fs ls i in
          moved_top o f fs ls (decode_top (main p) [] (f ∷ fs) ls d) x d n ls' q

  -- THE STATE THAT IS WRITTEN

  -- An open release stands for its place.
  tied : (o : OpenRelease) (ls : Levels) → Stands o ls → Tied (Open o) (running_at o ls)
  tied o ls st = record { release = o; levels = ls; is = refl; at = st; for = refl }

  -- At the release, and at a report: it stands for what was written.
  written_release : (s : State) (t : ℕ) (others : Others) → Tied (written p s (running at_release t others)) (running at_release t others)
  written_release s t others = tied (open_at_release p t others) [] (stands_release t others)

  written_report : (o : OpenRelease) (n : ℕ) (ls : Levels) (t : ℕ) (others : Others) → length o.place.leaves ≡ 33 → length o.place.earlier ≡ 33 → Moved p (stack_of o) n ls →
      Tied (written p (Open o) (running (at_report n ls) t others)) (running (at_report n ls) t others)
  written_report o n [] t others x y m = absurd (omega (arith, m.low))
  written_report o n (g ∷ ks) t others x y m =
      record {
        release = open_at_report p o.place n (g ∷ ks) t others;
        levels = g ∷ ks;
        is = refl;
        at = stands_report o.place n (g ∷ ks) t others x y m;
        for = ap (λ k. running (at_report k (g ∷ ks)) t others) (sym (put_at o.place.leaves (length (g ∷ ks)) n x m.high));
      }

  -- EACH CALL KEEPS THE TIE

  -- The reply to a call whose answer is that of x, and what it leaves.
  abbrev Keeps : State → Reply places.State → Type 0
  Keeps s r = Tied (left p s r.state r.answer) r.state

  keeps_pick : (s : State) (q : Bool) (r r' : Reply places.State) → Keeps s r → Keeps s r' → Keeps s (pick q r r')
  keeps_pick s true r r' u v = u
  keeps_pick s false r r' u v = v

  keeps_found : (o : OpenRelease) (ls : Levels) → Stands o ls → (n t : ℕ) (q : Option Levels) → next_levels p (place_of o ls) n ≡ q →
      Keeps (Open o) (reached p (running_at o ls) n t o.others q)
  keeps_found o ls st n t none q = tied o ls st
  keeps_found o ls st n t (some ls') q = written_report o n ls' t _ st.leaves_33 st.earlier_33 (next_moves o ls st.stands n ls' q)

  keeps_running : (o : OpenRelease) (ls : Levels) → Stands o ls → (c : Call) → Keeps (Open o) (respond p (running_at o ls) c)
  unfolding respond
  keeps_running o ls st Release = tied o ls st
  keeps_running o ls st (Report n t) =
      keeps_pick (Open o) (is_point (all_leaves p.functions) n) _ _
      (keeps_pick (Open o) (ltb t o.reading) (refuse (running_at o ls) Backward) _ (tied o ls st) (keeps_found o ls st n t (next_levels p (place_of o ls) n) refl)) (tied o ls st)
  keeps_running o ls st (End t) =
      keeps_pick (Open o) (ltb t o.reading) (refuse (running_at o ls) Backward) _ (tied o ls st)
      (keeps_pick (Open o) (can_close p (place_of o ls)) (record { state = idle; answer = Closed (ending o.others) (late p t) }) (refuse (running_at o ls) Astray) refl (tied o ls st))

  keeps_idle : (c : Call) → Keeps Idle (respond p idle c)
  unfolding respond
  keeps_idle Release = keeps_pick Idle (leb (total C (main p) + p.switch) p.deadline) (decided p at_release 0 Running) (refuse idle Unfit) (written_release Idle 0 _) refl
  keeps_idle (Report n t) = refl
  keeps_idle (End t) = refl

  keeps : (s : State) (x : places.State) (c : Call) → Tied s x → Keeps s (respond p x c)
  keeps s idle c e = subst (λ t. Keeps t (respond p idle c)) (sym e) (keeps_idle c)
  keeps s (running x last others) c k =
      subst (λ t. Keeps t (respond p (running x last others) c)) (sym k.is) (
      subst (λ y. Keeps (Open k.release) (respond p y c)) (sym k.for) (keeps_running k.release k.levels k.at c)
      )

  pub alike : (s : State) (x : places.State) (c : Call) → Tied s x →
      ((call_on (table_of p) s c).answer ≡ (respond p x c).answer) × Tied (call_on (table_of p) s c).state (respond p x c).state
  alike s x c e = rw (on_tied s x c e) (refl, keeps s x c e)
