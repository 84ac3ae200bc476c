-- The next report of a good release: whether the number is a point, the place that comes next, and the release moved on to it. Assumes nothing.
use mathlib.Core.Bool.{Bool, true, false}
use mathlib.Core.List.{List, [], ◌∷◌}
use mathlib.Core.Option.{none, some}
use mathlib.Core.Path.{◌≡◌, refl, ap, sym, ◌∙◌, subst}
use Prim.Native.Nat.{ℕ, ◌+◌, ◌-◌, ◌≤◌, ◌<◌}
use native.Mathlib.Omega.{arith}
use lib.ListN.{length, get_or, drop}
use borrow.Author.Tests.{lt-ltb, le-ltb}
use Rattle.model.specs.declared.Refusal.TheVariants.{Stranger, Backward, Astray}
use Rattle.model.specs.Calls.{refuse}
use Rattle.model.specs.Plan.{C, M, Plan, all_leaves}
use Rattle.model.specs.Forms.{Forms, main}
use Rattle.model.specs.Total.{total}
use Rattle.model.specs.Levels.{framed}
use Rattle.model.specs.Acceptance.{Accepted}
use Rattle.model.specs.Places.{seek}
use Rattle.model.specs.Stack.{Levels, whole, onto, onward_at, decode, times}
use Rattle.model.specs.declared.Call.TheVariants.{Report}
use Rattle.model.specs.declared.Others.{Others}
use Rattle.model.specs.declared.Outlook.{Outlook}
use Rattle.model.specs.Decisions.{at_report, outlook}
use Rattle.model.specs.Controller.{is_point, next_levels, respond}
use Rattle.model.proofs.Points.{AllPoints}
use Rattle.rows.specs.declared.Code.{Code}
use Rattle.rows.specs.Rows.{point_at}
use Rattle.rows.specs.Leaves.{numbers, lent_turns, lent_tails}
use Rattle.rows.specs.Answers.{Says}
use Rattle.rows.proofs.Answers.{said_true, said_false}
use Rattle.place.specs.Stack.{Decoded, frames}
use Rattle.place.specs.Lent.{CodeTable, main_forms, PlaceDecoded, NextPlace, PlaceClocked}
use Rattle.place.specs.Times.{TimesAt, Clocked, outer_levels}
use Rattle.rows.specs.Plans.{PlanIn}
use Rattle.place.specs.declared.Place.{Place}
use Rattle.place.proofs.Entries.{times_are}
use Rattle.place.proofs.Counts.{counts_tell}
use Rattle.place.proofs.Meaning.{first_times, later_times, depth_is, points, decoded, clocked, next_place_is, next_times_are, first_place_is}
use Rattle.outlook.specs.declared.Ahead.{Ahead}
use Rattle.outlook.specs.Ahead.{ahead_at}
use Rattle.control.specs.declared.LentPlan.{LentPlan}
use Rattle.control.specs.declared.OpenRelease.{OpenRelease}
use Rattle.control.specs.declared.State.TheVariants.{Open}
use Rattle.control.specs.declared.Step.{Step}
use Rattle.control.specs.declared.Weighing.{Weighing}
use Rattle.control.specs.State.{stack_of, standing, put, open_at_report}
use Rattle.control.specs.Calls.{place_of, running_at, reply, as_step}
use Rattle.control.specs.Private.{GoodOnCode, WholeTable, Arriving, moved_to, weighing, arrived}
use Rattle.control.proofs.Tabled.{marked_point, point_marked}
use Rattle.control.proofs.Arrays.{put_at, put_is}
use Rattle.control.proofs.Places.{Moved}
use Rattle.control.proofs.Alike.{next_moves, stack_moved}
use Rattle.control.proofs.Good.{stands_times}
use Rattle.control.proofs.Judging.{stands_depth, stands_few, stands_decode}
use Rattle.table.specs.Lent.{Coded}
use Rattle.table.proofs.Codes.{laid_here, count_here, row_size}
use Rattle.control.proofs.Lending.{coded, filled_here}

-- THE POINT

module _ {c : Code} (q : Coded c) (n : ℕ) (r : Bool) where
  abbrev Marked : Type 0
  Marked = (n < length c.row.now) × (point_at (numbers c.row.now) n ≡ 1)

  pub point_right : r ≡ true → Says r Marked → is_point (all_leaves q.plan.functions) n ≡ true
  point_right e k =
      let (x, y) = said_true r e k in
      marked_point q.plan q.accepted n (omega (arith, x, row_size q)) (rw q.is.row_is at y)

  pub point_wrong : r ≡ false → Says r Marked → is_point (all_leaves q.plan.functions) n ≡ false
  point_wrong e k = by (is_point (all_leaves q.plan.functions) n) refl
    where
      by : (b : Bool) → is_point (all_leaves q.plan.functions) n ≡ b → b ≡ false
      by true z =
          let (x, y) = point_marked q.plan q.accepted n z in
          absurd (said_false r e k (omega (arith, x, row_size q), rw q.is.row_is y))
      by false z = refl

-- THE NEXT PLACE

pub none_open : (ls : Levels) → length ls ≡ 0 → ls ≡ []
none_open [] e = refl
none_open (g ∷ ks) e = absurd (omega arith)

next_onward : (p : Plan) (o : OpenRelease) (ls : Levels) (n : ℕ) → 1 ≤ length ls → next_levels p (place_of o ls) n ≡ onward_at ls n
next_onward p o [] n h = absurd (omega arith)
next_onward p o (g ∷ ks) n h = refl

module _ {c : Code} (q : Coded c) (o : OpenRelease) where
  module _ (n : ℕ) (moved : Bool) (x : Place) where
    abbrev Found : Levels → Type 0
    Found ls = NextPlace c (main q.plan) (next_levels q.plan (place_of o ls) n) o.place n moved x

    -- At a first report, by what `begin` ensures.
    pub first_found : o.place.level ≡ 0 → ((t : CodeTable c) → NextPlace c (main_forms t) (onto [] (seek (main_forms t) n)) o.place n moved x) →
        (ls : Levels) → standing q.plan o ≡ some ls → Found ls
    first_found z e ls k =
        let y = none_open ls (stands_depth q.plan q.accepted o ls k ∙ z) in
        subst Found (sym y)
        (first_place_is q.plan q.accepted (laid_here q) o.place n moved x (rw (count_here q) at e))

    -- Behind a report, by what `advance` ensures.
    pub later_found : 1 ≤ o.place.level → ((t : PlaceDecoded c o.place) → NextPlace c (main_forms t.decoded.table) (onward_at t.decoded.levels n) o.place n moved x) →
        (ls : Levels) → standing q.plan o ≡ some ls → Found ls
    later_found one e ls k =
        let (g, u) = stands_decode q.plan q.accepted o ls one k in
        let i = next_onward q.plan o ls n (omega (arith, stands_depth q.plan q.accepted o ls k)) in
        let f = λ (t : Decoded (numbers c.row.now) c.bounds.now c.functions o.place.leaves o.place.earlier o.place.level). e (record { least = one; most = stands_few q.plan q.accepted o ls k; decoded = t }) in
        rw i (next_place_is q.plan q.accepted (laid_here q) o.place.leaves o.place.earlier o.place.level ls one g u o.place n moved x (rw (count_here q) at f))

-- What `advance` asks for.
pub spot_decoded : {c : Code} {o : OpenRelease} → GoodOnCode c o → (o.place.level ≡ 0 → ⊥) → PlaceDecoded c o.place
spot_decoded {o = o} k some_open =
    let one : 1 ≤ o.place.level = omega (arith, some_open) in
    let q = k.coded in
    let (ls, s) = k.stands in
    let (g, u) = stands_decode q.plan q.accepted o ls one s in
    let z = decoded q.plan q.accepted (laid_here q) o.place.leaves o.place.earlier o.place.level ls one g u in
    record { least = one; most = stands_few q.plan q.accepted o ls s; decoded = rw (count_here q) z }

-- THE RELEASE MOVED ON

-- The remaining time of the innermost level.
pub top_time : (f : Forms) (ls : Levels) → 1 ≤ length ls → get_or (times f ls) (length ls) 0 ≡ total C (whole ls)
unfolding TimesAt
top_time f [] h = absurd (omega arith)
top_time f (g ∷ ks) h =
    let z : length ks + 1 ≡ length (g ∷ ks) = omega arith in
    rw z at (times_are f (times f (g ∷ ks)) (g ∷ ks) refl).0

-- Where the old times are those of a good release, those below the new place's level stay right.
rest_times : (p : Plan) (o : OpenRelease) (n : ℕ) (ls new : Levels) (old : List ℕ) → next_levels p (place_of o ls) n ≡ some new → old ≡ times (main p) ls →
    TimesAt (main p) old (outer_levels new)
rest_times p o n [] new old e z = first_times p n new old e z
rest_times p o n (g ∷ ks) new old e z = later_times p n (g ∷ ks) new old e z

module _ {l : LentPlan} {o : OpenRelease} (k : Arriving l o) where
  abbrev here : Plan
  here = k.whole.costed.rowed.head.plan

  abbrev ok : Accepted k.whole.costed.rowed.head.plan
  ok = k.whole.costed.rowed.head.accepted

  abbrev d : PlanIn (numbers l.code.row.now) l.code.bounds.now k.whole.costed.rowed.head.plan
  d = laid_here (coded k.whole.costed.rowed)

  abbrev depth : ℕ
  depth = length k.new.levels

  new_depth : length k.new.levels ≡ o.place.level
  new_depth = depth_is here ok d o.place.leaves o.place.earlier o.place.level k.new.levels k.new.least k.new.decodes

  pub new_points : AllPoints here (frames o.place.leaves o.place.earlier 1 o.place.level)
  new_points = points here ok d o.place.leaves o.place.earlier o.place.level k.new.levels k.new.least k.new.decodes k.new.marked

  lower : TimesAt (main here) o.times (outer_levels k.new.levels)
  lower = rest_times here k.before k.point k.levels k.new.levels o.times k.new.found (ap (λ y. y.times) k.moved ∙ stands_times here ok k.before k.levels k.stands)

  -- What `keep_time` asks for, and what it gives.
  pub clocked_here : PlaceClocked l.code.row.now l.head.now.totals o.place o.times
  clocked_here =
      let z = clocked here ok d o.place.leaves o.place.earlier o.place.level k.new.levels k.new.least k.new.decodes new_points (filled_here k.whole.costed) {old = o.times} lower in
      record { least = k.new.least; most = k.new.most; clocked = z }

  pub new_times : (new : List ℕ) → length new ≡ 33 →
      ((q : PlaceClocked l.code.row.now l.head.now.totals o.place o.times) → TimesAt (main_forms q.clocked.costed.decoded.table) new q.clocked.costed.decoded.levels) →
      ((j : ℕ) → o.place.level < j → get_or new j 0 ≡ 0) → new ≡ times (main here) k.new.levels
  new_times new e t z =
      let f = λ (q : Clocked (numbers l.code.row.now) (lent_tails l.code.row.now) (lent_turns l.code.row.now) l.head.now.totals o.place.leaves o.place.earlier o.place.level o.times).
      t (record { least = k.new.least; most = k.new.most; clocked = q }) in
      next_times_are here ok d o.place.leaves o.place.earlier o.place.level k.new.levels k.new.least k.new.decodes new_points (filled_here k.whole.costed) k.new.most o.times new lower e f z

  new_time : {new : List ℕ} → new ≡ times (main here) k.new.levels → get_or new o.place.level 0 ≡ total C (whole k.new.levels)
  new_time {new} e =
      ap (λ ts. get_or ts o.place.level 0) e ∙
      (ap (λ j. get_or (times (main here) k.new.levels) j 0) (sym new_depth) ∙ top_time (main here) k.new.levels (omega (arith, new_depth, k.new.least)))

  -- The stack as the model moves it.
  move : Moved here (stack_of k.before) k.point k.new.levels
  move = next_moves here ok k.before k.levels k.stands k.point k.new.levels k.new.found

  leaves_are : o.place.leaves ≡ put k.before.place.leaves depth k.point
  leaves_are = rw new_depth (put_is k.new.leaf k.new.most)

  counts_are : o.place.earlier ≡ put k.before.place.earlier depth k.new.count
  counts_are = rw new_depth (put_is k.new.visited k.new.most)

  count_is : k.new.count ≡ (framed k.point (drop (depth - 1) (stack_of k.before))).earlier
  count_is =
      let m = move in
      let c = (framed k.point (drop (depth - 1) (stack_of k.before))).earlier in
      let a = put k.before.place.leaves depth k.point in
      let u : decode (main here) [] (frames a (put k.before.place.earlier depth k.new.count) 1 depth) ≡ some k.new.levels = rw (← leaves_are, ← counts_are, new_depth) k.new.decodes in
      let v : decode (main here) [] (frames a (put k.before.place.earlier depth c) 1 depth) ≡ some k.new.levels =
      ap (decode (main here) []) (stack_moved here ok k.before.place k.point k.new.levels 0 k.before.others k.new.leaf.old_33 k.new.visited.old_33 m.low m.high m.fits) ∙ m.decoded in
      let e = counts_tell (main here) a (put k.before.place.earlier depth k.new.count) (put k.before.place.earlier depth c) depth k.new.levels m.low u v in
      sym (put_at k.before.place.earlier depth k.new.count k.new.visited.old_33 m.high) ∙ (e ∙ put_at k.before.place.earlier depth c k.new.visited.old_33 m.high)

  earlier_are : o.place.earlier ≡ put k.before.place.earlier depth (framed k.point (drop (depth - 1) (stack_of k.before))).earlier
  earlier_are = counts_are ∙ ap (λ c. put k.before.place.earlier depth c) count_is

  -- So the new place and the open release are the document's.
  moved_on : (new : List ℕ) (reading : ℕ) (others : Others) → new ≡ times (main here) k.new.levels →
      ◌≡◌ {A = OpenRelease} (record { others = others; reading = reading; place = o.place; times = new }) (open_at_report here k.before.place k.point k.new.levels reading others)
  moved_on new reading others e = λ i.
      record { others = others; reading = reading; place = record { level = sym new_depth i; leaves = leaves_are i; earlier = earlier_are i }; times = e i }

  -- And the decision there is the document's.
  pub arrived_here : (new : List ℕ) (reading : ℕ) → new ≡ times (main here) k.new.levels → {a : Ahead} → a ≡ ahead_at M (whole k.new.levels) → (w : Weighing) →
      w ≡ weighing here (record { remaining = get_or new o.place.level 0; stretch = a.stretch; last = a.last }) reading o.others →
      ◌≡◌ {A = Step}
      (record { answer = w.answer; state = Open (record { others = w.others; reading = reading; place = o.place; times = new }) })
      (as_step (arrived here k.before k.point k.new.levels reading))
  arrived_here new reading e {a} f w dec =
      let u = outlook here (at_report k.point k.new.levels) in
      let z : ◌≡◌ {A = Outlook} (record { remaining = get_or new o.place.level 0; stretch = a.stretch; last = a.last }) u =
      λ i. record { remaining = new_time e i; stretch = (f i).stretch; last = (f i).last } in
      let v : w ≡ weighing here u reading k.before.others = dec ∙ (λ i. weighing here (z i) reading (k.moved i).others) in
      let m = moved_on new reading w.others e ∙ ap (λ y. open_at_report here k.before.place k.point k.new.levels reading y.others) v in
      λ i. record { answer = (v i).answer; state = Open (m i) }

-- THE REPORT

module _ {l : LentPlan} (q : WholeTable l) (o : OpenRelease) (n : ℕ) where
  abbrev of : Plan
  of = q.costed.rowed.head.plan

  module _ (t : ℕ) (ls : Levels) where
    pub stranger : is_point (all_leaves of.functions) n ≡ false → as_step (refuse (Open o) Stranger) ≡ as_step (reply of (Open o) (running_at o ls) (Report n t))
    unfolding respond
    stranger e = rw e

    pub backward : is_point (all_leaves of.functions) n ≡ true → t < o.reading → as_step (refuse (Open o) Backward) ≡ as_step (reply of (Open o) (running_at o ls) (Report n t))
    unfolding respond
    backward e b = rw (e, lt-ltb t o.reading b)

    pub astray : is_point (all_leaves of.functions) n ≡ true → o.reading ≤ t → next_levels of (place_of o ls) n ≡ none →
        as_step (refuse (Open o) Astray) ≡ as_step (reply of (Open o) (running_at o ls) (Report n t))
    unfolding respond
    astray e b i = rw (e, le-ltb t o.reading b, i)

    pub onwards : is_point (all_leaves of.functions) n ≡ true → o.reading ≤ t → (new : Levels) → next_levels of (place_of o ls) n ≡ some new →
        {s : Step} → s ≡ as_step (arrived of o n new t) → s ≡ as_step (reply of (Open o) (running_at o ls) (Report n t))
    unfolding respond
    onwards e b new i z = rw (e, le-ltb t o.reading b, i) z

  -- A place comes next.
  module _ (ls : Levels) {after : OpenRelease} (m : after ≡ moved_to o after.place)
      (f : NextPlace l.code (main of) (next_levels of (place_of o ls) n) o.place n true after.place) where
    abbrev pub arriving : standing of o ≡ some ls → Arriving l after
    arriving k = record { whole = q; before = o; moved = m; levels = ls; stands = k; point = n; new = f }
