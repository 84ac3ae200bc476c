-- The notes of the way from the visit of a place, by the form that is left to run. Plain mathematics: no code is named here. Assumes nothing.
use mathlib.Core.Path.{◌≡◌, refl, sym, ap, ◌∙◌}
use mathlib.Core.Bool.{Bool, true, false}
use mathlib.Core.List.{List, []}
use Prim.Native.Nat.{ℕ, ◌+◌, ◌*◌, ◌≤◌, ◌<◌}
use native.Mathlib.Omega.{arith}
use native.Mathlib.Decide.{dec_le}
use lib.Dec.{leb}
use lib.ListN.{get_or}
use borrow.Author.Tests.{eq-eqb, le-leb, lt-leb}
use Rattle.model.specs.Plan.{Block}
use Rattle.model.specs.Forms.{Forms, ◌⊕◌}
use Rattle.model.specs.Runs.{sum}
use Rattle.model.specs.Total.{total}
use Rattle.model.specs.Places.{pick}
use Rattle.model.specs.Stack.{whole, inside_of}
use Rattle.model.specs.Cause.{visit_way}
use Rattle.rows.specs.declared.PricedCode.{PricedCode}
use Rattle.rows.specs.Leaves.{numbers}
use Rattle.rows.specs.Costs.{limit, cost_in}
use Rattle.rows.specs.Rows.{kind_at, point_at, detail_at, block_at}
use Rattle.place.specs.declared.Place.{Place}
use Rattle.place.specs.Pieces.{Spanned}
use Rattle.place.specs.Spans.{inner_from, inner_to, MayTurn}
use Rattle.place.specs.Private.{Placed}
use Rattle.place.proofs.Views.{View, a_leaf, a_call, a_loop, an_if}
use Rattle.place.proofs.Falling.{top_view}
use Rattle.place.proofs.Finding.{running, call_top, loop_top}
use Rattle.place.proofs.Stacking.{placed}
use Rattle.outlook.specs.declared.Quiet.{Quiet}
use Rattle.outlook.specs.Loads.{PlacePriced, PricedRun}
use Rattle.outlook.specs.Quiets.{quiet_sum, still, beyond, QuietForms, QuietBeyond, PricedForms, priced_forms}
use Rattle.outlook.proofs.Levels.{at_top, spanned_priced}
use Rattle.outlook.proofs.Seeing.{walks, open_loop, left_as, left_traceable, inner_priced}
use Rattle.stretch_visits.specs.declared.Notes.{Notes}
use Rattle.stretch_visits.specs.Worth.{Within, worth, worth_behind}
use Rattle.stretch_visits.specs.Private.{Noted, Room, RunRoom, PlaceRoom, NotedForms, NotedRun, NotedOnward}
use Rattle.stretch_visits.proofs.Composing.{noted_as, noted_then, noted_stop, noted_end}
use Rattle.stretch_visits.proofs.Valuing.{worth_leaf, worth_cond, worth_call, worth_spent, worth_loop}

module _ {c : PricedCode} {x : Place} (q : PlacePriced c x) where
  abbrev k : Block → ℕ
  k = cost_in c.cost

  abbrev w : List ℕ
  w = numbers c.code.row.now

  abbrev G : List Forms
  G = q.decoded.table.funs

  abbrev here : ℕ
  here = get_or x.leaves x.level 0

  abbrev own : Block
  own = block_at w here

  abbrev spot : Placed w c.code.bounds.now c.code.functions x.leaves x.earlier x.level
  spot = placed q.least q.decoded

  abbrev count : ℕ
  count = get_or x.earlier x.level 0

  abbrev left_over : Forms
  left_over = whole q.decoded.levels

  -- The sum of what follows the form of the place.
  pub under_is : {r : Quiet} {s : ℕ} → ((z : PricedRun c x.leaves x.level) → QuietBeyond r k (whole z.running.levels) (x.level * limit)) →
      s ≡ quiet_sum r 0 → s ≡ beyond k left_over 0
  under_is u z = z ∙ (u (walks q)).says 0

  -- Notes of what lies behind the visit.
  onward_of : {old new : Notes} {v : (Block → ℕ) → ℕ → ℕ} {d : ℕ} → d ≤ (x.level + 1) * limit → Noted k w G v d 1 c.code.functions old new false →
      ((m : Block → ℕ) → Within k m → sum m (visit_way k left_over []) ≡ m own + v m 0) → NotedOnward q old new
  onward_of le n z =
      record { says = λ m h. omega (arith, n.says m h 0, z m h); low = omega (arith, n.low); kept = n.kept; runnable = n.runnable }

  -- A leaf or an if.
  flat_worth : {p v u : ℕ} → View w G c.code.functions p v u (at_top (walks q)).place → (kind_at w p ≡ 1 → ⊥) → (kind_at w p ≡ 2 → ⊥) →
      (m : Block → ℕ) → Within k m → sum m (visit_way k left_over []) ≡ m (block_at w p) + worth_behind k m left_over 0 0
  unfolding ◌⊕◌
  flat_worth {p} (a_leaf y r z) n1 n2 m h = worth_leaf k m h (block_at w p) _ left_over (left_as q _ z) (left_traceable q)
  flat_worth {p} (a_call y t r z) n1 n2 m h = absurd (n1 y)
  flat_worth {p} (a_loop y i cs le j s r z) n1 n2 m h = absurd (n2 y)
  flat_worth {p} (an_if y t s r z) n1 n2 m h = worth_cond k m h (block_at w p) t s _ left_over (left_as q _ z) (left_traceable q)

  -- A loop at its last visit.
  spent_worth : kind_at w here ≡ 2 → detail_at w here ≤ count → (m : Block → ℕ) → Within k m →
      sum m (visit_way k left_over []) ≡ m own + worth_behind k m left_over 0 0
  unfolding ◌⊕◌
  spent_worth two le m h =
      let t = loop_top spot q.least two in
      worth_spent k m h own t.rounds t.body _ left_over (left_as q _ t.shape) (omega (arith, t.bound)) (left_traceable q)

  -- The body of a loop that may turn again: whether it is left is known.
  abbrev pub body_of : MayTurn w here count → Forms
  body_of turn = (loop_top spot q.least turn.0).body

  loop_worth : {p : Bool} (turn : MayTurn w here count) → leb (still k (body_of turn) 0) (beyond k left_over 0) ≡ p → (m : Block → ℕ) → Within k m →
      sum m (visit_way k left_over []) ≡ m own + pick p (worth_behind k m left_over 0 0) (worth k m (body_of turn) 0 0)
  unfolding ◌⊕◌
  loop_worth turn l m h =
      let t = loop_top spot q.least turn.0 in
      worth_loop k m h own t.rounds t.body _ left_over (left_as q _ t.shape) (λ z. omega (arith, t.bound, turn.1))
      (eq-eqb (point_at w here) 1 (q.decoded.marked x.level q.least (omega arith))) (left_traceable q) ∙
      ap (λ (p : Bool). m own + pick p (worth_behind k m left_over 0 0) (worth k m t.body 0 0)) l

  -- The function that is called.
  abbrev called : kind_at w here ≡ 1 → Forms
  called one = (call_top spot q.least one).fun

  call_worth : (one : kind_at w here ≡ 1) (m : Block → ℕ) → Within k m →
      sum m (visit_way k left_over []) ≡ m own + worth k m (called one) (beyond k left_over 0) (worth_behind k m left_over 0 0)
  unfolding ◌⊕◌
  call_worth one m h = let t = call_top spot q.least one in worth_call k m h own t.fun _ left_over (left_as q _ t.shape) (left_traceable q)

  -- Down the levels, where nothing is run inside.
  see_run : {old new : Notes} → ((z : PricedRun c x.leaves x.level) → NotedRun z old new) →
      ((m : Block → ℕ) → Within k m → sum m (visit_way k left_over []) ≡ m own + worth_behind k m left_over 0 0) → NotedOnward q old new
  see_run n z = onward_of (omega arith) (n (walks q)) z

  pub see_rest : {old new : Notes} → ((z : PricedRun c x.leaves x.level) → NotedRun z old new) → (kind_at w here ≡ 1 → ⊥) → (MayTurn w here count → ⊥) →
      NotedOnward q old new
  see_rest n n1 nt =
      let (e, v, lt, room) = top_view (running spot) q.least in
      elim (dec_le 2 (kind_at w here)) [
        | yes a ↦ elim (dec_le (kind_at w here) 2) [
          | yes z ↦ let two : kind_at w here ≡ 2 = omega arith in
              see_run n (spent_worth two (elim (dec_le (detail_at w here) count) [ yes y ↦ y | no y ↦ absurd (nt (two, omega arith)) ]))
          | no z ↦ see_run n (flat_worth v n1 (λ y. z (omega arith)))
        ]
        | no a ↦ see_run n (flat_worth v n1 (λ y. a (omega arith)))
      ]

  -- A loop that is left: going round has no larger sum.
  pub see_leave : {old new : Notes} {s u : ℕ} (turn : MayTurn w here count) → ((z : PricedRun c x.leaves x.level) → NotedRun z old new) →
      u ≡ beyond k left_over 0 → s ≡ still k (body_of turn) 0 → s ≤ u → NotedOnward q old new
  see_leave turn n hu hs le = see_run n (loop_worth turn (le-leb _ _ (omega (arith, hu, hs, le))))

  -- Notes of forms that lie in these records, and their sum.
  inner_notes : {f : Forms} {i e u s : ℕ} {old new : Notes} {b : Bool} (sp : Spanned w G c.code.functions i e f)
      (le : e ≤ q.columns.records) (small : total k f ≤ limit) → u ≡ s →
      ((y : PricedForms c i e) → NotedForms y u 1 old new b) → Noted k w G (λ m v. worth k m f s v) limit 1 c.code.functions old new b
  inner_notes {f} {s = s} sp le small hu n =
      let h = spanned_priced q.columns sp le small in
      noted_as (λ m v. worth k m f s v)
      (λ m o v. ap (λ u. worth k m (priced_forms h) u v) hu ∙ ap (λ (g : Forms). worth k m g s v) (sym sp.same)) h.small sp.few (n h)

  inner_still : {f : Forms} {i e s : ℕ} {r : Quiet} (sp : Spanned w G c.code.functions i e f)
      (le : e ≤ q.columns.records) (small : total k f ≤ limit) →
      ((y : PricedForms c i e) → QuietForms r k (priced_forms y)) → s ≡ quiet_sum r 0 → s ≡ still k f 0
  inner_still sp le small u z = z ∙ (u (spanned_priced q.columns sp le small)).says 0 ∙ ap (λ (g : Forms). still k g 0) (sym sp.same)

  -- What is inside the form of the place.
  module _ {i e : ℕ} (hi : i ≡ inner_from w c.code.bounds.now here) (he : e ≡ inner_to w c.code.bounds.now here) where
    pub inner_spanned : {f : Forms} → Spanned w G c.code.functions (inner_from w c.code.bounds.now here) (inner_to w c.code.bounds.now here) f →
        Spanned w G c.code.functions i e f
    inner_spanned sp = rw (hi, he) sp

    -- The function that is called.
    pub call_small : (one : kind_at w here ≡ 1) → (e ≤ q.columns.records) × (total k (called one) ≤ limit)
    unfolding inside_of
    call_small one =
        let t = call_top spot q.least one in
        let (y, z) = inner_priced q t.fun (ap inside_of t.shape) t.spanned in
        (omega (arith, he, y), z)

    abbrev pub call_inner : kind_at w here ≡ 1 → PricedForms c i e
    call_inner one = spanned_priced q.columns (inner_spanned (call_top spot q.least one).spanned) (call_small one).0 (call_small one).1

    call_notes : {u : ℕ} {old new : Notes} {b : Bool} (one : kind_at w here ≡ 1) → u ≡ beyond k left_over 0 →
        ((y : PricedForms c i e) → NotedForms y u 1 old new b) →
        Noted k w G (λ m v. worth k m (called one) (beyond k left_over 0) v) limit 1 c.code.functions old new b
    call_notes one hu n = let (y, z) = call_small one in inner_notes (inner_spanned (call_top spot q.least one).spanned) y z hu n

    -- The way ends in it, or leads through.
    pub see_stop : {old new : Notes} {u : ℕ} (one : kind_at w here ≡ 1) → u ≡ beyond k left_over 0 →
        ((y : PricedForms c i e) → NotedForms y u 1 old new false) → NotedOnward q old new
    see_stop one hu n =
        onward_of (omega arith) (noted_stop (λ m v. worth_behind k m left_over 0 0) (call_notes one hu n)) (λ m h. call_worth one m h)

    pub see_call : {old mid new : Notes} {u : ℕ} (one : kind_at w here ≡ 1) → u ≡ beyond k left_over 0 →
        ((y : PricedForms c i e) → NotedForms y u 1 old mid true) → ((z : PricedRun c x.leaves x.level) → NotedRun z mid new) → NotedOnward q old new
    see_call one hu n o = onward_of (omega arith) (noted_then (call_notes one hu n) (o (walks q))) (λ m h. call_worth one m h)

    -- The body of a loop that may turn again.
    pub loop_small : (turn : MayTurn w here count) → (e ≤ q.columns.records) × (total k (body_of turn) ≤ limit)
    loop_small turn =
        let t = loop_top spot q.least turn.0 in
        let (y, z) = inner_priced q t.body (open_loop t.rounds t.body t.later _ _ t.shape (λ z. omega (arith, t.bound, turn.1))) t.spanned in
        (omega (arith, he, y), z)

    abbrev pub loop_inner : MayTurn w here count → PricedForms c i e
    loop_inner turn = spanned_priced q.columns (inner_spanned (loop_top spot q.least turn.0).spanned) (loop_small turn).0 (loop_small turn).1

    pub round_is : {s : ℕ} {r : Quiet} (turn : MayTurn w here count) → ((y : PricedForms c i e) → QuietForms r k (priced_forms y)) → s ≡ quiet_sum r 0 →
        s ≡ still k (body_of turn) 0
    round_is turn u z = let (y, o) = loop_small turn in inner_still (inner_spanned (loop_top spot q.least turn.0).spanned) y o u z

    -- It goes round: that has a larger sum.
    pub see_round : {old new : Notes} {s u : ℕ} {b : Bool} (turn : MayTurn w here count) → u ≡ beyond k left_over 0 →
        s ≡ still k (body_of turn) 0 → u < s → ((y : PricedForms c i e) → NotedForms y 0 1 old new b) → NotedOnward q old new
    see_round {b = b} turn hu hs lt n =
        let (y, o) = loop_small turn in
        let t = loop_top spot q.least turn.0 in
        onward_of (omega arith) (noted_end b (inner_notes (inner_spanned t.spanned) y o refl n)) (loop_worth turn (lt-leb _ _ (omega (arith, hu, hs, lt))))

-- Room for what lies behind the visit.
module _ {c : PricedCode} {x : Place} {z : Notes} (r : PlaceRoom c x z) where
  abbrev row : List ℕ
  row = numbers c.code.row.now

  abbrev leaf : ℕ
  leaf = get_or x.leaves x.level 0

  pub room_run : RunRoom c x.leaves x.level z
  room_run = record { run = walks r.priced; few = r.few; room = omega (arith, r.room) }

  module _ {i e : ℕ} (hi : i ≡ inner_from row c.code.bounds.now leaf) (he : e ≡ inner_to row c.code.bounds.now leaf) where
    pub room_call : {s : ℕ} → kind_at row leaf ≡ 1 → s ≤ x.level * limit → Room c i e s 1 z
    room_call one le =
        let h = call_inner r.priced hi he one in
        let most = r.priced.most in
        record { held = h; few = omega (arith, h.within, r.few); room = omega (arith, r.room, h.small); sums = omega (arith, h.small) }

    pub room_loop : MayTurn row leaf (get_or x.earlier x.level 0) → Room c i e 0 1 z
    room_loop turn =
        let h = loop_inner r.priced hi he turn in
        record { held = h; few = omega (arith, h.within, r.few); room = omega (arith, r.room, h.small); sums = omega (arith, h.small) }

    -- Behind the function that is called.
    pub room_passed : {mid : Notes} {b : Bool} (s : ℕ) → kind_at row leaf ≡ 1 → ((y : PricedForms c i e) → NotedForms y s 1 z mid b) →
        RunRoom c x.leaves x.level mid
    room_passed s one n =
        let h = call_inner r.priced hi he one in
        record { run = walks r.priced; few = r.few; room = omega (arith, r.room, h.small, (n h).low) }
