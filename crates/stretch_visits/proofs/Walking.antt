-- The walk over the records of forms, and the room for what it notes. Plain mathematics: no code is named here. Assumes nothing.
use mathlib.Core.Path.{◌≡◌, refl, sym, ap, ◌∙◌}
use mathlib.Core.Bool.{Bool, true, false}
use mathlib.Core.List.{List}
use Prim.Native.Nat.{ℕ, suc, ◌+◌, ◌-◌, ◌*◌, ◌≤◌, ◌<◌}
use native.Mathlib.Omega.{arith}
use borrow.Author.Tests.{ne_eqb, le-leb, lt-leb}
use lib.ListN.{length, get_or}
use Rattle.std.proofs.lemmas.Nat.{mul-le}
use Rattle.model.specs.Plan.{Block, Lines, close}
use Rattle.model.specs.Forms.{Forms, done, forms}
use Rattle.model.specs.Total.{total}
use Rattle.rows.specs.declared.PricedCode.{PricedCode}
use Rattle.rows.specs.Leaves.{numbers}
use Rattle.rows.specs.Costs.{limit, cost_in, lent_turns_in}
use Rattle.rows.specs.Rows.{kind_at, point_at, detail_at, other_at, after_at, block_at}
use Rattle.rows.proofs.Shape.{CallAt, call_at, LoopAt, loop_at, body_in, ends, no_lines}
use Rattle.place.specs.Spans.{first_form}
use Rattle.place.proofs.Shape.{cond_at}
use Rattle.outlook.specs.declared.Quiet.{Quiet}
use Rattle.outlook.specs.Quiets.{roof, quiet_sum, still, QuietForms, PricedForms, priced_forms}
use Rattle.outlook.proofs.Walking.{total_step, priced_then, priced_else, priced_after}
use Rattle.stretch_visits.specs.declared.Notes.{Notes}
use Rattle.stretch_visits.specs.Worth.{worth, worth_behind}
use Rattle.stretch_visits.specs.Private.{load, Noted, Grown, inner, worth_rounds, rest_of, Room, RoomInner, NotedForms, NotedFirst, NotedParts, NotedRounds}
use Rattle.stretch_visits.proofs.Composing.{noted_none, noted_as, noted_then, noted_stop}
use Rattle.stretch_visits.proofs.Valuing.{worth_below}
use Rattle.stretch_visits.proofs.Summing.{dot_one}
use Rattle.stretch_visits.proofs.Worths.{worth_step, point_worth, flat_worth, total_inner, call_worth, loop_worth, if_worth, call_inner, loop_inner, if_inner}
use Rattle.stretch_visits.proofs.Noting.{noted_shut, noted_rounds, noted_visit, noted_enter}

-- Where something costs, how often it is there is no more than that.
fits : (a b t s l : ℕ) → 0 < b → a * b ≤ l → b ≤ s → l + t * s ≤ roof → a + t ≤ roof
fits a b t s l h x y z = omega (arith, mul-le a 1 a b (omega arith) (omega arith), mul-le t 1 t s (omega arith) (omega arith))

module _ {c : PricedCode} {i to : ℕ} (lt : i < to) (h : PricedForms c i to) where
  abbrev k : Block → ℕ
  k = cost_in c.cost

  abbrev w : List ℕ
  w = numbers c.code.row.now

  abbrev G : List Forms
  G = h.functions

  abbrev here : Lines
  here = h.piece.part.lines

  abbrev visit_cost : ℕ
  visit_cost = k (block_at w i)

  -- What is known of the first form as a whole.
  pub first_small : total k (first_form (priced_forms h)) ≤ limit
  first_small = omega (arith, total_step k G here, h.small)

  pub first_inner : total k (first_form (priced_forms h)) ≡ visit_cost + inner k (priced_forms h)
  first_inner = total_inner k w h.piece.level i to G here h.piece.part.rep lt

  pub loop_here : kind_at w i ≡ 2 → LoopAt w h.piece.heights h.left h.piece.level i here
  loop_here two = loop_at lt h.piece.part {v = kind_at w i} refl two

  pub call_here : kind_at w i ≡ 1 → CallAt w h.piece.heights h.piece.level i here
  call_here one = call_at lt h.piece.part {v = kind_at w i} refl one

  pub call_total : kind_at w i ≡ 1 → get_or c.totals.now (detail_at w i) 0 ≡ total k (get_or G (detail_at w i) done)
  call_total one = h.loads.called i (omega (arith, h.within)) one

  -- The body of a loop.
  abbrev body_of : kind_at w i ≡ 2 → Forms
  body_of two = forms G (loop_here two).body.lines

  pub inner_loop : (two : kind_at w i ≡ 2) → inner k (priced_forms h) ≡ detail_at w i * (total k (body_of two) + visit_cost)
  inner_loop two = (loop_inner k k G here _ _ _ _ (loop_here two).shape).1

  pub turn_is : (two : kind_at w i ≡ 2) → get_or (lent_turns_in c.cost c.code.row.now) i 0 ≡ visit_cost + total k (body_of two)
  turn_is two = h.loads.looped i (omega (arith, h.within)) two (h.left - 1) (record { heights = h.piece.heights; level = suc h.piece.level; part = (loop_here two).body })

  unfoldable pub priced_body : {en : ℕ} → kind_at w i ≡ 2 → en ≡ after_at w i → PricedForms c (i + 1) en × (i < en) × (en ≤ to)
  priced_body {en} two he =
      let f = loop_here two in
      let z = ends lt h.piece.part in
      let t = total k (body_of two) + visit_cost in (
        record {
          room = omega (arith, h.room, he, z);
          left = h.left - 1;
          functions = G;
          piece = record { heights = h.piece.heights; level = suc h.piece.level; part = body_in he f };
          records = h.records;
          within = omega (arith, h.within, he, z);
          loads = h.loads;
          small = omega (arith, first_small, first_inner, inner_loop two, mul-le 1 t (detail_at w i) t f.least (omega arith));
        },
        omega (arith, he, z),
        omega (arith, he, z),
      )

  -- THE FIRST FORM

  -- At a point.
  pub first_point : (e : ℕ) {z : Notes} {v times : ℕ} → v ≡ point_at w i → v ≡ 1 → NotedFirst h e times z z false
  first_point e hv v1 =
      noted_shut (λ m x. worth k m (first_form (priced_forms h)) e x) (λ m y x. point_worth k m w h.piece.level i to G here e x h.piece.part.rep lt (sym hv ∙ v1))

  module _ {times : ℕ} {old mid : Notes} (g : Grown i times visit_cost old.leaves mid.leaves) (same : mid.calls ≡ old.calls) where
    abbrev Visited : Type 0
    Visited = Noted k w G (λ m x. m (block_at w i) + x) visit_cost times (length h.piece.heights) old mid true

    visited : Visited
    visited = noted_visit g same

    module _ {v : ℕ} (hv : v ≡ point_at w i) (v1 : v ≡ 1 → ⊥) where
      silent : (block_at w i).point ≡ false
      silent = ne_eqb (point_at w i) 1 (λ u. v1 (hv ∙ u))

      -- Its visit, and then what is behind it.
      joined : (e : ℕ) {u : (Block → ℕ) → ℕ → ℕ} {new : Notes} {through : Bool} →
          ((m : Block → ℕ) (x : ℕ) → worth k m (first_form (priced_forms h)) e x ≡ m (block_at w i) + u m x) →
          Noted k w G u (inner k (priced_forms h)) times (length h.piece.heights) mid new through → NotedFirst h e times old new through
      joined e z n =
          noted_as (λ m x. worth k m (first_form (priced_forms h)) e x) (λ m y x. sym (z m x)) (omega (arith, first_inner)) (omega arith) (noted_then visited n)

      pub first_flat : (e : ℕ) → (kind_at w i ≡ 1 → ⊥) → (kind_at w i ≡ 2 → ⊥) → (kind_at w i ≡ 3 → ⊥) → NotedFirst h e times old mid true
      first_flat e k1 k2 k3 =
          joined e (λ m x. flat_worth k m w h.piece.level i to G here h.piece.part.rep lt (λ u. v1 (hv ∙ u)) k1 k2 k3 e x) noted_none

      pub first_call : (e : ℕ) {new : Notes} (one : kind_at w i ≡ 1) →
          Grown (detail_at w i) times (get_or c.totals.now (detail_at w i) 0) mid.calls new.calls → new.leaves ≡ mid.leaves → NotedFirst h e times old new true
      first_call e one n l =
          let f = call_here one in
          let q = call_inner k k G here _ _ _ f.shape in
          joined e (λ m x. call_worth k m G here _ _ _ f.shape silent e x)
          (noted_as (λ m x. worth k m (get_or G (detail_at w i) done) 0 0 + x) (λ m y x. refl) (omega (arith, q)) (omega arith)
          (noted_enter n l (call_total one) (omega (arith, call_total one, q, first_inner, first_small)) f.earlier))

      pub first_loop : (e : ℕ) {new : Notes} (two : kind_at w i ≡ 2) → NotedRounds h times mid new → NotedFirst h e times old new true
      first_loop e two n =
          let f = loop_here two in
          joined e (λ m x. loop_worth k m G here _ _ _ _ f.shape silent e x) n

      pub first_if : (e : ℕ) {new : Notes} {through : Bool} (three : kind_at w i ≡ 3) → NotedParts h e times mid new through →
          NotedFirst h e times old new through
      first_if e three n =
          let f = cond_at lt h.piece three in
          joined e (λ m x. if_worth k m G here _ _ _ _ f.shape silent e x) n

  -- THE ROUNDS OF A LOOP

  -- A round that costs nothing is worth nothing.
  pub rounds_none : {y times : ℕ} {z : Notes} → kind_at w i ≡ 2 → y ≡ get_or (lent_turns_in c.cost c.code.row.now) i 0 → y ≤ 0 → NotedRounds h times z z
  rounds_none two hy low =
      let f = loop_here two in
      noted_as (λ m x. worth_rounds k m (priced_forms h) + x)
      (λ m y x.
      let u : worth k m (body_of two) 0 0 + m (block_at w i) ≡ 0 = omega (arith, y (block_at w i), worth_below k m y (body_of two) 0 0, turn_is two) in
      omega (arith, (loop_inner k m G here _ _ _ _ f.shape).0, ap (λ a. detail_at w i * a) u))
      (omega arith) (omega arith) (noted_none {c = 0} {few = length h.piece.heights})

  pub rounds_all : {en rounds times : ℕ} {old mid new : Notes} {through : Bool} → kind_at w i ≡ 2 → en ≡ after_at w i → rounds ≡ times * detail_at w i →
      Grown i rounds visit_cost old.leaves mid.leaves → mid.calls ≡ old.calls → ((x : PricedForms c (i + 1) en) → NotedForms x 0 rounds mid new through) → NotedRounds h times old new
  unfolding priced_body
  rounds_all {rounds = rounds} {times} {old} {mid} {new} {through} two he hr g same u =
      let f = loop_here two in
      let n = noted_then (noted_visit {k = k} {w = w} {G = G} g same) (u (priced_body two he).0) in
      let r = noted_rounds (detail_at w i) {times = times} (rw hr at n) in
      noted_as (λ m x. worth_rounds k m (priced_forms h) + x)
      (λ m y x. omega (arith, (loop_inner k m G here _ _ _ _ f.shape).0)) (omega (arith, inner_loop two)) (omega arith) r

  -- THE PARTS OF AN IF

  module _ {mid en a b : ℕ} {p q : Quiet} (e : ℕ) (three : kind_at w i ≡ 3) (hm : mid ≡ other_at w i) (he : en ≡ after_at w i)
      (hp : (x : PricedForms c (i + 1) mid) → QuietForms p k (priced_forms x)) (hq : (x : PricedForms c mid en) → QuietForms q k (priced_forms x))
      (ha : a ≡ quiet_sum p e) (hb : b ≡ quiet_sum q e) where
    pub parts_then : {times : ℕ} {old new : Notes} {through : Bool} → b ≤ a → ((x : PricedForms c (i + 1) mid) → NotedForms x e times old new through) →
        NotedParts h e times old new through
    unfolding priced_then priced_else
    parts_then le n =
        let f = cond_at lt h.piece three in
        let x = (hp (priced_then lt h three hm).0).says e in
        let y = (hq (priced_else lt h three hm he).0).says e in
        noted_as (λ m x. worth_behind k m (first_form (priced_forms h)) e x)
        (λ m u v. sym ((if_inner k m G here _ _ _ _ f.shape).0 e v ∙ rw (le-leb (still k (forms G f.else.lines) e) (still k (forms G f.then.lines) e) (omega arith)) refl))
        (omega (arith, (if_inner k k G here _ _ _ _ f.shape).1)) (omega arith) (n (priced_then lt h three hm).0)

    pub parts_else : {times : ℕ} {old new : Notes} {through : Bool} → a < b → ((x : PricedForms c mid en) → NotedForms x e times old new through) →
        NotedParts h e times old new through
    unfolding priced_then priced_else
    parts_else le n =
        let f = cond_at lt h.piece three in
        let x = (hp (priced_then lt h three hm).0).says e in
        let y = (hq (priced_else lt h three hm he).0).says e in
        noted_as (λ m x. worth_behind k m (first_form (priced_forms h)) e x)
        (λ m u v. sym ((if_inner k m G here _ _ _ _ f.shape).0 e v ∙ rw (lt-leb (still k (forms G f.else.lines) e) (still k (forms G f.then.lines) e) (omega arith)) refl))
        (omega (arith, (if_inner k k G here _ _ _ _ f.shape).1)) (omega arith) (n (priced_else lt h three hm he).0)

-- THE ROOM

module _ {c : PricedCode} {i to e times : ℕ} {z : Notes} (lt : i < to) (q : Room c i to e times z) where
  abbrev cost : Block → ℕ
  cost = cost_in c.cost

  abbrev row : List ℕ
  row = numbers c.code.row.now

  pub room_visit : 0 < cost (block_at row i) → get_or z.leaves i 0 + times ≤ roof
  room_visit some =
      let h = q.held in
      fits (get_or z.leaves i 0) (cost (block_at row i)) times (total cost (priced_forms h)) (load cost row h.functions z) some
      (omega (arith, dot_one z.leaves i (λ j. cost (block_at row j))))
      (omega (arith, total_step cost h.functions h.piece.part.lines, first_inner lt h))
      q.room

  pub room_enter : (calls : List ℕ) → calls ≡ z.calls → kind_at row i ≡ 1 → 0 < get_or c.totals.now (detail_at row i) 0 →
      get_or calls (detail_at row i) 0 + times ≤ roof
  room_enter calls same one some =
      let h = q.held in
      let f = call_here lt h one in
      let n = get_or z.calls (detail_at row i) 0 in
      rw same (fits n (get_or c.totals.now (detail_at row i) 0) times (total cost (priced_forms h)) (load cost row h.functions z) some
      (omega (arith, dot_one z.calls (detail_at row i) (λ j. total cost (get_or h.functions j done)), ap (λ a. n * a) (call_total lt h one)))
      (omega (arith, total_step cost h.functions h.piece.part.lines, first_inner lt h, call_inner cost cost h.functions h.piece.part.lines _ _ _ f.shape, call_total lt h one))
      q.room)

  pub room_inner : {mid : Notes} → Grown i times (cost (block_at row i)) z.leaves mid.leaves → mid.calls ≡ z.calls → RoomInner c i to e times mid
  room_inner g same =
      let h = q.held in
      let n = (noted_visit {k = cost} {w = row} {G = h.functions} {few = 0} g same).low in
      let s = cost (block_at row i) + inner cost (priced_forms h) in
      let u : s ≤ total cost (priced_forms h) = omega (arith, first_inner lt h, total_step cost h.functions h.piece.part.lines) in
      record {
        held = h;
        few = q.few;
        room = omega (arith, q.room, n, mul-le times s times (total cost (priced_forms h)) (omega arith) u);
        sums = q.sums;
      }

  pub room_next : {en : ℕ} {new : Notes} {through : Bool} → en ≡ after_at row i →
      ((h : PricedForms c i to) → NotedFirst h (still cost (rest_of h) e) times z new through) → Room c en to e times new
  unfolding priced_after
  room_next he n =
      let h = q.held in
      let s = (total_step cost h.functions h.piece.part.lines).0 in
      record { held = priced_after lt h he; few = q.few; room = omega (arith, q.room, (n h).low, ap (λ a. times * a) s); sums = omega (arith, q.sums, s) }

module _ {c : PricedCode} {i to e times : ℕ} {z : Notes} (lt : i < to) (q : RoomInner c i to e times z) where
  abbrev kc : Block → ℕ
  kc = cost_in c.cost

  abbrev ws : List ℕ
  ws = numbers c.code.row.now

  abbrev held : PricedForms c i to
  held = q.held

  -- Nothing follows a round.
  pub room_turns : RoomInner c i to 0 times z
  room_turns = record { held = q.held; few = q.few; room = q.room; sums = omega (arith, q.sums) }

  module _ (two : kind_at ws i ≡ 2) where
    -- What a round costs.
    abbrev round : ℕ
    round = total kc (body_of lt held two) + kc (block_at ws i)

    -- The rounds of a loop, where a round costs something.
    pub rounds_room : {y : ℕ} → y ≡ get_or (lent_turns_in c.cost c.code.row.now) i 0 → 0 < y → times * detail_at ws i ≤ roof
    rounds_room hy some =
        let n = detail_at ws i in
        let a = mul-le n 1 n round (omega arith) (omega (arith, turn_is lt held two)) in
        let b : n ≤ inner kc (priced_forms held) = omega (arith, inner_loop lt held two) in
        omega (arith, q.room, mul-le times n times (inner kc (priced_forms held)) (omega arith) b)

    module _ {rounds : ℕ} (hr : rounds ≡ times * detail_at ws i) where
      rounds_all_room : load kc ws held.functions z + rounds * round ≤ roof
      rounds_all_room = omega (arith, q.room, ap (λ a. times * a) (inner_loop lt held two), ap (λ a. a * round) hr)

      pub rounds_visit : 0 < kc (block_at ws i) → get_or z.leaves i 0 + rounds ≤ roof
      rounds_visit some =
          fits (get_or z.leaves i 0) (kc (block_at ws i)) rounds round (load kc ws held.functions z) some
          (omega (arith, dot_one z.leaves i (λ j. kc (block_at ws j)))) (omega arith) rounds_all_room

      pub room_body : {en : ℕ} {mid : Notes} → en ≡ after_at ws i → Grown i rounds (kc (block_at ws i)) z.leaves mid.leaves → mid.calls ≡ z.calls →
          Room c (i + 1) en 0 rounds mid
      unfolding priced_body
      room_body he g same =
          let b = priced_body lt held two he in
          let n = (noted_visit {k = kc} {w = ws} {G = held.functions} {few = 0} g same).low in
          record { held = b.0; few = omega (arith, q.few, b.2); room = omega (arith, rounds_all_room, n); sums = omega (arith, b.0.small) }

  -- The sum of what follows an if.
  pub rest_roof : {s : ℕ} → s ≤ total kc (rest_of held) + e → s ≤ roof
  rest_roof less = omega (arith, q.sums, total_step kc held.functions held.piece.part.lines)

  module _ {mid s : ℕ} (three : kind_at ws i ≡ 3) (hm : mid ≡ other_at ws i) (less : s ≤ total kc (rest_of held) + e) where
    pub room_then : Room c (i + 1) mid s times z
    unfolding priced_then
    room_then =
        let x = priced_then lt held three hm in
        let f = cond_at lt held.piece three in
        let l = (if_inner kc kc held.functions held.piece.part.lines _ _ _ _ f.shape).1 in
        let u : total kc (priced_forms x.0) ≤ inner kc (priced_forms held) = omega (arith, l) in
        record {
          held = x.0;
          few = omega (arith, q.few, x.2);
          room = omega (arith, q.room, mul-le times (total kc (priced_forms x.0)) times (inner kc (priced_forms held)) (omega arith) u);
          sums = omega (arith, q.sums, total_step kc held.functions held.piece.part.lines, first_inner lt held);
        }

    pub room_else : {en : ℕ} → en ≡ after_at ws i → Room c mid en s times z
    unfolding priced_else
    room_else he =
        let x = priced_else lt held three hm he in
        let f = cond_at lt held.piece three in
        let l = (if_inner kc kc held.functions held.piece.part.lines _ _ _ _ f.shape).1 in
        let u : total kc (priced_forms x.0) ≤ inner kc (priced_forms held) = omega (arith, l) in
        record {
          held = x.0;
          few = omega (arith, q.few, x.2);
          room = omega (arith, q.room, mul-le times (total kc (priced_forms x.0)) times (inner kc (priced_forms held)) (omega arith) u);
          sums = omega (arith, q.sums, total_step kc held.functions held.piece.part.lines, first_inner lt held);
        }

-- FORM AFTER FORM

-- What a walk over the siblings has noted.
pub record Noting (c : PricedCode) (i to e times : ℕ) (G : List Forms) (v : (Block → ℕ) → ℕ → ℕ) (d few : ℕ) (old z : Notes) : Type 0 where
  pub more : PricedForms c i to
  pub functions : more.functions ≡ G
  pub heights : length more.piece.heights ≡ few
  pub before : (Block → ℕ) → ℕ → ℕ
  pub sum : ℕ
  pub so_far : Noted (cost_in c.cost) (numbers c.code.row.now) more.functions before sum times few old z true
  pub says : (m : Block → ℕ) (x : ℕ) → before m (worth (cost_in c.cost) m (priced_forms more) e x) ≡ v m x
  pub all : sum + total (cost_in c.cost) (priced_forms more) ≤ d

pub noting_start : {c : PricedCode} {i to times : ℕ} {z : Notes} (e : ℕ) (h : PricedForms c i to) →
    Noting c i to e times h.functions (λ m x. worth (cost_in c.cost) m (priced_forms h) e x) (total (cost_in c.cost) (priced_forms h)) (length h.piece.heights) z z
noting_start e h =
    record { more = h; functions = refl; heights = refl; before = λ m x. x; sum = 0; so_far = noted_none; says = λ m x. refl; all = omega arith }

module _ {c : PricedCode} {i to e times : ℕ} {G : List Forms} {v : (Block → ℕ) → ℕ → ℕ} {d few : ℕ} {old z : Notes} (h : Noting c i to e times G v d few old z) where
  abbrev kn : Block → ℕ
  kn = cost_in c.cost

  abbrev others : Forms
  others = rest_of h.more

  abbrev steps : (m : Block → ℕ) (x : ℕ) →
      worth kn m (priced_forms h.more) e x ≡ worth kn m (first_form (priced_forms h.more)) (still kn others e) (worth kn m others e x)
  steps m x = worth_step kn m h.more.functions h.more.piece.part.lines e x

  -- It does not lead on.
  pub noting_out : {new : Notes} → i < to → ((x : PricedForms c i to) → NotedFirst x (still kn (rest_of x) e) times z new false) →
      Noted kn (numbers c.code.row.now) G v d times few old new false
  noting_out {new} lt n =
      let s = total_step kn h.more.functions h.more.piece.part.lines in
      let y : Noted kn (numbers c.code.row.now) h.more.functions v d times few old new false =
      noted_as v (λ m u x. ap (h.before m) (sym (steps m x)) ∙ h.says m x) (omega (arith, h.all, s)) (omega arith)
      (noted_stop (λ m x. worth kn m others e x) (noted_then h.so_far (rw h.heights at (n h.more)))) in
      rw h.functions at y

  -- Past a form.
  pub noting_next : {en : ℕ} {new : Notes} (lt : i < to) → en ≡ after_at (numbers c.code.row.now) i →
      ((x : PricedForms c i to) → NotedFirst x (still kn (rest_of x) e) times z new true) → Noting c en to e times G v d few old new
  unfolding priced_after
  noting_next lt he n =
      let s = total_step kn h.more.functions h.more.piece.part.lines in
      record {
        more = priced_after lt h.more he;
        functions = h.functions;
        heights = h.heights;
        before = λ m x. h.before m (worth kn m (first_form (priced_forms h.more)) (still kn others e) x);
        sum = h.sum + total kn (first_form (priced_forms h.more));
        so_far = noted_then h.so_far (rw h.heights at (n h.more));
        says = λ m x. ap (h.before m) (sym (steps m x)) ∙ h.says m x;
        all = omega (arith, h.all, s);
      }

  -- At the end.
  pub noting_end : to ≤ i → Noted kn (numbers c.code.row.now) G v d times few old z true
  unfolding forms worth
  noting_end le =
      let u : h.more.piece.part.lines ≡ close = no_lines le h.more.piece.part in
      let y : Noted kn (numbers c.code.row.now) h.more.functions v d times few old z true =
      noted_as v (λ m o x. ap (λ (l : Lines). h.before m (worth kn m (forms h.more.functions l) e x)) (sym u) ∙ h.says m x) (omega (arith, h.all)) (omega arith) h.so_far in
      rw h.functions at y
