-- The notes of the way behind a leaf of a level, record by record. Plain mathematics: no code is named here. Assumes nothing.
use mathlib.Core.Path.{◌≡◌, refl, sym, ap, ◌∙◌}
use mathlib.Core.Bool.{Bool, true, false}
use mathlib.Core.List.{List}
use mathlib.Core.Logic.{inl, inr}
use mathlib.Core.Option.{some}
use Prim.Native.Nat.{ℕ, zero, suc, ◌+◌, ◌*◌, ◌≤◌, ◌<◌}
use native.Mathlib.Omega.{arith}
use Rattle.std.proofs.lemmas.Bool.{cases_eq}
use lib.ListN.{length}
use Rattle.model.specs.Plan.{Block, Lines, close, leaf_line, call_line, loop_line, if_line}
use Rattle.model.specs.Forms.{Forms, done, leaf, call, loop, cond, forms, ◌⊕◌}
use Rattle.model.specs.Total.{total}
use Rattle.model.specs.Places.{pick}
use Rattle.model.specs.Stack.{suffix, turned}
use Rattle.model.proofs.Places.{never, ⊕?-some}
use Rattle.rows.specs.declared.PricedCode.{PricedCode}
use Rattle.rows.specs.Leaves.{numbers}
use Rattle.rows.specs.Costs.{cost_in}
use Rattle.rows.specs.Rows.{kind_at, other_at, after_at, Rep}
use Rattle.place.specs.Spans.{first_form}
use Rattle.place.specs.Private.{Nonempty}
use Rattle.place.proofs.Views.{turned_suc}
use Rattle.place.proofs.Suffixes.{suffix_headed, suffix_skip, suffix_first, suffix_in}
use Rattle.place.proofs.Suffixes.{first_own, first_flat}
use Rattle.outlook.specs.Quiets.{still, PricedForms, priced_forms}
use Rattle.outlook.proofs.Leaving.{still-⊕, then_part, else_part}
use Rattle.outlook.proofs.Walking.{total_step, priced_then, priced_else, priced_after}
use Rattle.stretch_visits.specs.declared.Notes.{Notes}
use Rattle.stretch_visits.specs.Worth.{by_sums, worth, worth_behind}
use Rattle.stretch_visits.specs.Private.{load, Noted, rest_of, Room, RoomInner, RoomBehind, NotedForms, NotedParts, NotedBehind}
use Rattle.stretch_visits.proofs.Composing.{noted_none, noted_as, noted_then, noted_stop}
use Rattle.stretch_visits.proofs.Worths.{total_inner}

-- ONE SEQUENCE BEHIND THE OTHER

module _ (k m : Block → ℕ) where
  -- An if, where the sum and the worth of what follows are known.
  abbrev fork : Forms → Forms → ℕ → ℕ → ℕ
  fork t s e x = by_sums (still k t e) (still k s e) (worth k m t e x) (worth k m s e x)

  pub worth-⊕ : (f g : Forms) (e x : ℕ) → worth k m (f ⊕ g) e x ≡ worth k m f (still k g e) (worth k m g e x)
  unfolding worth ◌⊕◌
  worth-⊕ done g e x = refl
  worth-⊕ (leaf b r) g e x = ap (λ y. pick b.point 0 (m b + y)) (worth-⊕ r g e x)
  worth-⊕ (call b fun r) g e x = ap (λ y. pick b.point 0 (m b + worth k m fun 0 0 + y)) (worth-⊕ r g e x)
  worth-⊕ (loop b n body r) g e x = ap (λ y. pick b.point 0 (m b + n * (worth k m body 0 0 + m b) + y)) (worth-⊕ r g e x)
  worth-⊕ (cond b t s r) g e x =
      ap (λ z. pick b.point 0 (m b + fork t s z (worth k m (r ⊕ g) e x))) (still-⊕ k r g e) ∙
      ap (λ y. pick b.point 0 (m b + fork t s (still k r (still k g e)) y)) (worth-⊕ r g e x)

  pub worth_behind-⊕ : (f g : Forms) → Nonempty f → (e x : ℕ) → worth_behind k m (f ⊕ g) e x ≡ worth_behind k m f (still k g e) (worth k m g e x)
  unfolding worth_behind ◌⊕◌
  worth_behind-⊕ done g h e x = absurd h
  worth_behind-⊕ (leaf b r) g h e x = worth-⊕ r g e x
  worth_behind-⊕ (call b fun r) g h e x = worth-⊕ r g e x
  worth_behind-⊕ (loop b n body r) g h e x = worth-⊕ r g e x
  worth_behind-⊕ (cond b t s r) g h e x =
      ap (λ z. fork t s z (worth k m (r ⊕ g) e x)) (still-⊕ k r g e) ∙ ap (λ y. fork t s (still k r (still k g e)) y) (worth-⊕ r g e x)

  -- Visits of a loop do not change what comes when it is left.
  pub turned_worth : (v : ℕ) (s g : Forms) → turned s v ≡ some g → (e x : ℕ) → worth_behind k m s e x ≡ worth_behind k m g e x
  unfolding turned worth_behind
  turned_worth zero s g h e x = let q : s ≡ g = cc in ap (λ (f : Forms). worth_behind k m f e x) q
  turned_worth (suc v) s g h e x =
      let (b, n, i, body, r, d, z) = turned_suc v s g h in
      ap (λ (f : Forms). worth_behind k m f e x) d ∙ sym (ap (λ (f : Forms). worth_behind k m f e x) z)

-- Nothing is noted where nothing lies behind the leaf.
pub worth_flat : (k m : Block → ℕ) (w : List ℕ) (lv i e : ℕ) (G : List Forms) (l : Lines) → Rep w lv i e l → i < e → (kind_at w i ≡ 3 → ⊥) →
    (s x : ℕ) → worth_behind k m (first_form (forms G l)) s x ≡ x
unfolding Rep forms first_form worth_behind worth
worth_flat k m w lv i e G close h lt q s x = refl
worth_flat k m w lv i e G (leaf_line b r) h lt q s x = refl
worth_flat k m w lv i e G (call_line b f r) h lt q s x = refl
worth_flat k m w lv i e G (loop_line b n body r) h lt q s x = refl
worth_flat k m w lv i e G (if_line b t f r) h lt q s x = absurd (q h.0.0)

-- WITHIN A FORM

pub leaf_in : {c : PricedCode} {i to : ℕ} (h : PricedForms c i to) (p : ℕ) {s : Forms} → suffix (priced_forms h) p ≡ some s → (i ≤ p) × (p < to)
leaf_in {c} {i} {to} h p {s} z = suffix_in (numbers c.code.row.now) h.piece.level i to h.piece.part.lines h.functions p s h.piece.part.rep z

module _ {c : PricedCode} {i to : ℕ} (lt : i < to) (h : PricedForms c i to) (p : ℕ) where
  abbrev k : Block → ℕ
  k = cost_in c.cost

  abbrev w : List ℕ
  w = numbers c.code.row.now

  abbrev G : List Forms
  G = h.functions

  abbrev here : Lines
  here = h.piece.part.lines

  abbrev first : Forms
  first = first_form (priced_forms h)

  -- The leaf is in the first form.
  pub leaf_first : {s : Forms} → p < after_at w i → suffix (priced_forms h) p ≡ some s → (v : Forms) × (suffix first p ≡ some v) × (v ⊕ rest_of h ≡ s)
  leaf_first {s} lo z = ⊕?-some (suffix first p) (rest_of h) s (sym (suffix_first w h.piece.level i to here G p h.piece.part.rep lt lo) ∙ z)

  -- The leaf of the form itself.
  own_leaf : {s : Forms} → p ≡ i → suffix first p ≡ some s → first ≡ s
  own_leaf z u = let y = sym (first_own w h.piece.level i to here G p h.piece.part.rep lt z) ∙ u in cc

  -- A leaf, a call or a loop.
  pub within_flat : {z : Notes} (e : ℕ) → (kind_at w i ≡ 3 → ⊥) → NotedBehind h first p e z z true
  within_flat e three s u =
      let other : (p ≡ i → ⊥) → p ≡ i = λ ne. never (sym (first_flat w h.piece.level i to here G p h.piece.part.rep lt ne three) ∙ u) in
      let own : p ≡ i = elim (cases_eq p i) [ inl y ↦ y | inr y ↦ other y ] in
      let q = own_leaf own u in
      noted_as (λ m x. worth_behind k m s e x)
      (λ m y x. sym (worth_flat k m w h.piece.level i to G here h.piece.part.rep lt three e x) ∙ ap (λ (f : Forms). worth_behind k m f e x) q)
      (omega arith) (omega arith) (noted_none {c = total k first} {few = length h.piece.heights})

  -- At the condition of an if.
  pub within_here : {old new : Notes} {b : Bool} (e : ℕ) → p ≡ i → NotedParts h e 1 old new b → NotedBehind h first p e old new b
  within_here e z n s u =
      let q = own_leaf z u in
      noted_as (λ m x. worth_behind k m s e x) (λ m y x. ap (λ (f : Forms). worth_behind k m f e x) q)
      (omega (arith, total_inner k w h.piece.level i to G here h.piece.part.rep lt)) (omega arith) n

  -- In a part of it.
  pub within_then : {mid v e : ℕ} {old new : Notes} {b : Bool} → v ≡ e → (p ≡ i → ⊥) → kind_at w i ≡ 3 → mid ≡ other_at w i → p < mid →
      ((x : PricedForms c (i + 1) mid) → NotedBehind x (priced_forms x) p v old new b) → NotedBehind h first p e old new b
  unfolding priced_then
  within_then hv ne three hm lo u s z =
      let (d, le) = then_part lt h p ne three hm lo in
      let n = u (priced_then lt h three hm).0 s (sym d ∙ z) in
      noted_as (λ m x. worth_behind k m s _ x) (λ m o x. ap (λ y. worth_behind k m s y x) hv) le (omega arith) n

  pub within_else : {mid en v e : ℕ} {old new : Notes} {b : Bool} → v ≡ e → (p ≡ i → ⊥) → kind_at w i ≡ 3 → mid ≡ other_at w i → en ≡ after_at w i → mid ≤ p →
      ((x : PricedForms c mid en) → NotedBehind x (priced_forms x) p v old new b) → NotedBehind h first p e old new b
  unfolding priced_else
  within_else hv ne three hm he hi u s z =
      let (d, le) = else_part lt h p ne three hm he hi in
      let n = u (priced_else lt h three hm he).0 s (sym d ∙ z) in
      noted_as (λ m x. worth_behind k m s _ x) (λ m o x. ap (λ y. worth_behind k m s y x) hv) le (omega arith) n

-- Room for what a form needs, once its leaf is known to be there.
module _ {c : PricedCode} {i to p e : ℕ} {z : Notes} (q : RoomBehind c i to p e z) where
  abbrev cost : Block → ℕ
  cost = cost_in c.cost

  abbrev row : List ℕ
  row = numbers c.code.row.now

  abbrev held : PricedForms c i to
  held = q.forms.held

  pub leaf_there : (i ≤ p) × (p < to) × (i < to) × (to ≤ length c.code.row.now)
  leaf_there = let (a, b) = leaf_in held p q.found in (a, b, omega arith, held.room)

  abbrev inside : i < to
  inside = leaf_there.2

  -- The parts of the if, behind its condition.
  pub room_parts : RoomInner c i to e 1 z
  room_parts =
      let s = total_inner cost row held.piece.level i to held.functions held.piece.part.lines held.piece.part.rep inside in
      record {
        held = held;
        few = q.forms.few;
        room = omega (arith, q.forms.room, s, total_step cost held.functions held.piece.part.lines);
        sums = q.forms.sums;
      }

  -- A part of it, with the leaf.
  room_in : {a b s : ℕ} (x : PricedForms c a b) → b ≤ to → total cost (priced_forms x) ≤ total cost (first_form (priced_forms held)) →
      s ≤ total cost (rest_of held) + e → p < after_at row i → load cost row x.functions z ≡ load cost row held.functions z →
      suffix (first_form (priced_forms held)) p ≡ suffix (priced_forms x) p → RoomBehind c a b p s z
  room_in x le low small ls same d =
      let (v, u, o) = leaf_first inside held p ls q.found in
      let t = total_step cost held.functions held.piece.part.lines in
      record {
        forms = record { held = x; few = omega (arith, q.forms.few); room = omega (arith, q.forms.room, t, same); sums = omega (arith, q.forms.sums, t) };
        start = v;
        found = sym d ∙ u;
      }

  pub room_then : {mid s : ℕ} → (p ≡ i → ⊥) → kind_at row i ≡ 3 → mid ≡ other_at row i → p < mid → p < after_at row i → s ≤ total cost (rest_of held) + e →
      RoomBehind c (i + 1) mid p s z
  unfolding priced_then
  room_then ne three hm lo ls small =
      let (x, a, b) = priced_then inside held three hm in
      let (d, le) = then_part inside held p ne three hm lo in
      room_in x b le small ls refl d

  pub room_else : {mid en s : ℕ} → (p ≡ i → ⊥) → kind_at row i ≡ 3 → mid ≡ other_at row i → en ≡ after_at row i → mid ≤ p → p < after_at row i →
      s ≤ total cost (rest_of held) + e → RoomBehind c mid en p s z
  unfolding priced_else
  room_else ne three hm he hi ls small =
      let (x, a, b) = priced_else inside held three hm he in
      let (d, le) = else_part inside held p ne three hm he hi in
      room_in x b le small ls refl d

-- ALONG THE SIBLINGS

-- What of the forms h is left from the record i on; the leaf p is in it.
pub record Left {c : PricedCode} {from to : ℕ} (h : PricedForms c from to) (i p : ℕ) : Type 0 where
  pub more : PricedForms c i to
  pub functions : more.functions ≡ h.functions
  pub heights : length more.piece.heights ≡ length h.piece.heights
  pub same : suffix (priced_forms h) p ≡ suffix (priced_forms more) p
  pub less : total (cost_in c.cost) (priced_forms more) ≤ total (cost_in c.cost) (priced_forms h)

pub left_start : {c : PricedCode} {from to : ℕ} (p : ℕ) (h : PricedForms c from to) → Left h from p
left_start p h = record { more = h; functions = refl; heights = refl; same = refl; less = omega arith }

module _ {c : PricedCode} {from to i p : ℕ} {h : PricedForms c from to} (l : Left h i p) where
  abbrev ks : Block → ℕ
  ks = cost_in c.cost

  abbrev ws : List ℕ
  ws = numbers c.code.row.now

  abbrev further : Lines
  further = l.more.piece.part.lines

  pub left_on : {en : ℕ} → i < to → en ≡ after_at ws i → en ≤ p → Left h en p
  unfolding priced_after
  left_on lt he le =
      record {
        more = priced_after lt l.more he;
        functions = l.functions;
        heights = l.heights;
        same = l.same ∙ suffix_skip ws l.more.piece.level i to further l.more.functions p l.more.piece.part.rep lt (omega arith);
        less = omega (arith, l.less, total_step ks l.more.functions further);
      }

  abbrev near : Forms
  near = first_form (priced_forms l.more)

  abbrev others : Forms
  others = rest_of l.more

  -- The leaf is in the form at hand.
  module _ {en : ℕ} (e : ℕ) (lt : i < to) (he : en ≡ after_at ws i) (lo : p < en) where
    -- Notes of the first form and of what follows it, for those of the forms h.
    joined : {s v : Forms} {d : ℕ} {old new : Notes} {b : Bool} → suffix near p ≡ some v → v ⊕ others ≡ s → d ≤ total ks (priced_forms h) →
        Noted ks ws l.more.functions (λ m x. worth_behind ks m v (still ks others e) (worth ks m others e x)) d 1 (length l.more.piece.heights) old new b →
        Noted ks ws h.functions (λ m x. worth_behind ks m s e x) (total ks (priced_forms h)) 1 (length h.piece.heights) old new b
    joined {s} {v} {old = old} {new} {b} u o le n =
        let y : Noted ks ws l.more.functions (λ m x. worth_behind ks m s e x) (total ks (priced_forms h)) 1 (length h.piece.heights) old new b =
        noted_as (λ m x. worth_behind ks m s e x)
        (λ m y x. sym (worth_behind-⊕ ks m v others (suffix_headed near p v u) e x) ∙ ap (λ (f : Forms). worth_behind ks m f e x) o)
        le (omega (arith, l.heights)) n in
        rw l.functions at y

    pub left_stop : {old new : Notes} → ((x : PricedForms c i to) → NotedBehind x (first_form (priced_forms x)) p (still ks (rest_of x) e) old new false) →
        NotedBehind h (priced_forms h) p e old new false
    left_stop n s z =
        let (v, u, o) = leaf_first lt l.more p (omega arith) (sym l.same ∙ z) in
        joined u o (omega (arith, l.less, total_step ks l.more.functions further)) (noted_stop (λ m x. worth ks m others e x) (n l.more v u))

    pub left_then : {old mid new : Notes} {b : Bool} →
        ((x : PricedForms c i to) → NotedBehind x (first_form (priced_forms x)) p (still ks (rest_of x) e) old mid true) →
        ((x : PricedForms c en to) → NotedForms x e 1 mid new b) → NotedBehind h (priced_forms h) p e old new b
    unfolding priced_after
    left_then n a s z =
        let (v, u, o) = leaf_first lt l.more p (omega arith) (sym l.same ∙ z) in
        joined u o (omega (arith, l.less, total_step ks l.more.functions further)) (noted_then (n l.more v u) (a (priced_after lt l.more he)))

-- Room for the form that has the leaf, and for what follows it.
module _ {c : PricedCode} {from to i p e : ℕ} {z : Notes} (q : RoomBehind c from to p e z) (l : Left q.forms.held i p) where
  abbrev pub room_left : RoomBehind c i to p e z
  room_left =
      let y = ap (λ (g : List Forms). load (cost_in c.cost) (numbers c.code.row.now) g z) l.functions in
      record {
        forms = record { held = l.more; few = q.forms.few; room = omega (arith, q.forms.room, l.less, y); sums = omega (arith, q.forms.sums, l.less) };
        start = q.start;
        found = sym l.same ∙ q.found;
      }

  pub room_after : {en : ℕ} {mid : Notes} {b : Bool} (lt : i < to) → en ≡ after_at (numbers c.code.row.now) i → p < en →
      ((x : PricedForms c i to) → NotedBehind x (first_form (priced_forms x)) p (still (cost_in c.cost) (rest_of x) e) z mid b) → Room c en to e 1 mid
  unfolding priced_after
  room_after {mid = mid} lt he lo n =
      let (v, u, o) = leaf_first lt l.more p (omega arith) room_left.found in
      let t = total_step (cost_in c.cost) l.more.functions l.more.piece.part.lines in
      let y = (n l.more v u).low in
      let f = room_left.forms in
      record { held = priced_after lt l.more he; few = f.few; room = omega (arith, f.room, y, t); sums = omega (arith, f.sums, t) }
