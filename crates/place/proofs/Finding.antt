-- The next place behind a report, from what the scans answered. Plain mathematics: no code is named here. Assumes nothing.
use mathlib.Core.Path.{◌≡◌, refl, sym, ap, ◌∙◌}
use mathlib.Core.Bool.{Bool, true, false}
use mathlib.Core.List.{List, [], ◌∷◌}
use mathlib.Core.Logic.{◌⊎◌, inl, inr}
use mathlib.Core.Option.{Option, none, some}
use Prim.Native.Nat.{ℕ, zero, suc, ◌+◌, ◌-◌, ◌*◌, ◌≤◌, ◌<◌}
use native.Mathlib.Omega.{arith}
use native.Mathlib.Numerals.{add-one}
use lib.Dec.{eqb}
use lib.ListN.{length, get_or}
use borrow.Author.Tests.{eq-eqb, ne_eqb}
use Rattle.std.specs.Prelude.{Option as RustOption}
use Rattle.std.specs.Prelude.{Some, None}
use Rattle.std.specs.Option.{is_some}
use Rattle.model.specs.Plan.{Block}
use Rattle.model.specs.Forms.{Forms, done, leaf, call, loop, forms}
use Rattle.model.specs.Places.{pick, passes, seek, Traceable}
use Rattle.model.specs.Stack.{Levels, whole, ◌else_at◌, given, onto, onward_at, suffix, turned, inside_of}
use Rattle.rows.specs.Rows.{kind_at, point_at, detail_at, block_at, Piece}
use Rattle.place.specs.Pieces.{Spanned}
use Rattle.place.specs.declared.Sight.{Sight}
use Rattle.place.specs.declared.Found.{Found}
use Rattle.place.specs.Spans.{Stands, Running, ground, Enterable, inner_from, inner_to}
use Rattle.place.specs.Private.{Placed, sight_of, fall_at, Moved, Lands, Finds}
use Rattle.place.specs.Stack.{FunctionTable}
use Rattle.place.proofs.Suffixes.{seek_suffix}
use Rattle.place.proofs.Sights.{met, unmet, free_unmet}
use Rattle.place.proofs.Views.{View, a_leaf, a_call, a_loop, an_if, view, main_spanned, level_spanned, open_call, open_loop, turned_suc}
use Rattle.place.proofs.Falling.{turned_once, Top, top, top_view}
use Rattle.place.proofs.Decode.{stands_traceable}
use Rattle.place.proofs.Onward.{onward_leaf, onward_if, onward_call, onward_spent, onward_loop}
use Rattle.place.proofs.Lowness.{low_level, low_some}

abbrev pub running : {w starts : List ℕ} {n : ℕ} {leaves counts : List ℕ} {l : ℕ} → Placed w starts n leaves counts l → Running w starts n leaves l
running {counts = counts} q = record { table = q.table; counts = counts; levels = q.stack.levels; depth = q.stack.depth; stands = q.stack.stands; marked = q.stack.marked }

pub loop_bound : {w : List ℕ} {G : List Forms} {k p v e : ℕ} {g : Forms} → View w G k p v e g → (b : Block) (m : ℕ) (body r : Forms) → g ≡ loop b m body r → v ≤ 65535
loop_bound (a_leaf k r z) b m body s e = absurd (let y : leaf _ r ≡ loop b m body s = sym z ∙ e in let z : ◌≡◌ {A = ℕ} 0 1 = cc in omega arith)
loop_bound (a_call k t r z) b m body s e = absurd (let y = sym z ∙ e in let z : ◌≡◌ {A = ℕ} 0 1 = cc in omega arith)
loop_bound (a_loop k q cs le m s r z) b o body u e = omega arith
loop_bound (an_if k t s r z) b m body u e = absurd (let y = sym z ∙ e in let z : ◌≡◌ {A = ℕ} 0 1 = cc in omega arith)

module _ {w starts : List ℕ} {n : ℕ} {leaves counts : List ℕ} {l : ℕ} (q : Placed w starts n leaves counts l) (x : ℕ) where
  abbrev pub main_of : Forms
  main_of = get_or q.table.funs (n - 1) done

  -- Below: from the search down the levels.
  pub below_low : {r : ℕ} → l ≤ 32 → Lands main_of leaves counts q.stack.levels x (Some r) → r ≤ 32
  below_low h z = omega (arith, z.1, q.stack.depth)

  pub below_again : {r : ℕ} → l ≤ 32 → get_or leaves r 0 ≡ x → Lands main_of leaves counts q.stack.levels x (Some r) →
      Finds l main_of leaves counts (fall_at q.stack.levels x) x (Some (record { at = r; count = get_or counts r 0 + 1 }))
  below_again {r} b hx z =
      let k : eqb (get_or leaves r 0) x ≡ true = eq-eqb (get_or leaves r 0) x hx in
      (z.0, (omega (arith, z.1, q.stack.depth), omega (arith, z.1, q.stack.depth)), (z.2.0, z.2.1, rw k at z.2.2))

  pub below_fresh : {r : ℕ} → l ≤ 32 → (get_or leaves r 0 ≡ x → ⊥) → Lands main_of leaves counts q.stack.levels x (Some r) →
      Finds l main_of leaves counts (fall_at q.stack.levels x) x (Some (record { at = r; count = 0 }))
  below_fresh {r} b hx z =
      let k : eqb (get_or leaves r 0) x ≡ false = ne_eqb (get_or leaves r 0) x hx in
      (z.0, (omega (arith, z.1, q.stack.depth), omega (arith, z.1, q.stack.depth)), (z.2.0, z.2.1, rw k at z.2.2))

  -- a loop's visits stay within the highest bound.
  visits_fit : (r v : ℕ) (ks : Levels) → Moved main_of leaves counts r x (v + 1) ks → v + 1 ≤ 65535
  visits_fit r v ks m =
      let lv = m.level in
      let sp = (level_spanned q.table leaves counts m.under m.stands lv.level lv.opens).0 in
      let (b, n, k, body, s, d, e) = turned_suc v lv.start m.place (ap (λ (v : ℕ). turned lv.start v) (sym (add-one v)) ∙ lv.turns) in
      loop_bound (view sp x (v + 1) lv.start m.place lv.found lv.turns).0 b k body s e

  pub again_fits : {r : ℕ} → l ≤ 32 → get_or leaves r 0 ≡ x → Lands main_of leaves counts q.stack.levels x (Some r) → get_or counts r 0 + 1 ≤ 65535
  again_fits {r} b hx z = let y = below_again {r = r} b hx z in visits_fit r (get_or counts r 0) y.2.0 y.2.2

-- The innermost leaf's record: a call or a loop, with what is inside it; or else.
pub record CallTop (w starts : List ℕ) (G : List Forms) (n p : ℕ) (g : Forms) : Type 0 where
  pub fun : Forms
  pub later : Forms
  pub shape : g ≡ call (block_at w p) fun later
  pub spanned : Spanned w G n (inner_from w starts p) (inner_to w starts p) fun
  pub head : Enterable w starts p

pub record LoopTop (w starts : List ℕ) (G : List Forms) (n p v : ℕ) (g : Forms) : Type 0 where
  pub rounds : ℕ
  pub body : Forms
  pub later : Forms
  pub shape : g ≡ loop (block_at w p) rounds body later
  pub bound : rounds + v ≡ detail_at w p
  pub few : detail_at w p ≤ 65535
  pub spanned : Spanned w G n (inner_from w starts p) (inner_to w starts p) body
  pub head : Enterable w starts p

module _ {w starts : List ℕ} {n : ℕ} (pr : FunctionTable w starts n) {p v e : ℕ} {g : Forms} (lt : p < e) (room : e * 8 ≤ length w) where
  as_call_top : View w pr.funs n p v e g → kind_at w p ≡ 1 → CallTop w starts pr.funs n p g
  as_call_top (a_leaf k r z) h = absurd (omega arith)
  as_call_top (a_call k t r z) h =
      let (sp, hd) = open_call pr p e k t lt room in
      record { fun = get_or pr.funs (detail_at w p) done; later = r; shape = z; spanned = sp; head = hd }
  as_call_top (a_loop k q cs le m s r z) h = absurd (omega arith)
  as_call_top (an_if k t s r z) h = absurd (omega arith)

  as_loop_top : View w pr.funs n p v e g → kind_at w p ≡ 2 → LoopTop w starts pr.funs n p v g
  as_loop_top (a_leaf k r z) h = absurd (omega arith)
  as_loop_top (a_call k t r z) h = absurd (omega arith)
  as_loop_top (a_loop k q cs le m s r z) h =
      let (sp, hd) = open_loop pr p e k q cs le.0 lt room in
      record { rounds = m; body = forms pr.funs q.part.lines; later = r; shape = z; bound = s; few = le.1; spanned = sp; head = hd }
  as_loop_top (an_if k t s r z) h = absurd (omega arith)

  flat_onward : View w pr.funs n p v e g → (kind_at w p ≡ 1 → ⊥) → (kind_at w p ≡ 2 → ⊥) → (ks : Levels) (x : ℕ) → Traceable (whole (g ∷ ks)) → onward_at (g ∷ ks) x ≡ fall_at (g ∷ ks) x
  flat_onward (a_leaf k r z) a b ks x traceable = onward_leaf ks x (block_at w p) r g z
  flat_onward (a_call k t r z) a b ks x traceable = absurd (a k)
  flat_onward (a_loop k q cs le m s r z) a b ks x traceable = absurd (b k)
  flat_onward (an_if k t s r z) a b ks x traceable = onward_if ks x (block_at w p) t s r g z traceable

-- What the forms from i up to e meet.
pub looked : {w : List ℕ} {G : List Forms} {n i e : ℕ} {f : Forms} → Spanned w G n i e f → (x : ℕ) {v : Sight} →
    ((p : Piece w 62 i e) (G : List Forms) → v ≡ sight_of (forms G p.part.lines) x) → v ≡ sight_of f x
looked {G = G} sp x hv = hv sp.piece G ∙ ap (λ (f : Forms). sight_of f x) (sym sp.same)

found_suffix : {w : List ℕ} {G : List Forms} {n i e : ℕ} {f : Forms} → Spanned w G n i e f → (x : ℕ) (g : Forms) → seek f x ≡ some g → suffix f x ≡ some g
found_suffix {w} {G} {n} {i} {e} sp x g c = ap (λ (f : Forms). suffix f x) sp.same ∙ seek_suffix w sp.piece.level i e sp.piece.part.lines G x g sp.piece.part.rep (rw sp.same at c)

pub zero_or : (m : ℕ) → (m ≡ 0) ⊎ ((k : ℕ) × (m ≡ suc k))
zero_or zero = inl refl
zero_or (suc k) = inr (k, refl)

else_found : (o : Option Levels) (k : Levels) (p : Option Levels) → o ≡ some k → o else_at p ≡ some k
else_found o k p e = rw e

else_next : (o p : Option Levels) → o ≡ none → o else_at p ≡ p
else_next o p e = rw e

passing : (ks : Levels) (o : Option Forms) (s : Bool) (p : Option Levels) → o ≡ none → s ≡ true → onto ks o else_at given s p ≡ p
passing ks o s p a b = rw (a, b)

taken : (b : Bool) (k : Levels) → b ≡ true → pick b (some k) none ≡ some k
taken b k e = rw e

onto_found : (ks : Levels) (o : Option Forms) (h : Forms) (s : Bool) (r : Option Levels) → o ≡ some h → onto ks o else_at given s r ≡ some (h ∷ ks)
onto_found ks o h s r e = rw e

module _ {w starts : List ℕ} {n : ℕ} {leaves counts : List ℕ} {l : ℕ} (q : Placed w starts n leaves counts l) (one : 1 ≤ l) where
  abbrev hd : ℕ
  hd = get_or leaves l 0

  abbrev pub front : Top (get_or q.table.funs (n - 1) done) leaves counts l q.stack.levels
  front = top (running q) one

  pub leaf_room : hd * 8 + 8 ≤ length w
  leaf_room = let (e, v, lt, r) = top_view (running q) one in omega arith

  pub call_top : kind_at w hd ≡ 1 → CallTop w starts q.table.funs n hd front.place
  call_top k = let (e, v, lt, r) = top_view (running q) one in as_call_top q.table lt r v k

  pub loop_top : kind_at w hd ≡ 2 → LoopTop w starts q.table.funs n hd (get_or counts l 0) front.place
  loop_top k = let (e, v, lt, r) = top_view (running q) one in as_loop_top q.table lt r v k

  front_traceable : Traceable (whole (front.place ∷ front.under))
  front_traceable =
      let z = stands_traceable (get_or q.table.funs (n - 1) done) leaves counts q.stack.levels (omega (arith, q.stack.depth)) q.stack.stands q.table.traceable in
      rw front.same at z

  -- Into the form that the innermost level opens with.
  push : (x : ℕ) (f : Forms) → inside_of front.place ≡ some f → {i e : ℕ} → Spanned w q.table.funs n i e f → (h : Forms) → seek f x ≡ some h →
      Moved (get_or q.table.funs (n - 1) done) leaves counts (l + 1) x 0 (h ∷ front.place ∷ front.under) × (l + 1 ≤ 32)
  unfolding ground turned
  push x f ins {i} {e} sp h c =
      let t = front in
      let main = get_or q.table.funs (n - 1) done in
      let st : Stands main leaves counts (t.place ∷ t.under) = rw t.same at q.stack.stands in
      let low = low_level main leaves counts (t.place ∷ t.under) f q.table.low st ins in
      let fits = low_some (32 - length (t.place ∷ t.under)) f x h low c in
      let found = found_suffix sp x h c in (
        record {
          under = t.place ∷ t.under;
          place = h;
          same = refl;
          depth = omega (arith, t.depth);
          stands = st;
          level = record { level = f; opens = ins; start = h; found = found; turns = refl };
        },
        omega (arith, t.depth, fits),
      )

  whole_onward : (x : ℕ) {o : Option Levels} → onward_at (front.place ∷ front.under) x ≡ o → onward_at q.stack.levels x ≡ o
  whole_onward x e = ap (λ (ls : Levels). onward_at ls x) front.same ∙ e

  whole_fall : (x : ℕ) → fall_at (front.place ∷ front.under) x ≡ fall_at q.stack.levels x
  whole_fall x = ap (λ (ls : Levels). fall_at ls x) (sym front.same)

  abbrev Answers : ℕ → RustOption Found → Type 0
  Answers x r = Finds l (get_or q.table.funs (n - 1) done) leaves counts (onward_at q.stack.levels x) x r

  abbrev Under : ℕ → RustOption Found → Type 0
  Under x r = Finds l (get_or q.table.funs (n - 1) done) leaves counts (fall_at q.stack.levels x) x r

  finds_as : (x : ℕ) (r : RustOption Found) → onward_at q.stack.levels x ≡ fall_at q.stack.levels x → Under x r → Answers x r
  finds_as x r e u = rw e u

  pub none_found : (x : ℕ) (r : RustOption Found) → is_some r ≡ false → Under x r → fall_at q.stack.levels x ≡ none
  none_found x None h u = u
  none_found x (Some f) h u = absurd (let z : ◌≡◌ {A = ℕ} 0 1 = cc in omega arith)

  -- a leaf or an if.
  pub find_flat : (x : ℕ) (r : RustOption Found) → (kind_at w (get_or leaves l 0) ≡ 1 → ⊥) → (kind_at w (get_or leaves l 0) ≡ 2 → ⊥) → Under x r → Answers x r
  find_flat x r a b u =
      let (e, v, lt, room) = top_view (running q) one in
      finds_as x r (whole_onward x (flat_onward q.table lt room v a b front.under x front_traceable) ∙ whole_fall x) u

  -- a call: the scan of its function.
  module _ (x : ℕ) (c : CallTop w starts q.table.funs n hd front.place) {v : Sight}
      (hv : (p : Piece w 62 (inner_from w starts hd) (inner_to w starts hd)) (G : List Forms) → v ≡ sight_of (forms G p.part.lines) x) where
    called : onward_at (front.place ∷ front.under) x ≡
        onto (front.place ∷ front.under) (seek c.fun x) else_at given (passes c.fun) (fall_at (front.place ∷ front.under) x)
    called = onward_call front.under x (block_at w hd) c.fun c.later front.place c.shape

    pub call_enter : v.meets ≡ true → Answers x (Some (record { at = l + 1; count = 0 }))
    unfolding inside_of
    call_enter mt =
        let (h, s) = met (looked c.spanned x hv) mt in
        let (m, f) = push x c.fun (rw c.shape) c.spanned h s in
        (omega arith, (f, omega arith), (h ∷ front.place ∷ front.under, whole_onward x (called ∙ onto_found (front.place ∷ front.under) (seek c.fun x) h (passes c.fun) (fall_at (front.place ∷ front.under) x) s), m))

    pub call_pass : (r : RustOption Found) → v.meets ≡ false → v.free ≡ true → Under x r → Answers x r
    call_pass r mt fr un =
        let s = looked c.spanned x hv in
        let a = unmet s mt in
        let b = free_unmet s mt fr in
        finds_as x r (whole_onward x (called ∙ rw (a, b)) ∙ whole_fall x) un

    pub call_stop : v.meets ≡ false → v.free ≡ false → Answers x None
    call_stop mt fr =
        let s = looked c.spanned x hv in
        let a = unmet s mt in
        let b = free_unmet s mt fr in
        whole_onward x (called ∙ rw (a, b))

  -- a loop that is a point.
  module _ (x : ℕ) (c : LoopTop w starts q.table.funs n hd (get_or counts l 0) front.place) where
    marked_here : (block_at w hd).point ≡ true
    marked_here = eq-eqb (point_at w hd) 1 (q.stack.marked l one (omega arith))

    spent : c.rounds ≡ 0 → onward_at q.stack.levels x ≡ fall_at q.stack.levels x
    spent z =
        let e : front.place ≡ loop (block_at w hd) zero c.body c.later = c.shape ∙ ap (λ (m : ℕ). loop (block_at w hd) m c.body c.later) z in
        whole_onward x (onward_spent front.under x (block_at w hd) c.body c.later front.place e) ∙ whole_fall x

    turns : (m : ℕ) → c.rounds ≡ suc m → onward_at q.stack.levels x ≡ fall_at q.stack.levels x else_at (onto (front.place ∷ front.under) (seek c.body x) else_at
        given (passes c.body) (pick (eqb hd x) (some (loop (block_at w hd) m c.body c.later ∷ front.under)) none))
    turns m z =
        let e : front.place ≡ loop (block_at w hd) (suc m) c.body c.later = c.shape ∙ ap (λ (m : ℕ). loop (block_at w hd) m c.body c.later) z in
        whole_onward x (onward_loop front.under x (block_at w hd) m c.body c.later front.place e marked_here ∙
        ap (λ (o : Option Levels). o else_at (onto (front.place ∷ front.under) (seek c.body x) else_at
        given (passes c.body) (pick (eqb hd x) (some (loop (block_at w hd) m c.body c.later ∷ front.under)) none))) (whole_fall x))

    rounds_of : (c.rounds ≡ 0) ⊎ ((m : ℕ) × (c.rounds ≡ suc m))
    rounds_of = zero_or c.rounds

    -- What is found when the loop is left is found.
    pub loop_left : (r : RustOption Found) → is_some r ≡ true → Under x r → Answers x r
    loop_left None h y = absurd (let z : ◌≡◌ {A = ℕ} 0 1 = cc in omega arith)
    loop_left (Some f) h y =
        elim rounds_of [
          | inl z ↦ (y.0, y.1, (y.2.0, spent z ∙ y.2.1, y.2.2))
          | inr z ↦ (y.0, y.1, (y.2.0, turns z.0 z.1 ∙ else_found (fall_at q.stack.levels x) y.2.0 _ y.2.1, y.2.2))
        ]

    pub loop_spent : fall_at q.stack.levels x ≡ none → detail_at w hd ≤ get_or counts l 0 → Answers x None
    loop_spent un le = spent (omega (arith, c.bound)) ∙ un

    -- It turns again.
    module _ (un : fall_at q.stack.levels x ≡ none) (less : get_or counts l 0 < detail_at w hd) {v : Sight}
        (hv : (p : Piece w 62 (inner_from w starts hd) (inner_to w starts hd)) (G : List Forms) → v ≡ sight_of (forms G p.part.lines) x) where
      round : (m : ℕ) × (c.rounds ≡ suc m)
      round = elim rounds_of [ inl z ↦ absurd (omega (arith, c.bound, z)) | inr z ↦ z ]

      inside : inside_of front.place ≡ some c.body
      unfolding inside_of
      inside = ap inside_of (c.shape ∙ ap (λ (m : ℕ). loop (block_at w hd) m c.body c.later) round.1)

      seen : v ≡ sight_of c.body x
      seen = looked c.spanned x hv

      pub loop_enter : v.meets ≡ true → Answers x (Some (record { at = l + 1; count = 0 }))
      loop_enter mt =
          let (h, s) = met seen mt in
          let (m, f) = push x c.body inside c.spanned h s in (
            omega arith,
            (f, omega arith),
            (
              h ∷ front.place ∷ front.under,
              turns round.0 round.1 ∙ else_next (fall_at q.stack.levels x) _ un ∙ onto_found (front.place ∷ front.under) (seek c.body x) h (passes c.body) _ s,
              m,
            ),
          )

      pub loop_stop : v.meets ≡ false → v.free ≡ false → Answers x None
      loop_stop mt fr =
          let a = unmet seen mt in
          let b = free_unmet seen mt fr in
          turns round.0 round.1 ∙ else_next (fall_at q.stack.levels x) _ un ∙ rw (a, b)

      past_body : v.meets ≡ false → v.free ≡ true → onward_at q.stack.levels x ≡ pick (eqb hd x) (some (loop (block_at w hd) round.0 c.body c.later ∷ front.under)) none
      past_body mt fr =
          let a = unmet seen mt in
          let b = free_unmet seen mt fr in
          turns round.0 round.1 ∙ else_next (fall_at q.stack.levels x) _ un ∙ passing (front.place ∷ front.under) (seek c.body x) (passes c.body) _ a b

      pub loop_other : v.meets ≡ false → v.free ≡ true → (hd ≡ x → ⊥) → Answers x None
      loop_other mt fr hx = past_body mt fr ∙ rw (ne_eqb hd x hx)

      pub loop_again : v.meets ≡ false → v.free ≡ true → hd ≡ x → l ≤ 32 → Answers x (Some (record { at = l; count = get_or counts l 0 + 1 }))
      loop_again mt fr hx top32 =
          let t = front in
          let lv = t.level in
          let g = loop (block_at w hd) round.0 c.body c.later in
          let o = turned_once (get_or counts l 0) lv.start (block_at w hd) round.0 c.body c.later
          (lv.turns ∙ ap some (c.shape ∙ ap (λ (m : ℕ). loop (block_at w hd) m c.body c.later) round.1)) in (
            one,
            (top32, omega arith),
            (
              g ∷ t.under,
              past_body mt fr ∙ taken (eqb hd x) (g ∷ t.under) (eq-eqb hd x hx),
              record {
                under = t.under;
                place = g;
                same = refl;
                depth = t.depth;
                stands = t.stands;
                level = record {
                  level = lv.level;
                  opens = lv.opens;
                  start = lv.start;
                  found = ap (λ (p : ℕ). suffix lv.level p) (sym hx) ∙ lv.found;
                  turns = ap (λ (v : ℕ). turned lv.start v) (add-one (get_or counts l 0)) ∙ o;
                };
              },
            ),
          )

-- The first report.
module _ {w starts : List ℕ} {n : ℕ} (p : FunctionTable w starts n) (leaves counts : List ℕ) (x : ℕ) {v : Sight} (hv : v ≡ sight_of (get_or p.funs (n - 1) done) x) where
  pub first_some : v.meets ≡ true → Finds 0 (get_or p.funs (n - 1) done) leaves counts (onto [] (seek (get_or p.funs (n - 1) done) x)) x (Some (record { at = 1; count = 0 }))
  unfolding ground turned Stands
  first_some mt =
      let main = get_or p.funs (n - 1) done in
      let (g, c) = met hv mt in
      let found = found_suffix (main_spanned p refl refl) x g c in (
        omega arith,
        (omega arith, omega arith),
        (
          g ∷ [],
          ap (onto []) c,
          record { under = []; place = g; same = refl; depth = refl; stands = tt; level = record { level = main; opens = refl; start = g; found = found; turns = refl } },
        ),
      )
