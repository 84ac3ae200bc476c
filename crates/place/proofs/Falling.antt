-- Down the levels: what comes next once the form of the innermost leaf is left. Plain mathematics: no code is named here. Assumes nothing.
use mathlib.Core.Path.{◌≡◌, refl, sym, ap, ◌∙◌}
use mathlib.Core.Bool.{Bool, true, false}
use mathlib.Core.List.{List, [], ◌∷◌}
use mathlib.Core.Logic.{inl, inr}
use mathlib.Core.Option.{Option, none, some}
use Prim.Native.Nat.{ℕ, zero, suc, ◌+◌, ◌-◌, ◌*◌, ◌≤◌, ◌<◌}
use native.Mathlib.Omega.{arith}
use native.Mathlib.Numerals.{add-one}
use lib.Dec.{eqb}
use lib.ListN.{length, get_or}
use borrow.Author.Tests.{eq-eqb, ne_eqb, eqb-true, eqb-false}
use Rattle.std.specs.Prelude.{Option as RustOption}
use Rattle.std.specs.Prelude.{Some, None}
use Rattle.std.specs.Bool.{then_some}
use Rattle.model.specs.Plan.{Block}
use Rattle.model.specs.Forms.{Forms, done, leaf, call, loop, cond, forms}
use Rattle.model.specs.Places.{pick, passes, seek}
use Rattle.model.specs.Stack.{Levels, behind, ◌else_at◌, given, onto, seek_at, suffix, turned, inside_of}
use Rattle.model.proofs.Places.{never}
use Rattle.rows.specs.Rows.{kind_at, point_at, detail_at, block_at, Piece}
use Rattle.place.specs.Pieces.{Spanned}
use Rattle.place.specs.declared.Sight.{Sight}
use Rattle.place.specs.Spans.{Level, Stands, Running, ground, Enterable, base_from, base_to}
use Rattle.place.specs.Private.{Nonempty, there, sight_by, sight_beyond, sight_behind, next_beyond, quits, return_at, fall_at, Lands}
use Rattle.place.proofs.Suffixes.{truth, next_suffix}
use Rattle.place.proofs.Sights.{met, unmet, free_unmet}
use Rattle.place.proofs.Views.{View, a_leaf, a_call, a_loop, an_if, view, view_headed, turned_suc, level_spanned}

-- Visits of a loop do not change what comes when it is left.
turned_next : (v : ℕ) (s g : Forms) (x : ℕ) → turned s v ≡ some g → (next_beyond s x ≡ next_beyond g x) × (quits s ≡ quits g)
unfolding turned next_beyond quits
turned_next zero s g x e = let q : s ≡ g = cc in (ap (λ (f : Forms). next_beyond f x) q, ap quits q)
turned_next (suc v) s g x e =
    let (b, n, m, body, r, d, z) = turned_suc v s g e in
    (ap (λ (f : Forms). next_beyond f x) d ∙ sym (ap (λ (f : Forms). next_beyond f x) z), ap quits d ∙ sym (ap quits z))

turned_sight : (v : ℕ) (s g : Forms) (x : ℕ) → turned s v ≡ some g → sight_beyond s x ≡ sight_beyond g x
turned_sight v s g x e = let q = turned_next v s g x e in λ i. sight_by (q.1 i) (there (q.0 i))

-- One visit more of a loop.
pub turned_once : (v : ℕ) (s : Forms) (b : Block) (m : ℕ) (body r : Forms) → turned s v ≡ some (loop b (suc m) body r) → turned s (suc v) ≡ some (loop b m body r)
unfolding turned
turned_once zero s b m body r e = let q : s ≡ loop b (suc m) body r = cc in ap (λ (f : Forms). turned f (suc zero)) q
turned_once (suc v) done b m body r e = never e
turned_once (suc v) (leaf c k) b m body r e = never e
turned_once (suc v) (call c fun k) b m body r e = never e
turned_once (suc v) (loop c zero i k) b m body r e = never e
turned_once (suc v) (loop c (suc n) i k) b m body r e = turned_once v (loop c n i k) b m body r e
turned_once (suc v) (cond c t i k) b m body r e = never e

-- a search at a level, and below it.
else_none : (o : Option Levels) (s : Bool) → o ≡ o else_at given s none
else_none none true = refl
else_none none false = refl
else_none (some k) s = refl

pub seek_at_is : (f : Forms) (ks : Levels) (x : ℕ) → seek_at f ks x ≡ onto ks (seek f x) else_at given (passes f) (return_at ks x)
unfolding seek_at return_at
seek_at_is f [] x = else_none (onto [] (seek f x)) (passes f)
seek_at_is f (g ∷ ks) x = refl

-- a loop that is a point is come to.
come_to : (p q : Bool) (fs : Forms) (ks : Levels) (o : Option Forms) (s : Bool) (k : Option Levels) → p ≡ true →
    onto ks (pick p (pick q (some fs) none) o) else_at given (pick p false s) k ≡ pick q (some (fs ∷ ks)) none
come_to true true fs ks o s k h = refl
come_to true false fs ks o s k h = refl
come_to false q fs ks o s k h = absurd (let z : ◌≡◌ {A = ℕ} 0 1 = cc in omega arith)

pub seek_loop : (b : Block) (m : ℕ) (body r : Forms) (ks : Levels) (x : ℕ) → b.point ≡ true →
    seek_at (loop b m body r) ks x ≡ pick (eqb b.number x) (some (loop b m body r ∷ ks)) none
unfolding seek passes
seek_loop b m body r ks x h = seek_at_is (loop b m body r) ks x ∙ come_to b.point (eqb b.number x) (loop b m body r) ks (seek r x) (passes r) (return_at ks x) h

-- The innermost level.
pub record Top (main : Forms) (leaves counts : List ℕ) (l : ℕ) (ls : Levels) : Type 0 where
  pub place : Forms
  pub under : Levels
  pub same : ls ≡ place ∷ under
  pub depth : length under + 1 ≡ l
  pub stands : Stands main leaves counts under
  pub level : Level main under (get_or leaves l 0) (get_or counts l 0) place

pub top_of : (main : Forms) (leaves counts : List ℕ) (l : ℕ) (ls : Levels) → Stands main leaves counts ls → length ls ≡ l → 1 ≤ l → Top main leaves counts l ls
unfolding Stands
top_of main leaves counts l [] st d h = absurd (omega arith)
top_of main leaves counts l (g ∷ ks) st d h =
    let e : length ks + 1 ≡ l = omega arith in
    record { place = g; under = ks; same = refl; depth = e; stands = st.0; level = rw e at st.1 }

module _ {w starts leaves : List ℕ} {n l : ℕ} where
  pub top : (q : Running w starts n leaves l) → 1 ≤ l → Top (get_or q.table.funs (n - 1) done) leaves q.counts l q.levels
  top q h = top_of (get_or q.table.funs (n - 1) done) leaves q.counts l q.levels q.stands q.depth h

  pub spanned : (q : Running w starts n leaves l) (h : 1 ≤ l) →
      Spanned w q.table.funs n (base_from w starts n leaves l) (base_to w starts n leaves l) (top q h).level.level
  spanned q h = let t = top q h in rw t.depth at (level_spanned q.table leaves q.counts t.under t.stands t.level.level t.level.opens).0

  -- Its record, which is a form's.
  pub top_view : (q : Running w starts n leaves l) (h : 1 ≤ l) →
      (e : ℕ) × View w q.table.funs n (get_or leaves l 0) (get_or q.counts l 0) e (top q h).place × (get_or leaves l 0 < e) × (e * 8 ≤ length w)
  top_view q h =
      let t = top q h in
      let sp = spanned q h in
      let (v, lt) = view sp (get_or leaves l 0) (get_or q.counts l 0) t.level.start t.place t.level.found t.level.turns in
      (_, v, lt, sp.room)

  pub top_headed : (q : Running w starts n leaves l) (h : 1 ≤ l) → Nonempty (top q h).place
  top_headed q h = view_headed (top_view q h).1

  pub head_of : (q : Running w starts n leaves l) → 2 ≤ l → Enterable w starts (get_or leaves (l - 1) 0)
  head_of q h =
      let t = top q (omega arith) in
      let e : length t.under ≡ l - 1 = omega (arith, t.depth) in
      rw e at ((level_spanned q.table leaves q.counts t.under t.stands t.level.level t.level.opens).1 (omega (arith, t.depth)))

-- What `fall` learns at its level: what is met behind the leaf of the innermost level.
module _ {w starts leaves : List ℕ} {n l : ℕ} (q : Running w starts n leaves l) (h : 1 ≤ l) (x : ℕ) where
  pub level_read : {i e : ℕ} {r : RustOption Sight} → i ≡ base_from w starts n leaves l → e ≡ base_to w starts n leaves l →
      ((z : Piece w 62 i e) (G : List Forms) → r ≡ sight_behind (suffix (forms G z.part.lines) (get_or leaves l 0)) x) → r ≡ Some (sight_beyond (top q h).place x)
  unfolding sight_behind
  level_read {i} {e} hi he hr =
      let t = top q h in
      let sp = spanned q h in
      let lv = t.level in
      let z : Piece w 62 i e = record { heights = sp.piece.heights; level = sp.piece.level; part = rw (hi, he) sp.piece.part } in
      hr z q.table.funs ∙ ap (λ (f : Forms). sight_behind (suffix f (get_or leaves l 0)) x) (sym sp.same) ∙ ap (λ (o : Option Forms). sight_behind o x) lv.found ∙
      ap Some (turned_sight (get_or q.counts l 0) lv.start t.place x lv.turns)

  -- So it is a leaf of its level.
  pub level_saw : {i e : ℕ} {r : RustOption Sight} {v : Sight} → i ≡ base_from w starts n leaves l → e ≡ base_to w starts n leaves l → r ≡ Some v →
      ((z : Piece w 62 i e) (G : List Forms) → r ≡ sight_behind (suffix (forms G z.part.lines) (get_or leaves l 0)) x) → v ≡ sight_beyond (top q h).place x
  level_saw hi he rv hr = let e = sym rv ∙ level_read hi he hr in cc

  -- x comes next at this level.
  comes_here : (g : Forms) → next_beyond (top q h).place x ≡ some g → Lands (get_or q.table.funs (n - 1) done) leaves q.counts ((top q h).place ∷ (top q h).under) x (Some l)
  unfolding fall_at turned
  comes_here g c =
      let t = top q h in
      let sp = spanned q h in
      let lv = t.level in
      let o = turned_next (get_or q.counts l 0) lv.start t.place x lv.turns in
      let (f, lt) = next_suffix w sp.piece.level _ _ sp.piece.part.lines q.table.funs (get_or leaves l 0) x sp.piece.part.rep lv.start g (rw sp.same at lv.found) (o.0 ∙ c) in
      let z : eqb (get_or leaves l 0) x ≡ false = ne_eqb (get_or leaves l 0) x (λ y. omega arith) in
      let f' : suffix lv.level x ≡ some g = ap (λ (f : Forms). suffix f x) sp.same ∙ f in (
        h,
        omega (arith, t.depth),
        (
          g ∷ t.under,
          rw c,
          record {
            under = t.under;
            place = g;
            same = refl;
            depth = t.depth;
            stands = t.stands;
            level = record { level = lv.level; opens = lv.opens; start = g; found = f'; turns = rw z };
          },
        ),
      )

-- The loop or call that is open below a level.
as_loop : {w : List ℕ} {G : List Forms} {k p v e : ℕ} {g : Forms} → View w G k p v e g → (f : Forms) → inside_of g ≡ some f → kind_at w p ≡ 2 →
    (m : ℕ) × (body : Forms) × (r : Forms) × (g ≡ loop (block_at w p) (suc m) body r)
unfolding inside_of
as_loop (a_leaf k r z) f c h = absurd (omega arith)
as_loop (a_call k t r z) f c h = absurd (omega arith)
as_loop (a_loop k q cs le zero s r z) f c h = never (rw z at c)
as_loop {G = G} (a_loop k q cs le (suc m) s r z) f c h = (m, forms G q.part.lines, r, z)
as_loop (an_if k t s r z) f c h = absurd (omega arith)

as_call : {w : List ℕ} {G : List Forms} {k p v e : ℕ} {g : Forms} → View w G k p v e g → (f : Forms) → inside_of g ≡ some f → (kind_at w p ≡ 2 → ⊥) →
    (fun : Forms) × (r : Forms) × (g ≡ call (block_at w p) fun r)
unfolding inside_of
as_call (a_leaf k r z) f c h = never (rw z at c)
as_call {w = w} {G = G} {p = p} (a_call k t r z) f c h = (get_or G (detail_at w p) done, r, z)
as_call (a_loop k q cs le m s r z) f c h = absurd (h k)
as_call (an_if k t s r z) f c h = never (rw z at c)

-- Back at it.
return_loop : (b : Block) (m : ℕ) (body r g : Forms) (ks : Levels) (x : ℕ) → g ≡ loop b (suc m) body r → b.point ≡ true →
    return_at (g ∷ ks) x ≡ pick (eqb b.number x) (some (loop b m body r ∷ ks)) none
unfolding return_at behind
return_loop b m body r g ks x e h = ap (λ (g : Forms). seek_at (behind g) ks x) e ∙ seek_loop b m body r ks x h

return_call : (b : Block) (fun r g : Forms) (ks : Levels) (x : ℕ) → g ≡ call b fun r → return_at (g ∷ ks) x ≡ fall_at (g ∷ ks) x
unfolding return_at fall_at behind next_beyond quits
return_call b fun r g ks x e = rw e (seek_at_is r ks x)

-- Under the outermost level.
bottom : (ks : Levels) (x : ℕ) → length ks ≡ 0 → return_at ks x ≡ none
unfolding return_at
bottom [] x z = refl
bottom (g ∷ ks) x z = absurd (omega arith)

-- Past the level in silence.
pass_down : (g : Forms) (ks : Levels) (x : ℕ) → next_beyond g x ≡ none → quits g ≡ true → fall_at (g ∷ ks) x ≡ return_at ks x
unfolding fall_at
pass_down g ks x a b = rw (a, b)

module _ {w starts leaves : List ℕ} {n l : ℕ} (q : Running w starts n leaves l) (h : 1 ≤ l) (x : ℕ) where
  -- An answer over the innermost level and those under it.
  whole_lands : (r : RustOption ℕ) → Lands (get_or q.table.funs (n - 1) done) leaves q.counts ((top q h).place ∷ (top q h).under) x r →
      Lands (get_or q.table.funs (n - 1) done) leaves q.counts q.levels x r
  whole_lands r z = rw (top q h).same z

  pub fall_found : {v : Sight} → v ≡ sight_beyond (top q h).place x → v.meets ≡ true →
      Lands (get_or q.table.funs (n - 1) done) leaves q.counts q.levels x (Some l)
  fall_found s m = let (g, c) = met s m in whole_lands (Some l) (comes_here q h x g c)

  pub fall_stuck : {v : Sight} → v ≡ sight_beyond (top q h).place x → v.meets ≡ false → v.free ≡ false →
      Lands (get_or q.table.funs (n - 1) done) leaves q.counts q.levels x None
  unfolding fall_at
  fall_stuck s m f =
      let a = unmet s m in
      let b : quits (top q h).place ≡ false = free_unmet s m f in
      whole_lands None (rw (a, b))

  down : {v : Sight} → v ≡ sight_beyond (top q h).place x → v.meets ≡ false → v.free ≡ true →
      fall_at ((top q h).place ∷ (top q h).under) x ≡ return_at (top q h).under x
  down s m f = pass_down (top q h).place (top q h).under x (unmet s m) (free_unmet s m f)

  pub fall_out : {v : Sight} → v ≡ sight_beyond (top q h).place x → v.meets ≡ false → l ≡ 1 →
      Lands (get_or q.table.funs (n - 1) done) leaves q.counts q.levels x None
  fall_out {v} s m low =
      elim (truth v.free) [
        | inl f ↦ whole_lands None (down s m f ∙ bottom (top q h).under x (omega (arith, (top q h).depth)))
        | inr f ↦ fall_stuck s m f
      ]

-- The loop or call that is open at the level below.
module _ {w starts leaves : List ℕ} {n l : ℕ} (q : Running w starts n leaves l) (one : 1 ≤ l) (two : 2 ≤ l) where
  abbrev pub lower : Running w starts n leaves (l - 1)
  lower =
      let t = top q one in
      record {
        table = q.table;
        counts = q.counts;
        levels = t.under;
        depth = omega (arith, t.depth);
        stands = t.stands;
        marked = λ k a b. q.marked k a (omega arith);
      }

  abbrev pub head : Top (get_or q.table.funs (n - 1) done) leaves q.counts (l - 1) (top q one).under
  head = top lower (omega arith)

  head_view : (e : ℕ) × View w q.table.funs n (get_or leaves (l - 1) 0) (get_or q.counts (l - 1) 0) e head.place
  head_view = let v = top_view lower (omega arith) in (v.0, v.1)

  head_opens : inside_of head.place ≡ some (top q one).level.level
  unfolding ground
  head_opens = rw head.same at (top q one).level.opens

  pub head_point : (block_at w (get_or leaves (l - 1) 0)).point ≡ true
  head_point = eq-eqb (point_at w (get_or leaves (l - 1) 0)) 1 (q.marked (l - 1) (omega arith) (omega arith))

  pub head_loop : kind_at w (get_or leaves (l - 1) 0) ≡ 2 → (m : ℕ) × (body : Forms) × (r : Forms) × (head.place ≡ loop (block_at w (get_or leaves (l - 1) 0)) (suc m) body r)
  head_loop kind = as_loop head_view.1 (top q one).level.level head_opens kind

  pub head_call : (kind_at w (get_or leaves (l - 1) 0) ≡ 2 → ⊥) → (fun : Forms) × (r : Forms) × (head.place ≡ call (block_at w (get_or leaves (l - 1) 0)) fun r)
  head_call kind = as_call head_view.1 (top q one).level.level head_opens kind

-- What is found there.
module _ {w starts leaves : List ℕ} {n l : ℕ} (q : Running w starts n leaves l) (one : 1 ≤ l) (two : 2 ≤ l) (x : ℕ) where
  abbrev main_of : Forms
  main_of = get_or q.table.funs (n - 1) done

  abbrev p : ℕ
  p = get_or leaves (l - 1) 0

  return_as : {o : Option Levels} → return_at ((head q one two).place ∷ (head q one two).under) x ≡ o → return_at (top q one).under x ≡ o
  return_as e = ap (λ (ks : Levels). return_at ks x) (head q one two).same ∙ e

  fall_again : {v : Sight} → v ≡ sight_beyond (top q one).place x → v.meets ≡ false → v.free ≡ true → kind_at w p ≡ 2 → p ≡ x → Lands main_of leaves q.counts q.levels x (Some (l - 1))
  fall_again s mt f kind hx =
      let h = head q one two in
      let lv = h.level in
      let b = block_at w p in
      let (m, body, r, e) = head_loop q one two kind in
      let z : eqb p x ≡ true = eq-eqb p x hx in
      let c : return_at (top q one).under x ≡ some (loop b m body r ∷ h.under) = return_as (return_loop b m body r h.place h.under x e (head_point q one two) ∙ rw z) in
      let o = turned_once (get_or q.counts (l - 1) 0) lv.start b m body r (lv.turns ∙ ap some e) in
      whole_lands q one x (Some (l - 1)) (
        omega arith,
        omega (arith, (top q one).depth),
        (
          loop b m body r ∷ h.under,
          down q one x s mt f ∙ c,
          record {
            under = h.under;
            place = loop b m body r;
            same = refl;
            depth = h.depth;
            stands = h.stands;
            level = record {
              level = lv.level;
              opens = lv.opens;
              start = lv.start;
              found = ap (λ (p : ℕ). suffix lv.level p) (sym hx) ∙ lv.found;
              turns = rw z (ap (λ (v : ℕ). turned lv.start v) (add-one (get_or q.counts (l - 1) 0)) ∙ o);
            };
          },
        ),
      )

  fall_other : {v : Sight} → v ≡ sight_beyond (top q one).place x → v.meets ≡ false → v.free ≡ true → kind_at w p ≡ 2 → (p ≡ x → ⊥) → Lands main_of leaves q.counts q.levels x None
  fall_other s mt f kind hx =
      let h = head q one two in
      let (m, body, r, e) = head_loop q one two kind in
      let z : eqb p x ≡ false = ne_eqb p x hx in
      whole_lands q one x None (down q one x s mt f ∙ return_as (return_loop (block_at w p) m body r h.place h.under x e (head_point q one two) ∙ rw z))

  -- Both of them, as the code tells them apart.
  pub fall_head : {v : Sight} {r : RustOption ℕ} → v ≡ sight_beyond (top q one).place x → v.meets ≡ false → v.free ≡ true → kind_at w p ≡ 2 → r ≡ then_some (eqb p x) (l - 1) →
      Lands main_of leaves q.counts q.levels x r
  fall_head {r = r} s m f kind e = by (eqb p x) refl e
    where
      by : (b : Bool) → eqb p x ≡ b → r ≡ then_some b (l - 1) → Lands main_of leaves q.counts q.levels x r
      by true z e = rw e (fall_again s m f kind (eqb-true p x z))
      by false z e = rw e (fall_other s m f kind (eqb-false p x z))

  lands_down : (r : RustOption ℕ) → fall_at ((top q one).place ∷ (top q one).under) x ≡ fall_at (top q one).under x →
      Lands main_of leaves q.counts (top q one).under x r → Lands main_of leaves q.counts ((top q one).place ∷ (top q one).under) x r
  lands_down None a y = a ∙ y
  lands_down (Some r) a y = (y.0, omega (arith, (top q one).depth, y.1), (y.2.0, a ∙ y.2.1, y.2.2))

  pub fall_on : (r : RustOption ℕ) {v : Sight} → v ≡ sight_beyond (top q one).place x → v.meets ≡ false → v.free ≡ true → (kind_at w p ≡ 2 → ⊥) →
      ((z : Running w starts n leaves (l - 1)) → Lands (get_or z.table.funs (n - 1) done) leaves z.counts z.levels x r) →
      Lands main_of leaves q.counts q.levels x r
  fall_on r s m f kind rec =
      let h = head q one two in
      let (fun, rest, e) = head_call q one two kind in
      let c = return_as (return_call (block_at w p) fun rest h.place h.under x e) ∙ ap (λ (ks : Levels). fall_at ks x) (sym h.same) in
      whole_lands q one x r (lands_down r (down q one x s m f ∙ c) (rec (lower q one two)))

-- The records of the level, for a scan.
pub ready : {w starts leaves : List ℕ} {n l : ℕ} (q : Running w starts n leaves l) (h : 1 ≤ l) {i e : ℕ} → i ≡ base_from w starts n leaves l → e ≡ base_to w starts n leaves l →
    (e * 8 ≤ length w) × Piece w 62 i e
ready q h hi he = let sp = spanned q h in (omega (arith, sp.room, he), rw (hi, he) sp.piece)
