-- When a stack holds: level by level. Plain mathematics: no code is named here. Assumes nothing.
use mathlib.Core.Path.{subst, ◌≡◌, refl, sym, ap, ◌∙◌}
use mathlib.Core.Bool.{Bool, true, false}
use mathlib.Core.List.{List, [], ◌∷◌}
use mathlib.Core.Logic.{inl, inr}
use mathlib.Core.Option.{some}
use Prim.Native.Nat.{ℕ, zero, suc, ◌+◌, ◌-◌, ◌*◌, ◌≤◌, ◌<◌}
use native.Mathlib.Omega.{arith}
use native.Mathlib.Decide.{dec_le}
use lib.Dec.{eqb}
use lib.ListN.{length, get_or}
use borrow.Author.Tests.{eq-eqb, ne_eqb}
use Rattle.model.specs.Plan.{Block}
use Rattle.model.specs.Forms.{Forms, done, loop, forms}
use Rattle.model.specs.Stack.{Levels, suffix, turned, inside_of}
use Rattle.model.proofs.Places.{never}
use Rattle.rows.specs.Rows.{point_at, block_at, Piece}
use Rattle.rows.specs.Answers.{Says}
use Rattle.place.specs.Pieces.{Spanned}
use Rattle.place.specs.Lent.{main_forms}
use Rattle.place.specs.Spans.{Level, Stands, ground, Enterable, inner_from, inner_to, base_from, base_to}
use Rattle.place.specs.Private.{Placed, there, Enters, Counted, Settled, StackStands}
use Rattle.place.specs.Stack.{FunctionTable, Decodes}
use Rattle.place.proofs.Suffixes.{suffix_in}
use Rattle.place.proofs.Sights.{some_there, none_there}
use Rattle.place.proofs.Views.{View, a_leaf, a_call, a_loop, an_if, view, main_spanned, level_spanned, turned_suc}
use Rattle.place.proofs.Falling.{spanned}
use Rattle.place.proofs.Finding.{running, front, leaf_room, call_top, loop_top, zero_or}
use Rattle.place.proofs.Decode.{stands_levels, levels_stand}

-- Visits that a form can have had.
turned_to : (v n : ℕ) (b : Block) (body r : Forms) → v ≤ n → turned (loop b n body r) v ≡ some (loop b (n - v) body r)
unfolding turned
turned_to zero n b body r h = let e : n ≡ n - zero = omega arith in ap (λ (m : ℕ). some (loop b m body r)) e
turned_to (suc v) zero b body r h = absurd (omega arith)
turned_to (suc v) (suc n) b body r h = let e : n - v ≡ suc n - suc v = omega arith in turned_to v n b body r (omega arith) ∙ ap (λ (m : ℕ). some (loop b m body r)) e

same_zero : (v : ℕ) (s : Forms) → v ≡ 0 → turned s v ≡ some s
unfolding turned
same_zero zero s e = refl
same_zero (suc v) s e = absurd (omega arith)

turned_some : {w : List ℕ} {G : List Forms} {k p e : ℕ} {s : Forms} → View w G k p 0 e s → (count : ℕ) → Counted w p count → (g : Forms) × (turned s count ≡ some g)
turned_some {s = s} (a_leaf k r z) count (inl c) = absurd (omega arith)
turned_some {s = s} (a_leaf k r z) count (inr c) = (s, same_zero count s c.1)
turned_some {s = s} (a_call k t r z) count (inl c) = absurd (omega arith)
turned_some {s = s} (a_call k t r z) count (inr c) = (s, same_zero count s c.1)
turned_some {w} {G} {p = p} {s = s} (a_loop k q cs le m e r z) count (inl c) =
    (loop (block_at w p) (m - count) (forms G q.part.lines) r, ap (λ (s : Forms). turned s count) z ∙ turned_to count m (block_at w p) (forms G q.part.lines) r (omega arith))
turned_some (a_loop k q cs le m e r z) count (inr c) = absurd (c.0 k)
turned_some {s = s} (an_if k x y r z) count (inl c) = absurd (omega arith)
turned_some {s = s} (an_if k x y r z) count (inr c) = (s, same_zero count s c.1)

not_again : (count : ℕ) (s g : Forms) → turned s count ≡ some g → ((b : Block) (m : ℕ) (body r : Forms) → g ≡ loop b m body r → ⊥) → count ≡ 0
not_again zero s g t nay = refl
not_again (suc v) s g t nay = let (b, n, m, body, r, d, e) = turned_suc v s g t in absurd (nay b m body r e)

settled_count : {w : List ℕ} {G : List Forms} {k p count e : ℕ} {g : Forms} → View w G k p count e g → (s : Forms) → turned s count ≡ some g → Counted w p count
settled_count {count = count} {g = g} (a_leaf k r z) s t =
    inr ((λ h. omega arith), not_again count s g t (λ b m body u e. let y = sym z ∙ e in let z : ◌≡◌ {A = ℕ} 0 1 = cc in omega arith))
settled_count {count = count} {g = g} (a_call k x r z) s t =
    inr ((λ h. omega arith), not_again count s g t (λ b m body u e. let y = sym z ∙ e in let z : ◌≡◌ {A = ℕ} 0 1 = cc in omega arith))
settled_count (a_loop k q cs le m e r z) s t = inl (k, omega arith)
settled_count {count = count} {g = g} (an_if k x y r z) s t =
    inr ((λ h. omega arith), not_again count s g t (λ b m body u e. let y = sym z ∙ e in let z : ◌≡◌ {A = ℕ} 0 1 = cc in omega arith))

-- The leaf p of a level, from the answer whether it is one.
module _ {w : List ℕ} {G : List Forms} {n i e : ℕ} {f : Forms} (sp : Spanned w G n i e f) (p count : ℕ) {r : Bool}
    (hr : (q : Piece w 62 i e) (G : List Forms) → r ≡ there (suffix (forms G q.part.lines) p)) where
  of_level : r ≡ there (suffix f p)
  of_level = hr sp.piece G ∙ ap (λ (f : Forms). there (suffix f p)) (sym sp.same)

  pub absent : r ≡ false → Settled w f p count → ⊥
  absent e s = never (sym (none_there (suffix f p) (sym of_level ∙ e)) ∙ s.found)

  -- Its visits.
  pub counts_so : r ≡ true → point_at w p ≡ 1 → Counted w p count → Settled w f p count
  unfolding turned
  counts_so e mk cs =
      let (s, c) = some_there (suffix f p) (sym of_level ∙ e) in
      let (vw, lt) = view sp p 0 s s c refl in
      let (g, t) = turned_some vw count cs in
      record { mark = mk; start = s; found = c; left = g; turns = t }

  pub counts_not : (Counted w p count → ⊥) → Settled w f p count → ⊥
  counts_not nay s =
      let (vw, lt) = view sp p count s.start s.left s.found s.turns in
      nay (settled_count vw s.start s.turns)

-- It lies in the row.
pub in_room : {w : List ℕ} {left i e : ℕ} → Piece w left i e → e * 8 ≤ length w → (p : ℕ) {r : Bool} →
    ((q : Piece w left i e) (G : List Forms) → r ≡ there (suffix (forms G q.part.lines) p)) → r ≡ true → p * 8 + 8 ≤ length w
in_room {w} {i} {e} q room p hr h =
    let c = some_there (suffix (forms [] q.part.lines) p) (sym (hr q []) ∙ h) in
    omega (arith, suffix_in w q.level i e q.part.lines [] p c.0 q.part.rep c.1)

-- The levels of a stack that holds.
abbrev pub placed_held : {w starts : List ℕ} {n : ℕ} (p : FunctionTable w starts n) {leaves counts : List ℕ} {l : ℕ} → StackStands w (get_or p.funs (n - 1) done) leaves counts l → Placed w starts n leaves counts l
placed_held p h = record { table = p; stack = h }

pub held_none : (w : List ℕ) (main : Forms) (leaves counts : List ℕ) (l : ℕ) → l ≡ 0 → StackStands w main leaves counts l
unfolding Stands
held_none w main leaves counts l e = record { levels = []; depth = sym e; stands = tt; marked = λ k a b. absurd (omega arith) }

module _ {w starts : List ℕ} {n : ℕ} (p : FunctionTable w starts n) {leaves counts : List ℕ} {l : ℕ} (one : 1 ≤ l) where
  pub held_down : StackStands w (main_forms p) leaves counts l → StackStands w (main_forms p) leaves counts (l - 1)
  held_down h =
      let t = front (placed_held p h) one in
      record { levels = t.under; depth = omega (arith, t.depth); stands = t.stands; marked = λ k a b. h.marked k a (omega arith) }

  held_up : (h : StackStands w (main_forms p) leaves counts (l - 1)) (f : Forms) → ground (main_forms p) h.levels ≡ some f → Settled w f (get_or leaves l 0) (get_or counts l 0) → StackStands w (main_forms p) leaves counts l
  unfolding Stands
  held_up h f c s =
      let e : l ≡ length h.levels + 1 = omega (arith, h.depth) in
      let lv : Level (main_forms p) h.levels (get_or leaves l 0) (get_or counts l 0) s.left = record { level = f; opens = c; start = s.start; found = s.found; turns = s.turns } in
      record {
        levels = s.left ∷ h.levels;
        depth = omega (arith, h.depth);
        stands = (h.stands, rw e at lv);
        marked = λ k a b. elim (dec_le l k) [
          | yes g ↦ let i : k ≡ l = omega arith in ap (λ (j : ℕ). point_at w (get_or leaves j 0)) i ∙ s.mark
          | no g ↦ h.marked k a (omega arith)
        ];
      }

  held_settled : (h : StackStands w (main_forms p) leaves counts l) → Settled w (front (placed_held p h) one).level.level (get_or leaves l 0) (get_or counts l 0)
  held_settled h =
      let lv = (front (placed_held p h) one).level in
      record { mark = h.marked l one (omega arith); start = lv.start; found = lv.found; left = (front (placed_held p h) one).place; turns = lv.turns }

  -- The answer of the test of the level l, over the records of that level.
  says_held : (r : Bool) {i e : ℕ} → i ≡ base_from w starts n leaves l → e ≡ base_to w starts n leaves l → (h : StackStands w (main_forms p) leaves counts (l - 1)) →
      ((f : Forms) × (ground (main_forms p) h.levels ≡ some f) × Spanned w p.funs n i e f) →
      ((n : ℕ) (G : List Forms) (f : Forms) → Spanned w G n i e f → Says r (Settled w f (get_or leaves l 0) (get_or counts l 0))) → Says r (StackStands w (main_forms p) leaves counts l)
  says_held true hi he h o u = let (f, c, sp) = o in held_up h f c (u n p.funs f sp)
  says_held false hi he h o u = λ k. u n p.funs (front (placed_held p k) one).level.level (rw (hi, he) (spanned (running (placed_held p k)) one)) (held_settled k)

-- A stack that holds up to a level holds up to each level below it.
pub held_below : {w starts : List ℕ} {n : ℕ} (p : FunctionTable w starts n) {leaves counts : List ℕ} {l : ℕ} (m k : ℕ) → k ≡ m + l →
    StackStands w (main_forms p) leaves counts k → StackStands w (main_forms p) leaves counts l
held_below {w} p {leaves} {counts} {l} zero k e h = let i : k ≡ l = omega arith in subst (λ (j : ℕ). StackStands w (main_forms p) leaves counts j) i h
held_below p (suc m) k e h = held_below p m (k - 1) (omega arith) (held_down p (omega arith) h)

-- One level more.
pub held_next : {w starts : List ℕ} {n : ℕ} (p : FunctionTable w starts n) {leaves counts : List ℕ} {l : ℕ} → ((k : ℕ) → k < l → StackStands w (main_forms p) leaves counts k) →
    StackStands w (main_forms p) leaves counts l → (k : ℕ) → k < l + 1 → StackStands w (main_forms p) leaves counts k
held_next {w} p {leaves} {counts} {l} u h k lt =
    elim (dec_le l k) [
      | yes g ↦ let i : l ≡ k = omega arith in subst (λ (j : ℕ). StackStands w (main_forms p) leaves counts j) i h
      | no g ↦ u k (omega arith)
    ]

-- At the second level and above.
view_enters : {w : List ℕ} {G : List Forms} {k p v e : ℕ} {g : Forms} → View w G k p v e g → (f : Forms) → inside_of g ≡ some f → Enters w p v
unfolding inside_of
view_enters (a_leaf k r z) f c = never (rw z at c)
view_enters (a_call k t r z) f c = inl k
view_enters (a_loop k q cs le zero s r z) f c = never (rw z at c)
view_enters (a_loop k q cs le (suc m) s r z) f c = inr (k, omega arith)
view_enters (an_if k t s r z) f c = never (rw z at c)

open_enters : {w starts : List ℕ} {n : ℕ} (p : FunctionTable w starts n) (leaves counts : List ℕ) (k : ℕ) (ks : Levels) → length ks ≡ k → 1 ≤ k → Stands (main_forms p) leaves counts ks → (f : Forms) → ground (main_forms p) ks ≡ some f → Enters w (get_or leaves k 0) (get_or counts k 0)
unfolding Stands ground
open_enters p leaves counts k [] d h st f c = absurd (omega arith)
open_enters p leaves counts k (g ∷ ks) d h st f c =
    let e : length ks + 1 ≡ k = omega arith in
    let lv : Level (main_forms p) ks (get_or leaves k 0) (get_or counts k 0) g = rw e at st.1 in
    let sp = (level_spanned p leaves counts ks st.0 lv.level lv.opens).0 in
    view_enters (view sp (get_or leaves k 0) (get_or counts k 0) lv.start g lv.found lv.turns).0 f c

opens_ground : {w starts : List ℕ} {n : ℕ} (p : FunctionTable w starts n) (ks : Levels) (g : Forms) (us : Levels) (f : Forms) → ks ≡ g ∷ us → inside_of g ≡ some f → ground (main_forms p) ks ≡ some f
unfolding ground
opens_ground p ks g us f e c = ap (λ (ks : Levels). ground (main_forms p) ks) e ∙ c

module _ {w starts : List ℕ} {n : ℕ} (p : FunctionTable w starts n) {leaves counts : List ℕ} {l : ℕ} (two : 2 ≤ l) where
  pub held_enters : StackStands w (main_forms p) leaves counts l → Enters w (get_or leaves (l - 1) 0) (get_or counts (l - 1) 0)
  held_enters h =
      let t = front (placed_held p h) (omega arith) in
      open_enters p leaves counts (l - 1) t.under (omega (arith, t.depth)) (omega arith) t.stands t.level.level t.level.opens

  enters_open : (h : StackStands w (main_forms p) leaves counts (l - 1)) → Enters w (get_or leaves (l - 1) 0) (get_or counts (l - 1) 0) →
      ((f : Forms) × (ground (main_forms p) h.levels ≡ some f) × Spanned w p.funs n (inner_from w starts (get_or leaves (l - 1) 0)) (inner_to w starts (get_or leaves (l - 1) 0)) f) ×
      Enterable w starts (get_or leaves (l - 1) 0)
  unfolding inside_of
  enters_open h (inl k) =
      let q = placed_held p h in
      let one : 1 ≤ l - 1 = omega arith in
      let c = call_top q one k in
      ((c.fun, opens_ground p h.levels (front q one).place (front q one).under c.fun (front q one).same (ap inside_of c.shape), c.spanned), c.head)
  enters_open h (inr k) =
      let q = placed_held p h in
      let one : 1 ≤ l - 1 = omega arith in
      let c = loop_top q one k.0 in
      let m : (j : ℕ) × (c.rounds ≡ suc j) = elim (zero_or c.rounds) [ inl z ↦ absurd (omega (arith, c.bound, k.1)) | inr z ↦ z ] in (
        (
          c.body,
          opens_ground p h.levels (front q one).place (front q one).under c.body (front q one).same
              (ap inside_of (c.shape ∙ ap (λ (m : ℕ). loop (block_at w (get_or leaves (l - 1) 0)) m c.body c.later) m.1)),
          c.spanned,
        ),
        c.head,
      )

  pub head_room : StackStands w (main_forms p) leaves counts (l - 1) → get_or leaves (l - 1) 0 * 8 + 8 ≤ length w
  head_room h = leaf_room (placed_held p h) (omega arith)

  pub head_open : StackStands w (main_forms p) leaves counts (l - 1) → Enters w (get_or leaves (l - 1) 0) (get_or counts (l - 1) 0) → Enterable w starts (get_or leaves (l - 1) 0)
  head_open h en = (enters_open h en).1

-- The outermost level runs the main function.
ground_main : (main : Forms) (ks : Levels) → length ks ≡ 0 → ground main ks ≡ some main
unfolding ground
ground_main main [] e = refl
ground_main main (g ∷ ks) e = absurd (omega arith)

-- The records of a level above levels that hold.
module _ {w starts : List ℕ} {n : ℕ} (p : FunctionTable w starts n) {leaves counts : List ℕ} {l : ℕ} (one : 1 ≤ l) (h : StackStands w (main_forms p) leaves counts (l - 1))
    (en : 2 ≤ l → Enters w (get_or leaves (l - 1) 0) (get_or counts (l - 1) 0)) {i e : ℕ} (hi : i ≡ base_from w starts n leaves l) (he : e ≡ base_to w starts n leaves l) where
  level_open : (f : Forms) × (ground (main_forms p) h.levels ≡ some f) × Spanned w p.funs n i e f
  level_open =
      elim (dec_le 2 l) [
        | yes two ↦
            let z : eqb l 1 ≡ false = ne_eqb l 1 (λ y. omega arith) in
            let o = (enters_open p two h (en two)).0 in
            (o.0, o.1, rw (hi, he, z) o.2)
        | no low ↦
            let z : eqb l 1 ≡ true = eq-eqb l 1 (omega arith) in
            (main_forms p, ground_main (main_forms p) h.levels (omega (arith, h.depth)), main_spanned p (hi ∙ rw z) (he ∙ rw z))
      ]

  pub level_plan : (e * 8 ≤ length w) × Piece w 62 i e
  level_plan = let sp = level_open.2 in (sp.room, sp.piece)

  pub says_level : (r : Bool) → ((n : ℕ) (G : List Forms) (f : Forms) → Spanned w G n i e f → Says r (Settled w f (get_or leaves l 0) (get_or counts l 0))) →
      Says r (StackStands w (main_forms p) leaves counts l)
  says_level r u = says_held p one r hi he h level_open u

-- a stack that holds is one that the model decodes.
pub says_decodes : (w : List ℕ) (main : Forms) (leaves counts : List ℕ) (l : ℕ) → (l ≡ 0 → ⊥) → l ≤ 32 → (r : Bool) → Says r (StackStands w main leaves counts l) → Says r (Decodes w main leaves counts l)
says_decodes w main leaves counts l nz le true h =
    let t = stands_levels main leaves counts h.levels (omega (arith, h.depth)) h.stands in
    record { least = omega arith; most = le; levels = h.levels; decodes = rw h.depth at t; marked = h.marked }
says_decodes w main leaves counts l nz le false h = λ d.
    let (st, k) = levels_stand main leaves counts l d.levels d.least d.decodes in
    h (record { levels = d.levels; depth = k; stands = st; marked = d.marked })
