-- What the ways through forms meet, record by record. Plain mathematics: no code is named here. Assumes nothing.
use mathlib.Core.Path.{◌≡◌, refl, sym, ap, ◌∙◌}
use mathlib.Core.Bool.{Bool, true, false, ◌&&◌, ◌||◌, not, and-true, and-false, or-true, or-false, and_assoc, and-or_distrib_right, true≢false, false≢true}
use mathlib.Core.List.{List}
use mathlib.Core.Option.{Option, none, some}
use Prim.Native.Nat.{ℕ, ◌+◌, ◌-◌, ◌≤◌, ◌<◌}
use native.Mathlib.Omega.{arith}
use lib.Dec.{eqb}
use borrow.Author.Tests.{eq-eqb, ne_eqb}
use Rattle.std.specs.Prelude.{Option as RustOption}
use Rattle.std.specs.Prelude.{Some, None}
use Rattle.model.specs.Plan.{Block, Lines, close, leaf_line, call_line, loop_line, if_line}
use Rattle.model.specs.Forms.{Forms, done, leaf, call, loop, cond, ◌⊕◌, forms}
use Rattle.model.specs.Places.{pick, ◌or◌, when, ◌⊕?◌, at, passes, seek}
use Rattle.model.specs.Stack.{suffix}
use Rattle.model.proofs.Places.{seek-⊕}
use Rattle.rows.specs.Rows.{kind_at, point_at, other_at, after_at, block_at, Rep, Piece}
use Rattle.rows.specs.First.{rest}
use Rattle.rows.proofs.Shape.{no_lines, then_in, else_in}
use Rattle.place.specs.declared.Sight.{Sight}
use Rattle.place.specs.Spans.{first_form}
use Rattle.place.specs.Private.{Nonempty, there, sight_by, sight_of, nothing, sight_at, series, either, sight_beyond, sight_behind, next_beyond, quits}
use Rattle.place.proofs.Shape.{cond_at, piece_after}
use Rattle.place.proofs.Suffixes.{suffix_headed, suffix_before, suffix_past, suffix_skip, suffix_first, first_own, first_flat, first_then, first_else}

-- WHETHER A PLACE IS THERE

there_at : (b : Block) (x : ℕ) (fs : Forms) (o : Option Forms) → there (at b x fs o) ≡ pick b.point (eqb b.number x) (there o)
there_at b x fs o = go b.point (eqb b.number x)
  where
    go : (p q : Bool) → there (pick p (pick q (some fs) none) o) ≡ pick p q (there o)
    go true true = refl
    go true false = refl
    go false q = refl

pub there_joined : (o : Option Forms) (r : Forms) → there (o ⊕? r) ≡ there o
there_joined none r = refl
there_joined (some f) r = refl

there_when : (s : Bool) (o : Option Forms) → there (when s o) ≡ (s && there o)
there_when true o = refl
there_when false o = refl

there_or : (o p : Option Forms) → there (o or p) ≡ (there o || there p)
there_or none p = refl
there_or (some f) p = refl

pub some_there : (o : Option Forms) → there o ≡ true → (g : Forms) × (o ≡ some g)
some_there none e = absurd (false≢true e)
some_there (some g) e = (g, refl)

pub none_there : (o : Option Forms) → there o ≡ false → o ≡ none
none_there none e = refl
none_there (some g) e = absurd (true≢false e)

-- What is met, where o is left to run from the point sought on, and s says whether some way meets no point.
module _ {v : Sight} {o : Option Forms} {s : Bool} (e : v ≡ record { free = s; meets = there o }) where
  pub met : v.meets ≡ true → (g : Forms) × (o ≡ some g)
  met m = some_there o (ap (λ (y : Sight). y.meets) (sym e) ∙ m)

  pub unmet : v.meets ≡ false → o ≡ none
  unmet m = none_there o (ap (λ (y : Sight). y.meets) (sym e) ∙ m)

-- Whether some way meets no point, as a sight says it.
pub free_as : {v : Sight} {m s t : Bool} → v ≡ record { free = s; meets = m } → v.free ≡ t → s ≡ t
free_as e f = ap (λ (y : Sight). y.free) (sym e) ∙ f

-- The same of ways by which none leads on once the point is met, where it is not met.
pub free_unmet : {v : Sight} {m s t : Bool} → v ≡ sight_by s m → v.meets ≡ false → v.free ≡ t → s ≡ t
free_unmet {v} {m} {s} e n f =
    let k : m ≡ false = ap (λ (y : Sight). y.meets) (sym e) ∙ n in
    sym (ap (λ (k : Bool). s && not k) k ∙ and-true s) ∙ free_as {m = m} {s = s && not m} e f

-- ONE BEHIND THE OTHER

or_stuck : (k f j : Bool) → f ≡ false → (k || (f && j)) ≡ k
or_stuck true f j e = refl
or_stuck false f j e = rw e

and_stuck : (f j : Bool) → f ≡ false → (f && j) ≡ f
and_stuck f j e = rw e

met_assoc : (k f l g m : Bool) → (k || (f && (l || (g && m)))) ≡ ((k || (f && l)) || ((f && g) && m))
met_assoc true f l g m = refl
met_assoc false true l g m = refl
met_assoc false false l g m = refl

pick_and : (p s t : Bool) → pick p false (s && t) ≡ (pick p false s && t)
pick_and true s t = refl
pick_and false s t = refl

series_nothing : (x : Sight) → series x nothing ≡ x
series_nothing x = λ i. record { free = and-true x.free i; meets = (ap (λ (k : Bool). x.meets || k) (and-false x.free) ∙ or-false x.meets) i }

series_assoc : (x y z : Sight) → series x (series y z) ≡ series (series x y) z
series_assoc x y z = λ i. record { free = sym (and_assoc x.free y.free z.free) i; meets = met_assoc x.meets x.free y.meets y.free z.meets i }

-- Where no way leads through, nothing behind it changes anything.
series_stuck : (x y : Sight) → x.free ≡ false → series x y ≡ x
series_stuck x y e = λ i. record { free = and_stuck x.free y.free e i; meets = or_stuck x.meets x.free y.meets e i }

passes_join : (f g : Forms) → passes (f ⊕ g) ≡ (passes f && passes g)
unfolding passes ◌⊕◌
passes_join done g = refl
passes_join (leaf b r) g = ap (λ (s : Bool). pick b.point false s) (passes_join r g) ∙ pick_and b.point (passes r) (passes g)
passes_join (call b fun r) g = ap (λ (s : Bool). pick b.point false s) (passes_join r g) ∙ pick_and b.point (passes r) (passes g)
passes_join (loop b n body r) g = ap (λ (s : Bool). pick b.point false s) (passes_join r g) ∙ pick_and b.point (passes r) (passes g)
passes_join (cond b t e r) g =
    ap (λ (s : Bool). pick b.point false ((passes t || passes e) && s)) (passes_join r g) ∙
    ap (λ (s : Bool). pick b.point false s) (sym (and_assoc (passes t || passes e) (passes r) (passes g))) ∙ pick_and b.point ((passes t || passes e) && passes r) (passes g)

meets_join : (f g : Forms) (x : ℕ) → there (seek (f ⊕ g) x) ≡ (there (seek f x) || (passes f && there (seek g x)))
meets_join f g x =
    ap there (seek-⊕ f g x) ∙ there_or (seek f x ⊕? g) (when (passes f) (seek g x)) ∙ ap (λ (k : Bool). k || there (when (passes f) (seek g x))) (there_joined (seek f x) g) ∙
    ap (λ (k : Bool). there (seek f x) || k) (there_when (passes f) (seek g x))

series_by : (s k t m : Bool) → series (sight_by s k) (sight_by t m) ≡ sight_by (s && t) (k || (s && m))
series_by true true t m = λ i. record { free = sym (and-false t) i; meets = true }
series_by true false t m = refl
series_by false k t m = refl

sight-⊕ : (f g : Forms) (x : ℕ) → sight_of (f ⊕ g) x ≡ series (sight_of f x) (sight_of g x)
sight-⊕ f g x = (λ i. sight_by (passes_join f g i) (meets_join f g x i)) ∙ sym (series_by (passes f) (there (seek f x)) (passes g) (there (seek g x)))

-- One part or the other, and then the same.
or_met : (j a k b m : Bool) → ((j || (a && m)) || (k || (b && m))) ≡ ((j || k) || ((a || b) && m))
or_met true a k b m = refl
or_met false a true b m = or-true (a && m)
or_met false a false b m = sym (and-or_distrib_right a b m)

either_by : (s k t m : Bool) → either (sight_by s k) (sight_by t m) ≡ sight_by (s || t) (k || m)
either_by s true t m = λ i. record { free = (and-false ((s && false) || (t && not m)) ∙ sym (and-false (s || t))) i; meets = true }
either_by s false t true = λ i. record { free = (and-false ((s && true) || (t && false)) ∙ sym (and-false (s || t))) i; meets = true }
either_by s false t false = λ i. record { free = (and-true s i || and-true t i) && true; meets = false }

parts_by : (s k t m u n : Bool) → series (either (sight_by s k) (sight_by t m)) (sight_by u n) ≡ sight_by ((s || t) && u) ((k || m) || ((s || t) && n))
parts_by s k t m u n = ap (λ (y : Sight). series y (sight_by u n)) (either_by s k t m) ∙ series_by (s || t) (k || m) u n

-- Behind the condition of an if: its parts, and then the rest.
beyond_if : (b : Block) (t e r : Forms) (x : ℕ) → sight_beyond (cond b t e r) x ≡ series (either (sight_of t x) (sight_of e x)) (sight_of r x)
unfolding next_beyond quits
beyond_if b t e r x =
    let j = there (seek t x) in
    let k = there (seek e x) in
    let m = there (seek r x) in
    ap (sight_by (passes (t ⊕ r) || passes (e ⊕ r))) (there_or (seek (t ⊕ r) x) (seek (e ⊕ r) x)) ∙
    (λ i. sight_by (passes_join t r i || passes_join e r i) (meets_join t r x i || meets_join e r x i)) ∙
    (λ i. sight_by (sym (and-or_distrib_right (passes t) (passes e) (passes r)) i) (or_met j (passes t) k (passes e) m i)) ∙
    sym (parts_by (passes t) j (passes e) k (passes r) m)

beyond-⊕ : (f g : Forms) (x : ℕ) → Nonempty f → sight_beyond (f ⊕ g) x ≡ series (sight_beyond f x) (sight_of g x)
unfolding next_beyond quits ◌⊕◌
beyond-⊕ done g x h = absurd h
beyond-⊕ (leaf b r) g x h = sight-⊕ r g x
beyond-⊕ (call b fun r) g x h = sight-⊕ r g x
beyond-⊕ (loop b n body r) g x h = sight-⊕ r g x
beyond-⊕ (cond b t e r) g x h =
    let T = either (sight_of t x) (sight_of e x) in
    beyond_if b t e (r ⊕ g) x ∙ ap (series T) (sight-⊕ r g x) ∙ series_assoc T (sight_of r x) (sight_of g x) ∙ ap (λ (y : Sight). series y (sight_of g x)) (sym (beyond_if b t e r x))

-- The parts of an if alone.
beyond_parts : (b : Block) (t e : Forms) (x : ℕ) → sight_beyond (cond b t e done) x ≡ either (sight_of t x) (sight_of e x)
unfolding passes seek
beyond_parts b t e x = beyond_if b t e done x ∙ series_nothing (either (sight_of t x) (sight_of e x))

-- RECORD BY RECORD

-- A point is met; a silent block is not.
abbrev at_mark : Block → ℕ → Sight → Sight
at_mark b x s = pick b.point (sight_at b.number x) s

mark : (b : Block) (x : ℕ) (f k j : Bool) → j ≡ pick b.point (eqb b.number x) k →
    sight_by (pick b.point false f) j ≡ at_mark b x (sight_by f k)
mark b x f k j e = go b.point e
  where
    go : (p : Bool) → j ≡ pick p (eqb b.number x) k →
        sight_by (pick p false f) j ≡ pick p (sight_at b.number x) (sight_by f k)
    go true e = λ i. sight_by false (e i)
    go false e = λ i. sight_by f (e i)

parts_there : (u v z : Option Forms) (s : Bool) (r : Forms) → there (u ⊕? r or v ⊕? r or when s z) ≡ ((there u || there v) || (s && there z))
parts_there (some u) v z s r = refl
parts_there none (some v) z s r = refl
parts_there none none z s r = there_when s z

sight_leaf : (b : Block) (r : Forms) (x : ℕ) → sight_of (leaf b r) x ≡ at_mark b x (sight_of r x)
unfolding passes seek
sight_leaf b r x = mark b x (passes r) (there (seek r x)) (there (seek (leaf b r) x)) (there_at b x (leaf b r) (seek r x))

sight_call : (b : Block) (fun r : Forms) (x : ℕ) → sight_of (call b fun r) x ≡ at_mark b x (sight_of r x)
unfolding passes seek
sight_call b fun r x = mark b x (passes r) (there (seek r x)) (there (seek (call b fun r) x)) (there_at b x (call b fun r) (seek r x))

sight_loop : (b : Block) (m : ℕ) (body r : Forms) (x : ℕ) → sight_of (loop b m body r) x ≡ at_mark b x (sight_of r x)
unfolding passes seek
sight_loop b m body r x = mark b x (passes r) (there (seek r x)) (there (seek (loop b m body r) x)) (there_at b x (loop b m body r) (seek r x))

sight_cond : (b : Block) (t e r : Forms) (x : ℕ) → sight_of (cond b t e r) x ≡ at_mark b x (series (either (sight_of t x) (sight_of e x)) (sight_of r x))
unfolding passes seek
sight_cond b t e r x =
    let s = passes t || passes e in
    let m = (there (seek t x) || there (seek e x)) || (s && there (seek r x)) in
    mark b x (s && passes r) m (there (seek (cond b t e r) x))
    (there_at b x (cond b t e r) _ ∙ ap (λ (k : Bool). pick b.point (eqb b.number x) k) (parts_there (seek t x) (seek e x) (seek r x) s r)) ∙
    ap (at_mark b x) (sym (parts_by (passes t) (there (seek t x)) (passes e) (there (seek e x)) (passes r) (there (seek r x))))

sight_step : (w : List ℕ) (lv i e : ℕ) (l : Lines) (G : List Forms) (x : ℕ) → Rep w lv i e l → i < e →
    sight_of (forms G l) x ≡ at_mark (block_at w i) x (series (sight_beyond (first_form (forms G l)) x) (sight_of (forms G (rest l)) x))
unfolding Rep forms rest first_form next_beyond quits passes seek
sight_step w lv i e close G x h lt = absurd (omega arith)
sight_step w lv i e (leaf_line b r) G x h lt = sight_leaf b (forms G r) x ∙ ap (λ (b : Block). at_mark b x (sight_of (forms G r) x)) h.0.1
sight_step w lv i e (call_line b f r) G x h lt = sight_call b _ (forms G r) x ∙ ap (λ (b : Block). at_mark b x (sight_of (forms G r) x)) h.0.1
sight_step w lv i e (loop_line b n body r) G x h lt = sight_loop b n (forms G body) (forms G r) x ∙ ap (λ (b : Block). at_mark b x (sight_of (forms G r) x)) h.0.1
sight_step w lv i e (if_line b t s r) G x h lt =
    let R = sight_of (forms G r) x in
    sight_cond b (forms G t) (forms G s) (forms G r) x ∙ ap (λ (y : Sight). at_mark b x (series y R)) (sym (beyond_parts b (forms G t) (forms G s) x)) ∙
    ap (λ (b : Block). at_mark b x (series (sight_beyond (cond b (forms G t) (forms G s) done) x) R)) h.0.1

parts_flat : (w : List ℕ) (lv i e : ℕ) (l : Lines) (G : List Forms) (x : ℕ) → Rep w lv i e l → i < e → (kind_at w i ≡ 3 → ⊥) → sight_beyond (first_form (forms G l)) x ≡ nothing
unfolding Rep forms first_form next_beyond quits passes seek
parts_flat w lv i e close G x h lt k = absurd (omega arith)
parts_flat w lv i e (leaf_line b r) G x h lt k = refl
parts_flat w lv i e (call_line b f r) G x h lt k = refl
parts_flat w lv i e (loop_line b n body r) G x h lt k = refl
parts_flat w lv i e (if_line b t s r) G x h lt k = absurd (k h.0.0)

parts_if : (G : List Forms) (x : ℕ) (l : Lines) (b : Block) (t s r : Lines) → l ≡ if_line b t s r → sight_beyond (first_form (forms G l)) x ≡ either (sight_of (forms G t) x) (sight_of (forms G s) x)
unfolding forms first_form
parts_if G x l b t s r e = ap (λ (l : Lines). sight_beyond (first_form (forms G l)) x) e ∙ beyond_parts b (forms G t) (forms G s) x

-- What `parts` computed, by kind.
module _ {w : List ℕ} {left i e : ℕ} (lt : i < e) (p : Piece w left i e) (G : List Forms) (x : ℕ) where
  pub parts_none : {r : Sight} → (kind_at w i ≡ 3 → ⊥) → r ≡ nothing → r ≡ sight_beyond (first_form (forms G p.part.lines)) x
  parts_none k hr = hr ∙ sym (parts_flat w p.level i e p.part.lines G x p.part.rep lt k)

  pub parts_both : {mid en : ℕ} {a b r : Sight} → kind_at w i ≡ 3 → mid ≡ other_at w i → en ≡ after_at w i
      → ((q : Piece w (left - 2) (i + 1) mid) (G : List Forms) → a ≡ sight_of (forms G q.part.lines) x)
      → ((q : Piece w (left - 2) mid en) (G : List Forms) → b ≡ sight_of (forms G q.part.lines) x)
      → r ≡ either a b → r ≡ sight_beyond (first_form (forms G p.part.lines)) x
  parts_both {a = a} {b = b} k hm he ha hb hr =
      let h = cond_at lt p k in
      let ea = ha (record { heights = p.heights; level = p.level; part = then_in hm h }) G in
      let eb = hb (record { heights = p.heights; level = p.level; part = else_in hm he h }) G in
      hr ∙ ap (λ (x : Sight). either x b) ea ∙ ap (λ (y : Sight). either (sight_of (forms G h.then.lines) x) y) eb ∙ sym (parts_if G x p.part.lines _ _ _ _ h.shape)

-- What a walk over the siblings has done: what all meet, is what those that it passed meet, and then the rest.
pub record Walked (w : List ℕ) (left i e : ℕ) (G : List Forms) (x : ℕ) (passed all : Sight) : Type 0 where
  pub more : Piece w left i e
  pub same : all ≡ series passed (sight_of (forms G more.part.lines) x)

module _ {w : List ℕ} {left i e : ℕ} {G : List Forms} {x : ℕ} {passed all : Sight} where
  -- At a point.
  pub walk_stopped : {v : ℕ} {a r : Sight} → i < e → v ≡ point_at w i → v ≡ 1 → a ≡ sight_at i x → r ≡ series passed a → Walked w left i e G x passed all → r ≡ all
  walk_stopped {v} {a} {r} lt hv v1 ha hr q =
      let k : eqb (point_at w i) 1 ≡ true = eq-eqb (point_at w i) 1 (sym hv ∙ v1) in
      let s = sight_step w q.more.level i e q.more.part.lines G x q.more.part.rep lt in
      let y = series (sight_beyond (first_form (forms G q.more.part.lines)) x) (sight_of (forms G (rest q.more.part.lines)) x) in
      let m : at_mark (block_at w i) x y ≡ sight_at i x = rw k in
      hr ∙ ap (series passed) (ha ∙ sym (s ∙ m)) ∙ sym q.same

  -- The form at i, where it is silent.
  silent_step : {v : ℕ} {u : Sight} → i < e → v ≡ point_at w i → (v ≡ 1 → ⊥) → ((p : Piece w left i e) (G : List Forms) → u ≡ sight_beyond (first_form (forms G p.part.lines)) x)
      → (q : Walked w left i e G x passed all) → all ≡ series passed (series u (sight_of (forms G (rest q.more.part.lines)) x))
  silent_step {v} {u} lt hv v1 hu q =
      let k : eqb (point_at w i) 1 ≡ false = ne_eqb (point_at w i) 1 (λ z. v1 (hv ∙ z)) in
      let s = sight_step w q.more.level i e q.more.part.lines G x q.more.part.rep lt in
      let z = sight_of (forms G (rest q.more.part.lines)) x in
      let y = series (sight_beyond (first_form (forms G q.more.part.lines)) x) z in
      let m : at_mark (block_at w i) x y ≡ y = rw k in
      q.same ∙ ap (series passed) (s ∙ m ∙ ap (λ (y : Sight). series y z) (sym (hu q.more G)))

  -- No way leads on.
  pub walk_shut : passed.free ≡ false → Walked w left i e G x passed all → passed ≡ all
  walk_shut f q = sym (q.same ∙ series_stuck passed (sight_of (forms G q.more.part.lines) x) f)

  -- Past it.
  pub walk_on : {v en : ℕ} {u next : Sight} → i < e → v ≡ point_at w i → (v ≡ 1 → ⊥) → ((p : Piece w left i e) (G : List Forms) → u ≡ sight_beyond (first_form (forms G p.part.lines)) x)
      → next ≡ series passed u → en ≡ after_at w i → Walked w left i e G x passed all → Walked w left en e G x next all
  walk_on {v} {en} {u} {next} lt hv v1 hu hn he q =
      let z = sight_of (forms G (rest q.more.part.lines)) x in
      record { more = piece_after lt q.more he; same = silent_step lt hv v1 hu q ∙ series_assoc passed u z ∙ ap (λ (y : Sight). series y z) (sym hn) }

  pub walk_done : e ≤ i → Walked w left i e G x passed all → passed ≡ all
  unfolding forms passes seek
  walk_done le q = sym (q.same ∙ ap (λ (l : Lines). series passed (sight_of (forms G l) x)) (no_lines le q.more.part) ∙ series_nothing passed)

-- BEHIND A LEAF

-- What was met, and then the rest.
abbrev then_rest : RustOption Sight → Sight → RustOption Sight
then_rest None s = None
then_rest (Some v) s = Some (series v s)

-- A leaf of the first form: behind it as far as that form goes, and then the rest.
in_first : (o : Option Forms) (r : Forms) (x : ℕ) → ((g : Forms) → o ≡ some g → Nonempty g) → sight_behind (o ⊕? r) x ≡ then_rest (sight_behind o x) (sight_of r x)
unfolding sight_behind
in_first none r x h = refl
in_first (some g) r x h = ap Some (beyond-⊕ g r x (h g refl))

suffix_step : (w : List ℕ) (lv i e : ℕ) (l : Lines) (G : List Forms) (p : ℕ) (x : ℕ) → Rep w lv i e l → i < e → p < after_at w i →
    sight_behind (suffix (forms G l) p) x ≡ then_rest (sight_behind (suffix (first_form (forms G l)) p) x) (sight_of (forms G (rest l)) x)
suffix_step w lv i e l G p x h lt le =
    let f = first_form (forms G l) in
    ap (λ (o : Option Forms). sight_behind o x) (suffix_first w lv i e l G p h lt le) ∙ in_first (suffix f p) (forms G (rest l)) x (suffix_headed f p)

-- What `within` computed, by where p is.
module _ {w : List ℕ} {left i e : ℕ} (lt : i < e) (l : Piece w left i e) (G : List Forms) (p : ℕ) (x : ℕ) where
  behind_as : {o : Option Forms} → suffix (first_form (forms G l.part.lines)) p ≡ o → sight_behind (suffix (first_form (forms G l.part.lines)) p) x ≡ sight_behind o x
  behind_as e = ap (λ (o : Option Forms). sight_behind o x) e

  pub within_here : {v : Sight} → p ≡ i → ((q : Piece w left i e) (G : List Forms) → v ≡ sight_beyond (first_form (forms G q.part.lines)) x)
      → Some v ≡ sight_behind (suffix (first_form (forms G l.part.lines)) p) x
  unfolding sight_behind
  within_here hp hr = ap Some (hr l G) ∙ sym (behind_as (first_own w l.level i e l.part.lines G p l.part.rep lt hp))

  pub within_flat : (p ≡ i → ⊥) → (kind_at w i ≡ 3 → ⊥) → None ≡ sight_behind (suffix (first_form (forms G l.part.lines)) p) x
  unfolding sight_behind
  within_flat hp k = sym (behind_as (first_flat w l.level i e l.part.lines G p l.part.rep lt hp k))

  pub within_then : {mid : ℕ} {r : RustOption Sight} → (p ≡ i → ⊥) → kind_at w i ≡ 3 → mid ≡ other_at w i → p < mid
      → ((q : Piece w (left - 2) (i + 1) mid) (G : List Forms) → r ≡ sight_behind (suffix (forms G q.part.lines) p) x)
      → r ≡ sight_behind (suffix (first_form (forms G l.part.lines)) p) x
  within_then hp k hm lo hr =
      let h = cond_at lt l k in
      let er = hr (record { heights = l.heights; level = l.level; part = then_in hm h }) G in
      let z = suffix_before w l.level (other_at w i) (after_at w i) h.else.lines G p h.else.rep (omega arith) in
      er ∙ sym (behind_as (first_then G p l.part.lines _ _ _ _ h.shape hp z))

  pub within_else : {mid en : ℕ} {r : RustOption Sight} → (p ≡ i → ⊥) → kind_at w i ≡ 3 → mid ≡ other_at w i → mid ≤ p → en ≡ after_at w i
      → ((q : Piece w (left - 2) mid en) (G : List Forms) → r ≡ sight_behind (suffix (forms G q.part.lines) p) x)
      → r ≡ sight_behind (suffix (first_form (forms G l.part.lines)) p) x
  within_else hp k hm lo he hr =
      let h = cond_at lt l k in
      let er = hr (record { heights = l.heights; level = l.level; part = else_in hm he h }) G in
      let z = suffix_past w l.level (i + 1) (other_at w i) h.then.lines G p h.then.rep (omega arith) in
      er ∙ sym (behind_as (first_else G p l.part.lines _ _ _ _ h.shape hp z))

-- p is not in what was passed.
pub record Beside (w : List ℕ) (left i e : ℕ) (G : List Forms) (p : ℕ) (x : ℕ) (all : RustOption Sight) : Type 0 where
  pub more : Piece w left i e
  pub same : all ≡ sight_behind (suffix (forms G more.part.lines) p) x

module _ {w : List ℕ} {left i e : ℕ} {G : List Forms} {p : ℕ} {x : ℕ} {all : RustOption Sight} where
  pub leaf_before : p < i → Beside w left i e G p x all → None ≡ all
  unfolding sight_behind
  leaf_before lt q = sym (q.same ∙ ap (λ (o : Option Forms). sight_behind o x) (suffix_before w q.more.level i e q.more.part.lines G p q.more.part.rep lt))

  pub leaf_past : e ≤ i → i ≤ p → Beside w left i e G p x all → None ≡ all
  unfolding sight_behind
  leaf_past le ge q = sym (q.same ∙ ap (λ (o : Option Forms). sight_behind o x) (suffix_past w q.more.level i e q.more.part.lines G p q.more.part.rep (omega arith)))

  pub leaf_later : {en : ℕ} → i < e → en ≡ after_at w i → en ≤ p → Beside w left i e G p x all → Beside w left en e G p x all
  leaf_later {en} lt he le q =
      record {
        more = piece_after lt q.more he;
        same = q.same ∙ ap (λ (o : Option Forms). sight_behind o x) (suffix_skip w q.more.level i e q.more.part.lines G p q.more.part.rep lt (omega arith));
      }

  inner_step : {en : ℕ} {r : RustOption Sight} → i < e → i ≤ p → en ≡ after_at w i → p < en → ((q : Piece w left i e) (G : List Forms) → r ≡ sight_behind (suffix (first_form (forms G q.part.lines)) p) x) →
      (q : Beside w left i e G p x all) → all ≡ then_rest r (sight_of (forms G (rest q.more.part.lines)) x)
  inner_step lt ge he le hr q =
      let s = suffix_step w q.more.level i e q.more.part.lines G p x q.more.part.rep lt (omega arith) in
      q.same ∙ s ∙ ap (λ (y : RustOption Sight). then_rest y (sight_of (forms G (rest q.more.part.lines)) x)) (sym (hr q.more G))

  -- It is no leaf of the form.
  pub leaf_missing : {en : ℕ} {r : RustOption Sight} → i < e → i ≤ p → en ≡ after_at w i → p < en → ((q : Piece w left i e) (G : List Forms) → r ≡ sight_behind (suffix (first_form (forms G q.part.lines)) p) x)
      → r ≡ None → Beside w left i e G p x all → None ≡ all
  leaf_missing lt ge he le hr z q = sym (inner_step lt ge he le hr q ∙ ap (λ (y : RustOption Sight). then_rest y (sight_of (forms G (rest q.more.part.lines)) x)) z)

  -- No way leads out of the form.
  pub leaf_shut : {en : ℕ} {r : RustOption Sight} {v : Sight} → i < e → i ≤ p → en ≡ after_at w i → p < en → ((q : Piece w left i e) (G : List Forms) → r ≡ sight_behind (suffix (first_form (forms G q.part.lines)) p) x)
      → r ≡ Some v → v.free ≡ false → Beside w left i e G p x all → Some v ≡ all
  leaf_shut {v = v} lt ge he le hr rv vf q =
      let y = sight_of (forms G (rest q.more.part.lines)) x in
      ap Some (sym (series_stuck v y vf)) ∙ ap (λ (u : RustOption Sight). then_rest u y) (sym rv) ∙ sym (inner_step lt ge he le hr q)

  -- Behind the form.
  pub leaf_leaves : {en : ℕ} {r : RustOption Sight} {v y z : Sight} → i < e → i ≤ p → en ≡ after_at w i → p < en → ((q : Piece w left i e) (G : List Forms) → r ≡ sight_behind (suffix (first_form (forms G q.part.lines)) p) x)
      → r ≡ Some v → ((q : Piece w left en e) (G : List Forms) → y ≡ sight_of (forms G q.part.lines) x) → z ≡ series v y → Beside w left i e G p x all → Some z ≡ all
  leaf_leaves {v = v} lt ge he le hr rv hy hz q =
      ap Some (hz ∙ ap (series v) (hy (piece_after lt q.more he) G)) ∙ ap (λ (u : RustOption Sight). then_rest u (sight_of (forms G (rest q.more.part.lines)) x)) (sym rv) ∙
      sym (inner_step lt ge he le hr q)
