-- The refusals 3 to 7 and 19 as facts: what the machine asks of a form, and of forms line by line; and that this is what the measures of a tree say.
use Prim.Native.Nat.{ℕ, ◌+◌, ◌^◌, ◌≤◌, ◌<◌}
use mathlib.Core.Path.{◌≡◌, refl}
use mathlib.Core.List.{List, [], ◌∷◌, ◌++◌}
use mathlib.Core.Bool.{Bool, true, false}
use native.Mathlib.Omega.{arith}
use lib.ListN.{length, get_or}
use lib.Dec.{leb, ltb}
use borrow.Author.Tests.{le-leb, lt-ltb, leb-true, ltb-true}
use Rattle.text.specs.declared.Form.{Form}
use Rattle.text.specs.declared.Form.TheVariants.{Task, Fun, Then, Else, Close, Leaf, Call, Loop, If}
use Rattle.model.specs.Plan.{Block, Lines, close, leaf_line, call_line, loop_line, if_line, resume_cost}
use Rattle.model.specs.Levels.{height}
use Rattle.model.specs.Places.{bit}
use Rattle.model.proofs.Bits.{bit_below}
use Rattle.model.specs.Acceptance.{size, depth, Numbered, Costs, Ranged}
use Rattle.std.specs.Prelude.{Option, None}
use Rattle.model.specs.declared.Refusal.{Refusal}
use Rattle.reader.specs.Machine.{refuse_unless, fault}
use Rattle.reader.specs.Print.{leaf_form, call_form, loop_form, if_form}

-- ONE FORM: what it must keep so that none of the refusals 3 to 7 and 19 meets it.
abbrev pub Allowed : ℕ → ℕ → ℕ → ℕ → List ℕ → Form → Type 0
Allowed room d L n hs (Task D t u) = (1 ≤ D) × (D ≤ 2 ^ 40) × (t ≤ 2 ^ 20) × (resume_cost u ≤ 2 ^ 20) × (d < 64)
Allowed room d L n hs Fun = (length hs < 16) × (d < 64)
Allowed room d L n hs Then = d < 64
Allowed room d L n hs Else = d < 64
Allowed room d L n hs Close = Unit
Allowed room d L n hs (Leaf k c m) = (c ≤ 2 ^ 20) × (m ≤ 2 ^ 20) × (n < room) × (c ≤ m) × (bit k ≤ c) × (L ≤ 32)
Allowed room d L n hs (Call k f c m) = (f ≤ 15) × (c ≤ 2 ^ 20) × (m ≤ 2 ^ 20) × (n < room) × (c ≤ m) × (bit k ≤ c) × (f < length hs) × (L + get_or hs f 0 ≤ 32)
Allowed room d L n hs (Loop k b c m) = (1 ≤ b) × (b ≤ 65535) × (c ≤ 2 ^ 20) × (m ≤ 2 ^ 20) × (n < room) × (c ≤ m) × (bit k ≤ c) × (L ≤ 32) × (d < 64)
Allowed room d L n hs (If k c m) = (c ≤ 2 ^ 20) × (m ≤ 2 ^ 20) × (n < room) × (c ≤ m) × (bit k ≤ c) × (L ≤ 32) × (d < 64)

le_ok : (a b : ℕ) (k : Refusal) (later : Option Refusal) → refuse_unless (leb a b) k later ≡ None → (a ≤ b) × (later ≡ None)
le_ok a b k later = go (leb a b) refl
  where
    go : (t : Bool) → leb a b ≡ t → refuse_unless t k later ≡ None → (a ≤ b) × (later ≡ None)
    go true h e = (leb-true a b h, e)
    go false h e = cc

lt_ok : (a b : ℕ) (k : Refusal) (later : Option Refusal) → refuse_unless (ltb a b) k later ≡ None → (a < b) × (later ≡ None)
lt_ok a b k later = go (ltb a b) refl
  where
    go : (t : Bool) → ltb a b ≡ t → refuse_unless t k later ≡ None → (a < b) × (later ≡ None)
    go true h e = (ltb-true a b h, e)
    go false h e = cc

module _ (room d L n : ℕ) (hs : List ℕ) where
  -- A form that keeps this meets no refusal.
  pub no_fault : (f : Form) → Allowed room d L n hs f → fault room d L n hs f ≡ None
  unfolding fault
  no_fault (Task D t u) (a, b, c, r, e) = rw (le-leb 1 D a, le-leb D (2 ^ 40) b, le-leb t (2 ^ 20) c, le-leb (resume_cost u) (2 ^ 20) r, lt-ltb d 64 e)
  no_fault Fun (a, b) = rw (lt-ltb (length hs) 16 a, lt-ltb d 64 b)
  no_fault Then a = rw (lt-ltb d 64 a)
  no_fault Else a = rw (lt-ltb d 64 a)
  no_fault Close a = refl
  no_fault (Leaf k c m) (p, q, r, s, z, t) = rw (le-leb c (2 ^ 20) p, le-leb m (2 ^ 20) q, lt-ltb n room r, le-leb c m s, le-leb (bit k) c z, le-leb L 32 t)
  no_fault (Call k f c m) (o, p, q, r, s, z, u, t) =
      rw (le-leb f 15 o, le-leb c (2 ^ 20) p, le-leb m (2 ^ 20) q, lt-ltb n room r, le-leb c m s, le-leb (bit k) c z, lt-ltb f (length hs) u, le-leb (L + get_or hs f 0) 32 t)
  no_fault (Loop k b c m) (v, o, p, q, r, s, z, t, u) =
      rw (le-leb 1 b v, le-leb b 65535 o, le-leb c (2 ^ 20) p, le-leb m (2 ^ 20) q, lt-ltb n room r, le-leb c m s, le-leb (bit k) c z, le-leb L 32 t, lt-ltb d 64 u)
  no_fault (If k c m) (p, q, r, s, z, t, u) = rw (le-leb c (2 ^ 20) p, le-leb m (2 ^ 20) q, lt-ltb n room r, le-leb c m s, le-leb (bit k) c z, le-leb L 32 t, lt-ltb d 64 u)

  -- A form that meets no refusal keeps it.
  pub allowed : (f : Form) → fault room d L n hs f ≡ None → Allowed room d L n hs f
  unfolding fault
  allowed (Task D t u) e =
      let (a, e) = le_ok 1 D _ _ e in
      let (b, e) = le_ok D (2 ^ 40) _ _ e in
      let (c, e) = le_ok t (2 ^ 20) _ _ e in
      let (r, e) = le_ok (resume_cost u) (2 ^ 20) _ _ e in
      (a, b, c, r, (lt_ok d 64 _ _ e).0)
  allowed Fun e = let (a, e) = lt_ok (length hs) 16 _ _ e in (a, (lt_ok d 64 _ _ e).0)
  allowed Then e = (lt_ok d 64 _ _ e).0
  allowed Else e = (lt_ok d 64 _ _ e).0
  allowed Close e = tt
  allowed (Leaf k c m) e =
      let (p, e) = le_ok c (2 ^ 20) _ _ e in
      let (q, e) = le_ok m (2 ^ 20) _ _ e in
      let (r, e) = lt_ok n room _ _ e in
      let (s, e) = le_ok c m _ _ e in
      let (z, e) = le_ok (bit k) c _ _ e in
      (p, q, r, s, z, (le_ok L 32 _ _ e).0)
  allowed (Call k f c m) e =
      let (o, e) = le_ok f 15 _ _ e in
      let (p, e) = le_ok c (2 ^ 20) _ _ e in
      let (q, e) = le_ok m (2 ^ 20) _ _ e in
      let (r, e) = lt_ok n room _ _ e in
      let (s, e) = le_ok c m _ _ e in
      let (z, e) = le_ok (bit k) c _ _ e in
      let (u, e) = lt_ok f (length hs) _ _ e in
      (o, p, q, r, s, z, u, (le_ok (L + get_or hs f 0) 32 _ _ e).0)
  allowed (Loop k b c m) e =
      let (v, e) = le_ok 1 b _ _ e in
      let (o, e) = le_ok b 65535 _ _ e in
      let (p, e) = le_ok c (2 ^ 20) _ _ e in
      let (q, e) = le_ok m (2 ^ 20) _ _ e in
      let (r, e) = lt_ok n room _ _ e in
      let (s, e) = le_ok c m _ _ e in
      let (z, e) = le_ok (bit k) c _ _ e in
      let (t, e) = le_ok L 32 _ _ e in
      (v, o, p, q, r, s, z, t, (lt_ok d 64 _ _ e).0)
  allowed (If k c m) e =
      let (p, e) = le_ok c (2 ^ 20) _ _ e in
      let (q, e) = le_ok m (2 ^ 20) _ _ e in
      let (r, e) = lt_ok n room _ _ e in
      let (s, e) = le_ok c m _ _ e in
      let (z, e) = le_ok (bit k) c _ _ e in
      let (t, e) = le_ok L 32 _ _ e in
      (p, q, r, s, z, t, (lt_ok d 64 _ _ e).0)

-- FORMS LINE BY LINE: d brackets are open, L is the level, n leaves stand before.
unfoldable pub Good : ℕ → List ℕ → ℕ → ℕ → ℕ → Lines → Type 0
Good room hs d L n close = Unit
Good room hs d L n (leaf_line b rest) = (b.number ≡ n) × Allowed room d L n hs (leaf_form b) × Good room hs d L (n + 1) rest
Good room hs d L n (call_line b f rest) = (b.number ≡ n) × Allowed room d L n hs (call_form b f) × Good room hs d L (n + 1) rest
Good room hs d L n (loop_line b m body rest) =
    (b.number ≡ n) × Allowed room d L n hs (loop_form b m) × Good room hs (d + 1) (L + 1) (n + 1) body × Good room hs d L (n + 1 + size body) rest
Good room hs d L n (if_line b then else rest) =
    (b.number ≡ n) × Allowed room d L n hs (if_form b) × (d + 1 < 64) × Good room hs (d + 2) L (n + 1) then × Good room hs (d + 2) L (n + 1 + size then) else ×
    Good room hs d L (n + 1 + size then + size else) rest

unfoldable pub GoodAll : ℕ → List ℕ → ℕ → List Lines → Type 0
GoodAll room hs n [] = Unit
GoodAll room hs n (l ∷ ls) = Good room hs 2 1 n l × GoodAll room (hs ++ (height hs l ∷ [])) (n + size l) ls

-- From the measures of a tree, and back.
module _ (room : ℕ) (hs : List ℕ) where
  -- Forms whose measures are in range are good line by line.
  pub good : (l : Lines) (d L n : ℕ) → Numbered n l → Ranged (length hs) l → n + size l ≤ room → L + height hs l ≤ 33 → d + depth l ≤ 64 → Good room hs d L n l
  unfolding Good Numbered Ranged size height depth
  good close d L n a r s h e = tt
  good (leaf_line b rest) d L n (q, a) (c, r) s h e = (q, omega (arith, c, (bit_below b.point b.isolated).0 c.point_cost), good rest d L (n + 1) a r (omega arith) (omega arith) (omega arith))
  good (call_line b f rest) d L n (q, a) (c, u, v, r) s h e = (q, omega (arith, c, (bit_below b.point b.isolated).0 c.point_cost), good rest d L (n + 1) a r (omega arith) (omega arith) (omega arith))
  good (loop_line b m body rest) d L n (q, a₁, a₂) (c, u, v, r₁, r₂) s h e = (
    q,
    omega (arith, c, (bit_below b.point b.isolated).0 c.point_cost),
    good body (d + 1) (L + 1) (n + 1) a₁ r₁ (omega arith) (omega arith) (omega arith),
    good rest d L (n + 1 + size body) a₂ r₂ (omega arith) (omega arith) (omega arith),
  )
  good (if_line b then else rest) d L n (q, a₁, a₂, a₃) (c, r₁, r₂, r₃) s h e = (
    q,
    omega (arith, c, (bit_below b.point b.isolated).0 c.point_cost),
    omega arith,
    good then (d + 2) L (n + 1) a₁ r₁ (omega arith) (omega arith) (omega arith),
    good else (d + 2) L (n + 1 + size then) a₂ r₂ (omega arith) (omega arith) (omega arith),
    good rest d L (n + 1 + size then + size else) a₃ r₃ (omega arith) (omega arith) (omega arith),
  )

  -- Good forms are numbered, ranged, few, low and not too deep.
  pub good_numbered : (l : Lines) (d L n : ℕ) → Good room hs d L n l → Numbered n l
  unfolding Good Numbered
  good_numbered close d L n g = tt
  good_numbered (leaf_line b rest) d L n (q, a, g) = (q, good_numbered rest d L (n + 1) g)
  good_numbered (call_line b f rest) d L n (q, a, g) = (q, good_numbered rest d L (n + 1) g)
  good_numbered (loop_line b m body rest) d L n (q, a, g, h) = (q, good_numbered body _ _ _ g, good_numbered rest _ _ _ h)
  good_numbered (if_line b then else rest) d L n (q, a, o, g, h, i) = (q, good_numbered then _ _ _ g, good_numbered else _ _ _ h, good_numbered rest _ _ _ i)

  costs : (b : Block) → b.isolated ≤ 2 ^ 20 → b.max_load ≤ 2 ^ 20 → b.isolated ≤ b.max_load → bit b.point ≤ b.isolated → Costs b
  costs b p q r z = record { isolated_range = p; max_load_range = q; load = r; point_cost = (bit_below b.point b.isolated).1 z }

  pub good_ranged : (l : Lines) (d L n : ℕ) → Good room hs d L n l → Ranged (length hs) l
  unfolding Good Ranged
  good_ranged close d L n g = tt
  good_ranged (leaf_line b rest) d L n (q, (x, y, r, s, z, t), g) = (costs b x y s z, good_ranged rest _ _ _ g)
  good_ranged (call_line b f rest) d L n (q, (o, x, y, r, s, z, u, t), g) = (costs b x y s z, o, u, good_ranged rest _ _ _ g)
  good_ranged (loop_line b m body rest) d L n (q, (v, o, x, y, r, s, z, t, u), g, h) = (costs b x y s z, v, o, good_ranged body _ _ _ g, good_ranged rest _ _ _ h)
  good_ranged (if_line b then else rest) d L n (q, (x, y, r, s, z, t, u), o, g, h, i) =
      (costs b x y s z, good_ranged then _ _ _ g, good_ranged else _ _ _ h, good_ranged rest _ _ _ i)

  pub good_size : (l : Lines) (d L n : ℕ) → Good room hs d L n l → n ≤ room → n + size l ≤ room
  unfolding Good size
  good_size close d L n g z = omega arith
  good_size (leaf_line b rest) d L n (q, a, g) z = omega (arith, good_size rest d L (n + 1) g (omega arith))
  good_size (call_line b f rest) d L n (q, a, g) z = omega (arith, good_size rest d L (n + 1) g (omega arith))
  good_size (loop_line b m body rest) d L n (q, a, g, h) z =
      let x : n + 1 + size body ≤ room = good_size body _ _ _ g (omega arith) in
      omega (arith, good_size rest _ _ _ h x)
  good_size (if_line b then else rest) d L n (q, a, o, g, h, i) z =
      let x : n + 1 + size then ≤ room = good_size then _ _ _ g (omega arith) in
      let y : n + 1 + size then + size else ≤ room = good_size else _ _ _ h x in
      omega (arith, good_size rest _ _ _ i y)

  pub good_height : (l : Lines) (d L n : ℕ) → Good room hs d L n l → L ≤ 33 → L + height hs l ≤ 33
  unfolding Good height
  good_height close d L n g z = omega arith
  good_height (leaf_line b rest) d L n (q, a, g) z = omega (arith, good_height rest d L (n + 1) g z)
  good_height (call_line b f rest) d L n (q, a, g) z = omega (arith, good_height rest d L (n + 1) g z)
  good_height (loop_line b m body rest) d L n (q, a, g, h) z = omega (arith, good_height body (d + 1) (L + 1) (n + 1) g (omega arith), good_height rest _ _ _ h z)
  good_height (if_line b then else rest) d L n (q, a, o, g, h, i) z =
      let x : L + height hs then ≤ 33 = good_height then _ _ _ g z in
      let y : L + height hs else ≤ 33 = good_height else _ _ _ h z in
      let w : L + height hs rest ≤ 33 = good_height rest _ _ _ i z in
      omega arith

  pub good_depth : (l : Lines) (d L n : ℕ) → Good room hs d L n l → d ≤ 64 → d + depth l ≤ 64
  unfolding Good depth
  good_depth close d L n g z = omega arith
  good_depth (leaf_line b rest) d L n (q, a, g) z = good_depth rest d L (n + 1) g z
  good_depth (call_line b f rest) d L n (q, a, g) z = good_depth rest d L (n + 1) g z
  good_depth (loop_line b m body rest) d L n (q, a, g, h) z =
      omega (arith, good_depth body (d + 1) (L + 1) (n + 1) g (omega arith), good_depth rest d L (n + 1 + size body) h z)
  good_depth (if_line b then else rest) d L n (q, a, o, g, h, i) z =
      let x : d + 2 + depth then ≤ 64 = good_depth then _ _ _ g (omega arith) in
      let y : d + 2 + depth else ≤ 64 = good_depth else _ _ _ h (omega arith) in
      let w : d + depth rest ≤ 64 = good_depth rest _ _ _ i z in
      omega arith
