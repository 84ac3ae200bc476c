-- The records of a plan: how they grow form by form, and that record number i is that of leaf number i.
use Prim.Native.Nat.{ℕ, zero, suc, ◌+◌, ◌*◌, ◌<◌}
use mathlib.Core.Path.{◌≡◌, refl, sym, ap, ◌∙◌, subst}
use mathlib.Core.List.{List, [], ◌∷◌, ◌++◌, append_assoc}
use native.Mathlib.Omega.{arith}
use lib.ListN.{length, get_or, length-append}
use Rattle.model.specs.Plan.{Block, Lines, close, leaf_line, call_line, loop_line, if_line, Plan}
use Rattle.model.specs.Levels.{Leveled, own_levels, height}
use Rattle.model.specs.Acceptance.{size, sizes, Numbered, Functions, Formed}
use Rattle.reader.specs.Machine.{◌⧺◌}
use Rattle.rows.specs.Records.{entry, records, records_all, row_of}
use Rattle.reader.specs.Records.{leveled_leaves, Shows, no_leaf}

-- HOW THEY GROW

-- Forms after forms.
pub records-⧺ : (L : ℕ) (x y : Lines) (n m : ℕ) → m ≡ n + size x → records L (x ⧺ y) n ≡ records L x n ++ records L y m
unfolding records size ◌⧺◌
records-⧺ L close y n m e = ap (records L y) (omega arith)
records-⧺ L (leaf_line b rest) y n m e = ap (λ r. entry 0 b 0 0 (n + 1) L ++ r) (records-⧺ L rest y (n + 1) m (omega arith))
records-⧺ L (call_line b f rest) y n m e = ap (λ r. entry 1 b f 0 (n + 1) L ++ r) (records-⧺ L rest y (n + 1) m (omega arith))
records-⧺ L (loop_line b k body rest) y n m e =
    ap (λ r. entry 2 b k 0 (n + 1 + size body) L ++ r)
    (ap (λ r. records (L + 1) body (n + 1) ++ r) (records-⧺ L rest y (n + 1 + size body) m (omega arith))
    ∙ sym (append_assoc (records (L + 1) body (n + 1)) (records L rest (n + 1 + size body)) (records L y m)))
records-⧺ L (if_line b then else rest) y n m e =
    ap (λ r. entry 3 b 0 (n + 1 + size then) (n + 1 + size then + size else) L ++ r)
    (ap (λ r. records L then (n + 1) ++ (records L else (n + 1 + size then) ++ r)) (records-⧺ L rest y (n + 1 + size then + size else) m (omega arith)) ∙ simp append_assoc)

-- WHICH LEAF

-- The numbers begin with the record of a leaf at its level, and so on: so many records are there as leaves.
unfoldable Shown : List ℕ → List Leveled → Type 0
Shown r [] = r ≡ []
Shown r (v ∷ vs) = (kind detail other after : ℕ) × (s : List ℕ) × (r ≡ entry kind v.block detail other after v.level ++ s) × Shown s vs

shown_append : (r s : List ℕ) (v w : List Leveled) → Shown r v → Shown s w → Shown (r ++ s) (v ++ w)
unfolding Shown
shown_append r s [] w a b = rw a b
shown_append r s (x ∷ v) w (kind, detail, other, after, t, e, a) b = (kind, detail, other, after, t ++ s, rw e, shown_append t s v w a b)

shown_records : (L : ℕ) (l : Lines) (n : ℕ) → Shown (records L l n) (own_levels L l)
unfolding Shown records own_levels
shown_records L close n = refl
shown_records L (leaf_line b rest) n = (0, 0, 0, n + 1, records L rest (n + 1), refl, shown_records L rest (n + 1))
shown_records L (call_line b f rest) n = (1, f, 0, n + 1, records L rest (n + 1), refl, shown_records L rest (n + 1))
shown_records L (loop_line b m body rest) n = (
  2,
  m,
  0,
  n + 1 + size body,
  records (L + 1) body (n + 1) ++ records L rest (n + 1 + size body),
  refl,
  shown_append (records (L + 1) body (n + 1)) (records L rest (n + 1 + size body)) (own_levels (suc L) body) (own_levels L rest)
      (let e : L + 1 ≡ suc L = omega arith in subst (λ x. Shown (records (L + 1) body (n + 1)) (own_levels x body)) e (shown_records (L + 1) body (n + 1)))
      (shown_records L rest (n + 1 + size body)),
)
shown_records L (if_line b then else rest) n = (
  3,
  0,
  n + 1 + size then,
  n + 1 + size then + size else,
  records L then (n + 1) ++ (records L else (n + 1 + size then) ++ records L rest (n + 1 + size then + size else)),
  refl,
  shown_append (records L then (n + 1)) (records L else (n + 1 + size then) ++ records L rest (n + 1 + size then + size else)) (own_levels L then) (own_levels L else ++ own_levels L rest)
      (shown_records L then (n + 1))
      (shown_append (records L else (n + 1 + size then)) (records L rest (n + 1 + size then + size else)) (own_levels L else) (own_levels L rest)
      (shown_records L else (n + 1 + size then)) (shown_records L rest (n + 1 + size then + size else))),
)

shown_all : (n : ℕ) (ls : List Lines) → Shown (records_all n ls) (leveled_leaves ls)
unfolding records_all leveled_leaves
shown_all n [] = unfold Shown in refl
shown_all n (l ∷ ls) = shown_append (records 1 l n) (records_all (n + size l) ls) (own_levels 1 l) (leveled_leaves ls) (shown_records 1 l n) (shown_all (n + size l) ls)

further : (kind : ℕ) (b : Block) (detail other after level : ℕ) (s : List ℕ) (i j : ℕ) → get_or (entry kind b detail other after level ++ s) (suc i * 8 + j) 0 ≡ get_or s (i * 8 + j) 0
further kind b detail other after level s i j =
    let e : suc i * 8 + j ≡ suc (suc (suc (suc (suc (suc (suc (suc (i * 8 + j)))))))) = omega arith in
    rw e

shows_at : (r : List ℕ) (vs : List Leveled) (i : ℕ) → Shown r vs → i < length vs → Shows r i (get_or vs i no_leaf)
unfolding Shown
shows_at r [] i a h = absurd (omega arith)
shows_at r (v ∷ vs) zero (kind, detail, other, after, s, e, a) h = rw e (record { point = refl; isolated = refl; max_load = refl; level = refl })
shows_at r (v ∷ vs) (suc i) (kind, detail, other, after, s, e, a) h =
    let t : Shows s i (get_or vs i no_leaf) = shows_at s vs i a (omega arith) in
    rw e (record {
      point = further kind v.block detail other after v.level s i 1 ∙ t.point;
      isolated = further kind v.block detail other after v.level s i 2 ∙ t.isolated;
      max_load = further kind v.block detail other after v.level s i 3 ∙ t.max_load;
      level = further kind v.block detail other after v.level s i 7 ∙ t.level;
    })

-- The leaves have the numbers from n on, one after the other.
unfoldable Row : ℕ → List Leveled → Type 0
Row n [] = Unit
Row n (v ∷ vs) = (v.block.number ≡ n) × Row (n + 1) vs

row_append : (n m : ℕ) (x y : List Leveled) → m ≡ n + length x → Row n x → Row m y → Row n (x ++ y)
unfolding Row
row_append n m [] y e r s = let q : m ≡ n = omega arith in rw q at s
row_append n m (v ∷ x) y e (q, r) s = (q, row_append (n + 1) m x y (omega arith) r s)

own_levels_length : (L : ℕ) (l : Lines) → length (own_levels L l) ≡ size l
unfolding own_levels size
own_levels_length L close = refl
own_levels_length L (leaf_line b rest) = omega (arith, own_levels_length L rest)
own_levels_length L (call_line b f rest) = omega (arith, own_levels_length L rest)
own_levels_length L (loop_line b m body rest) =
    rw (length-append (own_levels (suc L) body) (own_levels L rest)) (omega (arith, own_levels_length (suc L) body, own_levels_length L rest))
own_levels_length L (if_line b then else rest) =
    rw (length-append (own_levels L then) (own_levels L else ++ own_levels L rest), length-append (own_levels L else) (own_levels L rest))
    (omega (arith, own_levels_length L then, own_levels_length L else, own_levels_length L rest))

numbered_row : (L : ℕ) (l : Lines) (n : ℕ) → Numbered n l → Row n (own_levels L l)
unfolding Row Numbered own_levels
numbered_row L close n h = tt
numbered_row L (leaf_line b rest) n (q, h) = (q, numbered_row L rest (n + 1) h)
numbered_row L (call_line b f rest) n (q, h) = (q, numbered_row L rest (n + 1) h)
numbered_row L (loop_line b m body rest) n (q, h, i) = (
  q,
  row_append (n + 1) (n + 1 + size body) (own_levels (suc L) body) (own_levels L rest) (omega (arith, own_levels_length (suc L) body))
      (numbered_row (suc L) body (n + 1) h) (numbered_row L rest (n + 1 + size body) i),
)
numbered_row L (if_line b then else rest) n (q, h, i, j) = (
  q,
  row_append (n + 1) (n + 1 + size then) (own_levels L then) (own_levels L else ++ own_levels L rest) (omega (arith, own_levels_length L then))
      (numbered_row L then (n + 1) h)
      (row_append (n + 1 + size then) (n + 1 + size then + size else) (own_levels L else) (own_levels L rest) (omega (arith, own_levels_length L else))
      (numbered_row L else (n + 1 + size then) i) (numbered_row L rest (n + 1 + size then + size else) j)),
)

all_row : (hs : List ℕ) (n : ℕ) (ls : List Lines) → Functions hs n ls → Row n (leveled_leaves ls)
unfolding Functions leveled_leaves
all_row hs n [] f = unfold Row in tt
all_row hs n (l ∷ ls) (f, g) =
    row_append n (n + size l) (own_levels 1 l) (leveled_leaves ls) (omega (arith, own_levels_length 1 l)) (numbered_row 1 l n f.numbered)
    (all_row (hs ++ (height hs l ∷ [])) (n + size l) ls g)

row_at : (vs : List Leveled) (n i : ℕ) → Row n vs → i < length vs → (get_or vs i no_leaf).block.number ≡ n + i
unfolding Row
row_at [] n i r h = absurd (omega arith)
row_at (v ∷ vs) n zero (q, r) h = omega arith
row_at (v ∷ vs) n (suc i) (q, r) h = omega (arith, row_at vs (n + 1) i r (omega arith))

leveled_leaves_length : (ls : List Lines) → length (leveled_leaves ls) ≡ sizes ls
unfolding leveled_leaves sizes
leveled_leaves_length [] = refl
leveled_leaves_length (l ∷ ls) =
    rw (length-append (own_levels 1 l) (leveled_leaves ls)) (omega (arith, own_levels_length 1 l, leveled_leaves_length ls))

-- Leaf number i of a plan stands at position i among its leaves, and record number i is its own.
pub row_leaf : (p : Plan) → Formed p → (i : ℕ) → i < sizes p.functions →
    ((get_or (leveled_leaves p.functions) i no_leaf).block.number ≡ i) × Shows (row_of p) i (get_or (leveled_leaves p.functions) i no_leaf)
row_leaf p w i h =
    let k : i < length (leveled_leaves p.functions) = omega (arith, leveled_leaves_length p.functions) in
    (row_at (leveled_leaves p.functions) 0 i (all_row [] 0 p.functions w.each) k ∙ omega arith, shows_at (row_of p) (leveled_leaves p.functions) i (shown_all 0 p.functions) k)
