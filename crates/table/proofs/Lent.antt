-- The leaves of a table, and the table of leaves: a row that begins with the leaves of a plan's table holds that table.
-- Assumes nothing.
use mathlib.Core.List.{List, [], ◌∷◌, ◌++◌, map, map-append}
use mathlib.Core.Path.{◌≡◌, refl, ap, sym, ◌∙◌}
use Prim.Native.Nat.{ℕ, zero, suc, ◌+◌, ◌*◌, ◌≤◌, ◌<◌}
use native.Mathlib.Nat.{le_of_lt}
use native.Mathlib.Omega.{arith}
use lib.ListN.{length, get_or, set, take, drop, length-map}
use lib.Seq.{set_at, drop-cons, append_snoc, take_at, take_all, take-add, drop-drop, take-take, get_or-append_seam}
use Rattle.std.proofs.lemmas.List.{take-map}
use Rattle.model.specs.Plan.{Plan}
use Rattle.model.specs.Acceptance.{sizes}
use Rattle.reader.proofs.Theorems.{row_length}
use Rattle.rows.specs.declared.Leaf.{Leaf}
use Rattle.rows.specs.Leaves.{fields, numbers, blank_leaf}
use Rattle.rows.proofs.Leaves.{numbers_append, numbers_take}
use Rattle.table.specs.declared.Head.{Head}
use Rattle.table.specs.Table.{Table, head_of, table_of}
use Rattle.table.specs.Lent.{table_with, leaf_of, leaves_from}
use Rattle.table.specs.Private.{with_derived, filled}
use Rattle.table.proofs.Written.{turns_size, tails_size, max_load_turns_size}

-- So many leaves of a table, and the last of them.
pub length_leaves : (t : Table) (i n : ℕ) → length (leaves_from t i n) ≡ n
length_leaves t i zero = refl
length_leaves t i (suc n) = ap suc (length_leaves t (i + 1) n)

leaves_snoc : (t : Table) (i n : ℕ) → leaves_from t i (suc n) ≡ leaves_from t i n ++ (leaf_of t (i + n) ∷ [])
leaves_snoc t i zero = let z : i + 0 ≡ i = omega arith in rw z refl
leaves_snoc t i (suc n) =
    let z : i + 1 + n ≡ i + suc n = omega arith in
    ap (λ (r : List Leaf). leaf_of t i ∷ r) (leaves_snoc t (i + 1) n ∙ ap (λ (k : ℕ). leaves_from t (i + 1) n ++ (leaf_of t k ∷ [])) z)

-- LEAVES THAT ARE A TABLE'S

-- Leaves with the derived numbers of these columns are a table's where each is.
pub filled_is : (xs ys zs : List ℕ) (t : Table) (n : ℕ) (ls : List Leaf) → n ≤ length ls
    → ((i : ℕ) → i < n → with_derived (get_or ls i blank_leaf) (get_or xs i 0) (get_or ys i 0) (get_or zs i 0) ≡ leaf_of t i)
    → filled xs ys zs n ls ≡ leaves_from t 0 n ++ drop n ls
filled_is xs ys zs t zero ls h f = refl
filled_is xs ys zs t (suc n) ls h f =
    let before : List Leaf = leaves_from t 0 n in
    let after : List Leaf = drop (suc n) ls in
    let x : Leaf = get_or ls n blank_leaf in
    let more : Leaf → Leaf = λ (l : Leaf). with_derived l (get_or xs n 0) (get_or ys n 0) (get_or zs n 0) in
    let z : 0 + n ≡ n = omega arith in
    let w : length before ≡ n = length_leaves t 0 n in
    let us : filled xs ys zs n ls ≡ before ++ (x ∷ after) =
    filled_is xs ys zs t n ls (le_of_lt h) (λ i k. f i (omega arith)) ∙ ap (λ (r : List Leaf). before ++ r) (drop-cons ls n blank_leaf h) in
    let here : get_or (before ++ (x ∷ after)) n blank_leaf ≡ x =
    ap (λ (k : ℕ). get_or (before ++ (x ∷ after)) k blank_leaf) (sym w) ∙ get_or-append_seam before x after blank_leaf in
    ap (λ (r : List Leaf). set r n (more (get_or r n blank_leaf))) us ∙
    (ap (λ (l : Leaf). set (before ++ (x ∷ after)) n (more l)) here ∙
    (set_at before x after (more x) n w ∙
    (ap (λ (l : Leaf). before ++ (l ∷ after)) (f n (omega arith)) ∙
    (sym (append_snoc before (leaf_of t n) after) ∙
    ap (λ (r : List Leaf). r ++ after) (ap (λ (k : ℕ). before ++ (leaf_of t k ∷ [])) (sym z) ∙ sym (leaves_snoc t 0 n))))))

-- THE TABLE OF A ROW

-- The table of a row is that of its first leaves, as many as the head says.
pub table_of_own : (ls : List Leaf) (h : Head) → table_with (take h.leaves ls) h ≡ table_with ls h
table_of_own ls h =
    let n : ℕ = h.leaves in
    let column : (f : Leaf → ℕ) → take n (map f (take n ls)) ≡ take n (map f ls) = λ f.
    ap (λ (u : List ℕ). take n u) (sym (take-map f n ls)) ∙ take-take n n (map f ls) (omega arith) in
    let raw : take (n * 8) (numbers (take n ls)) ≡ take (n * 8) (numbers ls) =
    ap (λ (u : List ℕ). take (n * 8) u) (numbers_take n ls) ∙ take-take (n * 8) (n * 8) (numbers ls) (omega arith) in
    λ i. record {
      row = raw i;
      turns = column (λ (l : Leaf). l.turn) i;
      tails = column (λ (l : Leaf). l.tail) i;
      max_load_turns = column (λ (l : Leaf). l.max_load_turn) i;
      head = h;
    }

-- The entries of a list from a place on, one by one.
entries : List ℕ → ℕ → ℕ → List ℕ
entries w k zero = []
entries w k (suc n) = get_or w k 0 ∷ entries w (suc k) n

entries_are : (w : List ℕ) (k n : ℕ) → k + n ≤ length w → entries w k n ≡ take n (drop k w)
unfolding entries
entries_are w k zero h = refl
entries_are w k (suc n) h =
    ap (λ (r : List ℕ). get_or w k 0 ∷ r) (entries_are w (suc k) n (omega arith)) ∙ ap (λ (r : List ℕ). take (suc n) r) (sym (drop-cons w k 0 (omega arith)))

-- The eight numbers of a table's leaf are its raw record.
fields_are : (t : Table) (i : ℕ) → i * 8 + 8 ≤ length t.row → fields (leaf_of t i) ≡ take 8 (drop (i * 8) t.row)
unfolding entries
fields_are t i h =
    let e₀ : i * 8 + 0 ≡ i * 8 = omega arith in
    let e₁ : i * 8 + 1 ≡ suc (i * 8) = omega arith in
    let e₂ : i * 8 + 2 ≡ suc (suc (i * 8)) = omega arith in
    let e₃ : i * 8 + 3 ≡ suc (suc (suc (i * 8))) = omega arith in
    let e₄ : i * 8 + 4 ≡ suc (suc (suc (suc (i * 8)))) = omega arith in
    let e₅ : i * 8 + 5 ≡ suc (suc (suc (suc (suc (i * 8))))) = omega arith in
    let e₆ : i * 8 + 6 ≡ suc (suc (suc (suc (suc (suc (i * 8)))))) = omega arith in
    let e₇ : i * 8 + 7 ≡ suc (suc (suc (suc (suc (suc (suc (i * 8))))))) = omega arith in
    let same : fields (leaf_of t i) ≡ entries t.row (i * 8) 8 = rw (e₀, e₁, e₂, e₃, e₄, e₅, e₆, e₇) refl in
    same ∙ entries_are t.row (i * 8) 8 h

-- The raw row of a table's leaves, and a column of them.
pub numbers_from : (t : Table) (i n : ℕ) → (i + n) * 8 ≤ length t.row → numbers (leaves_from t i n) ≡ take (n * 8) (drop (i * 8) t.row)
numbers_from t i zero h = refl
numbers_from t i (suc n) h =
    let d : List ℕ = drop (i * 8) t.row in
    let z : (i + 1) * 8 ≡ i * 8 + 8 = omega arith in
    let y : suc n * 8 ≡ 8 + n * 8 = omega arith in
    let rest : numbers (leaves_from t (i + 1) n) ≡ take (n * 8) (drop 8 d) =
    numbers_from t (i + 1) n (omega arith) ∙ ap (λ (u : List ℕ). take (n * 8) u) (ap (λ (k : ℕ). drop k t.row) z ∙ sym (drop-drop 8 (i * 8) t.row)) in
    ap (λ (u : List ℕ). u ++ numbers (leaves_from t (i + 1) n)) (fields_are t i (omega arith)) ∙ (ap (λ (u : List ℕ). take 8 d ++ u) rest ∙
    (sym (take-add 8 (n * 8) d) ∙ ap (λ (k : ℕ). take k d) (sym y)))

pub column_from : (t : Table) (f : Leaf → ℕ) (col : List ℕ) → ((i : ℕ) → f (leaf_of t i) ≡ get_or col i 0) → (i n : ℕ) → i + n ≤ length col
    → map f (leaves_from t i n) ≡ take n (drop i col)
column_from t f col e i zero h = refl
column_from t f col e i (suc n) h =
    let z : i + 1 ≡ suc i = omega arith in
    ap (λ (k : ℕ). k ∷ map f (leaves_from t (i + 1) n)) (e i) ∙ (ap (λ (r : List ℕ). get_or col i 0 ∷ r) (column_from t f col e (i + 1) n (omega arith) ∙ ap (λ (k : ℕ). take n (drop k col)) z) ∙
    ap (λ (r : List ℕ). take (suc n) r) (sym (drop-cons col i 0 (omega arith))))

-- A column of a row that begins with a plan's leaves.
column_back : (p : Plan) (f : Leaf → ℕ) (col : List ℕ) → ((i : ℕ) → f (leaf_of (table_of p) i) ≡ get_or col i 0) → length col ≡ sizes p.functions → (vs : List Leaf)
    → take (sizes p.functions) (map f (leaves_from (table_of p) 0 (sizes p.functions) ++ vs)) ≡ col
column_back p f col e w vs =
    let n : ℕ = sizes p.functions in
    let us : List Leaf = leaves_from (table_of p) 0 n in
    let z : map f us ≡ col = column_from (table_of p) f col e 0 n (omega arith) ∙ take_all n col (omega arith) in
    ap (λ (u : List ℕ). take n u) (map-append f us vs) ∙ (take_at (map f us) (map f vs) n (length-map us f ∙ length_leaves (table_of p) 0 n) ∙ z)

-- A row that begins with a plan's leaves has its table, with its head.
pub table_back : (p : Plan) (vs : List Leaf) → table_with (leaves_from (table_of p) 0 (sizes p.functions) ++ vs) (head_of p) ≡ table_of p
table_back p vs =
    let n : ℕ = sizes p.functions in
    let us : List Leaf = leaves_from (table_of p) 0 n in
    let raw : numbers us ≡ (table_of p).row =
    numbers_from (table_of p) 0 n (omega (arith, row_length p)) ∙ take_all (n * 8) (table_of p).row (omega (arith, row_length p)) in
    let row_is : take (n * 8) (numbers (us ++ vs)) ≡ (table_of p).row =
    ap (λ (u : List ℕ). take (n * 8) u) (numbers_append us vs) ∙ (take_at (numbers us) (numbers vs) (n * 8) (omega (arith, ap length raw, row_length p)) ∙ raw) in
    λ j. record {
      row = row_is j;
      turns = column_back p (λ (x : Leaf). x.turn) (table_of p).turns (λ i. refl) (turns_size p) vs j;
      tails = column_back p (λ (x : Leaf). x.tail) (table_of p).tails (λ i. refl) (tails_size p) vs j;
      max_load_turns = column_back p (λ (x : Leaf). x.max_load_turn) (table_of p).max_load_turns (λ i. refl) (max_load_turns_size p) vs j;
      head = head_of p;
    }
