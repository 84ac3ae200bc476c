-- Reading a plan into a row of leaves: from what the raw reader leaves to what `verdict` says. Assumes nothing.
use mathlib.Core.List.{List, ◌++◌}
use mathlib.Core.Path.{◌≡◌, refl, ap, sym, ◌∙◌, subst}
use Prim.Native.Nat.{ℕ, ◌+◌, ◌*◌, ◌≤◌, ◌<◌, min}
use native.Mathlib.Omega.{arith}
use lib.ListN.{length, get_or, take, drop, replicate, length-replicate, length-take}
use lib.Seq.{sets, sets-eq, length-sets, length-take-le, take_at, get_or-take}
use Rattle.std.proofs.lemmas.List.{append-nil, drop_all}
use borrow.Rule.Slice.PartMut.{put_mid}
use Rattle.std.specs.Prelude.{Result, Ok, Err}
use Rattle.model.specs.Plan.{Plan}
use Rattle.model.specs.Acceptance.{sizes}
use Rattle.reader.specs.declared.RefusedAt.{RefusedAt}
use Rattle.reader.specs.declared.Raw.{Raw}
use Rattle.reader.specs.Machine.{outcome}
use Rattle.reader.specs.Outcome.{Outcome, plan, refused}
use Rattle.reader.specs.Raw.{raw_of, Written}
use Rattle.reader.proofs.Theorems.{sound, row_length}
use Rattle.reader.proofs.Parts.{read_behind}
use Rattle.rows.specs.declared.Leaf.{Leaf}
use Rattle.rows.specs.Leaves.{fields, numbers, blank_leaf}
use Rattle.rows.specs.Records.{row_of}
use Rattle.rows.specs.Rows.{field}
use Rattle.rows.proofs.Leaves.{numbers_length, numbers_take, field_of}
use Rattle.table.specs.declared.Head.{Head}
use Rattle.table.specs.Table.{table_of}
use Rattle.table.specs.Reading.{judged, after_lines, verdict, result_of, head_after, RawOf, ColumnsWritten}
use Rattle.table.specs.Lent.{leaf_of, leaves_from, row_after}
use Rattle.table.specs.Private.{with_derived, filled}
use Rattle.table.proofs.Reading.{after_plan}
use Rattle.table.proofs.Judging.{given}
use Rattle.table.proofs.Lent.{filled_is}

-- Numbers stored at the beginning stand there.
pub take_stored : (xs l : List ℕ) (n : ℕ) → length xs ≡ n → n ≤ length l → take n (sets l 0 xs) ≡ xs
take_stored xs l n e h = ap (λ (u : List ℕ). take n u) (sets-eq xs l 0 (omega arith)) ∙ take_at xs (drop (0 + length xs) l) n e

-- What the raw reader gives and leaves in a row of 512 leaves is of the outcome of the text.
lines_came_whole : (capacity : ℕ) (text : List ℕ) (x : Leaf) (ls : List Leaf) {lines : Result Raw RefusedAt} → lines ≡ raw_of (outcome capacity text)
    → Written (outcome capacity text) (numbers (replicate 512 x)) (numbers ls) → RawOf (outcome capacity text) lines ls
lines_came_whole capacity text x ls e w =
    let R₀ : List Leaf = replicate 512 x in
    record {
      raw_is = e;
      formed = λ p o. (sound capacity text p o).1;
      row_is = λ p o.
          let z : numbers ls ≡ sets (numbers R₀) 0 (row_of p) = subst (λ (x : Outcome). Written x (numbers R₀) (numbers ls)) o w in
          ap (λ (u : List ℕ). take (sizes p.functions * 8) u) z ∙
          take_stored (row_of p) (numbers R₀) (sizes p.functions * 8) (omega (arith, row_length p))
          (omega (arith, (sound capacity text p o).1.few_leaves, length-replicate {A = Leaf} 512 x, numbers_length R₀));
    }

-- The same where the lines were read into the first k of 512 leaves.
pub lines_came : (capacity : ℕ) (text : List ℕ) (x : Leaf) (k : ℕ) (ms : List Leaf) → k ≡ min 512 capacity → {lines : Result Raw RefusedAt}
    → lines ≡ raw_of (outcome (length (take k (replicate 512 x))) text)
    → Written (outcome (length (take k (replicate 512 x))) text) (numbers (take k (replicate 512 x))) (numbers ms)
    → RawOf (outcome capacity text) lines (ms ++ drop k (replicate 512 x))
lines_came capacity text x k ms h e w =
    let said = read_behind text capacity k (replicate 512 x) ms h (omega (arith, h, length-replicate {A = Leaf} 512 x)) e w in
    lines_came_whole capacity text x (ms ++ drop k (replicate 512 x)) said.0 said.1

-- Where the lines gave a plan, accepted or not: it, and of the 512 leaves those in use.
pub record Came (capacity : ℕ) (text : List ℕ) (ls : List Leaf) (raw : Raw) : Type 0 where
  pub of : Plan
  pub is : outcome capacity text ≡ plan of
  pub left : RawOf (plan of) (Ok raw) ls
  pub leaves : raw.leaves ≡ sizes of.functions
  pub few : raw.leaves ≤ 512
  pub whole : length ls ≡ 512
  pub room : raw.leaves ≤ length ls
  pub lent : raw.leaves ≤ capacity

-- Raw numbers are those of a plan.
plan_of_raw : (o : Outcome) {raw : Raw} → Ok raw ≡ raw_of o → (p : Plan) × (o ≡ plan p)
plan_of_raw (plan p) e = (p, refl)
plan_of_raw (refused k j) e = cc

-- Where the lines gave a plan, the row is as long as it was.
whole_left : (o : Outcome) (x : Leaf) (ls : List Leaf) (p : Plan) → o ≡ plan p → Written o (numbers (replicate 512 x)) (numbers ls) → length ls ≡ 512
whole_left o x ls p i w =
    let z : numbers ls ≡ sets (numbers (replicate 512 x)) 0 (row_of p) = subst (λ (y : Outcome). Written y (numbers (replicate 512 x)) (numbers ls)) i w in
    omega (arith, length-replicate {A = Leaf} 512 x, numbers_length (replicate 512 x), numbers_length ls, ap length z, length-sets (numbers (replicate 512 x)) 0 (row_of p))

-- So raw numbers, and the row in whose first k leaves the lines were read, are those of a plan.
pub came : (capacity : ℕ) (text : List ℕ) (x : Leaf) (k : ℕ) (ms : List Leaf) → k ≡ min 512 capacity → {raw : Raw}
    → Ok raw ≡ raw_of (outcome (length (take k (replicate 512 x))) text)
    → Written (outcome (length (take k (replicate 512 x))) text) (numbers (take k (replicate 512 x))) (numbers ms)
    → Came capacity text (ms ++ drop k (replicate 512 x)) raw
came capacity text x k ms h e w =
    let said = read_behind text capacity k (replicate 512 x) ms h (omega (arith, h, length-replicate {A = Leaf} 512 x)) e w in
    let (p, o) = plan_of_raw (outcome capacity text) said.0 in
    let left = rw o at (lines_came_whole capacity text x (ms ++ drop k (replicate 512 x)) said.0 said.1) in
    let g = given {p = p} left in
    let (t, f, fits) = sound capacity text p o in
    record {
      of = p;
      is = o;
      left = left;
      leaves = g.count;
      few = omega (arith, g.count, f.few_leaves);
      whole = whole_left (outcome capacity text) x (ms ++ drop k (replicate 512 x)) p o said.1;
      room = g.held;
      lent = omega (arith, g.count, fits);
    }

-- What is refused by its lines is refused.
pub lines_refused : (o : Outcome) {x : RefusedAt} → Err x ≡ raw_of o → Err x ≡ result_of (after_lines o)
lines_refused (plan p) e = cc
lines_refused (refused k j) {x} e = let z : x ≡ record { refusal = k; line = j } = cc in ap Err z

-- A refusal keeps the lent row and the lent head.
pub kept : (o : Outcome) {e : RefusedAt} → Err e ≡ result_of o → (ls : List Leaf) (h : Head) → (row_after o ls ≡ ls) × (head_after o h ≡ h)
kept (plan p) x ls h = cc
kept (refused k j) x ls h = (refl, refl)

-- A refusal gives no head.
no_head : {A : Type 0} {h : Head} {e : RefusedAt} → Ok h ≡ Err e → A
no_head x = cc

-- A head is that of a plan.
pub accepted_plan : (o : Outcome) {h : Head} → Ok h ≡ result_of o → (p : Plan) × (o ≡ plan p) × (h.leaves ≡ sizes p.functions)
accepted_plan (plan p) x = (p, refl, cc)
accepted_plan (refused k j) x = no_head x

-- What the lines gave is a plan that is accepted: of the 512 leaves, those in use.
pub record InUse (capacity : ℕ) (text : List ℕ) (ls : List Leaf) (n : ℕ) : Type 0 where
  pub of : Plan
  pub is : verdict capacity text ≡ plan of
  pub row_is : take (sizes of.functions * 8) (numbers ls) ≡ row_of of
  pub leaves : n ≡ sizes of.functions
  pub few : n ≤ 512
  pub room : n ≤ length ls
  pub lent : n ≤ capacity

-- A head that is given is that of such a plan.
pub accepted : (capacity : ℕ) (text : List ℕ) (ls : List Leaf) {lines : Result Raw RefusedAt} {h : Head} → RawOf (outcome capacity text) lines ls
    → Ok h ≡ result_of (verdict capacity text) → InUse capacity text ls h.leaves
accepted capacity text ls c e =
    let (p, is, n) = accepted_plan (verdict capacity text) e in
    let o = (after_plan (outcome capacity text) p is).0 in
    let (t, f, fits) = sound capacity text p o in
    let r = c.row_is p o in
    record {
      of = p;
      is = is;
      row_is = r;
      leaves = n;
      few = omega (arith, n, f.few_leaves);
      room = omega (arith, n, ap length r, row_length p, length-take (sizes p.functions * 8) (numbers ls), numbers_length ls);
      lent = omega (arith, n, fits);
    }

-- Of a plan that the lines gave and that is accepted, as p, the leaves in use are those of its raw numbers.
pub in_use : {capacity : ℕ} {text : List ℕ} {ls : List Leaf} {raw : Raw} (c : Came capacity text ls raw) (p : Plan) → judged c.of ≡ plan p
    → (u : InUse capacity text ls raw.leaves) × (u.of ≡ p)
in_use {capacity} {text} {ls} {raw} c p e =
    let z : plan c.of ≡ plan p = (after_plan (plan c.of) p e).0 in
    let of_is : c.of ≡ p = cc z in
    let u : InUse capacity text ls raw.leaves = record {
      of = p;
      is = ap (λ (o : Outcome). after_lines o) c.is ∙ e;
      row_is = subst (λ (q : Plan). take (sizes q.functions * 8) (numbers ls) ≡ row_of q) of_is (c.left.row_is c.of refl);
      leaves = c.leaves ∙ ap (λ (q : Plan). sizes q.functions) of_is;
      few = c.few;
      room = c.room;
      lent = c.lent;
    } in
    (u, refl)

-- What is written of it, with columns of 512 numbers.
module _ {capacity : ℕ} {text : List ℕ} {n : ℕ} (ls : List Leaf) (c : InUse capacity text ls n) {xs ys zs : List ℕ}
    (f : ColumnsWritten (verdict capacity text) xs ys zs) where
  abbrev pub own : List Leaf
  own = take n ls

  wide : length own ≡ n
  wide = length-take-le n ls c.room

  row_taken : numbers own ≡ row_of c.of
  row_taken = numbers_take n ls ∙ (ap (λ (k : ℕ). take (k * 8) (numbers ls)) c.leaves ∙ c.row_is)

  -- A number of a leaf, and a number of a column, are the table's.
  raw_at : (i k : ℕ) → k < 8 → get_or (fields (get_or own i blank_leaf)) k 0 ≡ field (row_of c.of) i k
  raw_at i k h = sym (field_of own i k h) ∙ ap (λ (w : List ℕ). field w i k) row_taken

  column_at : (part column : List ℕ) → take (sizes c.of.functions) column ≡ part → (i : ℕ) → i < n → get_or column i 0 ≡ get_or part i 0
  column_at part column z i h = sym (get_or-take (sizes c.of.functions) column i 0 (omega (arith, c.leaves))) ∙ ap (λ (w : List ℕ). get_or w i 0) z

  -- So the leaf i is, once its derived numbers are written.
  leaf_read : (i : ℕ) → i < n → with_derived (get_or own i blank_leaf) (get_or xs i 0) (get_or ys i 0) (get_or zs i 0) ≡ leaf_of (table_of c.of) i
  leaf_read i h =
      λ j. record {
        kind = raw_at i 0 (omega arith) j;
        point = raw_at i 1 (omega arith) j;
        isolated = raw_at i 2 (omega arith) j;
        max_load = raw_at i 3 (omega arith) j;
        detail = raw_at i 4 (omega arith) j;
        other = raw_at i 5 (omega arith) j;
        after = raw_at i 6 (omega arith) j;
        level = raw_at i 7 (omega arith) j;
        turn = column_at (table_of c.of).turns xs (f.turns_are c.of c.is) i h j;
        tail = column_at (table_of c.of).tails ys (f.tails_are c.of c.is) i h j;
        max_load_turn = column_at (table_of c.of).max_load_turns zs (f.max_load_turns_are c.of c.is) i h j;
      }

  -- The leaves that are written are the table's,
  pub leaves_read : filled xs ys zs (length own) own ≡ leaves_from (table_of c.of) 0 n
  leaves_read =
      ap (λ (k : ℕ). filled xs ys zs k own) wide ∙ (filled_is xs ys zs (table_of c.of) n own (omega (arith, wide)) leaf_read ∙
      (ap (λ (us : List Leaf). leaves_from (table_of c.of) 0 n ++ us) (drop_all n own (omega (arith, wide))) ∙ append-nil (leaves_from (table_of c.of) 0 n)))

  -- and the row that they are copied to is the one after reading.
  pub row_read : (row us : List Leaf) → us ≡ leaves_from (table_of c.of) 0 n → put_mid 0 n row us ≡ row_after (verdict capacity text) row
  row_read row us x =
      ap (λ (u : List Leaf). u ++ drop n row) x ∙
      (ap (λ (k : ℕ). leaves_from (table_of c.of) 0 k ++ drop k row) c.leaves ∙ ap (λ (o : Outcome). row_after o row) (sym c.is))
