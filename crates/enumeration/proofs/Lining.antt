-- The line of a run is that of the numbers which are put one behind the other. Assumes nothing.
use mathlib.Core.List.{List, [], ◌∷◌, ◌++◌, map, append_assoc}
use mathlib.Core.Path.{◌≡◌, refl, ap, sym, ◌∙◌}
use Prim.Native.Nat.{ℕ, suc, ◌+◌, ◌-◌, ◌*◌, ◌≤◌}
use native.Mathlib.Omega.{arith}
use lib.ListN.{length, take, drop, get_or, set, length-take}
use lib.Seq.{take-suc-set, take_all}
use Rattle.std.proofs.lemmas.List.{length-set}
use Rattle.model.specs.Plan.{C, M}
use Rattle.model.specs.Runs.{sum}
use Rattle.print.specs.Lines.{plain_line}
use Rattle.print.specs.Printed.{PrintedWithin}
use Rattle.print.proofs.Laws.{wider}
use Rattle.short_runs.specs.ShortRuns as runs
use Rattle.rows.specs.declared.Leaf.{Leaf}
use Rattle.rows.specs.Leaves.{numbers}
use Rattle.rows.specs.Rows.{block_at}
use Rattle.trail.specs.declared.Trail.{Trail}
use Rattle.enumeration.specs.Enumeration.{fields_line, run_line}
use Rattle.enumeration.specs.Private.{run_of, FieldsOf}

-- The first k of these numbers stand at the start of the fields, which are 66.
pub record Filled (xs fields : List ℕ) (k : ℕ) : Type 0 where
  pub size : length fields ≡ 66
  pub few : k ≤ length xs
  pub are : take k fields ≡ take k xs

-- Behind all of them the two sums are put.
pub sums_put : {row : List Leaf} {xs fields : List ℕ} {k c m : ℕ} → length xs ≤ 64 → Filled xs fields k → length xs ≤ k →
    c ≡ sum C (map (block_at (numbers row)) xs) → m ≡ sum M (map (block_at (numbers row)) xs) →
    FieldsOf row xs (set (set fields (length xs) c) (length xs + 1) m)
sums_put {row} {xs} {fields} {k} {c} {m} few h all ce me =
    let n = length xs in
    let s : length (set fields n c) ≡ 66 = length-set fields n c ∙ h.size in
    let p : n + 2 ≡ suc (n + 1) = omega arith in
    let q : n + 1 ≡ suc n = omega arith in
    let e : k ≡ n = omega (arith, h.few) in
    let one : take (n + 1) (set fields n c) ≡ xs ++ (c ∷ []) =
    ap (λ z. take z (set fields n c)) q ∙
    (take-suc-set fields n c (omega (arith, h.size)) ∙ ap (λ z. z ++ (c ∷ [])) (rw e at h.are ∙ take_all n xs (omega arith))) in
    let two : take (n + 2) (set (set fields n c) (n + 1) m) ≡ (xs ++ (c ∷ [])) ++ (m ∷ []) =
    ap (λ z. take z (set (set fields n c) (n + 1) m)) p ∙ (take-suc-set (set fields n c) (n + 1) m (omega (arith, s)) ∙ ap (λ z. z ++ (m ∷ [])) one) in
    record {
      size = length-set (set fields n c) (n + 1) m ∙ s;
      are = two ∙ (append_assoc xs (c ∷ []) (m ∷ []) ∙ ap (λ z. xs ++ z) (rw (ce, me) refl));
    }

-- The blocks of a row have the numbers of their records.
pub numbers_at : (w xs : List ℕ) → runs.leaf_numbers (map (block_at w) xs) ≡ xs
unfolding runs.leaf_numbers
numbers_at w [] = refl
numbers_at w (x ∷ xs) = ap (λ l. x ∷ l) (numbers_at w xs)

-- A line of the first numbers of a list: the first of them, and the others.
line_split : (fields : List ℕ) (n : ℕ) → 1 ≤ length fields → fields_line (take (suc n) fields) ≡ plain_line (get_or fields 0 0) (take n (drop 1 fields))
unfolding fields_line
line_split [] n h = absurd (omega arith)
line_split (x ∷ xs) n h = refl

pub lined : {row : List Leaf} (x : Trail) {fields old new : List ℕ} {r : ℕ} → x.len ≤ 64 → length (take x.len x.leaves) ≡ x.len →
    FieldsOf row (take x.len x.leaves) fields →
    PrintedWithin (20 + (length (take (x.len + 2 - 1) (drop 1 fields)) * 21 + 1)) old 0
    (plain_line (get_or fields 0 0) (take (x.len + 2 - 1) (drop 1 fields))) new r →
    PrintedWithin 1386 old 0 (run_line (run_of row x)) new r
lined {row} x {fields} {old} {new} {r} few size h p =
    let b = block_at (numbers row) in
    let L = take x.len x.leaves in
    let j : length L + 2 ≡ suc (x.len + 2 - 1) = omega (arith, size) in
    let e : run_line (map b L) ≡ plain_line (get_or fields 0 0) (take (x.len + 2 - 1) (drop 1 fields)) =
    ap (λ l. fields_line (l ++ (sum C (map b L) ∷ sum M (map b L) ∷ []))) (numbers_at (numbers row) L) ∙
    (ap fields_line (sym h.are) ∙ (ap (λ k. fields_line (take k fields)) j ∙ line_split fields (x.len + 2 - 1) (omega (arith, h.size)))) in
    rw e (wider (omega (arith, few, length-take (x.len + 2 - 1) (drop 1 fields))) p)
