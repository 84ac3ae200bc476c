-- The sum of the first leaves of a run. Assumes nothing.
use mathlib.Core.List.{List, [], ◌∷◌, ◌++◌, map, map-append}
use mathlib.Core.Path.{◌≡◌, refl, ap, ◌∙◌}
use Prim.Native.Nat.{ℕ, suc, ◌+◌, ◌*◌, ◌≤◌, ◌<◌}
use native.Mathlib.Omega.{arith}
use lib.ListN.{length, take, get_or}
use lib.Seq.{take-suc, take_all}
use Rattle.model.specs.Runs.{sum}
use Rattle.model.proofs.Total.{sum_append}
use Rattle.rows.specs.declared.Leaf.{Leaf}
use Rattle.rows.specs.declared.Cost.{Cost}
use Rattle.rows.specs.Leaves.{numbers}
use Rattle.rows.specs.Rows.{block_at}
use Rattle.rows.specs.Costs.{cost_in}
use Rattle.columns.proofs.Capped.{cost_le}
use Rattle.enumeration.specs.Private.{LeavesLow}

-- The first k leaves were summed.
pub record Summed (row : List Leaf) (c : Cost) (leaves : List ℕ) (k s : ℕ) : Type 0 where
  pub is : s ≡ sum (cost_in c) (map (block_at (numbers row)) (take k leaves))
  pub low : s ≤ k * 1048576

module _ {row : List Leaf} {c : Cost} {leaves : List ℕ} where
  pub none_summed : Summed row c leaves 0 0
  unfolding sum
  none_summed = record { is = refl; low = omega arith }

  pub one_summed : LeavesLow row leaves → {k s : ℕ} → Summed row c leaves k s → k < length leaves →
      Summed row c leaves (k + 1) (s + cost_in c (block_at (numbers row) (get_or leaves k 0)))
  unfolding sum
  one_summed h {k} {s} v i =
      let b = block_at (numbers row) (get_or leaves k 0) in
      let e : take (suc k) leaves ≡ take k leaves ++ (get_or leaves k 0 ∷ []) = take-suc leaves k 0 i in
      let m : map (block_at (numbers row)) (take (suc k) leaves) ≡ map (block_at (numbers row)) (take k leaves) ++ (b ∷ []) =
      ap (map (block_at (numbers row))) e ∙ map-append (block_at (numbers row)) (take k leaves) (get_or leaves k 0 ∷ []) in
      let j : k + 1 ≡ suc k = omega arith in
      rw j (record {
        is = omega (arith, v.is, ap (sum (cost_in c)) m, sum_append (cost_in c) (map (block_at (numbers row)) (take k leaves)) (b ∷ []));
        low = omega (arith, v.low, cost_le c b (h.low k i));
      })

  pub all_summed : {k s : ℕ} → Summed row c leaves k s → length leaves ≤ k → s ≡ sum (cost_in c) (map (block_at (numbers row)) leaves)
  all_summed {k} v q = v.is ∙ ap (λ l. sum (cost_in c) (map (block_at (numbers row)) l)) (take_all k leaves q)
