-- What the column of stretches means: the theorems, to be read. Assumes nothing.
use mathlib.Core.Path.{◌≡◌, ap, ◌∙◌}
use mathlib.Core.Bool.{true}
use mathlib.Core.List.{List, []}
use Prim.Native.Nat.{ℕ}
use native.Mathlib.Omega.{arith}
use lib.ListN.{length, get_or}
use Rattle.model.specs.Plan.{Block, M, Lines, close, Plan, all_leaves}
use Rattle.model.specs.Forms.{main}
use Rattle.model.specs.Runs.{Among}
use Rattle.model.specs.Total.{tallies}
use Rattle.model.specs.Stretch.{Stretch}
use Rattle.model.specs.Acceptance.{Accepted}
use Rattle.model.specs.Static.{line_silence, static_stretch}
use Rattle.model.proofs.Leaves.{its_function}
use Rattle.model.proofs.Theorems.{stretch_is_largest, static_stretches}
use Rattle.rows.specs.Plans.{lines_of}
use Rattle.columns.specs.Whole.{Summed}
use Rattle.stretches.specs.Stretches.{stretches_written}
use Rattle.columns.proofs.Meaning.{Of, sums_known, plan_below, leaf_place}
use Rattle.stretches.proofs.Known.{static_same}
use Rattle.stretches.proofs.Reading.{stretch_at}

-- Consider an accepted plan whose functions a row holds, with their exact max-load totals.
module _ (p : Plan) (a : Accepted p) {w starts ms o : List ℕ} (v : Summed M w starts (length p.functions) ms o) (same : Of (lines_of v.plan) p) where
  abbrev n : ℕ
  n = length p.functions

  abbrev line : ℕ → Lines
  line f = get_or p.functions f close

  abbrev silences : ℕ → ℕ → ℕ
  silences f s = line_silence M ms (lines_of v.plan f) s

  -- The entry of a leaf in the column of stretches is its static stretch: 0 for a silent leaf, and for a point the largest over all its visits.
  pub stretch_entry : (c : List ℕ) → length c ≡ 512 → (b : Block) → Among b (all_leaves p.functions) →
      get_or (stretches_written M ms silences (lines_of v.plan) starts n n c) b.number 0 ≡ static_stretch M (tallies M [] p.functions) line n b.number n
  stretch_entry c wide b m =
      let (f, h, d) = its_function p.functions b m in
      let i = leaf_place p v same f h b d in
      stretch_at v.plan c wide f b.number h i.0 i.1 M ms a.formed.few_functions ∙
      static_same M ms (tallies M [] p.functions) n (sums_known p v same) (lines_of v.plan) (plan_below p v same) b.number n (omega arith) ∙
      ap (λ (F : ℕ → Lines). static_stretch M (tallies M [] p.functions) F n b.number n) (λ i f. same f i)

  pub stretch_means : (c : List ℕ) → length c ≡ 512 → (b : Block) → Among b (all_leaves p.functions) → b.point ≡ true →
      Stretch M (main p) b.number (get_or (stretches_written M ms silences (lines_of v.plan) starts n n c) b.number 0)
  stretch_means c wide b m k = rw (stretch_entry c wide b m, ← static_stretches p a b.number) (stretch_is_largest p a b m k)
