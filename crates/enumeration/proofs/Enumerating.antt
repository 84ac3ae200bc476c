-- From one run of a code to the next: the trail stays one of the code's, and its rank rises. Assumes nothing.
use mathlib.Core.Bool.{true}
use mathlib.Core.List.{List, [], ◌∷◌}
use mathlib.Core.Path.{◌≡◌, ap, ◌∙◌}
use Prim.Native.Nat.{ℕ, suc, ◌-◌, ◌^◌, ◌<◌}
use native.Mathlib.Omega.{arith}
use lib.ListN.{length, take, get_or, length-take}
use Rattle.std.proofs.lemmas.List.{get_or-take}
use Rattle.model.specs.Plan.{Block}
use Rattle.rows.specs.declared.Code.{Code}
use Rattle.rows.specs.Leaves.{numbers}
use Rattle.place.proofs.Lent.{leaf_held}
use Rattle.short_runs.specs.ShortRuns.{Before, Ascending}
use Rattle.short_runs.specs.ShortRuns as runs
use Rattle.trail.specs.declared.Trail.{Trail}
use Rattle.trail.specs.Trails.{TrailOf, GivesNext}
use Rattle.trail.proofs.Visited.{stands_first, stands_some}
use Rattle.enumeration.specs.Private.{RunHeld, Enumerates}
use Rattle.enumeration.proofs.Lining.{numbers_at}
use Rattle.enumeration.proofs.Ranks.{Leaves, rank, rank_low, rank_rises}

each_low : (xs : List ℕ) → ((k : ℕ) → k < length xs → get_or xs k 0 < 512) → Leaves xs
unfolding Leaves
each_low [] h = tt
each_low (x ∷ xs) h = (h 0 (omega arith), each_low xs (λ k l. h (suc k) (omega arith)))

pub behind_first : (v : List Block) (us : List (List Block)) → Ascending (v ∷ us) → Ascending us
unfolding Ascending
behind_first v [] a = tt
behind_first v (u ∷ us) a = a.1

module _ {c : Code} {column : List ℕ} {x : Trail} (q : Enumerates c column x) where
  abbrev ls : List ℕ
  ls = take x.len x.leaves

  size : length ls ≡ x.len
  size = omega (arith, length-take x.len x.leaves, q.stands.room, q.stands.short)

  -- Its leaves are of the row.
  in_row : (k : ℕ) → k < length ls → get_or ls k 0 < length c.row.now
  in_row k h =
      let (v, us, e) = stands_some q.on.table column x q.runs q.stands in
      let s : TrailOf q.on.table column x (v ∷ us) = rw e at q.stands in
      let a = leaf_held c.row.now ((stands_first q.on.table column x v us s).1 k (omega (arith, h, size))) in
      omega (arith, a, get_or-take x.len x.leaves k 0 (omega (arith, h, size)))

  pub run_held : RunHeld c.row.now x
  run_held =
      record {
        few = q.stands.short;
        low = record { few = omega (arith, size, q.stands.short); held = in_row; low = λ k h. q.costs (get_or ls k 0) (in_row k h) };
      }

  leaves_low : Leaves ls
  leaves_low = each_low ls (λ k h. omega (arith, in_row k h, q.few))

  -- The first run has their numbers.
  first_numbers : (v : List Block) (us : List (List Block)) → q.runs ≡ v ∷ us → runs.leaf_numbers v ≡ ls
  first_numbers v us e =
      let s : TrailOf q.on.table column x (v ∷ us) = rw e at q.stands in
      ap runs.leaf_numbers (stands_first q.on.table column x v us s).0 ∙ numbers_at (numbers c.row.now) ls

  -- Where it went on to another run.
  module _ (y : Trail) (g : GivesNext c column x y true) where
    abbrev gone : (v : List Block) × (us : List (List Block)) × (q.runs ≡ v ∷ us) × TrailOf q.on.table column y us
    gone =
        let (v, us, e) = stands_some q.on.table column x q.runs q.stands in
        (v, us, e, g q.on.table (v ∷ us) q.on.noted (rw e at q.stands))

    abbrev pub goes_on : Enumerates c column y
    goes_on =
        let (v, us, e, s) = gone in
        record { on = q.on; runs = us; stands = s; ascending = behind_first v us (rw e at q.ascending); few = q.few; costs = q.costs }

    behind_it : (v : List Block) × (q.runs ≡ v ∷ goes_on.runs)
    behind_it = let (v, us, e, s) = gone in (v, e)

-- The rank rises.
pub rank_further : {c : Code} {column : List ℕ} {x : Trail} (q : Enumerates c column x) (y : Trail) → GivesNext c column x y true →
    513 ^ 64 - rank 64 (take y.len y.leaves) < 513 ^ 64 - rank 64 (take x.len x.leaves)
unfolding Ascending
rank_further {c} {column} {x} q y g =
    let r : Enumerates c column y = goes_on q y g in
    let (v, e) = behind_it q y g in
    let (u, ws, i) = stands_some q.on.table column y r.runs r.stands in
    let a : Ascending (v ∷ u ∷ ws) = rw (e, i) at q.ascending in
    let f : runs.leaf_numbers v ≡ take x.len x.leaves = first_numbers q v r.runs e in
    let h : runs.leaf_numbers u ≡ take y.len y.leaves = first_numbers r u ws i in
    let b : Before (take x.len x.leaves) (take y.len y.leaves) = rw (f, h) at a.0 in
    let k = rank_rises 64 (take x.len x.leaves) (take y.len y.leaves)
    (omega (arith, size q, q.stands.short)) (omega (arith, size r, r.stands.short)) (leaves_low q) (leaves_low r) b in
    omega (arith, k, rank_low 64 (take y.len y.leaves) (leaves_low r))
