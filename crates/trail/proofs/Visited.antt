-- The first of a trail's runs: there is one, and it visits the leaves that the trail has.
use Rattle.std.specs.Prelude.{List, ◌∷◌, ◌≡◌, ℕ, zero, suc, ◌+◌, ◌*◌, ◌≤◌, ◌<◌, get_or, length, map, take, drop}
use Rattle.std.proofs.Common.{◌∙◌, arith, drop-cons}
use native.Mathlib.Decide.{dec_le}
use Rattle.model.specs.Plan.{Block}
use Rattle.rows.specs.Rows.{block_at}
use Rattle.place.specs.Stack.{FunctionTable}
use Rattle.trail.specs.declared.Trail.{Trail}
use Rattle.trail.specs.Trails.{RunsFrom, TrailOf}
use Rattle.trail.proofs.Running.{in_front_first, some_run}

visits_more : (w ls : List ℕ) (k m : ℕ) (u : List Block) → k < length ls → u ≡ map (block_at w) (take m (drop (suc k) ls)) →
    block_at w (get_or ls k 0) ∷ u ≡ map (block_at w) (take (suc m) (drop k ls))
visits_more w ls k m u h e = rw (drop-cons ls k 0, e)

first_of : {u v : List Block} {us vs : List (List Block)} → u ∷ us ≡ v ∷ vs → u ≡ v
first_of e = cc

module _ {w starts : List ℕ} {n : ℕ} (t : FunctionTable w starts n) (column : List ℕ) (x : Trail) where
  visits_from : (m k : ℕ) (v : List Block) (vs : List (List Block)) → k + m ≤ length x.leaves → RunsFrom t column x k m (v ∷ vs) →
      v ≡ map (block_at w) (take m (drop k x.leaves))
  unfolding RunsFrom
  visits_from zero k v vs h e = first_of e
  visits_from (suc m) k v vs h (us, ws, room, r, l, e) =
      let b : Block = block_at w (get_or x.leaves k 0) in
      let (u, rest, i) = some_run t column x m (suc k) us r in
      let y = visits_from m (suc k) u rest (omega arith) (rw i at r) in
      first_of (in_front_first b us rest ws (v ∷ vs) u e i) ∙ visits_more w x.leaves k m u (omega arith) y

  rooms : (m k : ℕ) (vs : List (List Block)) → RunsFrom t column x k m vs → (j : ℕ) → k ≤ j → j < k + m → get_or x.leaves j 0 * 8 + 8 ≤ length w
  unfolding RunsFrom
  rooms zero k vs e j p q = absurd (omega arith)
  rooms (suc m) k vs (us, ws, room, r, l, e) j p q =
      elim (dec_le (suc k) j) [
        | yes i ↦ rooms m (suc k) us r j i (omega arith)
        | no i ↦ let d : j ≡ k = omega arith in rw d room
      ]

  -- Its first run has the visits of its leaves, each of which is there.
  pub stands_first : (v : List Block) (vs : List (List Block)) → TrailOf t column x (v ∷ vs) →
      (v ≡ map (block_at w) (take x.len x.leaves)) × ((j : ℕ) → j < x.len → get_or x.leaves j 0 * 8 + 8 ≤ length w)
  stands_first v vs s =
      (visits_from x.len 0 v vs (omega (arith, s.short, s.room)) s.runs, λ j i. rooms x.len 0 (v ∷ vs) s.runs j (omega arith) (omega arith))

  pub stands_some : (vs : List (List Block)) → TrailOf t column x vs → (v : List Block) × (us : List (List Block)) × (vs ≡ v ∷ us)
  stands_some vs s = some_run t column x x.len 0 vs s.runs
