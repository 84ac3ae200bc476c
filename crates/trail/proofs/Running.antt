-- The runs of a trail from one of its visits on: there is always one, the trail's own, and it is the only one where no visit can be left for a later run.
use Rattle.std.specs.Prelude.{Option, Some, None, List, [], ◌∷◌, ◌++◌, ◌≡◌, ℕ, zero, suc, ◌+◌, ◌≤◌, ◌<◌, get_or}
use Rattle.std.proofs.Common.{◌∙◌, arith}
use Rattle.model.specs.Plan.{Block}
use Rattle.short_runs.specs.Listing.{in_front}
use Rattle.rows.specs.Rows.{block_at}
use Rattle.place.specs.Stack.{FunctionTable}
use Rattle.trail.specs.declared.Trail.{Trail}
use Rattle.trail.specs.Trails.{Later, RunsFrom}

-- The first of the runs behind a visit.
pub in_front_first : (b : Block) (us rest ws vs : List (List Block)) (v : List Block) → vs ≡ in_front b (us ++ ws) → us ≡ v ∷ rest →
    vs ≡ (b ∷ v) ∷ in_front b (rest ++ ws)
unfolding in_front
in_front_first b us rest ws vs v z e = rw (z, e)

module _ {w starts : List ℕ} {n : ℕ} (t : FunctionTable w starts n) (column : List ℕ) (x : Trail) where
  pub some_run : (m k : ℕ) (vs : List (List Block)) → RunsFrom t column x k m vs → (v : List Block) × (us : List (List Block)) × (vs ≡ v ∷ us)
  unfolding RunsFrom
  some_run zero k vs e = ([], [], e)
  some_run (suc m) k vs (us, ws, room, r, l, e) =
      let b : Block = block_at w (get_or x.leaves k 0) in
      let (v, rest, i) = some_run m (suc k) us r in
      (b ∷ v, in_front b (rest ++ ws), in_front_first b us rest ws vs v e i)

  no_later : (k : ℕ) (o : Option ℕ) (ws : List (List Block)) → o ≡ None → Later t column x.rests k o ws → ws ≡ []
  no_later k None ws e l = l
  no_later k (Some i) ws e l = absurd (cc)

  pub one_run : (m k : ℕ) (vs : List (List Block)) → ((j : ℕ) → k ≤ j → j < k + m → get_or x.later j None ≡ None) → RunsFrom t column x k m vs →
      (v : List Block) × (vs ≡ v ∷ [])
  unfolding RunsFrom in_front
  one_run zero k vs h e = ([], e)
  one_run (suc m) k vs h (us, ws, room, r, l, e) =
      let b : Block = block_at w (get_or x.leaves k 0) in
      let (v, i) = one_run m (suc k) us (λ j p q. h j (omega arith) (omega arith)) r in
      let o : ws ≡ [] = no_later k (get_or x.later k None) ws (h k (omega arith) (omega arith)) l in
      (b ∷ v, in_front_first b us [] ws vs v e i ∙ rw o)
