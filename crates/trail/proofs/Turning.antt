-- The next run: at the last visit that can be left for a later run it is left, and every visit before it stays.
use Rattle.std.specs.Prelude.{Option, Some, None, true, false, List, [], ◌∷◌, ◌++◌, ◌≡◌, ℕ, zero, suc, ◌+◌, ◌-◌, ◌≤◌, ◌<◌, get_or, set, length}
use Rattle.std.proofs.Common.{refl, ap, sym, ◌∙◌, arith, append-nil, get_or-set_same, get_or-set_other}
use native.Mathlib.Decide.{dec_le}
use Rattle.model.specs.Plan.{Block}
use Rattle.model.specs.Forms.{Forms}
use Rattle.short_runs.specs.Listing.{in_front, short_runs, least}
use Rattle.short_runs.specs.Told.{NumbersTell}
use Rattle.rows.specs.declared.Code.{Code}
use Rattle.rows.specs.Leaves.{numbers}
use Rattle.rows.specs.Rows.{block_at}
use Rattle.place.specs.Stack.{FunctionTable}
use Rattle.place.specs.Lent.{CodeTable}
use Rattle.least_visits.specs.Least.{TableLeasts}
use Rattle.trail.specs.declared.Rest.{Rest}
use Rattle.trail.specs.declared.Trail.{Trail}
use Rattle.trail.specs.Trails.{first_rest, Left, numbered_rest, Later, RunsFrom, TrailOf, GoesTo}
use Rattle.trail.specs.Private.{CanDescend, Descends}
use Rattle.trail.proofs.Running.{in_front_first, one_run}
use Rattle.trail.proofs.Descending.{runs_step}

-- Of the runs us the first is passed, and the trail's runs from the visit number k on are those behind it.
abbrev Moves : {w starts : List ℕ} {n : ℕ} → FunctionTable w starts n → List ℕ → Trail → ℕ → ℕ → List (List Block) → Type 0
Moves t column x k m us = (v : List Block) × (vs : List (List Block)) × (us ≡ v ∷ vs) × RunsFrom t column x k m vs

-- What is left for a later run behind the visit number k.
abbrev LeftLater : {w starts : List ℕ} {n : ℕ} → FunctionTable w starts n → List ℕ → List Rest → ℕ → ℕ → Type 0
LeftLater t column rests k i = (f : Forms) × (i < first_rest (suc k)) × Left t column rests i f × NumbersTell f × (least f ≤ 63 - k)

-- The runs from a later visit on.
runs_at : {w starts : List ℕ} {n : ℕ} (t : FunctionTable w starts n) (column : List ℕ) (x : Trail) (d j k a m : ℕ) (vs : List (List Block)) →
    j + d ≡ k → a ≡ d + m → RunsFrom t column x j a vs → (us : List (List Block)) × RunsFrom t column x k m us
unfolding RunsFrom
runs_at t column x zero j k a m vs e z r = let p : j ≡ k = omega arith in let q : a ≡ m = omega arith in (vs, rw (p, q) at r)
runs_at t column x (suc d) j k zero m vs e z r = absurd (omega arith)
runs_at t column x (suc d) j k (suc a) m vs e z (us, ws, room, r, l, i) = runs_at t column x d (suc j) k a m us (omega arith) (omega arith) r

left_later : {w starts : List ℕ} {n : ℕ} (t : FunctionTable w starts n) (column : List ℕ) (rests : List Rest) (k i : ℕ) (o : Option ℕ)
    (ws : List (List Block)) → o ≡ Some i → Later t column rests k o ws → Later t column rests k (Some i) ws
left_later t column rests k i o ws e l = rw e at l

-- WHERE THE TRAIL CHANGES FROM A VISIT ON

module _ {w starts : List ℕ} {n : ℕ} (t : FunctionTable w starts n) (column : List ℕ) (old new : Trail) (k m m' : ℕ)
    (leaves : (j : ℕ) → j < k → get_or new.leaves j 0 ≡ get_or old.leaves j 0)
    (later : (j : ℕ) → j < k → get_or new.later j None ≡ get_or old.later j None)
    (rests : (j : ℕ) → j < first_rest k → numbered_rest new.rests j ≡ numbered_rest old.rests j)
    (moves : (us : List (List Block)) → RunsFrom t column old k m us → Moves t column new k m' us) where
  -- The runs move on from each visit before it.
  moves_out : (d j a b : ℕ) (vs : List (List Block)) → j + d ≡ k → a ≡ d + m → b ≡ d + m' → RunsFrom t column old j a vs → Moves t column new j b vs
  unfolding RunsFrom
  moves_out zero j a b vs e p q r =
      let x : j ≡ k = omega arith in
      let y : a ≡ m = omega arith in
      let z : b ≡ m' = omega arith in rw (x, z) (moves vs (rw (x, y) at r))
  moves_out (suc d) j zero b vs e p q r = absurd (omega arith)
  moves_out (suc d) j (suc a) zero vs e p q r = absurd (omega arith)
  moves_out (suc d) j (suc a) (suc b) vs e p q (us, ws, room, r, l, z) =
      let x : Block = block_at w (get_or old.leaves j 0) in
      let (v, rest, i, s) = moves_out d (suc j) a b us (omega arith) (omega arith) (omega arith) r in (
        x ∷ v,
        in_front x (rest ++ ws),
        in_front_first x us rest ws vs v z i,
        runs_step t column new old.rests j b (get_or old.leaves j 0) (get_or old.later j None) rest ws (in_front x (rest ++ ws))
            (λ h c. rests h (omega arith)) (leaves j (omega arith)) (later j (omega arith)) room s l refl,
      )

-- WHERE IT IS LEFT FOR A LATER RUN

-- From the visit number k on none can be left.
abbrev pub NoLater : Trail → ℕ → Type 0
NoLater x k = (j : ℕ) → k ≤ j → j < x.len → get_or x.later j None ≡ None

pub no_later_more : (x : Trail) (k : ℕ) → get_or x.later (k - 1) None ≡ None → NoLater x k → NoLater x (k - 1)
no_later_more x k e h j p q =
    elim (dec_le k j) [
      | yes l ↦ h j l q
      | no g ↦ let d : j ≡ k - 1 = omega arith in rw d e
    ]

-- The trail with nothing left for a later run behind its visit number k.
abbrev pub settled : Trail → ℕ → Trail
settled x k = record { len = x.len; leaves = x.leaves; later = set x.later k None; rests = x.rests }

module _ (c : Code) (column : List ℕ) (old : Trail) (k i : ℕ) (room : length old.later ≡ 64) (there : k < old.len) (short : old.len ≤ 64)
    (later_is : get_or old.later k None ≡ Some i) where
  later_here : (t : CodeTable c) (vs : List (List Block)) → TrailOf t column old vs → LeftLater t column old.rests k i
  unfolding RunsFrom
  later_here t vs s =
      let (us, r) = runs_at t column old k 0 k old.len (suc (old.len - suc k)) vs (omega arith) (omega arith) s.runs in
      let (f, near, left, told, fits, e) = left_later t column old.rests k i (get_or old.later k None) (r.1) later_is (r.4) in (f, near, left, told, fits)

  pub can_turn : (t : CodeTable c) (vs : List (List Block)) → TableLeasts t column → TrailOf t column old vs → CanDescend c column (settled old k) (k + 1) i
  can_turn t vs noted s =
      let (f, near, left, told, fits) = later_here t vs s in
      record { table = t; noted = noted; forms = f; left = left; told = told; early = omega arith; few = omega arith; fits = omega arith }

  module _ (none : NoLater old (k + 1)) (new : Trail) (d : Descends c column (settled old k) new (k + 1) i) where
    moves_here : (t : CodeTable c) (us : List (List Block)) → TableLeasts t column → RunsFrom t column old k (suc (old.len - suc k)) us →
        Moves t column new k (suc (new.len - suc k)) us
    unfolding RunsFrom
    moves_here t us noted (xs, ws, low, r, l, z) =
        let b : Block = block_at (numbers c.row.now) (get_or old.leaves k 0) in
        let (f, near, left, told, fits, e) = left_later t column old.rests k i (get_or old.later k None) ws later_is l in
        let (v, y) = one_run t column old (old.len - suc k) (suc k) xs (λ j p q. none j (omega arith) (omega arith)) r in
        let q : k + 1 ≡ suc k = omega arith in
        let g : 64 - suc k ≡ 63 - k = omega arith in
        let run = rw (q, g) at d.runs t f noted left told (omega arith) in (
          b ∷ v,
          in_front b ([] ++ ws),
          in_front_first b xs [] ws us v z y,
          runs_step t column new old.rests k (new.len - suc k) (get_or old.leaves k 0) None (short_runs (63 - k) f) [] (in_front b ([] ++ ws))
              (λ j p. d.rests j (omega arith)) (d.leaves k (omega arith))
              (d.later k (omega arith) ∙ get_or-set_same old.later k None None (omega arith)) low run refl
              (ap (in_front b) (e ∙ sym (append-nil (short_runs (63 - k) f)))),
        )

    pub turns : (t : CodeTable c) (vs : List (List Block)) → TableLeasts t column → TrailOf t column old vs → GoesTo t column vs new true
    turns t vs noted s =
        let (v, rest, e, r) = moves_out t column old new k (suc (old.len - suc k)) (suc (new.len - suc k))
        (λ j h. d.leaves j (omega arith))
        (λ j h. d.later j (omega arith) ∙ get_or-set_other old.later k j None None (λ e. omega arith))
        (λ j h. d.rests j (omega arith))
        (λ us. moves_here t us noted)
        k 0 old.len new.len vs (omega arith) (omega arith) (omega (arith, d.more)) s.runs in
        rw e (record { short = d.short; room = d.room ∙ s.room; runs = r })

-- Where none is left the trail's run was the last.
pub stays : {w starts : List ℕ} {n : ℕ} (t : FunctionTable w starts n) (column : List ℕ) (x : Trail) (vs : List (List Block)) →
    NoLater x 0 → TrailOf t column x vs → GoesTo t column vs x false
stays t column x vs none s = let (v, e) = one_run t column x x.len 0 vs (λ j p q. none j (omega arith) (omega arith)) s.runs in rw e refl
