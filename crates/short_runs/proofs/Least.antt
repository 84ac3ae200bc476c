-- The least number of visits tells whether a short run is left.
use mathlib.Core.Bool.{Bool, true, false}
use mathlib.Core.List.{List, [], ◌++◌}
use mathlib.Core.Path.{◌≡◌, refl}
use Prim.Native.Nat.{ℕ, zero, suc, ◌+◌, ◌<◌, min}
use native.Mathlib.Omega.{arith}
use lib.Dec.{eqb, ltb}
use Rattle.model.specs.Plan.{Block}
use Rattle.model.specs.Forms.{Forms, done, leaf, call, loop, cond, ◌⊕◌}
use Rattle.model.specs.Places.{pick}
use Rattle.short_runs.specs.Listing.{Ways, at_end, one, two, ways, next_leaf, in_front, ordered, behind_visit, without_visit, short_runs, least}

pub least-⊕ : (f g : Forms) → least (f ⊕ g) ≡ least f + least g
unfolding least ◌⊕◌
least-⊕ done g = omega arith
least-⊕ (leaf b rest) g = omega (arith, least-⊕ rest g)
least-⊕ (call b fun rest) g = omega (arith, least-⊕ rest g)
least-⊕ (loop b n body rest) g = omega (arith, least-⊕ rest g)
least-⊕ (cond b then else rest) g = omega (arith, least-⊕ rest g)

-- Way by way.
unfoldable pub least_way : Ways → ℕ
least_way at_end = 0
least_way (one b f) = 1 + least f
least_way (two b f g) = 1 + min (least f) (least g)

pub least_ways : (fs : Forms) → least fs ≡ least_way (ways fs)
unfolding least least_way ways
least_ways done = refl
least_ways (leaf b rest) = refl
least_ways (call b fun rest) = omega (arith, least-⊕ fun rest)
least_ways (loop b zero body rest) = refl
least_ways (loop b (suc n) body rest) = omega (arith, least-⊕ body (loop b n body rest))
least_ways (cond b then else rest) = omega (arith, least-⊕ then rest, least-⊕ else rest)

-- None is listed with fewer visits than the least number.
abbrev NoneShort : ℕ → Type 0
NoneShort k = (fs : Forms) → k < least fs → short_runs k fs ≡ []

none_each : (b : Block) (ws : List (List Block)) → ws ≡ [] → in_front b ws ≡ []
unfolding in_front
none_each b ws e = rw e

none_picked : (p q : Bool) (us vs : List (List Block)) → us ≡ [] → vs ≡ [] → pick p us (pick q (us ++ vs) (vs ++ us)) ≡ []
none_picked true q us vs d e = d
none_picked false true us vs d e = rw (d, e)
none_picked false false us vs d e = rw (d, e)

none_zero : (x : Ways) → 0 < least_way x → without_visit x ≡ []
unfolding least_way
none_zero at_end h = absurd (omega arith)
none_zero (one b f) h = refl
none_zero (two b f g) h = refl

none_suc : (k : ℕ) → NoneShort k → (x : Ways) → suc k < least_way x → behind_visit x (λ g. short_runs k g) ≡ []
unfolding least_way
none_suc k ih at_end h = absurd (omega arith)
none_suc k ih (one b f) h = none_each b (short_runs k f) (ih f (omega arith))
none_suc k ih (two b f g) h =
    none_each b (ordered (next_leaf f) (next_leaf g) (short_runs k f) (short_runs k g))
    (none_picked (eqb (next_leaf f) (next_leaf g)) (ltb (next_leaf f) (next_leaf g)) (short_runs k f) (short_runs k g)
    (ih f (omega arith)) (ih g (omega arith)))

pub none_listed : (k : ℕ) → NoneShort k
unfolding short_runs
none_listed zero fs h = none_zero (ways fs) (omega (arith, least_ways fs))
none_listed (suc k) fs h = none_suc k (none_listed k) (ways fs) (omega (arith, least_ways fs))
