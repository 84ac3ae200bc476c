-- The number that rises from line to line, and so falls short of its bound by less: the leaf numbers of a run, each one more than it is, as the digits of a
-- number to the base 513, with a 0 for each visit that is not there. A run that comes before another has the lower number. Assumes nothing.
use mathlib.Core.List.{List, [], ◌∷◌}
use mathlib.Core.Logic.{inl, inr}
use Prim.Native.Nat.{ℕ, zero, suc, ◌+◌, ◌*◌, ◌^◌, ◌≤◌, ◌<◌}
use native.Mathlib.Omega.{arith}
use lib.ListN.{length}
use Rattle.std.proofs.Math.Nat.{mul-le-mul_right, pow-suc}
use Rattle.short_runs.specs.ShortRuns.{Before}

unfoldable pub rank : ℕ → List ℕ → ℕ
rank zero v = 0
rank (suc k) [] = 0
rank (suc k) (n ∷ v) = suc n * 513 ^ k + rank k v

-- Each number is that of a leaf.
unfoldable pub Leaves : List ℕ → Type 0
Leaves [] = Unit {0}
Leaves (n ∷ v) = (n < 512) × Leaves v

pub rank_low : (k : ℕ) (v : List ℕ) → Leaves v → rank k v < 513 ^ k
unfolding rank Leaves
rank_low zero v h = omega arith
rank_low (suc k) [] h = omega (arith, rank_low k [] tt, pow-suc 513 k)
rank_low (suc k) (n ∷ v) (h, hs) =
    let p : suc n * 513 ^ k ≤ 512 * 513 ^ k = mul-le-mul_right (513 ^ k) (omega arith) in
    omega (arith, rank_low k v hs, p, pow-suc 513 k)

pub rank_rises : (k : ℕ) (u v : List ℕ) → length u ≤ k → length v ≤ k → Leaves u → Leaves v → Before u v → rank k u < rank k v
unfolding rank Leaves Before
rank_rises k [] [] a b x y h = absurd h
rank_rises k (m ∷ u) [] a b x y h = absurd h
rank_rises zero u (n ∷ v) a b x y h = absurd (omega arith)
rank_rises (suc k) [] (n ∷ v) a b x y h =
    let p : 1 * 513 ^ k ≤ suc n * 513 ^ k = mul-le-mul_right (513 ^ k) (omega arith) in
    omega (arith, rank_low k [] tt, p)
rank_rises (suc k) (m ∷ u) (n ∷ v) a b (x, xs) (y, ys) (inl h) =
    let p : (suc m + 1) * 513 ^ k ≤ suc n * 513 ^ k = mul-le-mul_right (513 ^ k) (omega arith) in
    omega (arith, rank_low k u xs, p)
rank_rises (suc k) (m ∷ u) (n ∷ v) a b (x, xs) (y, ys) (inr (e, h)) =
    let i : rank k u < rank k v = rank_rises k u v (omega arith) (omega arith) xs ys h in
    rw e (omega (arith, i))
