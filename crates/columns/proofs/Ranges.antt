-- What the answer of a test says that is asked of every number below a bound. Assumes nothing.
use Prim.Native.Nat.{ℕ, ◌+◌, ◌<◌}
use mathlib.Core.Bool.{Bool, true, false}
use mathlib.Core.Path.{◌≡◌}
use lib.ListN.{length}
use native.Mathlib.Omega.{arith}
use Rattle.std.specs.Bool.{MatchBool}
use Rattle.std.specs.List.{range_with_len, AllWithin, HoldsAt}
use Rattle.std.proofs.lemmas.List.FromFn.{length-range_with_len, get_or-range_with_len}
use Rattle.rows.specs.Answers.{Says}

-- Each number below n passes the test, or one does not: the claim holds where all do, and not where one does not.
pub all_says : {P Q : ℕ → Type 0} {A : Type 0} (n : ℕ) (r : Bool)
    → MatchBool r (AllWithin P (range_with_len 0 n) 0 (length (range_with_len 0 n)))
    ((k : ℕ) × (k < length (range_with_len 0 n)) × HoldsAt Q (range_with_len 0 n) k)
    → (((j : ℕ) → j < n → P j) → A) → ((j : ℕ) → j < n → Q j → A → ⊥) → Says r A
all_says {P} n true h f g =
    let all : (j : ℕ) → j < n → P j = λ j a.
    let z : 0 + j ≡ j = omega arith in
    rw (get_or-range_with_len 0 n j 0 a, z) at (h j 0 (omega arith) (omega (arith, length-range_with_len 0 n)))
    in f all
all_says n false h f g =
    let m : h.0 < n = omega (arith, h.1, length-range_with_len 0 n) in
    let z : 0 + h.0 ≡ h.0 = omega arith in
    g h.0 m (rw (get_or-range_with_len 0 n h.0 0 m, z) at (h.2 0))
