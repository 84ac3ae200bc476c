-- What the answers of a test say that is asked of the numbers of a range. Assumes nothing.
use Prim.Native.Nat.{ℕ, ◌+◌, ◌-◌, ◌≤◌, ◌<◌}
use mathlib.Core.Bool.{Bool, true, false}
use mathlib.Core.Path.{◌≡◌}
use lib.ListN.{length}
use native.Mathlib.Omega.{arith}
use Rattle.std.specs.Bool.{MatchBool}
use Rattle.std.specs.List.{range_with_len, AllWithin, HoldsAt}
use Rattle.std.proofs.lemmas.List.FromFn.{length-range_with_len, get_or-range_with_len}
use Rattle.rows.specs.Answers.{Says}

-- Some number from i up to e passes the test: the claim holds exactly where there is such a number.
pub any_says : {P : ℕ → Type 0} {A : Type 0} (i e : ℕ) (r : Bool)
    → MatchBool r ((k : ℕ) × (k < length (range_with_len i (e - i))) × HoldsAt P (range_with_len i (e - i)) k)
    (AllWithin (λ j. P j → ⊥) (range_with_len i (e - i)) 0 (length (range_with_len i (e - i))))
    → ((j : ℕ) → i ≤ j → j < e → P j → A) → (A → (j : ℕ) × (i ≤ j) × (j < e) × P j) → Says r A
any_says i e true h f g =
    let m : h.0 < e - i = omega (arith, h.1, length-range_with_len i (e - i)) in
    f (i + h.0) (omega arith) (omega arith) (rw (get_or-range_with_len i (e - i) h.0 0 m) at (h.2 0))
any_says i e false h f g = λ a.
    let q = g a in
    let m : q.0 - i < e - i = omega (arith, q.1, q.2) in
    let j : i + (q.0 - i) ≡ q.0 = omega (arith, q.1) in
    (rw (get_or-range_with_len i (e - i) (q.0 - i) 0 m, j) at (h (q.0 - i) 0 (omega arith) (omega (arith, m, length-range_with_len i (e - i))))) q.3
