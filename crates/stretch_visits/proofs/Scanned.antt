-- Sums as a scan finds them, and how large they are. Plain mathematics: no code is named here. Assumes nothing.
use mathlib.Core.Path.{◌≡◌, refl, ◌∙◌}
use mathlib.Core.Bool.{Bool}
use Prim.Native.Nat.{ℕ, ◌+◌, ◌≤◌, ◌<◌, max}
use native.Mathlib.Omega.{arith}
use Rattle.std.specs.Prelude.{Some, None}
use Rattle.std.specs.Prelude.{Option as RustOption}
use Rattle.model.specs.Total.{total}
use Rattle.rows.specs.declared.PricedCode.{PricedCode}
use Rattle.rows.specs.Leaves.{numbers}
use Rattle.rows.specs.Costs.{cost_in}
use Rattle.rows.specs.Rows.{after_at}
use Rattle.outlook.specs.declared.Quiet.{Quiet}
use Rattle.outlook.specs.Quiets.{through, quiet_sum, IsQuiet, Low, still, QuietForms, PricedForms, priced_forms}
use Rattle.outlook.proofs.Quieting.{low_of}
use Rattle.outlook.proofs.Walking.{priced_after}
use Rattle.stretch_visits.specs.Private.{rest_of}

-- No sum of a silence is over its bound and what follows.
quiet_less : (q : Quiet) (m e : ℕ) → q.hit ≤ m → ((x : ℕ) → q.pass ≡ Some x → x ≤ m) → quiet_sum q e ≤ m + e
quiet_less q m e h p = go q.pass p
  where
    go : (o : RustOption ℕ) → ((x : ℕ) → o ≡ Some x → x ≤ m) → max q.hit (through o e) ≤ m + e
    go None p = omega arith
    go (Some x) p = omega (arith, p x refl)

pub quiet_small : {q : Quiet} {f : ℕ → ℕ} {i : Bool} {m : ℕ} → IsQuiet q f i m → (e : ℕ) → quiet_sum q e ≤ m + e
quiet_small {q} {m = m} h e = quiet_less q m e h.hit h.pass

-- What follows the first form.
module _ {c : PricedCode} {i to en : ℕ} {q : Quiet} (lt : i < to) (he : en ≡ after_at (numbers c.code.row.now) i)
    (u : (x : PricedForms c en to) → QuietForms q (cost_in c.cost) (priced_forms x)) (h : PricedForms c i to) where
  pub rest_low : Low q
  rest_low = let x = priced_after lt h he in low_of (u x) (omega (arith, x.small))

  pub rest_is : {s : ℕ} (e : ℕ) → s ≡ quiet_sum q e → s ≡ still (cost_in c.cost) (rest_of h) e
  unfolding priced_after
  rest_is e z = z ∙ (u (priced_after lt h he)).says e

  pub rest_small : {s : ℕ} (e : ℕ) → s ≡ quiet_sum q e → s ≤ total (cost_in c.cost) (rest_of h) + e
  unfolding priced_after
  rest_small e z = omega (arith, z, quiet_small (u (priced_after lt h he)) e)
