-- Silences as functions of what follows. Plain mathematics: no code is named here. Assumes nothing.
use mathlib.Core.Path.{◌≡◌, refl, sym, ap, ◌∙◌}
use mathlib.Core.Bool.{Bool, true, false}
use Prim.Native.Nat.{ℕ, ◌≤◌, max}
use native.Mathlib.Omega.{arith}
use Rattle.std.specs.Prelude.{Some, None}
use Rattle.std.specs.Prelude.{Option as RustOption}
use Rattle.outlook.specs.declared.Quiet.{Quiet}
use Rattle.outlook.specs.Quiets.{through, quiet_sum, IsQuiet}
use Rattle.outlook.specs.Quiets.{roof, Low}

-- The same function, and a higher bound.
pub hush_as : {q : Quiet} {f : ℕ → ℕ} {i : Bool} {m : ℕ} (g : ℕ → ℕ) {j : Bool} {n : ℕ} → IsQuiet q f i m → ((s : ℕ) → f s ≡ g s) → i ≡ j → m ≤ n → IsQuiet q g j n
hush_as g h e b l = record { says = λ s. h.says s ∙ e s; mute = h.mute ∙ b; tied = h.tied; hit = omega (arith, h.hit); pass = λ x z. omega (arith, h.pass x z) }

pub low_of : {q : Quiet} {f : ℕ → ℕ} {i : Bool} {m : ℕ} → IsQuiet q f i m → m ≤ roof → Low q
low_of h l = record { hit = omega (arith, h.hit); pass = λ x z. omega (arith, h.pass x z) }

-- No form, and a point.
pub nothing : IsQuiet (record { hit = 0; pass = Some 0; mute = true }) (λ s. s) true 0
nothing = record { says = λ s. omega arith; mute = refl; tied = λ e. absurd (cc e); hit = omega arith; pass = λ x e. let d : 0 ≡ x = cc e in omega arith }

pub stop : IsQuiet (record { hit = 0; pass = None; mute = false }) (λ s. 0) false 0
stop = record { says = λ s. refl; mute = refl; tied = λ e. refl; hit = omega arith; pass = λ x e. absurd (cc e) }

stopped : (q : Quiet) (s t : ℕ) → q.pass ≡ None → quiet_sum q s ≡ quiet_sum q t
stopped q s t e = ap (λ (p : RustOption ℕ). max q.hit (through p s)) e ∙ sym (ap (λ (p : RustOption ℕ). max q.hit (through p t)) e)

-- Where no way leads through, nothing is added behind it.
pub hush_shut : {x : Quiet} {f : ℕ → ℕ} {i : Bool} {a : ℕ} → x.pass ≡ None → (h : ℕ → ℕ) (j : Bool) (m : ℕ) → ((s : ℕ) → (t : ℕ) × (f t ≡ h s)) → (i ≡ false → j ≡ false) → a ≤ m → IsQuiet x f i a → IsQuiet x h j m
hush_shut {x} {f} {i} {a} e h j m says mute le p =
    record {
      says = λ s. let (t, z) = says s in stopped x s t e ∙ p.says t ∙ z;
      mute = p.tied e ∙ sym (mute (sym p.mute ∙ p.tied e));
      tied = p.tied;
      hit = omega (arith, p.hit);
      pass = λ x z. omega (arith, p.pass x z);
    }
