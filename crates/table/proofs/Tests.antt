-- Tests that hold exactly when what they test does: the parts of the tests for rules 3 to 10 and 19.
use mathlib.Core.Bool.{Bool, true, false, ◌&&◌, ◌||◌, not}
use mathlib.Core.Logic.{◌⊎◌, ◌↔◌, inl, inr}
use mathlib.Core.Path.{◌≡◌, refl}
use Prim.Native.Nat.{ℕ, ◌≤◌, ◌<◌}
use native.Mathlib.Omega.{arith}
use lib.Dec.{eqb, leb, ltb}
use borrow.Author.Tests.{leb-true, le-leb, ltb-true, lt-ltb, eqb-true, eq-eqb}

pub leb_exactly : (m n : ℕ) → (leb m n ≡ true) ↔ (m ≤ n)
leb_exactly m n = (leb-true m n, le-leb m n)

pub ltb_exactly : (m n : ℕ) → (ltb m n ≡ true) ↔ (m < n)
ltb_exactly m n = (ltb-true m n, lt-ltb m n)

pub eqb_exactly : (m n : ℕ) → (eqb m n ≡ true) ↔ (m ≡ n)
eqb_exactly m n = (eqb-true m n, eq-eqb m n)

pub no_truth : {A : Type 0} → false ≡ true → A
no_truth e = absurd (let z : ◌≡◌ {A = ℕ} 0 1 = cc in omega arith)

pub yes_always : (true ≡ true) ↔ Unit {0}
yes_always = ((λ e. tt), λ u. refl)

pub no_never : (false ≡ true) ↔ ⊥
no_never = ((λ e. no_truth e), λ u. absurd u)

-- Two, three, four and five tests at once.
pub both : (a b : Bool) {A B : Type 0} → (a ≡ true) ↔ A → (b ≡ true) ↔ B → ((a && b) ≡ true) ↔ (A × B)
both true b f g = ((λ e. (f.0 refl, g.0 e)), λ (x, y). g.1 y)
both false b f g = ((λ e. no_truth e), λ (x, y). f.1 x)

pub three : (a b c : Bool) {A B D : Type 0} → (a ≡ true) ↔ A → (b ≡ true) ↔ B → (c ≡ true) ↔ D → ((a && (b && c)) ≡ true) ↔ (A × B × D)
three a b c f g h =
    let k = both a (b && c) f (both b c g h) in
    ((λ e. let (x, y) = k.0 e in (x, y.0, y.1)), λ (x, y, z). k.1 (x, (y, z)))

pub four : (a b c d : Bool) {A B D E : Type 0} → (a ≡ true) ↔ A → (b ≡ true) ↔ B → (c ≡ true) ↔ D → (d ≡ true) ↔ E →
    ((a && (b && (c && d))) ≡ true) ↔ (A × B × D × E)
four a b c d f g h i =
    let k = both a (b && (c && d)) f (three b c d g h i) in
    ((λ e. let (x, y) = k.0 e in (x, y.0, y.1, y.2)), λ (x, y, z, w). k.1 (x, (y, z, w)))

pub five : (a b c d e : Bool) {A B D E F : Type 0} → (a ≡ true) ↔ A → (b ≡ true) ↔ B → (c ≡ true) ↔ D → (d ≡ true) ↔ E → (e ≡ true) ↔ F →
    ((a && (b && (c && (d && e)))) ≡ true) ↔ (A × B × D × E × F)
five a b c d e f g h i j =
    let k = both a (b && (c && (d && e))) f (four b c d e g h i j) in
    ((λ q. let (x, y) = k.0 q in (x, y.0, y.1, y.2, y.3)), λ (x, y, z, w, v). k.1 (x, (y, z, w, v)))

-- One of two tests.
pub either : (a b : Bool) {A B : Type 0} → (a ≡ true) ↔ A → (b ≡ true) ↔ B → ((a || b) ≡ true) ↔ (A ⊎ B)
either true b f g = ((λ e. inl (f.0 refl)), λ u. refl)
either false b f g = ((λ e. inr (g.0 e)), λ u. elim u [ inl x ↦ no_truth (f.1 x) | inr y ↦ g.1 y ])

-- A point, or nothing of the kind.
pub unless_point : (a b : Bool) {A : Type 0} → (b ≡ true) ↔ A → ((a || not b) ≡ true) ↔ (a ≡ false → ¬ A)
unless_point true b f = ((λ e q. no_truth (refl_of q)), λ u. refl)
  where
    refl_of : true ≡ false → false ≡ true
    refl_of q = cc
unless_point false true f = ((λ e. no_truth e), λ u. absurd (u refl (f.0 refl)))
unless_point false false f = ((λ e q x. no_truth (f.1 x)), λ u. refl)
