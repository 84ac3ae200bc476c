-- Notes of one thing after the other. Plain mathematics: no code is named here. Assumes nothing.
use mathlib.Core.Path.{◌≡◌, refl, ap, ◌∙◌}
use mathlib.Core.Bool.{Bool, true, false}
use mathlib.Core.List.{List}
use Prim.Native.Nat.{ℕ, ◌+◌, ◌*◌, ◌≤◌}
use native.Mathlib.Omega.{arith}
use Rattle.model.specs.Plan.{Block}
use Rattle.model.specs.Forms.{Forms}
use Rattle.stretch_visits.specs.declared.Notes.{Notes}
use Rattle.stretch_visits.specs.Worth.{Within}
use Rattle.stretch_visits.specs.Private.{notes_worth, Noted}

module _ {k : Block → ℕ} {w : List ℕ} {G : List Forms} {times : ℕ} where
  -- Nothing.
  pub noted_none : {c few : ℕ} {z : Notes} → Noted k w G (λ m x. x) c times few z z true
  noted_none = record { says = λ m h x. refl; low = omega arith; kept = λ f ge. refl; runnable = λ r. r }

  -- The same worth, and higher bounds.
  pub noted_as : {v : (Block → ℕ) → ℕ → ℕ} {c few : ℕ} {old new : Notes} {b : Bool} (u : (Block → ℕ) → ℕ → ℕ) {d more : ℕ} →
      ((m : Block → ℕ) → Within k m → (x : ℕ) → v m x ≡ u m x) → c ≤ d → few ≤ more → Noted k w G v c times few old new b → Noted k w G u d times more old new b
  noted_as {old = old} u z le lo n =
      record {
        says = λ m h x. n.says m h x ∙ ap (λ y. notes_worth k m w G old + times * y) (z m h x);
        low = grind (arith, n.low);
        kept = λ f ge. n.kept f (omega arith);
        runnable = n.runnable;
      }

  -- It leads through to the next.
  pub noted_then : {v u : (Block → ℕ) → ℕ → ℕ} {c d few : ℕ} {old mid new : Notes} {b : Bool} →
      Noted k w G v c times few old mid true → Noted k w G u d times few mid new b → Noted k w G (λ m x. v m (u m x)) (c + d) times few old new b
  noted_then {u = u} n o =
      record {
        says = λ m h x. omega (arith, n.says m h (u m x), o.says m h x);
        low = omega (arith, n.low, o.low);
        kept = λ f ge. o.kept f ge ∙ n.kept f ge;
        runnable = λ r. o.runnable (n.runnable r);
      }

  -- It leads to a point.
  pub noted_stop : {v : (Block → ℕ) → ℕ → ℕ} {c few : ℕ} {old new : Notes} (u : (Block → ℕ) → ℕ → ℕ) →
      Noted k w G v c times few old new false → Noted k w G (λ m x. v m (u m x)) c times few old new false
  noted_stop u n = record { says = λ m h x. n.says m h (u m x); low = n.low; kept = n.kept; runnable = n.runnable }

  -- Nothing follows.
  pub noted_end : {v : (Block → ℕ) → ℕ → ℕ} {c few : ℕ} {old new : Notes} (b : Bool) → Noted k w G v c times few old new b →
      Noted k w G (λ m x. v m 0) c times few old new false
  noted_end true n = record { says = λ m h x. omega (arith, n.says m h 0); low = n.low; kept = n.kept; runnable = n.runnable }
  noted_end false n = record { says = λ m h x. n.says m h 0; low = n.low; kept = n.kept; runnable = n.runnable }
