-- A report leaves the levels below its own as they were, so their times stay right. Assumes nothing.
use mathlib.Core.Bool.{Bool, true, false}
use mathlib.Core.List.{List, [], ◌∷◌}
use mathlib.Core.Logic.{◌⊎◌, inl, inr}
use mathlib.Core.Option.{Option, none, some}
use mathlib.Core.Path.{◌≡◌}
use Prim.Native.Nat.{ℕ, zero, suc}
use native.Mathlib.Omega.{arith}
use Rattle.model.specs.Forms.{Forms, done, leaf, call, loop, cond, ◌⊕◌}
use Rattle.model.specs.Places.{passes, seek}
use Rattle.model.specs.Stack.{Levels, behind, ◌else_at◌, given, onto, seek_at, onward_at}
use Rattle.place.specs.Times.{TimesAt, outer_levels}

never_at : {k : Levels} → none ≡ some k → {A : Type 0} → A
never_at {k} e = absurd (let z : ◌≡◌ {A = ℕ} 0 1 = cc in omega arith)

else_some : (o p : Option Levels) (ls : Levels) → o else_at p ≡ some ls → (o ≡ some ls) ⊎ (p ≡ some ls)
else_some none p ls e = inr e
else_some (some ks) p ls e = inl e

given_some : (b : Bool) (p : Option Levels) (ls : Levels) → given b p ≡ some ls → p ≡ some ls
given_some true p ls e = e
given_some false p ls e = never_at e

module _ (main : Forms) (r : List ℕ) where
  onto_times : (ks : Levels) (o : Option Forms) (ls : Levels) → onto ks o ≡ some ls → TimesAt main r ks → TimesAt main r (outer_levels ls)
  unfolding outer_levels
  onto_times ks none ls e t = never_at e
  onto_times ks (some g) ls e t = let z : ◌≡◌ {A = Levels} (g ∷ ks) ls = cc in rw (← z) t

  pub seek_times : (f : Forms) (ks : Levels) (x : ℕ) (ls : Levels) → seek_at f ks x ≡ some ls → TimesAt main r ks → TimesAt main r (outer_levels ls)
  unfolding seek_at TimesAt
  seek_times f [] x ls e t = onto_times [] (seek f x) ls e t
  seek_times f (g ∷ ks) x ls e t =
      elim (else_some (onto (g ∷ ks) (seek f x)) (given (passes f) (seek_at (behind g) ks x)) ls e) [
        | inl q ↦ onto_times (g ∷ ks) (seek f x) ls q t
        | inr q ↦ seek_times (behind g) ks x ls (given_some (passes f) (seek_at (behind g) ks x) ls q) t.1
      ]

  pub onward_times : (ks : Levels) (x : ℕ) (ls : Levels) → onward_at ks x ≡ some ls → TimesAt main r ks → TimesAt main r (outer_levels ls)
  unfolding onward_at TimesAt
  onward_times [] x ls e t = never_at e
  onward_times (done ∷ ks) x ls e t = never_at e
  onward_times (leaf b k ∷ ks) x ls e t = seek_times k ks x ls e t.1
  onward_times (call b fun k ∷ ks) x ls e t = seek_times fun (call b fun k ∷ ks) x ls e t
  onward_times (loop b zero body k ∷ ks) x ls e t = seek_times k ks x ls e t.1
  onward_times (loop b (suc m) body k ∷ ks) x ls e t =
      elim (else_some (seek_at k ks x) (seek_at body (loop b (suc m) body k ∷ ks) x) ls e) [
        | inl q ↦ seek_times k ks x ls q t.1
        | inr q ↦ seek_times body (loop b (suc m) body k ∷ ks) x ls q t
      ]
  onward_times (cond b u v k ∷ ks) x ls e t =
      elim (else_some (seek_at (u ⊕ k) ks x) (seek_at (v ⊕ k) ks x) ls e) [ inl q ↦ seek_times (u ⊕ k) ks x ls q t.1 | inr q ↦ seek_times (v ⊕ k) ks x ls q t.1 ]
