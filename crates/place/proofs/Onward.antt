-- The next place, by what the innermost level opens with: `onward_at` of the model as the code goes about it. Assumes nothing.
use mathlib.Core.Path.{◌≡◌, refl, sym, ◌∙◌}
use mathlib.Core.Bool.{Bool, true, false, ◌||◌}
use mathlib.Core.List.{[], ◌∷◌}
use mathlib.Core.Logic.{inl, inr}
use mathlib.Core.Option.{Option, none, some}
use Prim.Native.Nat.{ℕ, zero, suc}
use native.Mathlib.Omega.{arith}
use lib.Dec.{eqb}
use Rattle.model.specs.Plan.{Block}
use Rattle.model.specs.Forms.{Forms, leaf, call, loop, cond, ◌⊕◌, Has}
use Rattle.model.specs.Places.{pick, ◌or◌, when, ◌⊕?◌, passes, seek, Traceable}
use Rattle.model.specs.Stack.{Levels, behind, below, whole, ◌else_at◌, given, onto, seek_at, onward_at, flat}
use Rattle.model.proofs.Places.{never, seek-⊕, seek_has}
use Rattle.model.proofs.Levels.{flat_seek}
use Rattle.model.proofs.Closing.{passes-⊕}
use Rattle.place.specs.Private.{next_beyond, quits, return_at, fall_at}
use Rattle.place.proofs.Suffixes.{seek_split}
use Rattle.place.proofs.Falling.{seek_at_is, seek_loop}

-- An if: what is found in a part is not found below as well.
two_ways : (ks : Levels) (a b : Option Forms) (s k : Bool) (r : Option Levels) → ((f : Forms) → a ≡ none → s ≡ true → b ≡ some f → r ≡ none) →
    (onto ks a else_at given s r) else_at (onto ks b else_at given k r) ≡ onto ks (a or b) else_at given (s || k) r
two_ways ks (some a) b s k r h = refl
two_ways ks none b false k r h = refl
two_ways ks none none true true none h = refl
two_ways ks none none true false none h = refl
two_ways ks none none true k (some r) h = refl
two_ways ks none (some b) true k none h = refl
two_ways ks none (some b) true k (some r) h = absurd (let e = h b refl refl refl in let z : ◌≡◌ {A = ℕ} 0 1 = cc in omega arith)

flat_none : (o : Option Levels) → flat o ≡ none → o ≡ none
flat_none none e = refl
flat_none (some k) e = never (sym e)

or_none : (o p : Option Forms) → o or p ≡ none → (o ≡ none) × (p ≡ none)
or_none none p e = (refl, e)
or_none (some f) p e = never (sym e)

return_none : (ks : Levels) (x : ℕ) → seek (below ks) x ≡ none → return_at ks x ≡ none
unfolding return_at below
return_none [] x e = refl
return_none (g ∷ ks) x e = flat_none (seek_at (behind g) ks x) (flat_seek (behind g) ks x ∙ e)

clear_below : (t e r : Forms) (ks : Levels) (x : ℕ) → ((n : ℕ) → Has n e → seek (r ⊕ below ks) n ≡ none) → (f : Forms) →
    seek (t ⊕ r) x ≡ none → passes (t ⊕ r) ≡ true → seek (e ⊕ r) x ≡ some f → return_at ks x ≡ none
clear_below t e r ks x c f a s b =
    let (st, sr) = passes-⊕ t r s in
    elim (seek_split e r x f b) [
      | inl k ↦
          let z = c x (seek_has e x k.0 k.1) in
          let (u, v) = or_none (seek r x ⊕? below ks) (when (passes r) (seek (below ks) x)) (sym (seek-⊕ r (below ks) x) ∙ z) in
          return_none ks x (rw sr at v)
      | inr k ↦
          let (u, v) = or_none (seek t x ⊕? r) (when (passes t) (seek r x)) (sym (seek-⊕ t r x) ∙ a) in
          let y : seek r x ≡ none = rw st at v in
          never (sym y ∙ k)
    ]

module _ (ks : Levels) (x : ℕ) where
  pub onward_leaf : (b : Block) (r g : Forms) → g ≡ leaf b r → onward_at (g ∷ ks) x ≡ fall_at (g ∷ ks) x
  unfolding onward_at fall_at next_beyond quits
  onward_leaf b r g e = rw e (seek_at_is r ks x)

  pub onward_if : (b : Block) (t s r g : Forms) → g ≡ cond b t s r → Traceable (whole (g ∷ ks)) → onward_at (g ∷ ks) x ≡ fall_at (g ∷ ks) x
  unfolding onward_at fall_at next_beyond quits whole ◌⊕◌ Traceable
  onward_if b t s r g e traceable =
      let c : Traceable (cond b t s (r ⊕ below ks)) = rw e at traceable in
      rw (e, seek_at_is (t ⊕ r) ks x, seek_at_is (s ⊕ r) ks x)
      (two_ways ks (seek (t ⊕ r) x) (seek (s ⊕ r) x) (passes (t ⊕ r)) (passes (s ⊕ r)) (return_at ks x) (λ f a q z. clear_below t s r ks x c.2 f a q z))

  pub onward_call : (b : Block) (fun r g : Forms) → g ≡ call b fun r → onward_at (g ∷ ks) x ≡ onto (g ∷ ks) (seek fun x) else_at given (passes fun) (fall_at (g ∷ ks) x)
  unfolding onward_at fall_at next_beyond quits seek_at behind
  onward_call b fun r g e = rw (e, seek_at_is r ks x)

  pub onward_spent : (b : Block) (body r g : Forms) → g ≡ loop b zero body r → onward_at (g ∷ ks) x ≡ fall_at (g ∷ ks) x
  unfolding onward_at fall_at next_beyond quits
  onward_spent b body r g e = rw e (seek_at_is r ks x)

  pub onward_loop : (b : Block) (m : ℕ) (body r g : Forms) → g ≡ loop b (suc m) body r → b.point ≡ true →
      onward_at (g ∷ ks) x ≡ fall_at (g ∷ ks) x else_at (onto (g ∷ ks) (seek body x) else_at given (passes body) (pick (eqb b.number x) (some (loop b m body r ∷ ks)) none))
  unfolding onward_at fall_at next_beyond quits seek_at behind
  onward_loop b m body r g e p = rw (e, seek_at_is r ks x, seek_loop b m body r ks x p)
