-- The walk's silence is the model's where silent loops and calls have no point inside (rule 8); and the same at a place. Assumes nothing.
use mathlib.Core.Path.{◌≡◌, refl, sym, ap, ◌∙◌}
use mathlib.Core.Bool.{Bool, true, false, ◌&&◌, and-false}
use Prim.Native.Nat.{ℕ, zero, suc, ◌+◌, ◌*◌, max}
use native.Mathlib.Omega.{arith}
use Rattle.model.specs.Plan.{Block}
use Rattle.model.specs.Forms.{Forms, done, leaf, call, loop, cond, ◌⊕◌}
use Rattle.model.specs.Total.{total}
use Rattle.model.specs.Places.{pick, Traceable, no_more, no_further}
use Rattle.model.specs.Stretch.{unless, silence, rounds_silence, visit_stretch}
use Rattle.model.proofs.NoPoints.{silence_all, rounds_silence_point, rounds_silence_silent}
use Rattle.model.proofs.Final.{no_more-⊕}
use Rattle.outlook.specs.Quiets.{still}
use Rattle.outlook.specs.Quiets.{beyond, mute_beyond}

unless_pick : (p : Bool) (x y : ℕ) → (p ≡ false → x ≡ y) → unless p x ≡ pick p 0 y
unless_pick true x y h = refl
unless_pick false x y h = h refl

pick_by : (p : Bool) (x y : ℕ) → (p ≡ true → x ≡ 0) → (p ≡ false → x ≡ y) → x ≡ pick p 0 y
pick_by true x y a b = a refl
pick_by false x y a b = b refl

module _ (k : Block → ℕ) where
  pub silence_still : (f : Forms) (e : ℕ) → Traceable f → silence k f e ≡ still k f e
  unfolding silence still Traceable
  silence_still done e h = refl
  silence_still (leaf b r) e h = unless_pick b.point (k b + silence k r e) (k b + still k r e) (λ p. ap (λ x. k b + x) (silence_still r e h))
  silence_still (call b fun r) e h =
      unless_pick b.point (k b + silence k fun (silence k r e)) (k b + total k fun + still k r e)
      (λ p. omega (arith, silence_all k fun (silence k r e) (h.0 p), silence_still r e h.3))
  silence_still (loop b n body r) e h =
      pick_by b.point (rounds_silence k b (λ u. silence k body u) (silence k r e) n) (k b + n * (total k body + k b) + still k r e)
      (λ p. rounds_silence_point k b (λ u. silence k body u) (silence k r e) n p)
      (λ p. omega (arith, rounds_silence_silent k b body (silence k r e) n p (h.0 p), silence_still r e h.4))
  silence_still (cond b t s r) e h =
      let z = silence_still r e h.5 in
      unless_pick b.point (k b + max (silence k t (silence k r e)) (silence k s (silence k r e))) (k b + max (still k t (still k r e)) (still k s (still k r e)))
      (λ p. omega (
        arith,
        silence_still t (silence k r e) h.3,
        silence_still s (silence k r e) h.4,
        ap (still k t) z,
        ap (still k s) z,
      ))

-- AT A PLACE

and_both : (p q r : Bool) → ((p && r) && (q && r)) ≡ ((p && q) && r)
and_both true q true = refl
and_both true true false = refl
and_both true false false = refl
and_both false q r = refl

-- What is found of the forms g that open with the visit of b, where e follows them.
pub record Shown (k : Block → ℕ) (b : Block) (g : Forms) (e v : ℕ) (m : Bool) : Type 0 where
  pub stretch : k b + v ≡ visit_stretch k g e
  pub last : m ≡ no_further g

module _ (k : Block → ℕ) (e : ℕ) where
  pub shown_leaf : (b : Block) (r g : Forms) → g ≡ leaf b r → Traceable g → Shown k b g e (beyond k g e) (mute_beyond g)
  unfolding visit_stretch no_further beyond mute_beyond Traceable
  shown_leaf b r g z h =
      let u : Traceable (leaf b r) = rw z at h in
      rw z (record { stretch = ap (λ x. k b + x) (sym (silence_still k r e u)); last = refl })

  pub shown_cond : (b : Block) (t s r g : Forms) → g ≡ cond b t s r → Traceable g → Shown k b g e (beyond k g e) (mute_beyond g)
  unfolding visit_stretch no_further beyond mute_beyond Traceable
  shown_cond b t s r g z h =
      let u : Traceable (cond b t s r) = rw z at h in
      let y = silence_still k r e u.5 in
      rw z (record {
        stretch = omega (
          arith,
          silence_still k t (silence k r e) u.3,
          silence_still k s (silence k r e) u.4,
          ap (still k t) y,
          ap (still k s) y,
        );
        last = sym (ap (λ x. x && no_more (s ⊕ r)) (no_more-⊕ t r) ∙ ap (λ x. (no_more t && no_more r) && x) (no_more-⊕ s r) ∙ and_both (no_more t) (no_more s) (no_more r));
      })

  pub shown_call : (b : Block) (fun r g : Forms) → g ≡ call b fun r → Traceable g → Shown k b g e (still k fun (beyond k g e)) (no_more fun && mute_beyond g)
  unfolding visit_stretch no_further beyond mute_beyond Traceable
  shown_call b fun r g z h =
      let u : Traceable (call b fun r) = rw z at h in
      rw z (record {
        stretch = omega (arith, silence_still k fun (silence k r e) u.2, ap (still k fun) (silence_still k r e u.3));
        last = sym (no_more-⊕ fun r);
      })

  pub shown_spent : (b : Block) (n : ℕ) (body r g : Forms) → g ≡ loop b n body r → n ≡ 0 → Traceable g → Shown k b g e (beyond k g e) (mute_beyond g)
  unfolding visit_stretch no_further beyond mute_beyond Traceable
  shown_spent b zero body r g z n h =
      let u : Traceable (loop b zero body r) = rw z at h in
      rw z (record { stretch = ap (λ x. k b + x) (sym (silence_still k r e u.4)); last = refl })
  shown_spent b (suc m) body r g z n h = absurd (omega arith)

  stopped : (b : Block) (n : ℕ) (body r : Forms) → b.point ≡ true → (silence k (loop b n body r) e ≡ 0) × (no_more (loop b n body r) ≡ false)
  unfolding silence no_more
  stopped b n body r p = (rounds_silence_point k b (λ u. silence k body u) (silence k r e) n p, rw p)

  pub shown_loop : (b : Block) (n : ℕ) (body r g : Forms) → g ≡ loop b n body r → (n ≡ 0 → ⊥) → b.point ≡ true → Traceable g → Shown k b g e (max (beyond k g e) (still k body 0)) false
  unfolding visit_stretch no_further beyond Traceable
  shown_loop b zero body r g z n p h = absurd (n refl)
  shown_loop b (suc m) body r g z n p h =
      let u : Traceable (loop b (suc m) body r) = rw z at h in
      let (x, y) = stopped b m body r p in
      rw z (record {
        stretch = omega (arith, silence_still k r e u.4, ap (silence k body) x, silence_still k body 0 u.3);
        last = sym (ap (λ a. no_more r && a) (no_more-⊕ body (loop b m body r) ∙ ap (λ a. no_more body && a) y ∙ and-false (no_more body)) ∙ and-false (no_more r));
      })
