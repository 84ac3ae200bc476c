-- A silence that can be passed grows with what follows, and one that cannot does not: so it tells whether a run can end. Assumes nothing.
use mathlib.Core.Path.{◌≡◌, refl, sym, ap, ◌∙◌}
use mathlib.Core.Bool.{Bool, true, false, ◌&&◌, ◌||◌, true≢false, false≢true}
use Prim.Native.Nat.{ℕ, zero, suc, ◌+◌, ◌*◌, ◌≤◌, max}
use native.Mathlib.Omega.{arith}
use Rattle.std.specs.Prelude.{Option, Some, None, is_some}
use Rattle.model.specs.Plan.{Block}
use Rattle.model.specs.Forms.{Forms, done, leaf, call, loop, cond, ◌⊕◌}
use Rattle.model.specs.Total.{total}
use Rattle.model.specs.Places.{pick, passes, can_end, Traceable}
use Rattle.model.specs.Stretch.{silence, visit_stretch}
use Rattle.outlook.specs.declared.Quiet.{Quiet}
use Rattle.outlook.specs.Quiets.{through, quiet_sum, still}
use Rattle.outlook.proofs.Leaving.{still-⊕}
use Rattle.outlook.proofs.Stilling.{silence_still}

-- Where p holds, f is never less than what follows; where not, what follows does not matter.
pub record Grows (f : ℕ → ℕ) (p : Bool) : Type 0 where
  pub onward : p ≡ true → (e : ℕ) → e ≤ f e
  pub stopped : p ≡ false → (e : ℕ) → f e ≡ f 0

grows_id : Grows (λ e. e) true
grows_id = record { onward = λ h e. omega arith; stopped = λ h. absurd (true≢false h) }

grows_not : (a : ℕ) → Grows (λ e. a) false
grows_not a = record { onward = λ h. absurd (false≢true h); stopped = λ h e. refl }

grows_add : {f : ℕ → ℕ} {p : Bool} (a : ℕ) → Grows f p → Grows (λ e. a + f e) p
grows_add a g = record { onward = λ h e. omega (arith, g.onward h e); stopped = λ h e. ap (λ x. a + x) (g.stopped h e) }

grows_pick : {f : ℕ → ℕ} {p : Bool} (b : Bool) → Grows f p → Grows (λ e. pick b 0 (f e)) (pick b false p)
grows_pick true g = grows_not 0
grows_pick false g = g

grows_max : {f g : ℕ → ℕ} (p q : Bool) → Grows f p → Grows g q → Grows (λ e. max (f e) (g e)) (p || q)
grows_max true q x y = record { onward = λ h e. omega (arith, x.onward refl e); stopped = λ h. absurd (true≢false h) }
grows_max {f} {g} false q x y =
    record { onward = λ h e. omega (arith, y.onward h e); stopped = λ h e. omega (arith, x.stopped refl e, y.stopped h e) }

grows_then : {f g : ℕ → ℕ} (p q : Bool) → Grows f p → Grows g q → Grows (λ e. f (g e)) (p && q)
grows_then {f} {g} true q x y =
    record { onward = λ h e. omega (arith, x.onward refl (g e), y.onward h e); stopped = λ h e. ap f (y.stopped h e) }
grows_then {f} {g} false q x y = record { onward = λ h. absurd (false≢true h); stopped = λ h e. x.stopped refl (g e) ∙ sym (x.stopped refl (g 0)) }

grows_as : {f g : ℕ → ℕ} {p : Bool} → ((e : ℕ) → f e ≡ g e) → Grows f p → Grows g p
grows_as z x = record { onward = λ h e. omega (arith, x.onward h e, z e); stopped = λ h e. omega (arith, x.stopped h e, z e, z 0) }

-- The walk's own function of forms.
pub grows_still : (k : Block → ℕ) (f : Forms) → Grows (λ e. still k f e) (passes f)
unfolding still passes
grows_still k done = grows_id
grows_still k (leaf b r) = grows_pick b.point (grows_add (k b) (grows_still k r))
grows_still k (call b fun r) = grows_pick b.point (grows_add (k b + total k fun) (grows_still k r))
grows_still k (loop b n body r) = grows_pick b.point (grows_add (k b + n * (total k body + k b)) (grows_still k r))
grows_still k (cond b t s r) =
    grows_pick b.point (grows_add (k b)
    (grows_then (passes t || passes s) (passes r) (grows_max (passes t) (passes s) (grows_still k t) (grows_still k s)) (grows_still k r)))

-- Two sequences of forms, one behind the other.
both_still : (k : Block → ℕ) (f g : Forms) (e : ℕ) → Traceable f → Traceable g → still k (f ⊕ g) e ≡ silence k f (silence k g e)
both_still k f g e x y = still-⊕ k f g e ∙ ap (still k f) (sym (silence_still k g e y)) ∙ sym (silence_still k f (silence k g e) x)

-- The stretch of a visit.
pub grows_visit : (k : Block → ℕ) (f : Forms) → Traceable f → Grows (λ e. visit_stretch k f e) (can_end f)
unfolding visit_stretch can_end Traceable
grows_visit k done h = grows_not 0
grows_visit k (leaf b r) h = grows_as (λ e. ap (λ x. k b + x) (sym (silence_still k r e h))) (grows_add (k b) (grows_still k r))
grows_visit k (call b fun r) h =
    grows_as (λ e. ap (λ x. k b + x) (both_still k fun r e h.2 h.3)) (grows_add (k b) (grows_still k (fun ⊕ r)))
grows_visit k (loop b zero body r) h = grows_as (λ e. ap (λ x. k b + x) (sym (silence_still k r e h.4))) (grows_add (k b) (grows_still k r))
grows_visit k (loop b (suc n) body r) h =
    let l = loop b n body r in
    grows_as (λ e. omega (arith, silence_still k r e h.4, both_still k body l e h.3 h))
    (grows_add (k b) (grows_max (passes r) (passes (body ⊕ l)) (grows_still k r) (grows_still k (body ⊕ l))))
grows_visit k (cond b t s r) h =
    grows_as (λ e. omega (arith, both_still k t r e h.3 h.5, both_still k s r e h.4 h.5))
    (grows_add (k b) (grows_max (passes (t ⊕ r)) (passes (s ⊕ r)) (grows_still k (t ⊕ r)) (grows_still k (s ⊕ r))))

ends_cases : {f : ℕ → ℕ} (x : Option ℕ) (p : Bool) (hit a : ℕ) → Grows f p → ((e : ℕ) → a + max hit (through x e) ≡ f e) → is_some x ≡ p
ends_cases (Some pass) true hit a g h = refl
ends_cases None false hit a g h = refl
ends_cases {f} (Some pass) false hit a g h = absurd (omega (arith, h (f 0 + 1), g.stopped refl (f 0 + 1)))
ends_cases {f} None true hit a g h = absurd (omega (arith, h (a + hit + 1), g.onward refl (a + hit + 1)))

-- So whether a sum all through is there is the test that goes with the function.
pub ends_is : {f : ℕ → ℕ} {p : Bool} (q : Quiet) (a : ℕ) → Grows f p → ((e : ℕ) → a + quiet_sum q e ≡ f e) → is_some q.pass ≡ p
ends_is {p = p} q a g h = ends_cases q.pass p q.hit a g h
