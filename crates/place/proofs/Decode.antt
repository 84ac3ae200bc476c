-- The stack's levels are the model's: `Stands` is `decode` of the stack's frames. Assumes nothing.
use mathlib.Core.Path.{◌≡◌, refl, sym, ap, ◌∙◌, subst}
use mathlib.Core.List.{List, [], ◌∷◌}
use mathlib.Core.Logic.{inl, inr}
use mathlib.Core.Option.{Option, none, some}
use Prim.Native.Nat.{ℕ, zero, suc, ◌+◌, ◌≤◌}
use native.Mathlib.Omega.{arith}
use lib.ListN.{length, get_or}
use Rattle.model.specs.Forms.{Forms}
use Rattle.model.specs.Places.{bind, Traceable}
use Rattle.model.specs.Stack.{Levels, below, whole, suffix, turned, inside_of, then_at, decode}
use Rattle.model.proofs.Places.{known, never}
use Rattle.model.proofs.Located.{traceable_remains}
use Rattle.model.proofs.Steps.{Prefix, remains, ⊕-done}
use Rattle.place.proofs.Coming.{Comes, stands}
use Rattle.place.specs.Stack.{frames}
use Rattle.place.specs.Spans.{Level, Stands, ground}

abbrev up : Option Levels → (Levels → Option Levels) → Option Levels
up none k = none
up (some ls) k = k ls

module _ (main : Forms) (leaves counts : List ℕ) where
  -- One level more.
  grow : Levels → ℕ → Option Levels
  grow ks k = then_at (ground main ks) (λ f. then_at (bind (suffix f (get_or leaves k 0)) (λ g. turned g (get_or counts k 0))) (λ g. some (g ∷ ks)))

  -- n levels more, above the level k.
  ascend : Option Levels → ℕ → ℕ → Option Levels
  ascend o k zero = o
  ascend o k (suc n) = ascend (up o (λ ks. grow ks (suc k))) (suc k) n

  ascend_none : (k n : ℕ) → ascend none k n ≡ none
  unfolding ascend
  ascend_none k zero = refl
  ascend_none k (suc n) = ascend_none (suc k) n

  up_spot : (o : Option Forms) (ks : Levels) (k n : ℕ) (c : Forms → Option Levels) → ((g : Forms) → o ≡ some g → ascend (some (g ∷ ks)) k n ≡ c g) →
      ascend (then_at o (λ g. some (g ∷ ks))) k n ≡ then_at o c
  up_spot none ks k n c h = ascend_none k n
  up_spot (some g) ks k n c h = h g refl

  no_ground : (ks : Levels) (k n : ℕ) → ground main ks ≡ none → ascend (some ks) k (suc n) ≡ none
  unfolding ascend grow
  no_ground ks k n e = rw e (ascend_none (suc k) n)

  inside_up : (g : Forms) (ks : Levels) (k n : ℕ) (c : Forms → Option Levels) → ((x : Forms) → inside_of g ≡ some x → ascend (some (g ∷ ks)) k (suc n) ≡ c x) →
      ascend (some (g ∷ ks)) k (suc n) ≡ then_at (inside_of g) c
  unfolding ground
  inside_up g ks k n c h =
      elim (known (inside_of g)) [
        | inl i ↦ no_ground (g ∷ ks) k n i ∙ sym (ap (λ (o : Option Forms). then_at o c) i)
        | inr i ↦ h i.0 i.1 ∙ sym (ap (λ (o : Option Forms). then_at o c) i.1)
      ]

  ascend_one : (ks : Levels) (f : Forms) (k n : ℕ) → ground main ks ≡ some f →
      ascend (some ks) k (suc n) ≡ ascend (then_at (bind (suffix f (get_or leaves (suc k) 0)) (λ g. turned g (get_or counts (suc k) 0))) (λ g. some (g ∷ ks))) (suc k) n
  unfolding ascend grow
  ascend_one ks f k n e = rw e

  ascend_levels : (n k : ℕ) (ks : Levels) (f : Forms) → ground main ks ≡ some f → ascend (some ks) k (suc n) ≡ decode f ks (frames leaves counts (suc k) (suc n))
  unfolding decode frames ground ascend
  ascend_levels zero k ks f e = ascend_one ks f k zero e
  ascend_levels (suc n) k ks f e =
      ascend_one ks f k (suc n) e ∙
      up_spot (bind (suffix f (get_or leaves (suc k) 0)) (λ g. turned g (get_or counts (suc k) 0))) ks (suc k) (suc n)
      (λ g. then_at (inside_of g) (λ x. decode x (g ∷ ks) (frames leaves counts (suc (suc k)) (suc n))))
      (λ g i. inside_up g ks (suc k) n (λ x. decode x (g ∷ ks) (frames leaves counts (suc (suc k)) (suc n))) (λ x j. ascend_levels n (suc k) (g ∷ ks) x j))

  -- The last level apart.
  ascend_last : (n k : ℕ) (o : Option Levels) → ascend o k (suc n) ≡ up (ascend o k n) (λ ks. grow ks (suc (k + n)))
  unfolding ascend
  ascend_last zero k o = let e : suc k ≡ suc (k + zero) = omega arith in ap (λ (j : ℕ). up o (λ ks. grow ks j)) e
  ascend_last (suc n) k o =
      let e : suc (suc k + n) ≡ suc (k + suc n) = omega arith in
      ascend_last n (suc k) (up o (λ ks. grow ks (suc k))) ∙ ap (λ (j : ℕ). up (ascend (up o (λ ks. grow ks (suc k))) (suc k) n) (λ ks. grow ks j)) e

  grow_level : (ks : Levels) (k : ℕ) (g : Forms) → Level main ks (get_or leaves k 0) (get_or counts k 0) g → grow ks k ≡ some (g ∷ ks)
  unfolding grow
  grow_level ks k g lv = rw (lv.opens, lv.found, lv.turns)

  climbs : (ls : Levels) → Stands main leaves counts ls → ascend (some []) zero (length ls) ≡ some ls
  unfolding Stands ascend
  climbs [] st = refl
  climbs (g ∷ ks) st =
      let e : length ks + 1 ≡ suc (zero + length ks) = omega arith in
      ascend_last (length ks) zero (some []) ∙ ap (λ (o : Option Levels). up o (λ js. grow js (suc (zero + length ks)))) (climbs ks st.0) ∙
      grow_level ks (suc (zero + length ks)) g (rw e at st.1)

  pub stands_levels : (ls : Levels) → 1 ≤ length ls → Stands main leaves counts ls → decode main [] (frames leaves counts 1 (length ls)) ≡ some ls
  unfolding ground
  stands_levels [] h st = absurd (omega arith)
  stands_levels (g ∷ ks) h st = sym (ascend_levels (length ks) zero [] main refl) ∙ climbs (g ∷ ks) st

  -- a run comes there.
  pub stands_comes : (ls : Levels) → 1 ≤ length ls → Stands main leaves counts ls → (p : Prefix main) × (remains p ≡ whole ls)
  unfolding below
  stands_comes ls h st = subst (λ f. Comes f (whole ls)) (⊕-done main) (stands main [] (frames leaves counts 1 (length ls)) ls (stands_levels ls h st))

  pub stands_traceable : (ls : Levels) → 1 ≤ length ls → Stands main leaves counts ls → Traceable main → Traceable (whole ls)
  stands_traceable ls h st t = let (p, e) = stands_comes ls h st in subst Traceable e (traceable_remains p t)

  -- The other way round.
  never_at : {ls : Levels} → none ≡ some ls → {A : Type 0} → A
  never_at {ls} e = absurd (let z : ◌≡◌ {A = ℕ} 0 1 = cc in omega arith)

  up_some : (o : Option Levels) (k : Levels → Option Levels) (ls : Levels) → up o k ≡ some ls → (ks : Levels) × (o ≡ some ks) × (k ks ≡ some ls)
  up_some none k ls e = never_at e
  up_some (some ks) k ls e = (ks, refl, e)

  then_some : (o : Option Forms) (k : Forms → Option Levels) (ls : Levels) → then_at o k ≡ some ls → (g : Forms) × (o ≡ some g) × (k g ≡ some ls)
  then_some none k ls e = never_at e
  then_some (some g) k ls e = (g, refl, e)

  bind_some : (o : Option Forms) (k : Forms → Option Forms) (f : Forms) → bind o k ≡ some f → (g : Forms) × (o ≡ some g) × (k g ≡ some f)
  bind_some none k f e = never e
  bind_some (some g) k f e = (g, refl, e)

  grown : (ks : Levels) (k : ℕ) (ls : Levels) → grow ks k ≡ some ls → (g : Forms) × (ls ≡ g ∷ ks) × Level main ks (get_or leaves k 0) (get_or counts k 0) g
  unfolding grow
  grown ks k ls e =
      let (f, a, b) = then_some (ground main ks) (λ f. then_at (bind (suffix f (get_or leaves k 0)) (λ g. turned g (get_or counts k 0))) (λ g. some (g ∷ ks))) ls e in
      let (g, c, d) = then_some (bind (suffix f (get_or leaves k 0)) (λ g. turned g (get_or counts k 0))) (λ g. some (g ∷ ks)) ls b in
      let (s, i, j) = bind_some (suffix f (get_or leaves k 0)) (λ g. turned g (get_or counts k 0)) g c in
      (g, cc, record { level = f; opens = a; start = s; found = i; turns = j })

  stand_up : (l k : ℕ) (ks : Levels) (g : Forms) (ls : Levels) → ls ≡ g ∷ ks → Stands main leaves counts ks → length ks ≡ l → k ≡ length ks + 1 →
      Level main ks (get_or leaves k 0) (get_or counts k 0) g → Stands main leaves counts ls × (length ls ≡ suc l)
  unfolding Stands
  stand_up l k ks g ls c st d e lv = rw c ((st, rw e at lv), ap suc d)

  climbed : (l : ℕ) (ls : Levels) → ascend (some []) zero l ≡ some ls → Stands main leaves counts ls × (length ls ≡ l)
  unfolding Stands ascend
  climbed zero ls e = let z : ◌≡◌ {A = Levels} [] ls = cc in rw (sym z) (tt, refl)
  climbed (suc l) ls e =
      let (ks, a, b) = up_some (ascend (some []) zero l) (λ js. grow js (suc (zero + l))) ls (sym (ascend_last l zero (some [])) ∙ e) in
      let (g, c, lv) = grown ks (suc (zero + l)) ls b in
      let (st, d) = climbed l ks a in
      stand_up l (suc (zero + l)) ks g ls c st d (omega arith) lv

  -- The levels that the model reads off a stack of l frames.
  pub levels_stand : (l : ℕ) (ls : Levels) → 1 ≤ l → decode main [] (frames leaves counts 1 l) ≡ some ls → Stands main leaves counts ls × (length ls ≡ l)
  unfolding ground
  levels_stand zero ls h e = absurd (omega arith)
  levels_stand (suc l) ls h e = climbed (suc l) ls (ascend_levels l zero [] main refl ∙ e)
