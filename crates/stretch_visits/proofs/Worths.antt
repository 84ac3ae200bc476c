-- The worth of the first form, by its record; and what is behind its first visit. Plain mathematics: no code is named here. Assumes nothing.
use mathlib.Core.Path.{◌≡◌, refl, ap, ◌∙◌}
use mathlib.Core.Bool.{true, false}
use mathlib.Core.List.{List}
use lib.ListN.{get_or}
use Prim.Native.Nat.{ℕ, ◌+◌, ◌*◌, ◌<◌, max}
use native.Mathlib.Omega.{arith}
use borrow.Author.Tests.{eq-eqb, ne_eqb}
use Rattle.model.specs.Plan.{Block, Lines, close, leaf_line, call_line, loop_line, if_line}
use Rattle.model.specs.Forms.{Forms, done, forms}
use Rattle.model.specs.Total.{total}
use Rattle.model.specs.Places.{pick}
use Rattle.rows.specs.Rows.{kind_at, point_at, block_at, Rep}
use Rattle.rows.specs.First.{rest}
use Rattle.place.specs.Spans.{first_form}
use Rattle.outlook.specs.Quiets.{still}
use Rattle.stretch_visits.specs.Private.{inner, worth_rounds}
use Rattle.stretch_visits.specs.Worth.{by_sums, worth, worth_behind}

point_of : {b c : Block} → b ≡ c → b.point ≡ c.point
point_of e = ap (λ (b : Block). b.point) e

-- The first form, and then the others.
pub worth_step : (k m : Block → ℕ) (G : List Forms) (l : Lines) (e x : ℕ) →
    worth k m (forms G l) e x ≡ worth k m (first_form (forms G l)) (still k (forms G (rest l)) e) (worth k m (forms G (rest l)) e x)
unfolding forms worth still first_form rest
worth_step k m G close e x = refl
worth_step k m G (leaf_line b r) e x = refl
worth_step k m G (call_line b f r) e x = refl
worth_step k m G (loop_line b n body r) e x = refl
worth_step k m G (if_line b t s r) e x = refl

-- At a point.
pub point_worth : (k m : Block → ℕ) (w : List ℕ) (lv i e : ℕ) (G : List Forms) (l : Lines) (s x : ℕ) → Rep w lv i e l → i < e → point_at w i ≡ 1 →
    worth k m (first_form (forms G l)) s x ≡ 0
unfolding Rep forms first_form worth
point_worth k m w lv i e G close s x h lt q = absurd (omega arith)
point_worth k m w lv i e G (leaf_line b r) s x h lt q = let z : b.point ≡ true = point_of h.0.1 ∙ eq-eqb (point_at w i) 1 q in rw z (refl {a = 0})
point_worth k m w lv i e G (call_line b f r) s x h lt q = let z : b.point ≡ true = point_of h.0.1 ∙ eq-eqb (point_at w i) 1 q in rw z (refl {a = 0})
point_worth k m w lv i e G (loop_line b n body r) s x h lt q = let z : b.point ≡ true = point_of h.0.1 ∙ eq-eqb (point_at w i) 1 q in rw z (refl {a = 0})
point_worth k m w lv i e G (if_line b t f r) s x h lt q = let z : b.point ≡ true = point_of h.0.1 ∙ eq-eqb (point_at w i) 1 q in rw z (refl {a = 0})

-- A silent form without more in it.
pub flat_worth : (k m : Block → ℕ) (w : List ℕ) (lv i e : ℕ) (G : List Forms) (l : Lines) → Rep w lv i e l → i < e → (point_at w i ≡ 1 → ⊥)
    → (kind_at w i ≡ 1 → ⊥) → (kind_at w i ≡ 2 → ⊥) → (kind_at w i ≡ 3 → ⊥) → (s x : ℕ) → worth k m (first_form (forms G l)) s x ≡ m (block_at w i) + x
unfolding Rep forms first_form worth
flat_worth k m w lv i e G close h lt q k1 k2 k3 s x = absurd (omega arith)
flat_worth k m w lv i e G (leaf_line b r) h lt q k1 k2 k3 s x =
    let z : b.point ≡ false = point_of h.0.1 ∙ ne_eqb (point_at w i) 1 q in
    let y : pick b.point 0 (m b + x) ≡ m b + x = ap (λ a. pick a 0 (m b + x)) z in
    y ∙ ap (λ (c : Block). m c + x) h.0.1
flat_worth k m w lv i e G (call_line b f r) h lt q k1 k2 k3 s x = absurd (k1 h.0.0)
flat_worth k m w lv i e G (loop_line b n body r) h lt q k1 k2 k3 s x = absurd (k2 h.0.0)
flat_worth k m w lv i e G (if_line b t f r) h lt q k1 k2 k3 s x = absurd (k3 h.0.0)

-- What the first form costs is its first visit, and what is behind it.
pub total_inner : (k : Block → ℕ) (w : List ℕ) (lv i e : ℕ) (G : List Forms) (l : Lines) → Rep w lv i e l → i < e →
    total k (first_form (forms G l)) ≡ k (block_at w i) + inner k (forms G l)
unfolding Rep forms first_form total inner
total_inner k w lv i e G close h lt = absurd (omega arith)
total_inner k w lv i e G (leaf_line b r) h lt = omega (arith, ap k h.0.1)
total_inner k w lv i e G (call_line b f r) h lt = omega (arith, ap k h.0.1)
total_inner k w lv i e G (loop_line b n body r) h lt = omega (arith, ap k h.0.1)
total_inner k w lv i e G (if_line b t s r) h lt = omega (arith, ap k h.0.1)

-- By the shape of the lines.
module _ (k m : Block → ℕ) (G : List Forms) where
  pub call_worth : (l : Lines) (b : Block) (f : ℕ) (r : Lines) → l ≡ call_line b f r → b.point ≡ false →
      (s x : ℕ) → worth k m (first_form (forms G l)) s x ≡ m b + (worth k m (get_or G f done) 0 0 + x)
  unfolding forms first_form worth
  call_worth l b f r e z = rw e (rw z (λ s x. omega arith))

  pub loop_worth : (l : Lines) (b : Block) (n : ℕ) (body r : Lines) → l ≡ loop_line b n body r → b.point ≡ false →
      (s x : ℕ) → worth k m (first_form (forms G l)) s x ≡ m b + (worth_rounds k m (forms G l) + x)
  unfolding forms first_form worth worth_rounds
  loop_worth l b n body r e z = rw e (rw z (λ s x. omega arith))

  pub if_worth : (l : Lines) (b : Block) (t s r : Lines) → l ≡ if_line b t s r → b.point ≡ false →
      (e x : ℕ) → worth k m (first_form (forms G l)) e x ≡ m b + worth_behind k m (first_form (forms G l)) e x
  unfolding forms first_form worth worth_behind still
  if_worth l b t s r e z = rw e (rw z (λ e x. refl))

  -- Behind the first visit.
  pub call_inner : (l : Lines) (b : Block) (f : ℕ) (r : Lines) → l ≡ call_line b f r → inner k (forms G l) ≡ total k (get_or G f done)
  unfolding forms inner
  call_inner l b f r e = rw e refl

  pub loop_inner : (l : Lines) (b : Block) (n : ℕ) (body r : Lines) → l ≡ loop_line b n body r →
      (worth_rounds k m (forms G l) ≡ n * (worth k m (forms G body) 0 0 + m b)) × (inner k (forms G l) ≡ n * (total k (forms G body) + k b))
  unfolding forms worth_rounds inner
  loop_inner l b n body r e = rw e (refl, refl)

  pub if_inner : (l : Lines) (b : Block) (t s r : Lines) → l ≡ if_line b t s r →
      ((e x : ℕ) → worth_behind k m (first_form (forms G l)) e x ≡ by_sums (still k (forms G t) e) (still k (forms G s) e) (worth k m (forms G t) e x) (worth k m (forms G s) e x)) ×
      (inner k (forms G l) ≡ max (total k (forms G t)) (total k (forms G s)))
  unfolding forms first_form worth worth_behind still inner
  if_inner l b t s r e = rw e ((λ e x. refl), refl)
