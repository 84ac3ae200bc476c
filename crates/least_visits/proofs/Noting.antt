-- What is noted of lines depends on their own entries alone, and what is held of their least number of visits on what is held of their parts'. Plain
-- mathematics: no code is named here. Assumes nothing.
use mathlib.Core.Path.{◌≡◌, refl, ◌∙◌}
use mathlib.Core.List.{List}
use Prim.Native.Nat.{ℕ, suc, ◌+◌, ◌≤◌, ◌<◌, min}
use native.Mathlib.Omega.{arith}
use lib.ListN.{get_or}
use Rattle.model.specs.Plan.{Block, Lines, close, leaf_line, call_line, loop_line, if_line}
use Rattle.model.specs.Forms.{Forms, done, forms}
use Rattle.short_runs.specs.Listing.{least}
use Rattle.rows.specs.Rows.{kind_at, other_at, after_at, Rep}
use Rattle.rows.proofs.Shape.{rep_le}
use Rattle.least_visits.specs.Least.{held_visits, HasLeasts}

-- The entries from i up to e are the same.
abbrev pub Same : List ℕ → List ℕ → ℕ → ℕ → Type 0
Same a b i e = (j : ℕ) → i ≤ j → j < e → get_or b j 0 ≡ get_or a j 0

module _ (w : List ℕ) (G : List Forms) (a b : List ℕ) where
  pub noted_same : (l i e : ℕ) (ls : Lines) → Rep w l i e ls → Same a b i e → HasLeasts w G a i ls → HasLeasts w G b i ls
  unfolding Rep HasLeasts
  noted_same l i e close h s n = tt
  noted_same l i e (leaf_line c r) h s n =
      let le = rep_le w l (after_at w i) e r h.4 in
      (s i (omega arith) (omega arith) ∙ n.0, noted_same l (after_at w i) e r h.4 (λ j lo hi. s j (omega arith) hi) n.1)
  noted_same l i e (call_line c f r) h s n =
      let le = rep_le w l (after_at w i) e r h.4 in
      (s i (omega arith) (omega arith) ∙ n.0, noted_same l (after_at w i) e r h.4 (λ j lo hi. s j (omega arith) hi) n.1)
  noted_same l i e (loop_line c m body r) h s n =
      let le = rep_le w (suc l) (i + 1) (after_at w i) body h.3 in
      let re = rep_le w l (after_at w i) e r h.4 in (
        s i (omega arith) (omega arith) ∙ n.0,
        noted_same (suc l) (i + 1) (after_at w i) body h.3 (λ j lo hi. s j (omega arith) (omega arith)) n.1,
        noted_same l (after_at w i) e r h.4 (λ j lo hi. s j (omega arith) hi) n.2,
      )
  noted_same l i e (if_line c t u r) h s n =
      let le = rep_le w l (i + 1) (other_at w i) t h.2 in
      let me = rep_le w l (other_at w i) (after_at w i) u h.3 in
      let re = rep_le w l (after_at w i) e r h.4 in (
        s i (omega arith) (omega arith) ∙ n.0,
        noted_same l (i + 1) (other_at w i) t h.2 (λ j lo hi. s j (omega arith) (omega arith)) n.1,
        noted_same l (other_at w i) (after_at w i) u h.3 (λ j lo hi. s j (omega arith) (omega arith)) n.2,
        noted_same l (after_at w i) e r h.4 (λ j lo hi. s j (omega arith) hi) n.3,
      )

-- What is noted of lines: the first form's own entry, its parts and the lines after it.
module _ (w : List ℕ) (G : List Forms) (column : List ℕ) (i : ℕ) (ls : Lines) where
  pub noted_none : ls ≡ close → HasLeasts w G column i ls
  unfolding HasLeasts
  noted_none e = rw e tt

  module _ (own : get_or column i 0 ≡ held_visits (least (forms G ls))) {r : Lines} (c : Block) (after : HasLeasts w G column (after_at w i) r) where
    pub noted_leaf : ls ≡ leaf_line c r → HasLeasts w G column i ls
    unfolding HasLeasts
    noted_leaf e = rw e (rw e at own, after)

    pub noted_call : (f : ℕ) → ls ≡ call_line c f r → HasLeasts w G column i ls
    unfolding HasLeasts
    noted_call f e = rw e (rw e at own, after)

    pub noted_loop : {body : Lines} (m : ℕ) → ls ≡ loop_line c m body r → HasLeasts w G column (i + 1) body → HasLeasts w G column i ls
    unfolding HasLeasts
    noted_loop m e n = rw e (rw e at own, n, after)

    pub noted_if : {t u : Lines} → ls ≡ if_line c t u r → HasLeasts w G column (i + 1) t → HasLeasts w G column (other_at w i) u → HasLeasts w G column i ls
    unfolding HasLeasts
    noted_if e n k = rw e (rw e at own, n, k, after)

-- What is held of a sum is what is held of a sum of what is held, form by form: x is held of the lines after the first form.
module _ (G : List Forms) {ls r : Lines} {x : ℕ} (hx : x ≡ held_visits (least (forms G r))) where
  pub least_leaf : (c : Block) → ls ≡ leaf_line c r → held_visits (1 + 0 + x) ≡ held_visits (least (forms G ls))
  unfolding least forms
  least_leaf c e = rw e (omega arith)

  pub least_call : {y : ℕ} (c : Block) (f : ℕ) → ls ≡ call_line c f r → y ≡ held_visits (least (get_or G f done)) →
      held_visits (1 + y + x) ≡ held_visits (least (forms G ls))
  unfolding least forms
  least_call c f e hy = rw e (omega arith)

  pub least_loop : (c : Block) (m : ℕ) (body : Lines) → ls ≡ loop_line c m body r → held_visits (1 + 0 + x) ≡ held_visits (least (forms G ls))
  unfolding least forms
  least_loop c m body e = rw e (omega arith)

  pub least_if : {y z : ℕ} {t u : Lines} (c : Block) → ls ≡ if_line c t u r → y ≡ held_visits (least (forms G t)) → z ≡ held_visits (least (forms G u))
      → held_visits (1 + min y z + x) ≡ held_visits (least (forms G ls))
  unfolding least forms
  least_if c e hy hz = rw e (omega arith)

pub least_none : (G : List Forms) (ls : Lines) → ls ≡ close → 0 ≡ held_visits (least (forms G ls))
unfolding least forms
least_none G ls e = rw e refl

-- A form is of one of four kinds.
pub kind_few : (w : List ℕ) (l i e : ℕ) (ls : Lines) → Rep w l i e ls → i < e → kind_at w i ≤ 3
unfolding Rep
kind_few w l i e close h lt = absurd (omega arith)
kind_few w l i e (leaf_line c r) h lt = omega (arith, h.0.0)
kind_few w l i e (call_line c f r) h lt = omega (arith, h.0.0)
kind_few w l i e (loop_line c m body r) h lt = omega (arith, h.0.0)
kind_few w l i e (if_line c t u r) h lt = omega (arith, h.0.0)
