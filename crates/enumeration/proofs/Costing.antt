-- The costs of each leaf of a table's row are in range. Assumes nothing.
use mathlib.Core.List.{List}
use mathlib.Core.Path.{◌≡◌, subst}
use Prim.Native.Nat.{ℕ, zero, suc, ◌+◌, ◌-◌, ◌≤◌, ◌<◌}
use native.Mathlib.Decide.{dec_lt}
use native.Mathlib.Omega.{arith}
use lib.ListN.{get_or}
use Rattle.model.specs.Plan.{Block, Lines, close, leaf_line, call_line, loop_line, if_line}
use Rattle.model.specs.Acceptance.{Costs}
use Rattle.rows.specs.Rows.{block_at, after_at, other_at, Rep, Rules}
use Rattle.place.specs.Stack.{FunctionTable}

module _ (w : List ℕ) where
  -- The first of some lines has these costs, and so has each other.
  abbrev At : ℕ → Type 0
  At j = Costs (block_at w j)

  here_or : (i j : ℕ) (b : Block) → b ≡ block_at w i → Costs b → i ≤ j → (i + 1 ≤ j → At j) → At j
  here_or i j b e c h f =
      elim (dec_lt i j) [
        | yes g ↦ f (omega arith)
        | no g ↦ let q : i ≡ j = omega arith in let x : At i = rw e at c in subst At q x
      ]

  split_or : (j m : ℕ) → (j < m → At j) → (m ≤ j → At j) → At j
  split_or j m f g = elim (dec_lt j m) [ yes h ↦ f h | no h ↦ g (omega arith) ]

  costs_in : (hs : List ℕ) (left l i e : ℕ) (ls : Lines) → Rep w l i e ls → Rules hs left l ls → (j : ℕ) → i ≤ j → j < e → At j
  unfolding Rep Rules
  costs_in hs left l i e close h q j a b = absurd (omega arith)
  costs_in hs left l i e (leaf_line x r) h q j a b = here_or i j x h.0.1 q.0 a (λ g. costs_in hs left l (after_at w i) e r h.4 q.2 j (omega arith) b)
  costs_in hs left l i e (call_line x f r) h q j a b = here_or i j x h.0.1 q.0 a (λ g. costs_in hs left l (after_at w i) e r h.4 q.4 j (omega arith) b)
  costs_in hs left l i e (loop_line x n body r) h q j a b =
      here_or i j x h.0.1 q.0 a
      (λ g. split_or j (after_at w i) (λ k. costs_in hs (left - 1) (suc l) (i + 1) (after_at w i) body h.3 q.5 j g k)
      (λ k. costs_in hs left l (after_at w i) e r h.4 q.6 j k b))
  costs_in hs left l i e (if_line x t s r) h q j a b =
      here_or i j x h.0.1 q.0 a (λ g.
      split_or j (other_at w i) (λ k. costs_in hs (left - 2) l (i + 1) (other_at w i) t h.2 q.3 j g k)
      (λ k. split_or j (after_at w i) (λ m. costs_in hs (left - 2) l (other_at w i) (after_at w i) s h.3 q.4 j k m)
      (λ m. costs_in hs left l (after_at w i) e r h.4 q.5 j m b)))

  -- Each leaf of the first f functions.
  below : {starts : List ℕ} {n : ℕ} → FunctionTable w starts n → get_or starts 0 0 ≡ 0 → (f : ℕ) → f ≤ n → (j : ℕ) → j < get_or starts f 0 → At j
  below t z zero h j a = absurd (omega arith)
  below {starts} t z (suc f) h j a =
      split_or j (get_or starts f 0) (λ k. below t z f (omega arith) j k)
      (λ k. let p = (t.each f (omega arith)).piece in
      costs_in p.heights 62 p.level (get_or starts f 0) (get_or starts (f + 1) 0) p.part.lines p.part.rep p.part.rules j k
      (let e : f + 1 ≡ suc f = omega arith in rw e a))

  pub costs_of : {starts : List ℕ} {n : ℕ} → FunctionTable w starts n → get_or starts 0 0 ≡ 0 → (j : ℕ) → j < get_or starts n 0 → At j
  costs_of {n = n} t z j a = below t z n (omega arith) j a
