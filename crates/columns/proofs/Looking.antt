-- What stands in a column at the place of a leaf: its tail. Assumes nothing.
use mathlib.Core.Path.{◌≡◌, refl, sym, ap, ◌∙◌}
use mathlib.Core.List.{List, [], ◌∷◌, ◌++◌}
use Prim.Native.Nat.{ℕ, suc, ◌+◌, ◌-◌, ◌*◌, ◌≤◌, ◌<◌, max}
use native.Mathlib.Omega.{arith}
use native.Mathlib.Decide.{dec_lt}
use lib.Dec.{eqb}
use lib.ListN.{length, get_or, set, length-set}
use lib.Seq.{sets, get_or-set_same}
use borrow.Author.Tests.{eq-eqb, ne_eqb}
use Rattle.model.specs.Plan.{Block, C, Lines, close, leaf_line, call_line, loop_line, if_line}
use Rattle.model.specs.Total.{tally}
use Rattle.model.specs.Tail.{tail, mine}
use Rattle.model.specs.Places.{pick}
use Rattle.rows.specs.Rows.{field, after_at, block_at, Rep}
use Rattle.columns.specs.Sums.{lead}
use Rattle.columns.specs.Columns.{ColumnRule, column_of, rounds, tail_rule, Contains}
use Rattle.columns.proofs.Stores.{sets_below}
use Rattle.columns.proofs.Fronts.{column_fill}

max_assoc : (a b c : ℕ) → max (max a b) c ≡ max a (max b c)
max_assoc a b c = omega arith

-- What stands at x, in numbers that lie from i on; 0 outside.
unfoldable pub look : ℕ → ℕ → List ℕ → ℕ
look i x [] = 0
look i x (v ∷ vs) = max (pick (eqb i x) v 0) (look (suc i) x vs)

look_append : (vs us : List ℕ) (i j x : ℕ) → j ≡ i + length vs → look i x (vs ++ us) ≡ max (look i x vs) (look j x us)
unfolding look
look_append [] us i j x e = let e' : j ≡ i = omega arith in rw e' (omega arith)
look_append (v ∷ vs) us i j x e = rw (look_append vs us (suc i) j x (omega arith)) (sym (max_assoc (pick (eqb i x) v 0) (look (suc i) x vs) (look j x us)))

pub at_else : (i x v : ℕ) → (i ≡ x → ⊥) → pick (eqb i x) v 0 ≡ 0
at_else i x v h = rw (ne_eqb i x h)

pub at_same : (i x v : ℕ) → i ≡ x → pick (eqb i x) v 0 ≡ v
at_same i x v h = rw (eq-eqb i x h)

pub look_below : (vs : List ℕ) (i x : ℕ) → x < i → look i x vs ≡ 0
unfolding look
look_below [] i x h = refl
look_below (v ∷ vs) i x h = omega (arith, at_else i x v (omega arith), look_below vs (suc i) x (omega arith))

pub look_above : (vs : List ℕ) (i x : ℕ) → i + length vs ≤ x → look i x vs ≡ 0
unfolding look
look_above [] i x h = refl
look_above (v ∷ vs) i x h = omega (arith, at_else i x v (omega arith), look_above vs (suc i) x (omega arith))

-- Stores, read back.
pub sets_look : (vs o : List ℕ) (i x : ℕ) → i + length vs ≤ length o → i ≤ x → x < i + length vs → get_or (sets o i vs) x 0 ≡ look i x vs
unfolding look
sets_look [] o i x h l u = absurd (omega arith)
sets_look (v ∷ vs) o i x h l u =
    elim (dec_lt i x) [
      | yes lt ↦
          let r = sets_look vs (set o i v) (suc i) x (omega (arith, length-set o i v)) (omega arith) (omega arith) in
          omega (arith, r, at_else i x v (omega arith))
      | no ge ↦
          let e : i ≡ x = omega arith in
          let a = sets_below vs (set o i v) (suc i) x (omega arith) in
          let b : get_or (set o i v) x 0 ≡ v = rw (← e) (get_or-set_same o i v 0 (omega arith)) in
          omega (arith, a, b, at_same i x v e, look_below vs (suc i) x (omega arith))
    ]

module _ (u : ColumnRule) where
  pub fill_of : (w : List ℕ) (v i e : ℕ) (l : Lines) (s : ℕ) → Rep w v i e l → e ≡ i + length (column_of u l s)
  fill_of w v i e l s h = sym (column_fill u w v i e l s h)

  -- A loop, and an if: the column of the parts.
  pub look_loop : (x : ℕ) (w : List ℕ) (v i e : ℕ) (body : Lines) (y : ℕ) (vs : List ℕ) → Rep w v (i + 1) e body
      → look (suc i) x (column_of u body y ++ vs) ≡ max (look (i + 1) x (column_of u body y)) (look e x vs)
  look_loop x w v i e body y vs h =
      let j : i + 1 ≡ suc i = omega arith in
      rw j (look_append (column_of u body y) vs (suc i) e x (omega (arith, fill_of w v (i + 1) e body y h)))

  pub look_if : (x : ℕ) (w : List ℕ) (v i m e : ℕ) (t f : Lines) (y : ℕ) (vs : List ℕ) → Rep w v (i + 1) m t → Rep w v m e f
      → look (suc i) x (column_of u t y ++ (column_of u f y ++ vs)) ≡ max (look (i + 1) x (column_of u t y)) (max (look m x (column_of u f y)) (look e x vs))
  look_if x w v i m e t f y vs h k =
      look_loop x w v i m t y (column_of u f y ++ vs) h ∙ ap (λ (z : ℕ). max (look (i + 1) x (column_of u t y)) z) (look_append (column_of u f y) vs m e x (fill_of w v m e f y k))

add_assoc : (a b c : ℕ) → a + b + c ≡ a + (b + c)
add_assoc a b c = omega arith

mine_at : (w : List ℕ) (i x : ℕ) {a c : ℕ} (b : Block) → b ≡ block_at w i → a ≡ c → mine x b a ≡ pick (eqb i x) c 0
mine_at w i x {a} {c} b e h = ap (λ (y : Block). pick (eqb y.number x) a 0) e ∙ ap (λ (y : ℕ). pick (eqb i x) y 0) h

-- The tail of the leaf x is what stands at x.
pub tail_look : (ts : List ℕ) (x : ℕ) (w : List ℕ) (v i e : ℕ) (l : Lines) (s : ℕ) → Rep w v i e l → tail ts x l s ≡ look i x (column_of (tail_rule ts) l s)
unfolding tail look column_of Rep tally lead rounds
tail_look ts x w v i e close s h = refl
tail_look ts x w v i e (leaf_line b r) s h =
    let j : after_at w i ≡ suc i = omega arith in
    let y = rw j at (tail_look ts x w v (after_at w i) e r s h.4) in
    rw (mine_at w i x b h.0.1 (add_assoc (C b) (tally C ts r) s), y)
tail_look ts x w v i e (call_line b f r) s h =
    let j : after_at w i ≡ suc i = omega arith in
    let y = rw j at (tail_look ts x w v (after_at w i) e r s h.4) in
    rw (mine_at w i x b h.0.1 (add_assoc (C b + get_or ts f 0) (tally C ts r) s), y)
tail_look ts x w v i e (loop_line b n body r) s h =
    let k = C b + (n - 1) * (tally C ts body + C b) in
    let z = tail_look ts x w v (after_at w i) e r s h.4 in
    let y = tail_look ts x w (suc v) (i + 1) (after_at w i) body (k + (tally C ts r + s)) h.3 in
    let u = look_loop (tail_rule ts) x w (suc v) i (after_at w i) body (k + (tally C ts r + s)) (column_of (tail_rule ts) r s) h.3 in
    rw (mine_at w i x b h.0.1 (add_assoc (C b + n * (tally C ts body + C b)) (tally C ts r) s), add_assoc k (tally C ts r) s, y, z, u)
tail_look ts x w v i e (if_line b t f r) s h =
    let c = tally C ts r + s in
    let z = tail_look ts x w v (after_at w i) e r s h.4 in
    let y₁ = tail_look ts x w v (i + 1) (field w i 5) t c h.2 in
    let y₂ = tail_look ts x w v (field w i 5) (after_at w i) f c h.3 in
    let u = look_if (tail_rule ts) x w v i (field w i 5) (after_at w i) t f c (column_of (tail_rule ts) r s) h.2 h.3 in
    rw (mine_at w i x b h.0.1 (add_assoc (C b + max (tally C ts t) (tally C ts f)) (tally C ts r) s), y₁, y₂, z, u)

-- What stands in a row, read at x.
pub contains_look : (vs o : List ℕ) (i x : ℕ) → Contains o i vs → i ≤ x → x < i + length vs → get_or o x 0 ≡ look i x vs
unfolding look Contains
contains_look [] o i x h l u = absurd (omega arith)
contains_look (v ∷ vs) o i x h l u =
    elim (dec_lt i x) [
      | yes lt ↦ omega (arith, contains_look vs o (suc i) x h.1 (omega arith) (omega arith), at_else i x v (omega arith))
      | no ge ↦
          let e : i ≡ x = omega arith in
          let b : get_or o x 0 ≡ v = rw (← e) h.0 in
          omega (arith, b, at_same i x v e, look_below vs (suc i) x (omega arith))
    ]
