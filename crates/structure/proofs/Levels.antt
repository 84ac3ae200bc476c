-- The height of lines is the greatest reach of their records. Assumes nothing.
use mathlib.Core.Path.{◌≡◌, refl, sym, ap, ◌∙◌}
use mathlib.Core.List.{List, map}
use mathlib.Core.Logic.{◌⊎◌, inl, inr, ⊎_elim}
use Prim.Native.Nat.{ℕ, zero, suc, ◌+◌, ◌-◌, ◌≤◌, ◌<◌, max}
use native.Mathlib.Omega.{arith}
use native.Mathlib.Decide.{dec_le, dec_lt}
use lib.ListN.{get_or}
use borrow.Author.Tests.{eq-eqb, ne_eqb}
use Rattle.model.specs.Plan.{Lines, close, leaf_line, call_line, loop_line, if_line}
use Rattle.model.specs.Levels.{height}
use Rattle.rows.specs.Rows.{kind_at, detail_at, other_at, after_at, level_at, Rep, Part}
use Rattle.rows.proofs.Shape.{rep_le}
use Rattle.std.specs.List.{fold, reduce, range_with_len}
use Rattle.std.specs.Option.{option_map, unwrap_or}
use Rattle.std.proofs.lemmas.Iterator.Adapters.{option_map_id}
use Rattle.std.proofs.lemmas.List.Folds.{fold-map}
use Rattle.std.specs.Prelude.{Option}
use Rattle.structure.specs.Private.{top, Readable}
use Rattle.structure.proofs.Found.{found, found_sound}

module _ (w hs : List ℕ) (i : ℕ) where
  pub top_own : (kind_at w i ≡ 1 → ⊥) → top w hs i ≡ level_at w i
  unfolding top
  top_own n = rw (ne_eqb (kind_at w i) 1 n) (omega arith)

  pub top_call : kind_at w i ≡ 1 → top w hs i ≡ level_at w i + get_or hs (detail_at w i) 0
  unfolding top
  top_call e = rw (eq-eqb (kind_at w i) 1 e)

module _ (w hs : List ℕ) where
  -- No record reaches over the height.
  over : (ls : Lines) (l i e : ℕ) → Rep w l i e ls → (j : ℕ) → i ≤ j → j < e → top w hs j + 1 ≤ l + height hs ls
  unfolding Rep height
  over close l i e h j a b = absurd (omega arith)
  over (leaf_line x r) l i e h j a b =
      elim (dec_le j i) [
        | yes z ↦ let q : j ≡ i = omega arith in omega (arith, ap (top w hs) q, top_own w hs i (λ y. omega arith))
        | no z ↦ omega (arith, over r l (after_at w i) e h.4 j (omega arith) b)
      ]
  over (call_line x f r) l i e h j a b =
      elim (dec_le j i) [
        | yes z ↦
            let q : j ≡ i = omega arith in
            let y : get_or hs (detail_at w i) 0 ≡ get_or hs f 0 = rw h.1 in
            omega (arith, ap (top w hs) q, top_call w hs i h.0.0)
        | no z ↦ omega (arith, over r l (after_at w i) e h.4 j (omega arith) b)
      ]
  over (loop_line x n body r) l i e h j a b =
      elim (dec_le j i) [
        | yes z ↦ let q : j ≡ i = omega arith in omega (arith, ap (top w hs) q, top_own w hs i (λ y. omega arith))
        | no z ↦
            elim (dec_lt j (after_at w i)) [
              | yes y ↦ omega (arith, over body (suc l) (i + 1) (after_at w i) h.3 j (omega arith) y)
              | no y ↦ omega (arith, over r l (after_at w i) e h.4 j (omega arith) b)
            ]
      ]
  over (if_line x t s r) l i e h j a b =
      elim (dec_le j i) [
        | yes z ↦ let q : j ≡ i = omega arith in omega (arith, ap (top w hs) q, top_own w hs i (λ y. omega arith))
        | no z ↦
            elim (dec_lt j (other_at w i)) [
              | yes y ↦ omega (arith, over t l (i + 1) (other_at w i) h.2 j (omega arith) y)
              | no y ↦
                  elim (dec_lt j (after_at w i)) [
                    | yes u ↦ omega (arith, over s l (other_at w i) (after_at w i) h.3 j (omega arith) u)
                    | no u ↦ omega (arith, over r l (after_at w i) e h.4 j (omega arith) b)
                  ]
            ]
      ]

  -- Where no record reaches over m, the height does not.
  under : (m : ℕ) (ls : Lines) (l i e : ℕ) → Rep w l i e ls → l ≤ m + 1 → ((j : ℕ) → i ≤ j → j < e → top w hs j ≤ m) → l + height hs ls ≤ m + 1
  unfolding Rep height
  under m close l i e h z all = omega arith
  under m (leaf_line x r) l i e h z all =
      let k = rep_le w l (after_at w i) e r h.4 in
      let u = all i (omega arith) (omega arith) in
      let v = under m r l (after_at w i) e h.4 z (λ j a b. all j (omega arith) b) in
      omega (arith, top_own w hs i (λ y. omega arith))
  under m (call_line x f r) l i e h z all =
      let k = rep_le w l (after_at w i) e r h.4 in
      let u = all i (omega arith) (omega arith) in
      let v = under m r l (after_at w i) e h.4 z (λ j a b. all j (omega arith) b) in
      let y : get_or hs (detail_at w i) 0 ≡ get_or hs f 0 = rw h.1 in
      omega (arith, top_call w hs i h.0.0)
  under m (loop_line x n body r) l i e h z all =
      let k = rep_le w (suc l) (i + 1) (after_at w i) body h.3 in
      let o = rep_le w l (after_at w i) e r h.4 in
      let u = all i (omega arith) (omega arith) in
      let y = top_own w hs i (λ y. omega arith) in
      let v = under m body (suc l) (i + 1) (after_at w i) h.3 (omega arith) (λ j a b. all j (omega arith) (omega arith)) in
      let t = under m r l (after_at w i) e h.4 z (λ j a b. all j (omega arith) b) in
      omega arith
  under m (if_line x t s r) l i e h z all =
      let k = rep_le w l (i + 1) (other_at w i) t h.2 in
      let o = rep_le w l (other_at w i) (after_at w i) s h.3 in
      let p = rep_le w l (after_at w i) e r h.4 in
      let u = all i (omega arith) (omega arith) in
      let y = top_own w hs i (λ y. omega arith) in
      let a₁ = under m t l (i + 1) (other_at w i) h.2 z (λ j a b. all j (omega arith) (omega arith)) in
      let a₂ = under m s l (other_at w i) (after_at w i) h.3 z (λ j a b. all j (omega arith) (omega arith)) in
      let a₃ = under m r l (after_at w i) e h.4 z (λ j a b. all j (omega arith) b) in
      omega arith

-- h is the greatest reach of the records from i up to e, and 0 of none.
pub record Highest (w hs : List ℕ) (i e h : ℕ) : Type 0 where
  pub all : (j : ℕ) → i ≤ j → j < e → top w hs j ≤ h
  pub some : (h ≡ 0) ⊎ ((j : ℕ) × (i ≤ j) × (j < e) × (top w hs j ≡ h))

-- The greatest reach is the height of a function's lines.
pub height_reached : {w hs : List ℕ} {i e h : ℕ} (ls : Lines) → Rep w 1 i e ls → Highest w hs i e h → h ≡ height hs ls
height_reached {w} {hs} {i} {e} {h} ls r g =
    let a = under w hs h ls 1 i e r (omega arith) g.all in
    let b = ⊎_elim {C = h ≤ height hs ls} (λ x. omega arith) (λ x. omega (arith, over w hs ls 1 i e r x.0 x.1 x.2)) g.some in
    omega arith

pub readable : {w hs : List ℕ} {left l i e : ℕ} (p : Part w hs left l i e) (j : ℕ) → i ≤ j → j < e → Readable w hs j
readable p j a b =
    let f = found p j a b in
    let s = found_sound f in
    record { low = omega (arith, s.placed.level, s.placed.low); known = λ x. (s.call x).before; levels = λ x. rw s.placed.level (s.call x).levels }

-- The greatest of h and of the reaches of n records from i on.
module _ (w hs : List ℕ) where
  most : ℕ → ℕ → ℕ → ℕ
  most n i h = fold (λ a x. max a (top w hs x)) h (range_with_len i n)

  most_keeps : (n i h : ℕ) → h ≤ most n i h
  unfolding most
  most_keeps zero i h = omega arith
  most_keeps (suc n) i h = omega (arith, most_keeps n (i + 1) (max h (top w hs i)))

  most_all : (n i h j : ℕ) → i ≤ j → j < i + n → top w hs j ≤ most n i h
  unfolding most
  most_all zero i h j a b = absurd (omega arith)
  most_all (suc n) i h j a b =
      elim (dec_le j i) [
        | yes l ↦ let e : j ≡ i = omega arith in rw e (omega (arith, most_keeps n (i + 1) (max h (top w hs i))))
        | no l ↦ most_all n (i + 1) (max h (top w hs i)) j (omega arith) (omega arith)
      ]

  most_some : (n i h : ℕ) → (most n i h ≡ h) ⊎ ((j : ℕ) × (i ≤ j) × (j < i + n) × (top w hs j ≡ most n i h))
  unfolding most
  most_some zero i h = inl refl
  most_some (suc n) i h =
      elim (most_some n (i + 1) (max h (top w hs i))) [
        | inl e ↦
            elim (dec_le (top w hs i) h) [
              | yes l ↦ inl (omega (arith, e))
              | no l ↦ inr (i, omega arith, omega arith, omega (arith, e))
            ]
        | inr q ↦ inr (q.0, omega (arith, q.1), omega (arith, q.2), q.3)
      ]

  reduced : (n i : ℕ) → unwrap_or (reduce max (map (λ j. top w hs j) (range_with_len i n))) 0 ≡ most n i 0
  unfolding most
  reduced zero i = refl
  reduced (suc n) i =
      let z : top w hs i ≡ max 0 (top w hs i) = omega arith in
      let xs = range_with_len (i + 1) n in
      fold-map max (λ j. top w hs j) (top w hs i) xs ∙ ap (λ (h : ℕ). fold (λ a x. max a (top w hs x)) h xs) z

  -- The greatest reach of the records from i up to e, or 0 where there is none.
  pub highest_found : (i e : ℕ) → i ≤ e → (r : Option ℕ) → option_map (λ x. x) r ≡ reduce max (map (λ j. top w hs j) (range_with_len i (e - i))) → Highest w hs i e (unwrap_or r 0)
  highest_found i e le r h =
      rw (sym (option_map_id r) ∙ h, reduced (e - i) i)
      (record {
        all = λ j a b. most_all (e - i) i 0 j a (omega arith);
        some = elim (most_some (e - i) i 0) [ inl z ↦ inl z | inr q ↦ inr (q.0, q.1, omega (arith, q.2), q.3) ];
      })
