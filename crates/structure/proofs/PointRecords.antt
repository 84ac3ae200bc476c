-- The records that have a point, or call a function that has one, are those that give their forms a point; and when a record's costs are right.
-- Assumes nothing.
use mathlib.Core.Path.{◌≡◌, sym, ap, ◌∙◌}
use mathlib.Core.Bool.{Bool, true, false}
use mathlib.Core.List.{List}
use mathlib.Core.Logic.{inl, inr, ⊎_elim}
use Prim.Native.Nat.{ℕ, suc, ◌+◌, ◌≤◌, ◌<◌}
use native.Mathlib.Omega.{arith}
use native.Mathlib.Decide.{dec_le, dec_lt}
use lib.ListN.{length, get_or}
use borrow.Author.Tests.{eq-eqb, ne_eqb, eqb-true}
use Rattle.model.specs.Plan.{Block, Lines, close, leaf_line, call_line, loop_line, if_line}
use Rattle.model.specs.Forms.{Forms, done, forms, Is, Has}
use Rattle.model.specs.Acceptance.{Ranged}
use Rattle.rows.specs.Rows.{kind_at, point_at, detail_at, other_at, after_at, block_at, Rep}
use Rattle.rows.proofs.Shape.{rep_le}
use Rattle.rows.proofs.Answers.{said_true, said_yes}
use Rattle.structure.specs.Private.{Pointed, Flags, HasPoint}

-- A record with a point from i up to e.
pub record PointRecord (w : List ℕ) (has : List Bool) (i e : ℕ) : Type 0 where
  pub place : ℕ
  pub low : i ≤ place
  pub high : place < e
  pub reaches : HasPoint w has place

wider : {w : List ℕ} {has : List Bool} {i e a b : ℕ} → PointRecord w has i e → a ≤ i → e ≤ b → PointRecord w has a b
wider c x y = record { place = c.place; low = omega (arith, c.low); high = omega (arith, c.high); reaches = c.reaches }

-- A block of the row is a point exactly if its record says 1.
pub point_true : (w : List ℕ) (i : ℕ) {b : Block} → b ≡ block_at w i → point_at w i ≡ 1 → b.point ≡ true
point_true w i e h = ap (λ (x : Block). x.point) e ∙ eq-eqb (point_at w i) 1 h

pub point_one : (w : List ℕ) (i : ℕ) {b : Block} → b ≡ block_at w i → b.point ≡ true → point_at w i ≡ 1
point_one w i e h = eqb-true (point_at w i) 1 (sym (ap (λ (x : Block). x.point) e) ∙ h)

pub point_false : (w : List ℕ) (i : ℕ) {b : Block} → b ≡ block_at w i → point_at w i ≡ 0 → b.point ≡ false
point_false w i e h = ap (λ (x : Block). x.point) e ∙ ne_eqb (point_at w i) 1 (λ z. omega arith)

pub is_point : (w : List ℕ) (i : ℕ) {b : Block} → b ≡ block_at w i → point_at w i ≡ 1 → Is b i
is_point w i e h = (point_true w i e h, ap (λ (x : Block). x.number) e)

-- The flag of a function that may be called.
module _ {has : List Bool} {fs : List Forms} (g : Flags has fs) where
  pub flag_on : {f : ℕ} → f < length fs → Pointed (get_or fs f done) → get_or has f false ≡ true
  flag_on {f} lt p = said_yes (get_or has f false) (g.flags f lt) p

  pub flag_off : {f : ℕ} → f < length fs → get_or has f false ≡ true → Pointed (get_or fs f done)
  flag_off {f} lt e = said_true {A = Pointed (get_or fs f done)} (get_or has f false) e (g.flags f lt)

  module _ (w : List ℕ) where
    -- A point of the forms shows in a record with a point.
    pub pointed_record : (ls : Lines) (l i e n : ℕ) → Rep w l i e ls → Ranged (length fs) ls → Has n (forms fs ls) → PointRecord w has i e
    unfolding Rep Ranged Has forms
    pointed_record close l i e n h q x = absurd x
    pointed_record (leaf_line b r) l i e n h q x =
        let k = rep_le w l (after_at w i) e r h.4 in
        ⊎_elim (λ y. record { place = i; low = omega arith; high = omega arith; reaches = inl (point_one w i h.0.1 y.0) })
        (λ y. wider (pointed_record r l (after_at w i) e n h.4 q.1 y) (omega arith) (omega arith)) x
    pointed_record (call_line b f r) l i e n h q x =
        let k = rep_le w l (after_at w i) e r h.4 in
        ⊎_elim (λ y. record { place = i; low = omega arith; high = omega arith; reaches = inl (point_one w i h.0.1 y.0) })
        (λ z. ⊎_elim (λ y. record { place = i; low = omega arith; high = omega arith; reaches = inr (h.0.0, rw h.1 (flag_on q.2 (n, y))) })
        (λ y. wider (pointed_record r l (after_at w i) e n h.4 q.3 y) (omega arith) (omega arith)) z) x
    pointed_record (loop_line b m body r) l i e n h q x =
        let o = rep_le w (suc l) (i + 1) (after_at w i) body h.3 in
        let k = rep_le w l (after_at w i) e r h.4 in
        ⊎_elim (λ y. record { place = i; low = omega arith; high = omega arith; reaches = inl (point_one w i h.0.1 y.0) })
        (λ z. ⊎_elim (λ y. wider (pointed_record body (suc l) (i + 1) (after_at w i) n h.3 q.3 y) (omega arith) k)
        (λ y. wider (pointed_record r l (after_at w i) e n h.4 q.4 y) (omega arith) (omega arith)) z) x
    pointed_record (if_line b t s r) l i e n h q x =
        let o = rep_le w l (i + 1) (other_at w i) t h.2 in
        let p = rep_le w l (other_at w i) (after_at w i) s h.3 in
        let k = rep_le w l (after_at w i) e r h.4 in
        ⊎_elim (λ y. record { place = i; low = omega arith; high = omega arith; reaches = inl (point_one w i h.0.1 y.0) })
        (λ z. ⊎_elim (λ y. wider (pointed_record t l (i + 1) (other_at w i) n h.2 q.1 y) (omega arith) (omega arith))
        (λ v. ⊎_elim (λ y. wider (pointed_record s l (other_at w i) (after_at w i) n h.3 q.2 y) (omega arith) k)
        (λ y. wider (pointed_record r l (after_at w i) e n h.4 q.3 y) (omega arith) (omega arith)) v) z) x

    -- And back.
    other : (i j k : ℕ) → j ≡ i → kind_at w i ≡ k → (k ≡ 1 → ⊥) → HasPoint w has j → point_at w i ≡ 1
    other i j k q kind differs x =
        let a = ap (λ (y : ℕ). point_at w y) q in
        let b = ap (λ (y : ℕ). kind_at w y) q in
        ⊎_elim (λ y. omega arith) (λ y. absurd (differs (omega (arith, y.0)))) x

    pub record_pointed : (ls : Lines) (l i e : ℕ) → Rep w l i e ls → Ranged (length fs) ls → (j : ℕ) → i ≤ j → j < e → HasPoint w has j → Pointed (forms fs ls)
    unfolding Rep Ranged Has forms
    record_pointed close l i e h q j a c x = absurd (omega arith)
    record_pointed (leaf_line b r) l i e h q j a c x =
        elim (dec_le j i) [
          | yes z ↦ (i, inl (is_point w i h.0.1 (other i j 0 (omega arith) h.0.0 (λ v. omega arith) x)))
          | no z ↦ let y = record_pointed r l (after_at w i) e h.4 q.1 j (omega arith) c x in (y.0, inr y.1)
        ]
    record_pointed (call_line b f r) l i e h q j a c x =
        elim (dec_le j i) [
          | yes z ↦
              let v : j ≡ i = omega arith in
              let u : point_at w j ≡ point_at w i = ap (λ (y : ℕ). point_at w y) v in
              let t : detail_at w j ≡ f = ap (λ (y : ℕ). detail_at w y) v ∙ h.1 in
              ⊎_elim (λ y. (i, inl (is_point w i h.0.1 (sym u ∙ y))))
              (λ y. let p = flag_off q.2 (rw t at y.1) in (p.0, inr (inl p.1))) x
          | no z ↦ let y = record_pointed r l (after_at w i) e h.4 q.3 j (omega arith) c x in (y.0, inr (inr y.1))
        ]
    record_pointed (loop_line b m body r) l i e h q j a c x =
        elim (dec_le j i) [
          | yes z ↦ (i, inl (is_point w i h.0.1 (other i j 2 (omega arith) h.0.0 (λ v. omega arith) x)))
          | no z ↦
              elim (dec_lt j (after_at w i)) [
                | yes v ↦
                    let y = record_pointed body (suc l) (i + 1) (after_at w i) h.3 q.3 j (omega arith) v x in (y.0, inr (inl y.1))
                | no v ↦ let y = record_pointed r l (after_at w i) e h.4 q.4 j (omega arith) c x in (y.0, inr (inr y.1))
              ]
        ]
    record_pointed (if_line b t s r) l i e h q j a c x =
        elim (dec_le j i) [
          | yes z ↦ (i, inl (is_point w i h.0.1 (other i j 3 (omega arith) h.0.0 (λ v. omega arith) x)))
          | no z ↦
              elim (dec_lt j (other_at w i)) [
                | yes v ↦ let y = record_pointed t l (i + 1) (other_at w i) h.2 q.1 j (omega arith) v x in (y.0, inr (inl y.1))
                | no v ↦
                    elim (dec_lt j (after_at w i)) [
                      | yes u ↦
                          let y = record_pointed s l (other_at w i) (after_at w i) h.3 q.2 j (omega arith) u x in
                          (y.0, inr (inr (inl y.1)))
                      | no u ↦ let y = record_pointed r l (after_at w i) e h.4 q.3 j (omega arith) c x in (y.0, inr (inr (inr y.1)))
                    ]
              ]
        ]
