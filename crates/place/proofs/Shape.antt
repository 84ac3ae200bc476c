-- Pieces of a row: the parts of an if, the lines after the first form, and fewer open brackets. Assumes nothing.
use mathlib.Core.Path.{◌≡◌, refl}
use mathlib.Core.List.{List}
use Prim.Native.Nat.{ℕ, suc, ◌+◌, ◌-◌, ◌≤◌, ◌<◌}
use native.Mathlib.Omega.{arith}
use Rattle.model.specs.Plan.{Lines, close, leaf_line, call_line, loop_line, if_line}
use Rattle.rows.specs.Rows.{kind_at, other_at, after_at, Rules, Piece}
use Rattle.rows.proofs.Shape.{IfAt, if_at, then_in, else_in, after, parts, ends}

-- Lines that keep the rules under few open brackets keep them under more.
pub rules_more : (hs : List ℕ) (k m lv : ℕ) (l : Lines) → k ≤ m → Rules hs k lv l → Rules hs m lv l
unfolding Rules
rules_more hs k m lv close q h = tt
rules_more hs k m lv (leaf_line b r) q h = (h.0, h.1, rules_more hs k m lv r q h.2)
rules_more hs k m lv (call_line b f r) q h = (h.0, h.1, h.2, h.3, rules_more hs k m lv r q h.4)
rules_more hs k m lv (loop_line b n body r) q h =
    (h.0, h.1, h.2, h.3, omega arith, rules_more hs (k - 1) (m - 1) (suc lv) body (omega arith) h.5, rules_more hs k m lv r q h.6)
rules_more hs k m lv (if_line b t e r) q h =
    (h.0, h.1, omega arith, rules_more hs (k - 2) (m - 2) lv t (omega arith) h.3, rules_more hs (k - 2) (m - 2) lv e (omega arith) h.4, rules_more hs k m lv r q h.5)

module _ {w : List ℕ} {left i e : ℕ} (lt : i < e) (p : Piece w left i e) where
  -- The record at hand is an if's.
  pub cond_at : kind_at w i ≡ 3 → IfAt w p.heights left p.level i p.part.lines
  cond_at k = if_at lt p.part {v = kind_at w i} refl (λ z. omega arith) (λ z. omega arith) (λ z. omega arith)

  -- The lines after the first form, which ends at en.
  abbrev pub piece_after : {en : ℕ} → en ≡ after_at w i → Piece w left en e
  piece_after he = record { heights = p.heights; level = p.level; part = after lt p.part he }

  -- The parts of an if, with what the code read: mid the start of the else part, en the end.
  pub then_plan : {mid : ℕ} → kind_at w i ≡ 3 → mid ≡ other_at w i → Piece w (left - 2) (i + 1) mid × (i < mid) × (mid ≤ after_at w i)
  then_plan {mid} k hm =
      let h = cond_at k in
      (record { heights = p.heights; level = p.level; part = then_in hm h }, (parts hm refl h).0, (parts hm refl h).1)

  pub else_plan : {mid en : ℕ} → kind_at w i ≡ 3 → mid ≡ other_at w i → en ≡ after_at w i → Piece w (left - 2) mid en × (i < mid) × (en ≤ e)
  else_plan {mid} {en} k hm he =
      let h = cond_at k in
      (record { heights = p.heights; level = p.level; part = else_in hm he h }, (parts hm he h).0, omega (arith, ends lt p.part))
