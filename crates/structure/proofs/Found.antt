-- Every record of some lines is the first of a part of them. Assumes nothing.
use mathlib.Core.Path.{◌≡◌}
use mathlib.Core.List.{List}
use Prim.Native.Nat.{ℕ, suc, ◌+◌, ◌-◌, ◌≤◌, ◌<◌}
use native.Mathlib.Omega.{arith}
use native.Mathlib.Decide.{dec_le, dec_lt}
use Rattle.model.specs.Plan.{Lines, close, leaf_line, call_line, loop_line, if_line}
use Rattle.rows.specs.Rows.{other_at, after_at, Rep, Rules, Part}
use Rattle.structure.specs.Private.{Sound}
use Rattle.structure.proofs.Deciding.{head_of, head_sound}

-- The part that begins at the record j.
pub record Found (w hs : List ℕ) (j : ℕ) : Type 0 where
  pub left : ℕ
  pub level : ℕ
  pub end : ℕ
  pub starts : j < end
  pub part : Part w hs left level j end

module _ (w hs : List ℕ) (j : ℕ) where
  at_first : (left l i e : ℕ) → Part w hs left l i e → i < e → j ≡ i → Found w hs j
  at_first left l i e p lt q = record { left = left; level = l; end = e; starts = omega arith; part = rw q p }

  find : (ls : Lines) (left l i e : ℕ) → Rep w l i e ls → Rules hs left l ls → i ≤ j → j < e → Found w hs j
  unfolding Rep Rules
  find close left l i e h q a b = absurd (omega arith)
  find (leaf_line x r) left l i e h q a b =
      elim (dec_le j i) [
        | yes z ↦ at_first left l i e (record { lines = leaf_line x r; rep = h; rules = q }) (omega arith) (omega arith)
        | no z ↦ find r left l (after_at w i) e h.4 q.2 (omega arith) b
      ]
  find (call_line x f r) left l i e h q a b =
      elim (dec_le j i) [
        | yes z ↦ at_first left l i e (record { lines = call_line x f r; rep = h; rules = q }) (omega arith) (omega arith)
        | no z ↦ find r left l (after_at w i) e h.4 q.4 (omega arith) b
      ]
  find (loop_line x n body r) left l i e h q a b =
      elim (dec_le j i) [
        | yes z ↦ at_first left l i e (record { lines = loop_line x n body r; rep = h; rules = q }) (omega arith) (omega arith)
        | no z ↦
            elim (dec_lt j (after_at w i)) [
              | yes y ↦ find body (left - 1) (suc l) (i + 1) (after_at w i) h.3 q.5 (omega arith) y
              | no y ↦ find r left l (after_at w i) e h.4 q.6 (omega arith) b
            ]
      ]
  find (if_line x t s r) left l i e h q a b =
      elim (dec_le j i) [
        | yes z ↦ at_first left l i e (record { lines = if_line x t s r; rep = h; rules = q }) (omega arith) (omega arith)
        | no z ↦
            elim (dec_lt j (other_at w i)) [
              | yes y ↦ find t (left - 2) l (i + 1) (other_at w i) h.2 q.3 (omega arith) y
              | no y ↦
                  elim (dec_lt j (after_at w i)) [
                    | yes x ↦ find s (left - 2) l (other_at w i) (after_at w i) h.3 q.4 (omega arith) x
                    | no x ↦ find r left l (after_at w i) e h.4 q.5 (omega arith) b
                  ]
            ]
      ]

pub found : {w hs : List ℕ} {left l i e : ℕ} (p : Part w hs left l i e) (j : ℕ) → i ≤ j → j < e → Found w hs j
found {w} {hs} {left} {l} {i} {e} p j a b = find w hs j p.lines left l i e p.rep p.rules a b

-- So every record is sound where it stands.
pub found_sound : {w hs : List ℕ} {j : ℕ} (f : Found w hs j) → Sound w hs f.left f.level j f.end
found_sound f = head_sound (head_of f.starts f.part)
