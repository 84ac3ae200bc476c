-- The records of a plan's row are its leaves, so the stack's leaves are points as the row marks them exactly when they are points of the plan. Assumes nothing.
use mathlib.Core.List.{List, [], ◌∷◌, ◌++◌}
use mathlib.Core.Path.{◌≡◌, refl, sym, ap, ◌∙◌, subst}
use Prim.Native.Nat.{ℕ, zero, suc, ◌+◌, ◌≤◌, ◌<◌}
use native.Mathlib.Omega.{arith}
use native.Mathlib.Decide.{dec_le}
use lib.ListN.{length, get_or}
use borrow.Author.Tests.{eqb-true, eq-eqb}
use Rattle.model.specs.Plan.{Block, Lines, close, leaf_line, call_line, loop_line, if_line, Plan, leaves, all_leaves}
use Rattle.model.specs.Runs.{Among}
use Rattle.model.specs.Acceptance.{Accepted}
use Rattle.model.specs.Timed.{PointOf}
use Rattle.model.proofs.Among.{among_first, among_later, among_left, among_right}
use Rattle.model.proofs.Points.{AllPoints}
use Rattle.model.proofs.Theorems.{number_tells_leaf}
use Rattle.rows.specs.Rows.{point_at, other_at, after_at, block_at, Rep}
use Rattle.rows.specs.Plans.{Lies, PlanIn}
use Rattle.place.specs.Stack.{frames}

-- A record of the lines is one of their leaves.
among_lines : (w : List ℕ) (lv i e : ℕ) (l : Lines) (x : ℕ) → Rep w lv i e l → i ≤ x → x < e → Among (block_at w x) (leaves l)
unfolding Rep leaves
among_lines w lv i e close x h lo hi = absurd (omega arith)
among_lines w lv i e (leaf_line b r) x h lo hi =
    elim (dec_le (after_at w i) x) [
      | yes q ↦ among_later (block_at w x) b (leaves r) (among_lines w lv (after_at w i) e r x h.4 q hi)
      | no q ↦ let z : i ≡ x = omega (arith, h.3) in among_first (block_at w x) b (leaves r) (h.0.1 ∙ ap (block_at w) z)
    ]
among_lines w lv i e (call_line b f r) x h lo hi =
    elim (dec_le (after_at w i) x) [
      | yes q ↦ among_later (block_at w x) b (leaves r) (among_lines w lv (after_at w i) e r x h.4 q hi)
      | no q ↦ let z : i ≡ x = omega (arith, h.3) in among_first (block_at w x) b (leaves r) (h.0.1 ∙ ap (block_at w) z)
    ]
among_lines w lv i e (loop_line b n body r) x h lo hi =
    elim (dec_le (after_at w i) x) [
      | yes q ↦ among_later (block_at w x) b (leaves body ++ leaves r) (among_right (block_at w x) (leaves body) (leaves r) (among_lines w lv (after_at w i) e r x h.4 q hi))
      | no q ↦ elim (dec_le (i + 1) x) [
        | yes k ↦ among_later (block_at w x) b (leaves body ++ leaves r)
            (among_left (block_at w x) (leaves body) (leaves r) (among_lines w (suc lv) (i + 1) (after_at w i) body x h.3 k (omega arith)))
        | no k ↦ let z : i ≡ x = omega arith in among_first (block_at w x) b (leaves body ++ leaves r) (h.0.1 ∙ ap (block_at w) z)
      ]
    ]
among_lines w lv i e (if_line b t s r) x h lo hi =
    elim (dec_le (after_at w i) x) [
      | yes q ↦ deep (among_right (block_at w x) (leaves t) (leaves s ++ leaves r) (among_right (block_at w x) (leaves s) (leaves r) (among_lines w lv (after_at w i) e r x h.4 q hi)))
      | no q ↦ elim (dec_le (other_at w i) x) [
        | yes k ↦ deep (among_right (block_at w x) (leaves t) (leaves s ++ leaves r)
            (among_left (block_at w x) (leaves s) (leaves r) (among_lines w lv (other_at w i) (after_at w i) s x h.3 k (omega arith))))
        | no k ↦ elim (dec_le (i + 1) x) [
          | yes j ↦ deep (among_left (block_at w x) (leaves t) (leaves s ++ leaves r) (among_lines w lv (i + 1) (other_at w i) t x h.2 j (omega arith)))
          | no j ↦ let z : i ≡ x = omega arith in among_first (block_at w x) b (leaves t ++ (leaves s ++ leaves r)) (h.0.1 ∙ ap (block_at w) z)
        ]
      ]
    ]
  where
    deep : Among (block_at w x) (leaves t ++ (leaves s ++ leaves r)) → Among (block_at w x) (b ∷ (leaves t ++ (leaves s ++ leaves r)))
    deep u = among_later (block_at w x) b (leaves t ++ (leaves s ++ leaves r)) u

among_all : (w starts : List ℕ) (ls : List Lines) (k x : ℕ) → Lies w starts k ls → get_or starts k 0 ≤ x → x < get_or starts (k + length ls) 0 →
    Among (block_at w x) (all_leaves ls)
unfolding Lies all_leaves
among_all w starts [] k x h lo hi = let z : k + 0 ≡ k = omega arith in absurd (omega (arith, ap (λ (j : ℕ). get_or starts j 0) z))
among_all w starts (l ∷ ls) k x h lo hi =
    elim (dec_le (get_or starts (k + 1) 0) x) [
      | yes q ↦
          let z : k + length (l ∷ ls) ≡ k + 1 + length ls = omega arith in
          among_right (block_at w x) (leaves l) (all_leaves ls) (among_all w starts ls (k + 1) x h.1 q (rw z at hi))
      | no q ↦ among_left (block_at w x) (leaves l) (all_leaves ls) (among_lines w 1 (get_or starts k 0) (get_or starts (k + 1) 0) l x h.0 lo (omega arith))
    ]

module _ {w starts : List ℕ} (p : Plan) (a : Accepted p) (d : PlanIn w starts p) where
  -- A record is a leaf of the plan.
  pub among_plan : (x : ℕ) → x < get_or starts (length p.functions) 0 → Among (block_at w x) (all_leaves p.functions)
  among_plan x h =
      let z : 0 + length p.functions ≡ length p.functions = omega arith in
      among_all w starts p.functions 0 x d.lie (omega (arith, d.first)) (rw z h)

  -- A record is marked as a point exactly when it is one.
  pub mark_point : (x : ℕ) → x < get_or starts (length p.functions) 0 → point_at w x ≡ 1 → PointOf p x
  mark_point x h m = (block_at w x, among_plan x h, eq-eqb (point_at w x) 1 m, refl)

  pub point_mark : (x : ℕ) → x < get_or starts (length p.functions) 0 → PointOf p x → point_at w x ≡ 1
  point_mark x h (b, u, v, z) =
      let e = number_tells_leaf p a b (block_at w x) u (among_plan x h) z in
      eqb-true (point_at w x) 1 (ap (λ (c : Block). c.point) (sym e) ∙ v)

-- Of the frames of a stack.
pub all_points : (p : Plan) (leaves counts : List ℕ) (k n : ℕ) → ((j : ℕ) → k ≤ j → j < k + n → PointOf p (get_or leaves j 0)) → AllPoints p (frames leaves counts k n)
unfolding AllPoints frames
all_points p leaves counts k zero h = tt
all_points p leaves counts k (suc n) h = (h k (omega arith) (omega arith), all_points p leaves counts (suc k) n (λ j lo hi. h j (omega arith) (omega arith)))

pub each_point : (p : Plan) (leaves counts : List ℕ) (k n : ℕ) → AllPoints p (frames leaves counts k n) → (j : ℕ) → k ≤ j → j < k + n → PointOf p (get_or leaves j 0)
unfolding AllPoints frames
each_point p leaves counts k zero h j lo hi = absurd (omega arith)
each_point p leaves counts k (suc n) h j lo hi =
    elim (dec_le (suc k) j) [
      | yes q ↦ each_point p leaves counts (suc k) n h.1 j q (omega arith)
      | no q ↦ let z : k ≡ j = omega arith in subst (λ (i : ℕ). PointOf p (get_or leaves i 0)) z h.0
    ]
