-- Only the silences of functions that may be called count in the columns of stretches. Assumes nothing.
use mathlib.Core.Path.{◌≡◌, refl, ap}
use mathlib.Core.List.{List, ◌∷◌}
use Prim.Native.Nat.{ℕ, zero, suc, ◌-◌, ◌≤◌, ◌<◌}
use native.Mathlib.Omega.{arith}
use lib.ListN.{get_or}
use Rattle.model.specs.Plan.{Block, Lines, close, leaf_line, call_line, loop_line, if_line}
use Rattle.model.specs.Static.{line_silence}
use Rattle.model.proofs.Targets.{Below}
use Rattle.rows.specs.Plans.{PlanOf, lines_of}
use Rattle.columns.specs.Columns.{column_of}
use Rattle.stretches.specs.Stretches.{leaf_stretch, first_stretch, stretch_rule, follows_after, stretches_written}
use Rattle.columns.proofs.Functions.{fun_below, below_more}

module _ (k : Block → ℕ) (ms : List ℕ) (q q' : ℕ → ℕ → ℕ) (n : ℕ) (e : (f s : ℕ) → f < n → q f s ≡ q' f s) where
  column_same : (l : Lines) (s : ℕ) → Below n l → column_of (stretch_rule k ms q) l s ≡ column_of (stretch_rule k ms q') l s
  unfolding column_of first_stretch Below
  column_same close s b = refl
  column_same (leaf_line y r) s b = ap (λ (z : List ℕ). leaf_stretch k y (line_silence k ms r s) ∷ z) (column_same r s b)
  column_same (call_line y f r) s b = rw (e f (line_silence k ms r s) b.0, column_same r s b.1)
  column_same (loop_line y m body r) s b = rw (column_same body 0 b.0, column_same r s b.1)
  column_same (if_line y t f r) s b = rw (column_same t (line_silence k ms r s) b.0, column_same f (line_silence k ms r s) b.1, column_same r s b.2)

pub written_same : (k : Block → ℕ) (ms : List ℕ) (q q' : ℕ → ℕ → ℕ) {w starts : List ℕ} {n : ℕ} (v : PlanOf w starts n) → ((f s : ℕ) → f < n → q f s ≡ q' f s) → (j : ℕ) → j ≤ n → (o : List ℕ)
    → stretches_written k ms q (lines_of v) starts n j o ≡ stretches_written k ms q' (lines_of v) starts n j o
unfolding stretches_written
written_same k ms q q' v e zero h o = refl
written_same k ms q q' {w} {starts} {n} v e (suc j) h o =
    let f = n - suc j in
    let x = column_same k ms q q' n e (lines_of v f) (get_or (follows_after k ms (lines_of v) n j) f 0) (below_more f n (lines_of v f) (omega arith) (fun_below v f (omega arith))) in
    rw (written_same k ms q q' v e j (omega arith) o, x)
