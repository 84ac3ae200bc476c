-- What stands in the column of stretches at the place of a leaf. Assumes nothing.
use mathlib.Core.Path.{◌≡◌, refl}
use mathlib.Core.Bool.{Bool, true, false}
use mathlib.Core.List.{List}
use Prim.Native.Nat.{ℕ, suc, ◌+◌, max}
use native.Mathlib.Omega.{arith}
use lib.Dec.{eqb}
use Rattle.model.specs.Plan.{Block, Lines, close, leaf_line, call_line, loop_line, if_line}
use Rattle.model.specs.Places.{pick}
use Rattle.model.specs.Static.{line_silence, shown, line_stretch}
use Rattle.rows.specs.Rows.{field, after_at, block_at, Rep}
use Rattle.columns.specs.Columns.{column_of}
use Rattle.stretches.specs.Stretches.{leaf_stretch, first_stretch, stretch_rule}
use Rattle.columns.proofs.Looking.{look, look_loop, look_if}

shown_at : (k : Block → ℕ) (x : ℕ) (w : List ℕ) (i s : ℕ) (b : Block) → b ≡ block_at w i → shown k x b s ≡ pick (eqb i x) (leaf_stretch k b s) 0
shown_at k x w i s b e = rw e (go (eqb (field w i 1) 1) (eqb i x))
  where
    go : (p t : Bool) → pick p (pick t (k (block_at w i) + s) 0) 0 ≡ pick t (pick p (k (block_at w i) + s) 0) 0
    go true true = refl
    go true false = refl
    go false true = refl
    go false false = refl

-- The static stretch of the point x is what stands at x.
pub stretch_look : (k : Block → ℕ) (ms : List ℕ) (q : ℕ → ℕ → ℕ) (x : ℕ) (w : List ℕ) (v i e : ℕ) (l : Lines) (s : ℕ) → Rep w v i e l
    → line_stretch k ms q x l s ≡ look i x (column_of (stretch_rule k ms q) l s)
unfolding line_stretch look column_of first_stretch Rep
stretch_look k ms q x w v i e close s h = refl
stretch_look k ms q x w v i e (leaf_line b r) s h =
    let j : after_at w i ≡ suc i = omega arith in
    let y = rw j at (stretch_look k ms q x w v (after_at w i) e r s h.4) in
    rw (shown_at k x w i (line_silence k ms r s) b h.0.1, y)
stretch_look k ms q x w v i e (call_line b f r) s h =
    let j : after_at w i ≡ suc i = omega arith in
    let y = rw j at (stretch_look k ms q x w v (after_at w i) e r s h.4) in
    rw (shown_at k x w i (q f (line_silence k ms r s)) b h.0.1, y)
stretch_look k ms q x w v i e (loop_line b n body r) s h =
    let y = stretch_look k ms q x w (suc v) (i + 1) (after_at w i) body 0 h.3 in
    let z = stretch_look k ms q x w v (after_at w i) e r s h.4 in
    let u = look_loop (stretch_rule k ms q) x w (suc v) i (after_at w i) body 0 (column_of (stretch_rule k ms q) r s) h.3 in
    rw (shown_at k x w i (max (line_silence k ms r s) (line_silence k ms body 0)) b h.0.1, y, z, u)
stretch_look k ms q x w v i e (if_line b t f r) s h =
    let c = line_silence k ms r s in
    let y₁ = stretch_look k ms q x w v (i + 1) (field w i 5) t c h.2 in
    let y₂ = stretch_look k ms q x w v (field w i 5) (after_at w i) f c h.3 in
    let z = stretch_look k ms q x w v (after_at w i) e r s h.4 in
    let u = look_if (stretch_rule k ms q) x w v i (field w i 5) (after_at w i) t f c (column_of (stretch_rule k ms q) r s) h.2 h.3 in
    rw (shown_at k x w i (max (line_silence k ms t c) (line_silence k ms f c)) b h.0.1, y₁, y₂, z, u)
