-- The column of tails of all functions, read at the place of a leaf. Assumes nothing.
use mathlib.Core.Path.{◌≡◌, refl, sym, ap, ◌∙◌}
use mathlib.Core.List.{List}
use Prim.Native.Nat.{ℕ, zero, suc, ◌+◌, ◌≤◌, ◌<◌}
use native.Mathlib.Omega.{arith}
use native.Mathlib.Decide.{dec_lt}
use lib.ListN.{length, get_or}
use lib.Seq.{length-sets}
use Rattle.model.specs.Plan.{Block, Lines, close, leaf_line, call_line, loop_line, if_line}
use Rattle.model.specs.Tail.{tail}
use Rattle.model.proofs.Links.{Spans}
use Rattle.rows.specs.Rows.{field, after_at, Rep}
use Rattle.rows.specs.Plans.{PlanOf, lines_of}
use Rattle.rows.proofs.Plans.{plan_rep, plan_inside}
use Rattle.columns.specs.Columns.{column_of, tail_rule}
use Rattle.columns.specs.Whole.{tails_written}
use Rattle.columns.proofs.Stores.{sets_below}
use Rattle.columns.proofs.Functions.{fun_order}
use Rattle.columns.proofs.Looking.{look, sets_look, fill_of, tail_look}

-- The column of all functions is as long as what it is written over.
pub length_tails : (ts : List ℕ) (F : ℕ → Lines) (starts : List ℕ) (m : ℕ) (o : List ℕ) → length (tails_written ts F starts m o) ≡ length o
unfolding tails_written
length_tails ts F starts zero o = refl
length_tails ts F starts (suc m) o =
    length-sets (tails_written ts F starts m o) (get_or starts m 0) (column_of (tail_rule ts) (F m) 0) ∙ length_tails ts F starts m o

-- The column of all functions, read at the leaf x of the function f.
module _ {w starts : List ℕ} {n : ℕ} (v : PlanOf w starts n) (o : List ℕ) (wide : length o ≡ 512) (f x : ℕ) (lt : f < n)
    (low : get_or starts f 0 ≤ x) (high : x < get_or starts (f + 1) 0) where
  abbrev F : ℕ → Lines
  F = lines_of v

  abbrev start : ℕ → ℕ
  start g = get_or starts g 0

  tails_look : (ts : List ℕ) (m : ℕ) → f < m → m ≤ n → get_or (tails_written ts F starts m o) x 0 ≡ look (start f) x (column_of (tail_rule ts) (F f) 0)
  unfolding tails_written
  tails_look ts zero h j = absurd (omega arith)
  tails_look ts (suc m) h j =
      elim (dec_lt f m) [
        | yes i ↦ sets_below (column_of (tail_rule ts) (F m) 0) (tails_written ts F starts m o) (start m) x (omega (arith, fun_order v f m i (omega arith))) ∙ tails_look ts m i (omega arith)
        | no i ↦
            let e : m ≡ f = omega arith in
            let b = fill_of (tail_rule ts) w 1 (start f) (start (f + 1)) (F f) 0 (plan_rep {k = f} v lt) in
            rw e (sets_look (column_of (tail_rule ts) (F f) 0) (tails_written ts F starts f o) (start f) x (omega (arith, b, length_tails ts F starts f o, wide, (plan_inside v f lt).1)) low (omega (arith, b)))
      ]

  -- The entry of the leaf x is its tail.
  pub tail_at : (ts : List ℕ) → get_or (tails_written ts F starts n o) x 0 ≡ tail ts x (F f) 0
  tail_at ts = tails_look ts n lt (omega arith) ∙ sym (tail_look ts x w 1 (start f) (start (f + 1)) (F f) 0 (plan_rep {k = f} v lt))

-- The leaves of lines in a row are numbered by their places.
pub rep_spans : (w : List ℕ) (v i e : ℕ) (l : Lines) → Rep w v i e l → Spans l i e
unfolding Rep Spans
rep_spans w v i e close h = h
rep_spans w v i e (leaf_line b r) h =
    let j : after_at w i ≡ suc i = omega arith in
    (ap (λ (y : Block). y.number) h.0.1, rw j at (rep_spans w v (after_at w i) e r h.4))
rep_spans w v i e (call_line b f r) h =
    let j : after_at w i ≡ suc i = omega arith in
    (ap (λ (y : Block). y.number) h.0.1, rw j at (rep_spans w v (after_at w i) e r h.4))
rep_spans w v i e (loop_line b n body r) h =
    let j : i + 1 ≡ suc i = omega arith in
    (ap (λ (y : Block). y.number) h.0.1, (after_at w i, rw j at (rep_spans w (suc v) (i + 1) (after_at w i) body h.3), rep_spans w v (after_at w i) e r h.4))
rep_spans w v i e (if_line b t f r) h =
    let j : i + 1 ≡ suc i = omega arith in (
      ap (λ (y : Block). y.number) h.0.1,
      (
        field w i 5,
        after_at w i,
        rw j at (rep_spans w v (i + 1) (field w i 5) t h.2),
        rep_spans w v (field w i 5) (after_at w i) f h.3,
        rep_spans w v (after_at w i) e r h.4,
      ),
    )
