-- The column of stretches of all functions, read at the place of a leaf. Assumes nothing.
use mathlib.Core.Path.{◌≡◌, refl, sym, ap, ◌∙◌}
use mathlib.Core.List.{List}
use Prim.Native.Nat.{ℕ, zero, suc, ◌+◌, ◌-◌, ◌≤◌, ◌<◌, max}
use native.Mathlib.Omega.{arith}
use native.Mathlib.Decide.{dec_lt}
use lib.Dec.{eqb}
use lib.ListN.{length, get_or, length-set, length-replicate}
use lib.Seq.{length-sets, get_or-set_same, get_or-set_other}
use Rattle.model.specs.Plan.{Block, Lines, close, leaf_line, call_line, loop_line, if_line}
use Rattle.model.specs.Places.{pick}
use Rattle.model.specs.Static.{line_silence, line_stretch, behind_calls, follows, after_function, static_stretch}
use Rattle.rows.specs.Plans.{PlanOf, lines_of}
use Rattle.rows.proofs.Plans.{plan_rep, plan_inside}
use Rattle.columns.specs.Columns.{column_of}
use Rattle.stretches.specs.Stretches.{stretch_rule, follow_call, follow_calls, follows_after, stretches_written}
use Rattle.columns.proofs.Stores.{sets_above}
use Rattle.columns.proofs.Functions.{fun_order, zeros_at}
use Rattle.columns.proofs.Looking.{look, look_below, look_above, at_else, at_same, sets_look, fill_of}
use Rattle.stretches.proofs.Looking.{stretch_look}

-- What follows the functions, in the array and by definition.
length_follow : (k : Block → ℕ) (ms : List ℕ) (l : Lines) (s : ℕ) (a : List ℕ) → length (follow_calls k ms l s a) ≡ length a
unfolding follow_calls
length_follow k ms close s a = refl
length_follow k ms (leaf_line b r) s a = length_follow k ms r s a
length_follow k ms (call_line b f r) s a = simp length-set (length_follow k ms r s a)
length_follow k ms (loop_line b n body r) s a = length_follow k ms body 0 (follow_calls k ms r s a) ∙ length_follow k ms r s a
length_follow k ms (if_line b t e r) s a =
    let x = line_silence k ms r s in
    length_follow k ms e x (follow_calls k ms t x (follow_calls k ms r s a)) ∙ length_follow k ms t x (follow_calls k ms r s a) ∙ length_follow k ms r s a

follow_at : (a : List ℕ) (f s g : ℕ) → g < length a → get_or (follow_call a f s) g 0 ≡ max (get_or a g 0) (pick (eqb f g) s 0)
follow_at a f s g h =
    elim (dec_lt f g) [
      | yes l ↦ omega (arith, get_or-set_other a f g (max (get_or a f 0) s) 0 (omega arith), at_else f g s (omega arith))
      | no l ↦ elim (dec_lt g f) [
        | yes l' ↦ omega (arith, get_or-set_other a f g (max (get_or a f 0) s) 0 (omega arith), at_else f g s (omega arith))
        | no l' ↦ let e : f ≡ g = omega arith in let o = at_same f g s e in rw (o, e) (get_or-set_same a g (max (get_or a g 0) s) 0 h)
      ]
    ]

follow_behind : (k : Block → ℕ) (ms : List ℕ) (g : ℕ) (l : Lines) (s : ℕ) (a : List ℕ) → g < length a → get_or (follow_calls k ms l s a) g 0 ≡ max (get_or a g 0) (behind_calls k ms g l s)
unfolding follow_calls behind_calls
follow_behind k ms g close s a h = omega arith
follow_behind k ms g (leaf_line b r) s a h = follow_behind k ms g r s a h
follow_behind k ms g (call_line b f r) s a h =
    omega (arith, follow_at (follow_calls k ms r s a) f (line_silence k ms r s) g (rw (length_follow k) h), follow_behind k ms g r s a h)
follow_behind k ms g (loop_line b n body r) s a h =
    omega (arith, follow_behind k ms g body 0 (follow_calls k ms r s a) (rw (length_follow k) h), follow_behind k ms g r s a h)
follow_behind k ms g (if_line b t e r) s a h =
    let x = line_silence k ms r s in
    omega (
      arith,
      follow_behind k ms g e x (follow_calls k ms t x (follow_calls k ms r s a)) (rw (length_follow k, length_follow k) h),
      follow_behind k ms g t x (follow_calls k ms r s a) (rw (length_follow k) h),
      follow_behind k ms g r s a h,
    )

module _ (k : Block → ℕ) (ms : List ℕ) (F : ℕ → Lines) (n : ℕ) where
  length_follows : (m : ℕ) → length (follows_after k ms F n m) ≡ 16
  unfolding follows_after
  length_follows zero = length-replicate {A = ℕ} 16 0
  length_follows (suc m) = length_follow k ms (F (n - suc m)) (get_or (follows_after k ms F n m) (n - suc m) 0) (follows_after k ms F n m) ∙ length_follows m

  follows_are : n ≤ 16 → (m g : ℕ) → m ≤ n → g < 16 → get_or (follows_after k ms F n m) g 0 ≡ follows k ms F n m g
  unfolding follows_after follows
  follows_are le zero g h lt = zeros_at 16 g
  follows_are le (suc m) g h lt =
      let e = follows_are le m g (omega arith) lt in
      let d = follows_are le m (n - suc m) (omega arith) (omega arith) in
      let b = follow_behind k ms g (F (n - suc m)) (get_or (follows_after k ms F n m) (n - suc m) 0) (follows_after k ms F n m) (omega (arith, length_follows m)) in
      let c = ap (behind_calls k ms g (F (n - suc m))) d in
      omega arith

-- The column of all functions is as long as what it is written over.
pub length_stretches : (k : Block → ℕ) (ms : List ℕ) (q : ℕ → ℕ → ℕ) (F : ℕ → Lines) (starts : List ℕ) (n m : ℕ) (o : List ℕ) → length (stretches_written k ms q F starts n m o) ≡ length o
unfolding stretches_written
length_stretches k ms q F starts n zero o = refl
length_stretches k ms q F starts n (suc m) o =
    length-sets (stretches_written k ms q F starts n m o) (get_or starts (n - suc m) 0)
    (column_of (stretch_rule k ms q) (F (n - suc m)) (get_or (follows_after k ms F n m) (n - suc m) 0)) ∙
    length_stretches k ms q F starts n m o

-- The column of all functions, read at the leaf x of the function f.
module _ {w starts : List ℕ} {n : ℕ} (v : PlanOf w starts n) (o : List ℕ) (wide : length o ≡ 512) (f x : ℕ) (lt : f < n)
    (low : get_or starts f 0 ≤ x) (high : x < get_or starts (f + 1) 0) where
  abbrev F : ℕ → Lines
  F = lines_of v

  abbrev start : ℕ → ℕ
  start g = get_or starts g 0

  module _ (k : Block → ℕ) (ms : List ℕ) (few : n ≤ 16) where
    abbrev A : ℕ → ℕ
    A g = after_function k ms F n g

    abbrev q : ℕ → ℕ → ℕ
    q g s = line_silence k ms (F g) s

    abbrev col : ℕ → ℕ → List ℕ
    col g s = column_of (stretch_rule k ms q) (F g) s

    handed : (g : ℕ) → g < n → get_or (follows_after k ms F n (n - suc g)) g 0 ≡ A g
    handed g h = follows_are k ms F n few (n - suc g) g (omega arith) (omega arith)

    spans : (g s : ℕ) → g < n → start (g + 1) ≡ start g + length (col g s)
    spans g s h = fill_of (stretch_rule k ms q) w 1 (start g) (start (g + 1)) (F g) s (plan_rep {k = g} v h)

    written_look : (m : ℕ) → n - suc f < m → m ≤ n → get_or (stretches_written k ms q F starts n m o) x 0 ≡ look (start f) x (col f (A f))
    unfolding stretches_written
    written_look zero h j = absurd (omega arith)
    written_look (suc m) h j =
        elim (dec_lt (n - suc f) m) [
          | yes i ↦
              let g : n - suc m < f = omega arith in
              let s = get_or (follows_after k ms F n m) (n - suc m) 0 in
              sets_above (col (n - suc m) s) (stretches_written k ms q F starts n m o) (start (n - suc m)) x
              (omega (arith, spans (n - suc m) s (omega arith), fun_order v (n - suc m) f g (omega arith))) ∙
              written_look m i (omega arith)
          | no i ↦
              let e : m ≡ n - suc f = omega arith in
              let d : n - suc m ≡ f = omega arith in
              let a : get_or (follows_after k ms F n m) f 0 ≡ A f = ap (λ y. get_or (follows_after k ms F n y) f 0) e ∙ handed f lt in
              let b = spans f (A f) lt in
              rw (d, a) (sets_look (col f (A f)) (stretches_written k ms q F starts n m o) (start f) x (omega (arith, b, length_stretches k ms q F starts n m o, wide, (plan_inside v f lt).1)) low (omega (arith, b)))
        ]

    -- Of the functions' own stretches only that of the function that holds x counts.
    own_stretch : (m : ℕ) → m < n → line_stretch k ms q x (F m) (A m) ≡ look (start m) x (col m (A m))
    own_stretch m h = stretch_look k ms q x w 1 (start m) (start (m + 1)) (F m) (A m) (plan_rep {k = m} v h)

    early : (m : ℕ) → m ≤ f → static_stretch k ms F n x m ≡ 0
    unfolding static_stretch
    early zero h = refl
    early (suc m) h =
        omega (
          arith,
          early m (omega arith),
          own_stretch m (omega arith),
          look_above (col m (A m)) (start m) x (omega (arith, spans m (A m) (omega arith), fun_order v m f (omega arith) (omega arith))),
        )

    late : (m : ℕ) → f < m → m ≤ n → static_stretch k ms F n x m ≡ look (start f) x (col f (A f))
    unfolding static_stretch
    late zero h j = absurd (omega arith)
    late (suc m) h j =
        elim (dec_lt f m) [
          | yes i ↦
              omega (
                arith,
                late m i (omega arith),
                own_stretch m (omega arith),
                look_below (col m (A m)) (start m) x (omega (arith, fun_order v f m i (omega arith))),
              )
          | no i ↦
              let e : m ≡ f = omega arith in
              let c = ap (λ y. line_stretch k ms q x (F y) (A y)) e in
              omega (arith, c, early m (omega arith), own_stretch f lt)
        ]

    -- The entry of the leaf x is its static stretch; 0, if x is silent.
    pub stretch_at : get_or (stretches_written k ms q F starts n n o) x 0 ≡ static_stretch k ms F n x n
    stretch_at = written_look n (omega arith) (omega arith) ∙ sym (late n lt (omega arith))
