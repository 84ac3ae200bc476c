-- The plan's table of patterns: what the code answers where one of them fits, and where none does.
-- Assumes nothing.
use Prim.Native.Nat.{ℕ, ◌^◌}
use mathlib.Core.Path.{◌≡◌, refl}
use mathlib.Core.List.{List}
use mathlib.Core.Bool.{Bool, true, false}
use native.Mathlib.Omega.{arith}
use lib.ListN.{length, get_or}
use Rattle.model.specs.declared.Edition.TheVariants.{First, Second}
use Rattle.text.specs.declared.Shown.{Shown}
use Rattle.text.specs.declared.Form.{Form}
use Rattle.text.specs.declared.Form.TheVariants.{Task, Leaf, Call, Loop, If}
use Rattle.std.specs.Prelude.{Option, Some}
use Rattle.text.specs.Text.{bytes, line_at, line_end}
use Rattle.text.specs.Patterns.{matched, miss, ShownAt}
use Rattle.text.specs.Grammar as grammar
use Rattle.text.specs.Grammar.{nth, or_else, cap_form, answered}
use Rattle.text.proofs.Filled.{arity, kindless, once, filled}
use Rattle.text.proofs.Laws.{number_stored}

-- A line that a pattern fits shows as many numbers as the pattern has.
count_of : {limit : ℕ} {s : List ℕ} {at : ℕ} {row row' : List ℕ} {f : Shown} {e : ℕ} (p : List ℕ) → once p ≡ true → (w : ShownAt limit s at p row row' f e)
    → length w.numbers ≡ arity p
count_of {s = s} {at} {f = f} p h w = (filled p false (line_at s at) f.kind w.numbers h w.fits).number_of

-- The code's numbers are those of the form, held.
module _ {s : List ℕ} {at : ℕ} {row row' : List ℕ} {f : Shown} {e : ℕ} (long : length row ≡ 10) where
  pub task_held : (w : ShownAt (2 ^ 41) s at (bytes "(task D T") row row' f e)
      → Task (get_or row' 0 0) (get_or row' 1 0) First ≡ cap_form (Task (nth w.numbers 0) (nth w.numbers 1) First)
  unfolding arity once kindless
  task_held w =
      let n : length w.numbers ≡ 2 = count_of (bytes "(task D T") refl w in
      rw (number_stored w 0 (omega arith) (omega arith), number_stored w 1 (omega arith) (omega arith))

  pub resume_held : (w : ShownAt (2 ^ 41) s at (bytes "(task D T U") row row' f e)
      → Task (get_or row' 0 0) (get_or row' 1 0) (Second (get_or row' 2 0))
      ≡ cap_form (Task (nth w.numbers 0) (nth w.numbers 1) (Second (nth w.numbers 2)))
  unfolding arity once kindless
  resume_held w =
      let n : length w.numbers ≡ 3 = count_of (bytes "(task D T U") refl w in
      rw (number_stored w 0 (omega arith) (omega arith), number_stored w 1 (omega arith) (omega arith), number_stored w 2 (omega arith) (omega arith))

  pub leaf_held : (w : ShownAt (2 ^ 41) s at (bytes "(leaf K C M)") row row' f e)
      → Leaf f.kind (get_or row' 0 0) (get_or row' 1 0) ≡ cap_form (Leaf f.kind (nth w.numbers 0) (nth w.numbers 1))
  unfolding arity once kindless
  leaf_held w =
      let n : length w.numbers ≡ 2 = count_of (bytes "(leaf K C M)") refl w in
      rw (number_stored w 0 (omega arith) (omega arith), number_stored w 1 (omega arith) (omega arith))

  pub call_held : (w : ShownAt (2 ^ 41) s at (bytes "(call K F C M)") row row' f e)
      → Call f.kind (get_or row' 0 0) (get_or row' 1 0) (get_or row' 2 0)
      ≡ cap_form (Call f.kind (nth w.numbers 0) (nth w.numbers 1) (nth w.numbers 2))
  unfolding arity once kindless
  call_held w =
      let n : length w.numbers ≡ 3 = count_of (bytes "(call K F C M)") refl w in
      rw (number_stored w 0 (omega arith) (omega arith), number_stored w 1 (omega arith) (omega arith), number_stored w 2 (omega arith) (omega arith))

  pub loop_held : (w : ShownAt (2 ^ 41) s at (bytes "(loop K B C M") row row' f e)
      → Loop f.kind (get_or row' 0 0) (get_or row' 1 0) (get_or row' 2 0)
      ≡ cap_form (Loop f.kind (nth w.numbers 0) (nth w.numbers 1) (nth w.numbers 2))
  unfolding arity once kindless
  loop_held w =
      let n : length w.numbers ≡ 3 = count_of (bytes "(loop K B C M") refl w in
      rw (number_stored w 0 (omega arith) (omega arith), number_stored w 1 (omega arith) (omega arith), number_stored w 2 (omega arith) (omega arith))

  pub if_held : (w : ShownAt (2 ^ 41) s at (bytes "(if K C M") row row' f e)
      → If f.kind (get_or row' 0 0) (get_or row' 1 0) ≡ cap_form (If f.kind (nth w.numbers 0) (nth w.numbers 1))
  unfolding arity once kindless
  if_held w =
      let n : length w.numbers ≡ 2 = count_of (bytes "(if K C M") refl w in
      rw (number_stored w 0 (omega arith) (omega arith), number_stored w 1 (omega arith) (omega arith))

-- What is answered where a pattern fits the line; and where it does not, the other patterns decide.
module _ (s : List ℕ) (at : ℕ) (p : List ℕ) (F : Bool → List ℕ → Form) (other : grammar.Line) where
  pub answer_fit : {limit : ℕ} {row row' : List ℕ} {f : Shown} {e : ℕ} {g : Form} (w : ShownAt limit s at p row row' f e)
      → g ≡ cap_form (F f.kind w.numbers)
      → Some (g, e) ≡ answered (line_end s at) (or_else (matched p false (line_at s at)) F other)
  answer_fit w h = rw (h, w.after, w.fits)

  pub answer_miss : {r : Option (Form × ℕ)} → matched p false (line_at s at) ≡ miss → r ≡ answered (line_end s at) other
      → r ≡ answered (line_end s at) (or_else (matched p false (line_at s at)) F other)
  answer_miss w h = rw w h
