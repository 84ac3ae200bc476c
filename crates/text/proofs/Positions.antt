-- Places and lines: the line at a place is the first of the lines from there on, and what an answer of `read_at` says of it.
-- Assumes nothing.
use Prim.Native.Nat.{ℕ, suc, ◌-◌, ◌≤◌, ◌<◌}
use mathlib.Core.Path.{◌≡◌, refl, sym, ap, ◌∙◌, subst}
use mathlib.Core.List.{List, [], ◌∷◌}
use mathlib.Core.Bool.{Bool, true, false, cond as pick}
use native.Mathlib.Omega.{arith}
use native.Mathlib.Decide.{dec_le}
use lib.ListN.{length, get_or, drop, length-drop, drop_of_length-le}
use lib.Seq.{drop-cons, drop-drop}
use lib.Dec.{eqb}
use Rattle.text.specs.declared.Form.{Form}
use Rattle.std.specs.Prelude.{Option}
use Rattle.text.specs.Text.{joined, lines, line_of, after_line, line_at, rest_at, line_end}
use Rattle.text.specs.Patterns.{matched, item}
use Rattle.text.specs.Grammar as grammar
use Rattle.text.specs.Grammar.{no_form, form, line_form, cap_form, answered, read_at, Found, Means}
use Rattle.text.proofs.Laws.{line_none}

-- A text that is not empty has the line it begins with, and then the lines of the rest.
lines_first : (b : ℕ) (bs : List ℕ) → lines (b ∷ bs) ≡ line_of (b ∷ bs) ∷ lines (after_line (b ∷ bs))
unfolding lines line_of after_line
lines_first b [] = go (eqb b 10)
  where
    go : (t : Bool) → joined b t [] ≡ pick t (b ∷ []) (b ∷ []) ∷ lines (pick t [] [])
    go true = refl
    go false = refl
lines_first b (d ∷ ds) = go (eqb b 10) (lines_first d ds)
  where
    go : (t : Bool) → lines (d ∷ ds) ≡ line_of (d ∷ ds) ∷ lines (after_line (d ∷ ds))
        → joined b t (lines (d ∷ ds)) ≡ pick t (b ∷ []) (b ∷ line_of (d ∷ ds)) ∷ lines (pick t (d ∷ ds) (after_line (d ∷ ds)))
    go true e = refl
    go false e = rw e

-- The line at a place before the end is the first of the lines from there on.
pub lines_at : (s : List ℕ) (i : ℕ) → i < length s → lines (drop i s) ≡ line_at s i ∷ lines (rest_at s i)
unfolding line_at rest_at
lines_at s i h = rw (drop-cons s i 0 h) (lines_first (get_or s i 0) (drop (suc i) s))

-- From the end on there are no lines.
pub lines_end : (s : List ℕ) (i : ℕ) → length s ≤ i → lines (drop i s) ≡ []
unfolding lines
lines_end s i h = rw (drop_of_length-le s h)

-- A line is at most as long as its text.
line_short : (l : List ℕ) → length (line_of l) ≤ length l
unfolding line_of
line_short [] = omega arith
line_short (b ∷ bs) = go (eqb b 10) (line_short bs)
  where
    go : (t : Bool) → length (line_of bs) ≤ length bs → length (pick t (b ∷ []) (b ∷ line_of bs)) ≤ suc (length bs)
    go true h = omega arith
    go false h = omega arith

-- At a place, it is at most as long as what is left of the text.
line_fits : (s : List ℕ) (i : ℕ) → length (line_at s i) ≤ length s - i
unfolding line_at
line_fits s i = omega (arith, line_short (drop i s), length-drop i s)

-- What follows a line is the rest.
line_drop : (l : List ℕ) → after_line l ≡ drop (length (line_of l)) l
unfolding line_of after_line
line_drop [] = refl
line_drop (b ∷ bs) = go (eqb b 10) (line_drop bs)
  where
    go : (t : Bool) → after_line bs ≡ drop (length (line_of bs)) bs → pick t bs (after_line bs) ≡ drop (length (pick t (b ∷ []) (b ∷ line_of bs))) (b ∷ bs)
    go true e = refl
    go false e = e

-- The text after a line begins at the line's end.
pub rest_end : (s : List ℕ) (i : ℕ) → rest_at s i ≡ drop (line_end s i) s
unfolding rest_at line_end line_at
rest_end s i = line_drop (drop i s) ∙ drop-drop (length (line_of (drop i s))) i s

-- A line that is no form is not a form.
pub never_form : {A : Type 0} {g : Form} → no_form ≡ form g → A
never_form e = let z : ◌≡◌ {A = ℕ} 0 1 = cc in absurd (omega arith)

-- A line of the grammar is not empty.
form_long : (l : List ℕ) (g : Form) → line_form l ≡ form g → 1 ≤ length l
unfolding line_form matched item
form_long [] g e = never_form e
form_long (b ∷ bs) g e = omega arith

-- So it stands before the end of the text.
form_before : (s : List ℕ) (i : ℕ) (g : Form) → line_form (line_at s i) ≡ form g → i < length s
unfolding line_form matched item
form_before s i g e =
    elim (dec_le (length s) i) [
      | yes h ↦ never_form (rw (line_none s i h) at e)
      | no h ↦ omega arith
    ]

-- So the answer of a line that is a form is so.
found : (s : List ℕ) (i : ℕ) (g : Form) → line_form (line_at s i) ≡ form g → Found s i (cap_form g) (line_end s i)
unfolding line_end
found s i g e =
    let long : 1 ≤ length (line_at s i) = form_long (line_at s i) g e in
    let before : i < length s = form_before s i g e in
    record {
      past = omega arith;
      within = omega (arith, line_fits s i);
      rest = rest_end s i;
      exact = g;
      held = refl;
      reads = e;
    }

-- What reading at a place answers is so.
pub read_means : (s : List ℕ) (i : ℕ) (r : Option (Form × ℕ)) → r ≡ read_at s i → Means s i r
unfolding read_at
read_means s i r e = subst (Means s i) (sym e) (go (line_form (line_at s i)) refl)
  where
    go : (l : grammar.Line) → line_form (line_at s i) ≡ l → Means s i (answered (line_end s i) l)
    go no_form q = q
    go (form g) q = found s i g q

-- Where a line was read, it is the first of the lines from there on, and the others begin at its end.
pub lines_found : {s : List ℕ} {i : ℕ} {f : Form} {e : ℕ} → Found s i f e → lines (drop i s) ≡ line_at s i ∷ lines (drop e s)
lines_found {s} {i} {f} {e} w = lines_at s i (omega (arith, w.past, w.within)) ∙ ap (λ x. line_at s i ∷ lines x) w.rest
