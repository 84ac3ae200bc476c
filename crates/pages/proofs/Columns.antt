-- A line of a sheet: how wide it is, its only line feed, and its numbers read back. Assumes nothing.
use Prim.Native.Nat.{ℕ, zero, suc, ◌+◌, ◌-◌, ◌≤◌}
use mathlib.Core.Path.{◌≡◌, refl, sym, ◌∙◌}
use mathlib.Core.List.{List, [], ◌∷◌, ◌++◌, foldr, append_assoc, append-nil}
use mathlib.Core.Bool.{Bool, true, false, cond as pick}
use native.Mathlib.Omega.{arith}
use lib.Dec.{eqb}
use lib.ListN.{length, get_or, drop, replicate, length-append, length-replicate, replicate-append-replicate}
use lib.Seq.{take_at, drop_at, drop-drop}
use borrow.Author.Tests.{eqb-true, eqb-false}
use Rattle.text.specs.Text.{bytes}
use Rattle.text.specs.Spelling.{decimal}
use Rattle.text.specs.Patterns.{some, number}
use Rattle.text.proofs.Decimal.{never_some, number_decimal}
use Rattle.text.proofs.Spell.{nothing, ends, ends_decimal}
use Rattle.pages.specs.Sheet.{right_aligned, in_fields, sheet_line}
use Rattle.pages.specs.ReadBack.{NoWider, PageLine, after_blanks, read_to_end, in_columns}
use Rattle.pages.proofs.Lines.{blank}

-- A NUMBER IN ITS FIELD

-- Blanks in front of some columns make no difference.
after_all : (n : ℕ) (l : List ℕ) → after_blanks (replicate n 32 ++ l) ≡ after_blanks l
unfolding after_blanks
after_all zero l = refl
after_all (suc n) l = after_all n l

-- A number begins with no blank.
after_none : (l : List ℕ) (n : ℕ) (r : List ℕ) → number l ≡ some n r → after_blanks l ≡ l
unfolding after_blanks number
after_none [] n r h = refl
after_none (b ∷ l) n r h = go (eqb b 32) refl
  where
    go : (t : Bool) → eqb b 32 ≡ t → pick t (after_blanks l) (b ∷ l) ≡ b ∷ l
    go true e = never_some (rw (eqb-true b 32 e) at h)
    go false e = refl

-- A number is read from its field.
read_field : (w n : ℕ) → read_to_end (number (after_blanks (right_aligned w n))) ≡ n ∷ []
unfolding right_aligned
read_field w n =
    let e : number (decimal n) ≡ some n [] = rw (append-nil (decimal n)) at (number_decimal n [] tt) in
    rw (after_all (w - length (decimal n)) (decimal n), after_none (decimal n) n [] e, e)

-- HOW WIDE

-- A number that is no wider than its field fills it with its blanks.
field_length : (w n : ℕ) → length (decimal n) ≤ w → length (right_aligned w n) ≡ w
unfolding right_aligned
field_length w n h =
    let left = w - length (decimal n) in
    omega (arith, length-append (replicate left 32) (decimal n), length-replicate {A = ℕ} left 32)

-- So numbers and the blanks behind them fill the columns that are left.
fields_length : (left : ℕ) (widths numbers : List ℕ) → foldr ◌+◌ 0 widths ≤ left → NoWider widths numbers → length (in_fields left widths numbers) ≡ left
unfolding in_fields
fields_length left [] numbers h f = length-replicate left 32
fields_length left (w ∷ widths) [] h f = length-replicate left 32
fields_length left (w ∷ widths) (n ∷ numbers) h f =
    omega (
      arith,
      length-append (right_aligned w n) (in_fields (left - w) widths numbers),
      field_length w n f.0,
      fields_length (left - w) widths numbers (omega arith) f.1,
    )

-- ONE LINE FEED

-- Blanks have no line feed.
ends_blanks : (n : ℕ) (r : List ℕ) → ends (replicate n 32 ++ r) ≡ ends r
unfolding ends
ends_blanks zero r = refl
ends_blanks (suc n) r = ends_blanks n r

-- Nor have numbers in their fields.
ends_in_fields : (left : ℕ) (widths numbers r : List ℕ) → ends (in_fields left widths numbers ++ r) ≡ ends r
unfolding in_fields right_aligned
ends_in_fields left [] numbers r = ends_blanks left r
ends_in_fields left (w ∷ widths) [] r = ends_blanks left r
ends_in_fields left (w ∷ widths) (n ∷ numbers) r =
    let blanks : List ℕ = replicate (w - length (decimal n)) 32 in
    rw (append_assoc (blanks ++ decimal n) (in_fields (left - w) widths numbers) r, append_assoc blanks (decimal n) (in_fields (left - w) widths numbers ++ r))
    (ends_blanks (w - length (decimal n)) _ ∙ (ends_decimal n _ ∙ ends_in_fields (left - w) widths numbers r))

-- So a line ends with its only line feed.
pub ends_line : (widths numbers : List ℕ) → ends (sheet_line widths numbers) ≡ true
unfolding sheet_line ends nothing
ends_line widths numbers = ends_in_fields 72 widths numbers (bytes "\n")

-- No line feed is before it.
none_before : (columns : List ℕ) → ends (columns ++ bytes "\n") ≡ true → (j : ℕ) → get_or columns j 0 ≡ 10 → ⊥
unfolding ends nothing
none_before [] e j h = omega arith
none_before (b ∷ columns) e j h = go columns (eqb b 10) refl e (none_before columns) j h
  where
    go : (bs : List ℕ) (t : Bool) → eqb b 10 ≡ t → pick t (nothing (bs ++ bytes "\n")) (ends (bs ++ bytes "\n")) ≡ true →
        (ends (bs ++ bytes "\n") ≡ true → (j : ℕ) → get_or bs j 0 ≡ 10 → ⊥) → (j : ℕ) → get_or (b ∷ bs) j 0 ≡ 10 → ⊥
    go [] true d e ih j h = let z : ◌≡◌ {A = ℕ} 0 1 = cc in omega arith
    go (c ∷ bs) true d e ih j h = let z : ◌≡◌ {A = ℕ} 0 1 = cc in omega arith
    go bs false d e ih zero h = eqb-false b 10 d h
    go bs false d e ih (suc j) h = ih e j h

-- A line of numbers that are no wider than their fields is a page line.
pub page_line : (widths numbers : List ℕ) → foldr ◌+◌ 0 widths ≤ 72 → NoWider widths numbers → PageLine (sheet_line widths numbers)
unfolding sheet_line
page_line widths numbers h f =
    record {
      columns = in_fields 72 widths numbers;
      ended = refl;
      wide = fields_length 72 widths numbers h f;
      one_line = none_before (in_fields 72 widths numbers) (ends_line widths numbers);
    }

-- READ BACK

-- None is read from blanks.
read_blanks : (w : ℕ) → read_to_end (number (after_blanks (replicate w 32))) ≡ []
unfolding after_blanks number
read_blanks zero = refl
read_blanks (suc w) = read_blanks w

-- The numbers in some fields are read from them.
read_fields : (left : ℕ) (widths numbers r : List ℕ) → foldr ◌+◌ 0 widths ≤ left → NoWider widths numbers →
    in_columns widths (in_fields left widths numbers ++ r) ≡ numbers
unfolding in_columns in_fields
read_fields left [] [] r h f = refl
read_fields left [] (n ∷ numbers) r h f = absurd f
read_fields left (w ∷ widths) [] r h f =
    let a : List ℕ = replicate w 32 in
    let b : List ℕ = replicate (left - w) 32 in
    let whole : w + (left - w) ≡ left = omega arith in
    let split : replicate left 32 ≡ a ++ b = sym (replicate-append-replicate w (left - w) 32 ∙ rw whole) in
    let e : length a ≡ w = length-replicate w 32 in
    rw (split, append_assoc a b r, take_at a (b ++ r) w e, drop_at a (b ++ r) w e, read_blanks w)
    (rw (blank (left - w) widths) at (read_fields (left - w) widths [] r (omega arith) tt))
read_fields left (w ∷ widths) (n ∷ numbers) r h f =
    let a = right_aligned w n in
    let b = in_fields (left - w) widths numbers in
    let e : length a ≡ w = field_length w n f.0 in
    rw (append_assoc a b r, take_at a (b ++ r) w e, drop_at a (b ++ r) w e, read_field w n, read_fields (left - w) widths numbers r (omega arith) f.1)

-- The numbers of a line are read from it.
pub read_line : (widths numbers : List ℕ) → foldr ◌+◌ 0 widths ≤ 72 → NoWider widths numbers → in_columns widths (sheet_line widths numbers) ≡ numbers
unfolding sheet_line
read_line widths numbers = read_fields 72 widths numbers (bytes "\n")

-- BLANKS TO THE END

-- How many columns the fields of some numbers take.
abbrev pub taken : List ℕ → List ℕ → ℕ
taken [] numbers = 0
taken (w ∷ widths) [] = 0
taken (w ∷ widths) (n ∷ numbers) = w + taken widths numbers

-- Behind them blanks are left.
blanks_left : (left : ℕ) (widths numbers r : List ℕ) → NoWider widths numbers →
    drop (taken widths numbers) (in_fields left widths numbers ++ r) ≡ replicate (left - taken widths numbers) 32 ++ r
unfolding in_fields
blanks_left left [] numbers r f = let e : left - 0 ≡ left = omega arith in rw e
blanks_left left (w ∷ widths) [] r f = let e : left - 0 ≡ left = omega arith in rw e
blanks_left left (w ∷ widths) (n ∷ numbers) r f =
    let a = right_aligned w n in
    let b = in_fields (left - w) widths numbers in
    let t = taken widths numbers in
    let e : left - w - t ≡ left - (w + t) = omega arith in
    rw (
      append_assoc a b r,
      sym (drop-drop t w (a ++ (b ++ r))),
      drop_at a (b ++ r) w (field_length w n f.0),
      blanks_left (left - w) widths numbers r f.1,
      e,
    )

-- So behind the numbers of a line stand blanks, and the line feed.
pub blanks_behind : (widths numbers : List ℕ) → NoWider widths numbers →
    drop (taken widths numbers) (sheet_line widths numbers) ≡ replicate (72 - taken widths numbers) 32 ++ bytes "\n"
unfolding sheet_line
blanks_behind widths numbers = blanks_left 72 widths numbers (bytes "\n")
