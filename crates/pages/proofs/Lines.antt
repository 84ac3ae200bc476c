-- The lines of a sheet, written one behind the other. Assumes nothing.
use Prim.Native.Nat.{ℕ, zero, suc, ◌+◌, ◌-◌, ◌*◌, ◌/◌, ◌^◌, ◌≤◌, ◌<◌, min, max}
use mathlib.Core.Path.{◌≡◌, refl, sym, ap, subst, ◌∙◌}
use mathlib.Core.List.{List, [], ◌∷◌, ◌++◌, flatten, append_assoc, append-nil}
use native.Mathlib.Numerals.{add-one}
use native.Mathlib.Omega.{arith}
use native.Mathlib.Decide.{dec_le}
use lib.ListN.{length, get_or, drop, replicate, length-append, replicate-append-replicate, drop_of_length-le}
use lib.Seq.{drop-cons}
use Rattle.text.specs.Text.{bytes}
use Rattle.text.specs.Spelling.{decimal}
use Rattle.text.proofs.Decimal.{decimal_digit, decimal_step}
use Rattle.print.specs.Printed.{Printed}
use Rattle.print.proofs.Laws.{flatten_append, nothing_written, behind}
use Rattle.pages.specs.Sheet.{right_aligned, in_fields, sheet_line, heading_widths, point_widths, point_lines, page, pages_to, page_count}

-- NUMBERS AND BLANKS

-- A number below 10 has one digit, and any other one more than its tenth.
pub digits_one : (n : ℕ) → n < 10 → length (decimal n) ≡ 1
digits_one n h = ap length (decimal_digit n h)

pub digits_more : (n : ℕ) → 10 ≤ n → length (decimal n) ≡ length (decimal (n / 10)) + 1
digits_more n h = ap length (decimal_step n h) ∙ length-append (decimal (n / 10)) (_ ∷ [])

-- So a number between a power of ten and the next one has one digit more than the exponent says.
digits_between : (k n : ℕ) → 10 ^ k ≤ n → n < 10 * 10 ^ k → length (decimal n) ≡ k + 1
digits_between zero n h l = digits_one n (omega arith)
digits_between (suc k) n h l =
    omega (arith, digits_more n (omega arith), digits_between k (n / 10) (omega arith) (omega arith))

-- 0 has as many digits as 1.
pub digits_counted : (k n : ℕ) → 10 ^ k ≤ max n 1 → max n 1 < 10 * 10 ^ k → k + 1 ≡ length (decimal n)
digits_counted k zero h l = sym (digits_between k 1 h l) ∙ digits_one 1 (omega arith) ∙ sym (digits_one 0 (omega arith))
digits_counted k (suc n) h l =
    let larger : max (suc n) 1 ≡ suc n = omega arith in
    sym (digits_between k (suc n) (rw larger at h) (rw larger at l))

-- One blank more.
pub blank_more : (i : ℕ) {l m n : List ℕ} {at e r : ℕ} → Printed l at (replicate i 32) m e → Printed m e (bytes " ") n r
    → Printed l at (replicate (i + 1) 32) n r
blank_more i {l} {m} {n} {at} {e} {r} p q =
    subst (λ (t : List ℕ). Printed l at t n r) (replicate-append-replicate i 1 32) (behind p q)

-- A LINE

-- A line was begun: the first so many of its numbers are written, and so many columns are left for the others.
pub record Begun (widths numbers l : List ℕ) (at : ℕ) (m : List ℕ) (e left i : ℕ) : Type 0 where
  pub text : List ℕ
  pub written : Printed l at text m e
  pub rest : in_fields 72 widths numbers ≡ text ++ in_fields left (drop i widths) (drop i numbers)

-- A number more.
pub begun_more : {widths numbers l m n : List ℕ} {at e r left i : ℕ} → i < length widths → i < length numbers →
    Begun widths numbers l at m e left i → Printed m e (right_aligned (get_or widths i 0) (get_or numbers i 0)) n r →
    Begun widths numbers l at n r (left - get_or widths i 0) (i + 1)
unfolding in_fields
begun_more {widths} {numbers} {l} {m} {n} {at} {e} {r} {left} {i} h k b q =
    let s : i + 1 ≡ suc i = omega arith in
    record {
      text = b.text ++ right_aligned (get_or widths i 0) (get_or numbers i 0);
      written = behind b.written q;
      rest =
          b.rest ∙ rw (
            s,
            drop-cons widths i 0 h,
            drop-cons numbers i 0 k,
            append_assoc b.text (right_aligned (get_or widths i 0) (get_or numbers i 0))
                (in_fields (left - get_or widths i 0) (drop (suc i) widths) (drop (suc i) numbers)),
          );
    }

-- Without numbers blanks are left.
pub blank : (left : ℕ) (widths : List ℕ) → in_fields left widths [] ≡ replicate left 32
unfolding in_fields
blank left [] = refl
blank left (w ∷ widths) = refl

-- So behind the last one, or behind the last field.
blank_behind : (left i : ℕ) (widths numbers : List ℕ) → min (length widths) (length numbers) ≤ i
    → in_fields left (drop i widths) (drop i numbers) ≡ replicate left 32
unfolding in_fields
blank_behind left i widths numbers h =
    elim (dec_le (length numbers) i) [
      | yes k ↦ rw (drop_of_length-le numbers k) (blank left (drop i widths))
      | no k ↦ let w : length widths ≤ i = omega arith in rw (drop_of_length-le widths w)
    ]

-- The blanks and the line feed end the line.
pub line_ended : {widths numbers l m n o : List ℕ} {at e f r left i : ℕ} → min (length widths) (length numbers) ≤ i → Begun widths numbers l at m e left i →
    Printed m e (replicate left 32) n f → Printed n f (bytes "\n") o r → Printed l at (sheet_line widths numbers) o r
unfolding sheet_line
line_ended {widths} {numbers} {l} {o} {at} {r} {left} {i} h b p q =
    let rest = blank_behind left i widths numbers h in
    let e : b.text ++ replicate left 32 ≡ in_fields 72 widths numbers = sym (b.rest ∙ ap (λ (u : List ℕ). b.text ++ u) rest) in
    subst (λ (u : List ℕ). Printed l at (u ++ bytes "\n") o r) e (behind (behind b.written p) q)

-- LINE BY LINE, PAGE BY PAGE

-- Some lines behind others.
lines_behind : (xs ys : List (List ℕ)) {l m n : List ℕ} {at e r : ℕ} → Printed l at (flatten xs) m e → Printed m e (flatten ys) n r →
    Printed l at (flatten (xs ++ ys)) n r
lines_behind xs ys {l} {n} {at} {r} p q = subst (λ (u : List ℕ). Printed l at u n r) (sym (flatten_append xs ys)) (behind p q)

-- The text of one line.
single : (x : List ℕ) → flatten (x ∷ []) ≡ x
unfolding flatten
single x = append-nil x

-- Before the first line of a page's points, and before the first page, nothing is written.
pub no_points : (all : List (List ℕ)) (first : ℕ) (l : List ℕ) (at : ℕ) → Printed l at (flatten (point_lines all first 0)) l at
unfolding point_lines flatten
no_points all first = nothing_written

pub no_pages : (task : List ℕ) (all : List (List ℕ)) (l : List ℕ) → Printed l 0 (flatten (pages_to task all 0)) l 0
unfolding pages_to flatten
no_pages task all l = nothing_written l 0

-- A line more.
pub point_more : (all : List (List ℕ)) (first j : ℕ) {l m n : List ℕ} {at e r : ℕ} → Printed l at (flatten (point_lines all first j)) m e →
    Printed m e (sheet_line point_widths (get_or all (first + j) [])) n r → Printed l at (flatten (point_lines all first (j + 1))) n r
unfolding point_lines
point_more all first j {m} {n} {e} {r} p q =
    let x = sheet_line point_widths (get_or all (first + j) []) in
    let one : Printed m e (flatten (x ∷ [])) n r = subst (λ (u : List ℕ). Printed m e u n r) (sym (single x)) q in
    rw (add-one j) (lines_behind (point_lines all first j) (x ∷ []) p one)

-- A page: its three headings, and its lines of points.
pub page_whole : (task : List ℕ) (all : List (List ℕ)) (k : ℕ) {l m n o s : List ℕ} {at e f g r : ℕ} → Printed l at (sheet_line heading_widths task) m e →
    Printed m e (sheet_line heading_widths ((k + 1) ∷ [])) n f → Printed n f (sheet_line heading_widths []) o g →
    Printed o g (flatten (point_lines all (k * 57) 57)) s r → Printed l at (flatten (page task all k)) s r
unfolding page flatten
page_whole task all k p q b t = behind p (behind q (behind b t))

-- A page more.
pub page_more : (task : List ℕ) (all : List (List ℕ)) (k : ℕ) {l m n : List ℕ} {e r : ℕ} → Printed l 0 (flatten (pages_to task all k)) m e →
    Printed m e (flatten (page task all k)) n r → Printed l 0 (flatten (pages_to task all (k + 1))) n r
unfolding pages_to
page_more task all k p q = rw (add-one k) (lines_behind (pages_to task all k) (page task all k) p q)

-- There are at most nine.
pub nine : (n : ℕ) → n ≤ 512 → page_count n ≤ 9
nine n h = omega arith
