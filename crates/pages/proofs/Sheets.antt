-- The lines of a sheet: no number is wider than its field, each is a page line, and the sheet has 60 of them a page. Assumes nothing.
use Prim.Native.Nat.{ℕ, zero, suc, ◌+◌, ◌*◌, ◌^◌, ◌≤◌, ◌<◌}
use mathlib.Core.Path.{◌≡◌, refl, ap, ◌∙◌}
use mathlib.Core.List.{List, [], ◌∷◌, flatten}
use mathlib.Core.Bool.{true}
use native.Mathlib.Omega.{arith}
use lib.ListN.{length, get_or, length-append}
use Rattle.text.specs.Text.{bytes, lines}
use Rattle.text.specs.Spelling.{decimal}
use Rattle.text.proofs.Decimal.{tens, decimal_length}
use Rattle.text.proofs.Length.{deadline_length}
use Rattle.text.proofs.Spell.{ends, lines_one}
use Rattle.model.specs.Plan.{Plan, resume_cost}
use Rattle.model.specs.declared.Edition.{Edition}
use Rattle.model.specs.declared.Edition.TheVariants.{First, Second}
use Rattle.model.specs.Acceptance.{Accepted}
use Rattle.listing.specs.PlanListing.{resume_numbers, task_numbers, points}
use Rattle.listing.proofs.Each.{Each, each_append, each_at}
use Rattle.listing.proofs.Points.{few_all}
use Rattle.listing.proofs.Limits.{PointSmall, TaskSmall, points_small, task_small}
use Rattle.pages.specs.Sheet.{sheet_line, heading_widths, point_widths, point_lines, page, pages_to, page_count, sheet_lines, plan_sheet}
use Rattle.pages.specs.ReadBack.{NoWider, PageLine}
use Rattle.pages.proofs.Columns.{ends_line, page_line}

-- PAGES

-- As many pages as are needed, and one at least.
pub pages_needed : (n : ℕ) → (1 ≤ page_count n) × (n ≤ 57 * page_count n) × ((k : ℕ) → 1 ≤ k → n ≤ 57 * k → page_count n ≤ k)
pages_needed n = (omega arith, omega arith, λ k h l. omega arith)

-- So many lines of points are so many.
pub point_count : (all : List (List ℕ)) (first n : ℕ) → length (point_lines all first n) ≡ n
unfolding point_lines
point_count all first zero = refl
point_count all first (suc n) =
    omega (arith, length-append (point_lines all first n) (sheet_line point_widths (get_or all (first + n) []) ∷ []), point_count all first n)

-- With its headings a page has 60 lines.
page_size : (task : List ℕ) (all : List (List ℕ)) (k : ℕ) → length (page task all k) ≡ 60
unfolding page
page_size task all k = omega (arith, point_count all (k * 57) 57)

-- So some pages have 60 times as many.
pub pages_size : (task : List ℕ) (all : List (List ℕ)) (k : ℕ) → length (pages_to task all k) ≡ 60 * k
unfolding pages_to
pages_size task all zero = refl
pages_size task all (suc k) = omega (arith, length-append (pages_to task all k) (page task all k), pages_size task all k, page_size task all k)

-- The sheet has 60 lines a page.
pub line_count : (p : Plan) → length (sheet_lines p) ≡ 60 * page_count (length (points p))
line_count p = pages_size (task_numbers p) (points p) (page_count (length (points p)))

-- EACH LINE

-- Consider any P, a task and points, where P holds of the task's line, of the blank one, and of each point's.
module _ (P : List ℕ → Type 0) (task : List ℕ) (all : List (List ℕ)) (of_task : P (sheet_line heading_widths task)) (of_none : P (sheet_line heading_widths []))
    (of_point : (i : ℕ) → P (sheet_line point_widths (get_or all i []))) where
  -- Then it holds of each line of points.
  each_point : (first n : ℕ) → Each P (point_lines all first n)
  unfolding Each point_lines
  each_point first zero = tt
  each_point first (suc n) = each_append P (point_lines all first n) (_ ∷ []) (each_point first n) (of_point (first + n), tt)

  -- Where it holds of the page numbers' lines too, it holds of each line of the pages.
  each_page_line : (k : ℕ) → ((i : ℕ) → i < k → P (sheet_line heading_widths ((i + 1) ∷ []))) → Each P (pages_to task all k)
  unfolding Each page pages_to
  each_page_line zero of_page = tt
  each_page_line (suc k) of_page =
      each_append P (pages_to task all k) (page task all k) (each_page_line k (λ i h. of_page i (omega arith)))
      (of_task, (of_page k (omega arith), (of_none, each_point (k * 57) 57)))

-- NO NUMBER IS TOO WIDE

-- A number of at most 2^40 is no wider than 14 columns.
wide_fits : (n : ℕ) → n ≤ 2 ^ 40 → length (decimal n) ≤ 14
wide_fits n h = omega (arith, deadline_length n h)

-- A small U is no wider than its field, and in edition 1 there is none.
resume_fits : (e : Edition) → resume_cost e ≤ 2 ^ 20 → NoWider (14 ∷ []) (resume_numbers e)
resume_fits First h = tt
resume_fits (Second u) h = (wide_fits u (omega (arith, h)), tt)

-- Small numbers of a task are no wider than their fields.
task_fits : {x : List ℕ} → TaskSmall x → NoWider heading_widths x
task_fits s =
    rw s.is (
      wide_fits s.total s.total_low,
      (
        wide_fits s.max_total s.max_total_low,
        (wide_fits s.deadline s.deadline_low, (wide_fits s.switch (omega (arith, s.switch_low)), resume_fits s.edition s.resume_low)),
      ),
    )

-- So are those of a small point.
point_fits : {x : List ℕ} → PointSmall x → NoWider point_widths x
unfolding tens
point_fits s =
    rw s.is (
      decimal_length 5 s.number (omega (arith, s.number_low)),
      (
        decimal_length 3 s.level (omega (arith, s.level_low)),
        (wide_fits s.tail s.tail_low, (wide_fits s.stretch s.stretch_low, tt)),
      ),
    )

-- So are those at any place of small points, past the end too.
pub points_fit : (xs : List (List ℕ)) → Each PointSmall xs → (i : ℕ) → NoWider point_widths (get_or xs i [])
unfolding Each
points_fit [] h i = tt
points_fit (x ∷ xs) h zero = point_fits h.0
points_fit (x ∷ xs) h (suc i) = points_fit xs h.1 i

-- No number of an accepted plan's sheet is wider than its field.
pub no_wider : (p : Plan) → Accepted p → NoWider heading_widths (task_numbers p) × ((i : ℕ) → NoWider point_widths (get_or (points p) i [])) ×
    ((k : ℕ) → k < page_count (length (points p)) → NoWider heading_widths ((k + 1) ∷ []))
no_wider p a =
    let few = (few_all p p.functions).0 in
    (task_fits (task_small p a), points_fit (points p) (points_small p a), λ k h. (wide_fits (k + 1) (omega (arith, few, a.formed.few_leaves)), tt))

-- THE WHOLE SHEET

-- The lines of an accepted plan's sheet are page lines.
page_lines : (p : Plan) → Accepted p → Each PageLine (sheet_lines p)
page_lines p a =
    let (of_task, of_point, of_page) = no_wider p a in
    each_page_line PageLine (task_numbers p) (points p) (page_line heading_widths (task_numbers p) (omega arith) of_task)
    (page_line heading_widths [] (omega arith) tt)
    (λ i. page_line point_widths (get_or (points p) i []) (omega arith) (of_point i)) (page_count (length (points p)))
    (λ k h. page_line heading_widths ((k + 1) ∷ []) (omega arith) (of_page k h))

-- Each line is a page line.
pub each_line : (p : Plan) → Accepted p → (i : ℕ) → i < length (sheet_lines p) → PageLine (get_or (sheet_lines p) i [])
each_line p a = each_at PageLine [] (sheet_lines p) (page_lines p a)

-- Page lines have 73 bytes each.
bytes_of : (ls : List (List ℕ)) → Each PageLine ls → length (flatten ls) ≡ 73 * length ls
unfolding Each flatten
bytes_of [] f = refl
bytes_of (l ∷ ls) f =
    omega (
      arith,
      length-append l (flatten ls),
      ap length f.0.ended ∙ length-append f.0.columns (bytes "\n"),
      f.0.wide,
      bytes_of ls f.1,
    )

-- The bytes of the sheet.
pub sheet_size : (p : Plan) → Accepted p → length (plan_sheet p) ≡ 4380 * page_count (length (points p))
sheet_size p a = omega (arith, bytes_of (sheet_lines p) (page_lines p a), line_count p)

-- Lines that each end with their only line feed are those of the text that they make.
lines_back : (ls : List (List ℕ)) → Each (λ l. ends l ≡ true) ls → lines (flatten ls) ≡ ls
unfolding Each flatten lines
lines_back [] f = refl
lines_back (l ∷ ls) f = lines_one l (flatten ls) f.0 ∙ rw (lines_back ls f.1)

-- The lines of the sheet's text are those it is made of.
pub lines_of_sheet : (p : Plan) → lines (plan_sheet p) ≡ sheet_lines p
lines_of_sheet p =
    lines_back (sheet_lines p)
    (each_page_line (λ l. ends l ≡ true) (task_numbers p) (points p) (ends_line heading_widths (task_numbers p)) (ends_line heading_widths [])
    (λ i. ends_line point_widths (get_or (points p) i [])) (page_count (length (points p))) (λ k h. ends_line heading_widths ((k + 1) ∷ [])))
