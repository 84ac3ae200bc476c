-- The theorems about the review sheet, to be read. The definitions to believe are in specs/Sheet (the sheet of a plan, from the plan alone) and
-- specs/ReadBack (what a line of a page is, and how its numbers are read back), and those of the plain listing.
use Prim.Native.Nat.{ℕ, ◌+◌, ◌-◌, ◌*◌, ◌/◌, ◌%◌, ◌≤◌, ◌<◌}
use mathlib.Core.Bool.{false}
use mathlib.Core.Path.{◌≡◌, sym, ap, ◌∙◌}
use mathlib.Core.List.{List, [], ◌∷◌, ◌++◌}
use native.Mathlib.Omega.{arith}
use lib.ListN.{length, get_or, take, drop, replicate}
use lib.Seq.{sets}
use Rattle.text.specs.Text.{bytes, lines}
use Rattle.text.specs.Patterns.{matched, match}
use Rattle.model.specs.Plan.{Plan}
use Rattle.model.specs.Acceptance.{Accepted}
use Rattle.model.specs.declared.Refusal.{Refusal}
use Rattle.reader.specs.Outcome.{refused}
use Rattle.print.proofs.Theorems.{begins}
use Rattle.table.specs.Reading.{verdict}
use Rattle.listing.specs.PlanListing.{task_numbers, task_pattern, points, plan_listing, outcome_listing}
use Rattle.listing.proofs.Reading as listing
use Rattle.pages.specs.Sheet.{heading_widths, point_widths, page_count, plan_sheet, outcome_sheet}
use Rattle.pages.specs.ReadBack.{NoWider, PageLine, in_columns, points_on}
use Rattle.pages.proofs.Sheets as sheets
use Rattle.pages.proofs.Reading as reading

-- The bytes that a program hands over to standard output are the sheet: consider a buffer of 39,420 bytes, and m and n as `sheet_text` leaves the buffer
-- and gives the length by its contract. The first n bytes of m are the sheet of the plan that the text is read as, or the line of the refusal.
pub sheet_is_of_text : (text buffer m : List ℕ) (n : ℕ) → length buffer ≡ 39420 → m ≡ sets buffer 0 (outcome_sheet (verdict 512 text)) →
    n ≡ length (outcome_sheet (verdict 512 text)) → n ≤ 39420 → take n m ≡ outcome_sheet (verdict 512 text)
sheet_is_of_text text buffer m n long e k h = rw (e, k) (begins (outcome_sheet (verdict 512 text)) buffer (omega arith))

-- The answer to a refused plan is that of the plain listing.
pub refused_alike : (text : List ℕ) (k : Refusal) (j : ℕ) → verdict 512 text ≡ refused k j → outcome_sheet (verdict 512 text) ≡ outcome_listing (verdict 512 text)
refused_alike text k j e = rw e

-- Consider an accepted plan.
module _ (p : Plan) (a : Accepted p) where
  -- PAGES AND LINES

  -- Every line of its sheet has 72 bytes before its line feed, and none of them is a line feed.
  pub each_line_of_72 : (i : ℕ) → i < length (lines (plan_sheet p)) → PageLine (get_or (lines (plan_sheet p)) i [])
  each_line_of_72 = rw (sheets.lines_of_sheet p) (sheets.each_line p a)

  -- The sheet has 60 lines for each page;
  pub lines_a_page : length (lines (plan_sheet p)) ≡ 60 * page_count (length (points p))
  lines_a_page = ap length (sheets.lines_of_sheet p) ∙ sheets.line_count p

  -- there is at least one page, 57 points a page have room, and no fewer pages would do.
  pub pages_needed : (1 ≤ page_count (length (points p))) × (length (points p) ≤ 57 * page_count (length (points p))) ×
      ((k : ℕ) → 1 ≤ k → length (points p) ≤ 57 * k → page_count (length (points p)) ≤ k)
  pages_needed = sheets.pages_needed (length (points p))

  -- No number is wider than its field, neither those of the task, nor those of any point, nor a page number: none is cut, and none moves another.
  pub no_number_wider : NoWider heading_widths (task_numbers p) × ((i : ℕ) → NoWider point_widths (get_or (points p) i [])) ×
      ((k : ℕ) → k < page_count (length (points p)) → NoWider heading_widths ((k + 1) ∷ []))
  no_number_wider = sheets.no_wider p a

  -- READ BACK FROM THE COLUMNS

  -- Page number k + 1: its first line has the numbers of the task, its second the page number alone, its third is blank, and line number j of the 57
  -- behind them has the numbers of point number 57 k + j of the listing, or none past the last point.
  pub page_read : (k : ℕ) → k < page_count (length (points p)) →
      (in_columns heading_widths (get_or (lines (plan_sheet p)) (k * 60) []) ≡ task_numbers p) ×
      (in_columns heading_widths (get_or (lines (plan_sheet p)) (k * 60 + 1) []) ≡ (k + 1) ∷ []) ×
      (get_or (lines (plan_sheet p)) (k * 60 + 2) [] ≡ replicate 72 32 ++ bytes "\n") ×
      ((j : ℕ) → j < 57 → in_columns point_widths (get_or (lines (plan_sheet p)) (k * 60 + 3 + j) []) ≡ get_or (points p) (k * 57 + j) [])
  page_read = rw (sheets.lines_of_sheet p) (reading.page_read p a)

  -- Behind the numbers of a line, of which each of the task takes 14 columns, stand blanks to column 72, and the line feed; past the last point the whole
  -- line is blank.
  pub blanks_to_the_end : (k : ℕ) → k < page_count (length (points p)) →
      (drop (14 * length (task_numbers p)) (get_or (lines (plan_sheet p)) (k * 60) []) ≡ replicate (72 - 14 * length (task_numbers p)) 32 ++ bytes "\n") ×
      (drop 14 (get_or (lines (plan_sheet p)) (k * 60 + 1) []) ≡ replicate 58 32 ++ bytes "\n") ×
      ((j : ℕ) → j < 57 → k * 57 + j < length (points p) → drop 38 (get_or (lines (plan_sheet p)) (k * 60 + 3 + j) []) ≡ replicate 34 32 ++ bytes "\n") ×
      ((j : ℕ) → j < 57 → length (points p) ≤ k * 57 + j → get_or (lines (plan_sheet p)) (k * 60 + 3 + j) [] ≡ replicate 72 32 ++ bytes "\n")
  blanks_to_the_end = rw (sheets.lines_of_sheet p) (reading.page_blanks p a)

  -- All numbers of points on the sheet are those of the plain listing, in the same order.
  pub points_read : points_on 0 (lines (plan_sheet p)) ≡ points p
  points_read = rw (sheets.lines_of_sheet p) (reading.points_read p a)

  -- THE TWO TEXTS

  -- What is read from the words of the plain listing's first line is read from the columns of each page's first line,
  pub task_alike : (k : ℕ) → k < page_count (length (points p)) → matched (task_pattern p.edition) false (get_or (lines (plan_listing p)) 0 []) ≡
      match false (in_columns heading_widths (get_or (lines (plan_sheet p)) (k * 60) []))
  task_alike k h = listing.task_read p ∙ ap (match false) (sym (page_read k h).0)

  -- and what is read from its line of a point from the columns of that point's line on the sheet.
  pub point_alike : (i : ℕ) → i < length (points p) → matched (bytes "point N L C S") false (get_or (lines (plan_listing p)) (i + 1) []) ≡
      match false (in_columns point_widths (get_or (lines (plan_sheet p)) (i / 57 * 60 + 3 + i % 57) []))
  point_alike i h =
      let e : i / 57 * 57 + i % 57 ≡ i = omega arith in
      let (task, number, empty, point) = page_read (i / 57) (omega (arith, h)) in
      listing.point_read p i h ∙ ap (match false) (sym (point (i % 57) (omega arith) ∙ ap (λ (u : ℕ). get_or (points p) u []) e))
