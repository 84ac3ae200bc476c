-- The review sheet (02, L5 and L7), from the plan alone: the numbers are those of the plain listing, on pages of 72 columns and 60 lines.
-- Assumes nothing: these are definitions.
use Rattle.std.specs.Prelude.{ℕ, zero, suc, ◌+◌, ◌-◌, ◌*◌, ◌/◌, max, length, get_or, replicate}
use mathlib.Core.List.{List, [], ◌∷◌, ◌++◌, flatten}
use Rattle.text.specs.Text.{bytes}
use Rattle.text.specs.Spelling.{decimal}
use Rattle.model.specs.Plan.{Plan}
use Rattle.reader.specs.Outcome.{Outcome, plan, refused}
use Rattle.model.specs.Refusals.{number_of}
use Rattle.print.specs.Lines.{refused_plan_line}
use Rattle.listing.specs.PlanListing.{task_numbers, points}

-- A LINE

-- A number right-aligned in so many columns: blanks, then its digits.
unfoldable pub right_aligned : ℕ → ℕ → List ℕ
right_aligned width n = replicate (width - length (decimal n)) 32 ++ decimal n

-- Where so many columns are left: each number right-aligned in a field of its width, one behind the other, and blanks to the end.
unfoldable pub in_fields : ℕ → List ℕ → List ℕ → List ℕ
in_fields left [] numbers = replicate left 32
in_fields left (w ∷ widths) [] = replicate left 32
in_fields left (w ∷ widths) (n ∷ numbers) = right_aligned w n ++ in_fields (left - w) widths numbers

-- A line has 72 columns and a line feed. One without numbers is blank.
unfoldable pub sheet_line : List ℕ → List ℕ → List ℕ
sheet_line widths numbers = in_fields 72 widths numbers ++ bytes "\n"

-- The widths of heading lines: total, max-load total, D, T and in edition 2 U in 14 columns each, the page number in 14.
abbrev pub heading_widths : List ℕ
heading_widths = 14 ∷ 14 ∷ 14 ∷ 14 ∷ 14 ∷ []

-- The widths of a point's line: number, level, tail and stretch.
abbrev pub point_widths : List ℕ
point_widths = 6 ∷ 4 ∷ 14 ∷ 14 ∷ []

-- PAGES

-- So many lines of points, from a place of their list on: a line a point, and blank lines past its end.
unfoldable pub point_lines : List (List ℕ) → ℕ → ℕ → List (List ℕ)
point_lines all first zero = []
point_lines all first (suc n) = point_lines all first n ++ (sheet_line point_widths (get_or all (first + n) []) ∷ [])

-- The page with k others before it: the task's numbers, the page number from 1, a blank line, then 57 lines of points.
unfoldable pub page : List ℕ → List (List ℕ) → ℕ → List (List ℕ)
page task all k =
    sheet_line heading_widths task ∷ sheet_line heading_widths ((k + 1) ∷ []) ∷ sheet_line heading_widths [] ∷ point_lines all (k * 57) 57

-- The first so many pages.
unfoldable pub pages_to : List ℕ → List (List ℕ) → ℕ → List (List ℕ)
pages_to task all zero = []
pages_to task all (suc k) = pages_to task all k ++ page task all k

-- As many pages as so many points need, 57 on each, and at least one.
abbrev pub page_count : ℕ → ℕ
page_count n = max 1 ((n + 56) / 57)

-- THE SHEET

-- The lines of a plan's sheet.
abbrev pub sheet_lines : Plan → List (List ℕ)
sheet_lines p = pages_to (task_numbers p) (points p) (page_count (length (points p)))

-- The sheet is the text of these lines.
abbrev pub plan_sheet : Plan → List ℕ
plan_sheet p = flatten (sheet_lines p)

-- What is printed of a text: the sheet of the plan that was read; a refused plan prints what the plain listing prints.
abbrev pub outcome_sheet : Outcome → List ℕ
outcome_sheet (plan p) = plan_sheet p
outcome_sheet (refused k j) = refused_plan_line (number_of k) j
