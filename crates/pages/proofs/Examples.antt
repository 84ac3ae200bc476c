-- Lines and pages worked through: plan A's sheet (01, 'Plans worked through'), the widest numbers, and the numbers of pages. Each is a computation.
-- Assumes nothing.
use Prim.Native.Nat.{ℕ, ◌^◌}
use mathlib.Core.Path.{◌≡◌, refl}
use mathlib.Core.List.{List, [], ◌∷◌, ◌++◌}
use lib.ListN.{replicate}
use Rattle.text.specs.Text.{bytes}
use Rattle.text.specs.Spelling.{decimal, numerals}
use Rattle.pages.specs.Sheet.{right_aligned, in_fields, sheet_line, heading_widths, point_widths, page_count}

-- Plan A's first line, then that of edition 2, with a U of 3 in its fifth field, and its second line,
task_a : sheet_line heading_widths (49 ∷ 93 ∷ 100 ∷ 4 ∷ []) ≡
    bytes "            49            93           100             4" ++ (replicate 16 32 ++ bytes "\n")
unfolding sheet_line in_fields right_aligned decimal numerals
task_a = refl

task_a_second : sheet_line heading_widths (49 ∷ 93 ∷ 100 ∷ 4 ∷ 3 ∷ []) ≡
    bytes "            49            93           100             4             3" ++ (replicate 2 32 ++ bytes "\n")
unfolding sheet_line in_fields right_aligned decimal numerals
task_a_second = refl

page_a : sheet_line heading_widths (1 ∷ []) ≡ bytes "             1" ++ (replicate 58 32 ++ bytes "\n")
unfolding sheet_line in_fields right_aligned decimal numerals
page_a = refl

-- and those of its two points.
point_a : sheet_line point_widths (0 ∷ 1 ∷ 49 ∷ 9 ∷ []) ≡ bytes "     0   1            49             9" ++ (replicate 34 32 ++ bytes "\n")
unfolding sheet_line in_fields right_aligned decimal numerals
point_a = refl

point_b : sheet_line point_widths (1 ∷ 1 ∷ 44 ∷ 24 ∷ []) ≡ bytes "     1   1            44            24" ++ (replicate 34 32 ++ bytes "\n")
unfolding sheet_line in_fields right_aligned decimal numerals
point_b = refl

-- The widest numbers of a point.
widest : sheet_line point_widths (511 ∷ 32 ∷ 2 ^ 40 ∷ 2 ^ 40 ∷ []) ≡ bytes "   511  32 1099511627776 1099511627776" ++ (replicate 34 32 ++ bytes "\n")
unfolding sheet_line in_fields right_aligned decimal numerals
widest = refl

-- The fifth field changes no heading of four numbers, of one or of none: a sheet of edition 1 is what it was with four fields (02, L5).
four_fields : (a b d t n : ℕ) →
    let four : List ℕ = 14 ∷ 14 ∷ 14 ∷ 14 ∷ [] in
    (sheet_line heading_widths (a ∷ b ∷ d ∷ t ∷ []) ≡ sheet_line four (a ∷ b ∷ d ∷ t ∷ [])) ×
    (sheet_line heading_widths (n ∷ []) ≡ sheet_line four (n ∷ [])) × (sheet_line heading_widths [] ≡ sheet_line four [])
unfolding sheet_line in_fields
four_fields a b d t n = (refl, refl, refl)

-- The widest numbers of a task.
widest_task : sheet_line heading_widths (2 ^ 40 ∷ 2 ^ 40 ∷ 2 ^ 40 ∷ 2 ^ 20 ∷ 2 ^ 20 ∷ []) ≡
    bytes " 1099511627776 1099511627776 1099511627776       1048576       1048576" ++ (replicate 2 32 ++ bytes "\n")
unfolding sheet_line in_fields right_aligned decimal numerals
widest_task = refl

-- Pages of 0, 1, 57, 58, 114, 115 and 512 points.
counts : (page_count 0 ∷ page_count 1 ∷ page_count 57 ∷ page_count 58 ∷ page_count 114 ∷ page_count 115 ∷ page_count 512 ∷ []) ≡
    1 ∷ 1 ∷ 1 ∷ 2 ∷ 2 ∷ 3 ∷ 9 ∷ []
counts = refl
