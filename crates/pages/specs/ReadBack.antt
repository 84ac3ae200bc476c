-- A sheet read back from its columns (02, L5).
-- Assumes nothing: these are definitions.
use Rattle.std.specs.Prelude.{ℕ, suc, ◌%◌, ◌≤◌, ◌≡◌, List, [], ◌∷◌, ◌++◌, cond as pick, eqb, leb, length, get_or, take, drop}
use Rattle.text.specs.Text.{bytes}
use Rattle.text.specs.Spelling.{decimal}
use Rattle.text.specs.Patterns.{Number, none, some, number}
use Rattle.pages.specs.Sheet.{point_widths}

-- No number is wider than its field.
abbrev pub NoWider : List ℕ → List ℕ → Type 0
NoWider widths [] = Unit
NoWider [] (n ∷ numbers) = ⊥
NoWider (w ∷ widths) (n ∷ numbers) = (length (decimal n) ≤ w) × NoWider widths numbers

-- A line of a page: 72 bytes, none of them a line feed, and then a line feed.
pub record PageLine (l : List ℕ) : Type 0 where
  pub columns : List ℕ
  pub ended : l ≡ columns ++ bytes "\n"
  pub wide : length columns ≡ 72
  pub one_line : (j : ℕ) → get_or columns j 0 ≡ 10 → ⊥

-- What is left of some columns behind the blanks that they begin with.
unfoldable pub after_blanks : List ℕ → List ℕ
after_blanks [] = []
after_blanks (b ∷ bs) = pick (eqb b 32) (after_blanks bs) (b ∷ bs)

-- A number counts as read where it ends with its columns.
abbrev pub read_to_end : Number → List ℕ
read_to_end none = []
read_to_end (some n []) = n ∷ []
read_to_end (some n (b ∷ bs)) = []

-- The numbers of a line, read from columns of these widths, from the left; columns that have not blanks and then a number to their end have none.
unfoldable pub in_columns : List ℕ → List ℕ → List ℕ
in_columns [] l = []
in_columns (w ∷ widths) l = read_to_end (number (after_blanks (take w l))) ++ in_columns widths (drop w l)

-- The numbers of a line as those of a point, where it has any.
abbrev pub point_on : List ℕ → List (List ℕ)
point_on [] = []
point_on (n ∷ numbers) = (n ∷ numbers) ∷ []

-- The points on the lines of a sheet, so many lines being before these: of each page from its fourth line on.
unfoldable pub points_on : ℕ → List (List ℕ) → List (List ℕ)
points_on before [] = []
points_on before (l ∷ ls) = pick (leb 3 (before % 60)) (point_on (in_columns point_widths l)) [] ++ points_on (suc before) ls
