-- Lines worked through: what the grammar's definitions say of some lines of 01, and where two readings were possible. Each is a computation.
-- Assumes nothing.
use mathlib.Core.Path.{◌≡◌, refl}
use mathlib.Core.List.{[], ◌∷◌, ◌++◌, map}
use mathlib.Core.Bool.{true, false}
use Rattle.model.specs.declared.Edition.TheVariants.{First, Second}
use Rattle.text.specs.declared.Form.TheVariants.{Task, Leaf, Call, Loop, If}
use Rattle.text.specs.declared.Class.TheVariants.{Digit, Small, Space, OpenBracket, CloseBracket, LineFeed, Other}
use Rattle.std.specs.Prelude.{Some, None}
use Rattle.text.specs.Text.{bytes, lines, line_of, line_at, line_end}
use Rattle.text.specs.Patterns.{digits, number, item, match, matched, any_over, class_of}
use Rattle.text.specs.Grammar.{no_form, form, line_form, read_at}
use Rattle.text.specs.Spelling.{numerals, decimal}

-- Lines of the plans A and B.
task_line : line_form (bytes "(task 100 4\n") ≡ form (Task 100 4 First)
unfolding line_form matched item number digits
task_line = refl

-- A third number makes it one of edition 2, also where it is 0; a fourth is no number of a task line.
resume_line : line_form (bytes "(task 100 4 3\n") ≡ form (Task 100 4 (Second 3))
unfolding line_form matched item number digits
resume_line = refl

resume_free : line_form (bytes "(task 100 4 0\n") ≡ form (Task 100 4 (Second 0))
unfolding line_form matched item number digits
resume_free = refl

four_numbers : line_form (bytes "(task 100 4 3 2\n") ≡ no_form
unfolding line_form matched item number digits
four_numbers = refl

leaf_line : line_form (bytes "(leaf p 5 9)\n") ≡ form (Leaf true 5 9)
unfolding line_form matched item number digits
leaf_line = refl

loop_line : line_form (bytes "(loop p 3 2 4\n") ≡ form (Loop true 3 2 4)
unfolding line_form matched item number digits
loop_line = refl

call_line : line_form (bytes "(call p 0 1 2)\n") ≡ form (Call true 0 1 2)
unfolding line_form matched item number digits
call_line = refl

-- A silent if; 0 is a number.
if_line : line_form (bytes "(if s 0 0\n") ≡ form (If false 0 0)
unfolding line_form matched item number digits
if_line = refl

-- 00 is no number, nor is any other with a leading zero, also where it would be out of range.
zeros : line_form (bytes "(if s 00 0\n") ≡ no_form
unfolding line_form matched item number digits
zeros = refl

leading_zero : line_form (bytes "(leaf p 05 9)\n") ≡ no_form
unfolding line_form matched item number digits
leading_zero = refl

leading_zero_far : line_form (bytes "(task 09999999999999999999999 4\n") ≡ no_form
unfolding line_form matched item number digits
leading_zero_far = refl

-- Fields are parted by one space: not by two, not by a tab; none stands at the end.
two_spaces : line_form (bytes "(leaf p  5 9)\n") ≡ no_form
unfolding line_form matched item number digits
two_spaces = refl

tab : line_form (bytes "(leaf p\t5 9)\n") ≡ no_form
unfolding line_form matched item number digits
tab = refl

space_behind : line_form (bytes "(fun \n") ≡ no_form
unfolding line_form matched item number digits
space_behind = refl

-- A carriage return is no part of a line end.
carriage_return : line_form (bytes "(fun" ++ (13 ∷ 10 ∷ [])) ≡ no_form
unfolding line_form matched item number digits
carriage_return = refl

-- A line without its line feed, a blank line, and a sign where a number should stand.
no_feed : line_form (bytes "(fun") ≡ no_form
unfolding line_form matched item number digits
no_feed = refl

blank : line_form (bytes "\n") ≡ no_form
unfolding line_form matched item number digits
blank = refl

no_number : line_form (bytes "(task -1 4\n") ≡ no_form
unfolding line_form matched item number digits
no_number = refl

-- A number of 25 digits is read as it is, and held at 2^41 in the answer.
long_number : line_form (bytes "(task 1234567890123456789012345 4\n") ≡ form (Task 1234567890123456789012345 4 First)
unfolding line_form matched item number digits
long_number = refl

long_held : read_at (bytes "(fun\n(task 1234567890123456789012345 4\n)\n") 5 ≡ Some (Task 2199023255552 4 First, 39)
unfolding read_at line_end line_at line_of line_form matched item number digits
long_held = refl

-- The answer at a place in the middle of a line, at the end of a text, and past it.
middle : read_at (bytes "(fun\n)\n") 1 ≡ None
unfolding read_at line_end line_at line_of line_form matched item number digits
middle = refl

at_end : read_at (bytes "(fun\n") 5 ≡ None
unfolding read_at line_end line_at line_of line_form matched item number digits
at_end = refl

past_end : read_at (bytes "(fun\n") 9 ≡ None
unfolding read_at line_end line_at line_of line_form matched item number digits
past_end = refl

-- Lines of another text, with patterns of its own: both numbers of the first are exact, and the greater one is over a limit below it.
other_text : matched (bytes "point N E") false (bytes "point 3 18446744073709551615\n") ≡ match false (3 ∷ 18446744073709551615 ∷ [])
unfolding matched item number digits
other_text = refl

over_limit : any_over 18446744073709551615 (3 ∷ 18446744073709551615 ∷ []) ∷ any_over 99 (3 ∷ 18446744073709551615 ∷ []) ∷ [] ≡ false ∷ true ∷ []
over_limit = refl

nine_numbers : matched (bytes "(leaf K C M M M M M M M M)") false (bytes "(leaf p 1 2 3 4 5 6 7 8 9)\n") ≡ match true (1 ∷ 2 ∷ 3 ∷ 4 ∷ 5 ∷ 6 ∷ 7 ∷ 8 ∷ 9 ∷ [])
unfolding matched item number digits
nine_numbers = refl

-- A text whose last line lacks its line feed still has that line.
two_lines : lines (bytes "(fun\n)") ≡ bytes "(fun\n" ∷ bytes ")" ∷ []
unfolding lines
two_lines = refl

-- The greatest deadline in decimal.
greatest : decimal 1099511627776 ≡ bytes "1099511627776"
unfolding decimal numerals
greatest = refl

-- The ends of both ranges, digits and small letters, and their neighbours.
classes : map class_of (47 ∷ 48 ∷ 57 ∷ 58 ∷ 96 ∷ 97 ∷ 122 ∷ 123 ∷ []) ≡ Other ∷ Digit ∷ Digit ∷ Other ∷ Other ∷ Small ∷ Small ∷ Other ∷ []
classes = refl

-- The single bytes that have a class of their own, line feed, space and both brackets, and their neighbours.
single_classes : map class_of (9 ∷ 10 ∷ 11 ∷ 31 ∷ 32 ∷ 33 ∷ 39 ∷ 40 ∷ 41 ∷ 42 ∷ []) ≡ Other ∷ LineFeed ∷ Other ∷ Other ∷ Space ∷ Other ∷ Other ∷ OpenBracket ∷ CloseBracket ∷ Other ∷ []
single_classes = refl
