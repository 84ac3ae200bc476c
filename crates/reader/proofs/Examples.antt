-- Texts worked through: plans A and B (01, 'Plans worked through'), plan A with U 3 (02, L7), and a text or several for each of the refusals 1 to 7 and 19
-- and for their order.
use Prim.Native.Nat.{ℕ}
use mathlib.Core.Path.{◌≡◌, refl}
use mathlib.Core.List.{List, [], ◌∷◌, ◌++◌}
use mathlib.Core.Bool.{Bool, true, false}
use lib.ListN.{replicate}
use Rattle.model.specs.declared.Refusal.TheVariants as Refusal
use Rattle.text.specs.Text.{bytes, lines}
use Rattle.text.specs.Patterns.{matched, item, number, digits}
use Rattle.text.specs.Spelling.{decimal, numerals, spell}
use Rattle.text.specs.Grammar.{line_form}
use Rattle.model.specs.declared.Edition.TheVariants.{Second}
use Rattle.model.specs.Plan.{close}
use Rattle.model.specs.Worked.{plan_A, returning_A, plan_B, smallest}
use Rattle.model.specs.Levels.{height, heights}
use Rattle.reader.specs.Machine.{◌⧺◌, outcome, run, fault, brackets_in, brackets, level_in, level, functions_of}
use Rattle.reader.specs.Outcome.{Outcome, plan, refused}
use Rattle.reader.specs.Records.{heights_of}
use Rattle.reader.specs.Print.{forms_in, forms_all, forms_of, join_all, print}

-- A text given n times.
abbrev times : ℕ → List ℕ → List ℕ
times n l = join_all (replicate n l)

reads_A : outcome 512 (bytes "(task 100 4\n(fun\n(leaf p 5 9)\n(loop p 3 2 4\n(leaf s 10 20)\n)\n(leaf s 6 8)\n)\n)\n") ≡ plan plan_A
unfolding plan_A outcome run fault brackets_in brackets level_in level functions_of heights height ◌⧺◌ line_form lines matched item number digits
reads_A = refl

reads_B : outcome 512 (bytes "(task 200 5\n(fun\n(leaf p 3 4)\n)\n(fun\n(if p 2 3\n(then\n(call p 0 1 2)\n)\n(else\n(leaf s 9 10)\n)\n)\n(call p 0 1 2)\n)\n)\n") ≡ plan plan_B
unfolding plan_B outcome run fault brackets_in brackets level_in level functions_of heights height ◌⧺◌ line_form lines matched item number digits
reads_B = refl

-- Plan A with U 3 (02, L7).
reads_returning_A : outcome 512 (bytes "(task 100 4 3\n(fun\n(leaf p 5 9)\n(loop p 3 2 4\n(leaf s 10 20)\n)\n(leaf s 6 8)\n)\n)\n") ≡ plan returning_A
unfolding returning_A plan_A outcome run fault brackets_in brackets level_in level functions_of heights height ◌⧺◌ line_form lines matched item number digits
reads_returning_A = refl

prints_A : print plan_A ≡ bytes "(task 100 4\n(fun\n(leaf p 5 9)\n(loop p 3 2 4\n(leaf s 10 20)\n)\n(leaf s 6 8)\n)\n)\n"
unfolding plan_A print forms_of forms_all forms_in join_all spell decimal numerals
prints_A = refl

prints_B : print plan_B ≡ bytes "(task 200 5\n(fun\n(leaf p 3 4)\n)\n(fun\n(if p 2 3\n(then\n(call p 0 1 2)\n)\n(else\n(leaf s 9 10)\n)\n)\n(call p 0 1 2)\n)\n)\n"
unfolding plan_B print forms_of forms_all forms_in join_all spell decimal numerals
prints_B = refl

prints_returning_A : print returning_A ≡ bytes "(task 100 4 3\n(fun\n(leaf p 5 9)\n(loop p 3 2 4\n(leaf s 10 20)\n)\n(leaf s 6 8)\n)\n)\n"
unfolding returning_A plan_A print forms_of forms_all forms_in join_all spell decimal numerals
prints_returning_A = refl

-- 1, oversize: the limit is 65,536 bytes.
oversize : outcome 512 (times 65537 (bytes "\n")) ≡ refused Refusal.Oversize 0
unfolding join_all outcome run fault brackets_in brackets level_in level functions_of heights height ◌⧺◌ line_form lines matched item number digits
oversize = refl

not_oversize : outcome 512 (times 65536 (bytes "\n")) ≡ refused Refusal.Form 1
unfolding join_all outcome run fault brackets_in brackets level_in level functions_of heights height ◌⧺◌ line_form lines matched item number digits
not_oversize = refl

-- 2, form: line or nesting, a text that ends early or goes on, a last line without its line feed; it comes before range.
empty_text : outcome 512 (bytes "") ≡ refused Refusal.Form 1
unfolding outcome run fault brackets_in brackets level_in level functions_of heights height ◌⧺◌ line_form lines matched item number digits
empty_text = refl

no_task : outcome 512 (bytes "(fun\n)\n") ≡ refused Refusal.Form 1
unfolding outcome run fault brackets_in brackets level_in level functions_of heights height ◌⧺◌ line_form lines matched item number digits
no_task = refl

no_function : outcome 512 (bytes "(task 1 0\n)\n") ≡ refused Refusal.Form 2
unfolding outcome run fault brackets_in brackets level_in level functions_of heights height ◌⧺◌ line_form lines matched item number digits
no_function = refl

ends_early : outcome 512 (bytes "(task 1 0\n(fun\n)\n") ≡ refused Refusal.Form 4
unfolding outcome run fault brackets_in brackets level_in level functions_of heights height ◌⧺◌ line_form lines matched item number digits
ends_early = refl

goes_on : outcome 512 (bytes "(task 1 0\n(fun\n)\n)\n)\n") ≡ refused Refusal.Form 5
unfolding outcome run fault brackets_in brackets level_in level functions_of heights height ◌⧺◌ line_form lines matched item number digits
goes_on = refl

feed_missing : outcome 512 (bytes "(task 1 0\n(fun\n)\n)") ≡ refused Refusal.Form 4
unfolding outcome run fault brackets_in brackets level_in level functions_of heights height ◌⧺◌ line_form lines matched item number digits
feed_missing = refl

then_missing : outcome 512 (bytes "(task 1 0\n(fun\n(if p 1 1\n(else\n)\n)\n)\n)\n") ≡ refused Refusal.Form 4
unfolding outcome run fault brackets_in brackets level_in level functions_of heights height ◌⧺◌ line_form lines matched item number digits
then_missing = refl

two_thens : outcome 512 (bytes "(task 1 0\n(fun\n(if p 1 1\n(then\n)\n(then\n)\n)\n)\n)\n") ≡ refused Refusal.Form 6
unfolding outcome run fault brackets_in brackets level_in level functions_of heights height ◌⧺◌ line_form lines matched item number digits
two_thens = refl

form_before_range : outcome 512 (bytes "(task 1 0\n(leaf p 9999999 1)\n") ≡ refused Refusal.Form 2
unfolding outcome run fault brackets_in brackets level_in level functions_of heights height ◌⧺◌ line_form lines matched item number digits
form_before_range = refl

-- 3, range: each number, of any number of digits; it comes before load.
deadline_0 : outcome 512 (bytes "(task 0 0\n") ≡ refused Refusal.Range 1
unfolding outcome run fault brackets_in brackets level_in level functions_of heights height ◌⧺◌ line_form lines matched item number digits
deadline_0 = refl

deadline_large : outcome 512 (bytes "(task 1099511627777 0\n") ≡ refused Refusal.Range 1
unfolding outcome run fault brackets_in brackets level_in level functions_of heights height ◌⧺◌ line_form lines matched item number digits
deadline_large = refl

switch_large : outcome 512 (bytes "(task 1 1048577\n") ≡ refused Refusal.Range 1
unfolding outcome run fault brackets_in brackets level_in level functions_of heights height ◌⧺◌ line_form lines matched item number digits
switch_large = refl

resume_large : outcome 512 (bytes "(task 1 0 1048577\n") ≡ refused Refusal.Range 1
unfolding outcome run fault brackets_in brackets level_in level functions_of heights height ◌⧺◌ line_form lines matched item number digits
resume_large = refl

number_long : outcome 512 (bytes "(task 1 0\n(fun\n(leaf p 1 99999999999999999999999999999999999999999)\n") ≡ refused Refusal.Range 3
unfolding outcome run fault brackets_in brackets level_in level functions_of heights height ◌⧺◌ line_form lines matched item number digits
number_long = refl

bound_0 : outcome 512 (bytes "(task 1 0\n(fun\n(loop p 0 1 1\n") ≡ refused Refusal.Range 3
unfolding outcome run fault brackets_in brackets level_in level functions_of heights height ◌⧺◌ line_form lines matched item number digits
bound_0 = refl

bound_large : outcome 512 (bytes "(task 1 0\n(fun\n(loop p 65536 1 1\n") ≡ refused Refusal.Range 3
unfolding outcome run fault brackets_in brackets level_in level functions_of heights height ◌⧺◌ line_form lines matched item number digits
bound_large = refl

called_16 : outcome 512 (bytes "(task 1 0\n(fun\n(call p 16 1 1)\n") ≡ refused Refusal.Range 3
unfolding outcome run fault brackets_in brackets level_in level functions_of heights height ◌⧺◌ line_form lines matched item number digits
called_16 = refl

range_before_load : outcome 512 (bytes "(task 1 0\n(fun\n(leaf p 1048577 1)\n") ≡ refused Refusal.Range 3
unfolding outcome run fault brackets_in brackets level_in level functions_of heights height ◌⧺◌ line_form lines matched item number digits
range_before_load = refl

-- The greatest numbers pass, and then the text ends early.
limits_pass : outcome 512 (bytes "(task 1099511627776 1048576\n(fun\n(loop p 65535 1048576 1048576\n") ≡ refused Refusal.Form 4
unfolding outcome run fault brackets_in brackets level_in level functions_of heights height ◌⧺◌ line_form lines matched item number digits
limits_pass = refl

resume_limit_passes : outcome 512 (bytes "(task 1 0 1048576\n") ≡ refused Refusal.Form 2
unfolding outcome run fault brackets_in brackets level_in level functions_of heights height ◌⧺◌ line_form lines matched item number digits
resume_limit_passes = refl

-- 4, count: a 513th leaf (before load), a leaf more than the lent row holds, a 17th function.
leaf_513th : outcome 512 (bytes "(task 1 0\n(fun\n" ++ (times 513 (bytes "(leaf p 1 1)\n"))) ≡ refused Refusal.Count 515
unfolding join_all outcome run fault brackets_in brackets level_in level functions_of heights height ◌⧺◌ line_form lines matched item number digits
leaf_513th = refl

leaf_513_before_load : outcome 512 (bytes "(task 1 0\n(fun\n" ++ (times 512 (bytes "(leaf p 1 1)\n") ++ (bytes "(leaf p 2 1)\n"))) ≡ refused Refusal.Count 515
unfolding join_all outcome run fault brackets_in brackets level_in level functions_of heights height ◌⧺◌ line_form lines matched item number digits
leaf_513_before_load = refl

row_of_1 : outcome 1 (bytes "(task 1 0\n(fun\n(leaf p 1 1)\n(leaf p 1 1)\n)\n)\n") ≡ refused Refusal.Count 4
unfolding outcome run fault brackets_in brackets level_in level functions_of heights height ◌⧺◌ line_form lines matched item number digits
row_of_1 = refl

function_17 : outcome 512 (bytes "(task 1 0\n" ++ (times 17 (bytes "(fun\n)\n"))) ≡ refused Refusal.Count 34
unfolding join_all outcome run fault brackets_in brackets level_in level functions_of heights height ◌⧺◌ line_form lines matched item number digits
function_17 = refl

-- 5, load.
load_below : outcome 512 (bytes "(task 1 0\n(fun\n(leaf p 2 1)\n") ≡ refused Refusal.Load 3
unfolding outcome run fault brackets_in brackets level_in level functions_of heights height ◌⧺◌ line_form lines matched item number digits
load_below = refl

-- 19, costless: a point of each kind, whatever its M.
costless_leaf : outcome 512 (bytes "(task 1 0\n(fun\n(leaf p 0 1)\n") ≡ refused Refusal.Costless 3
unfolding outcome run fault brackets_in brackets level_in level functions_of heights height ◌⧺◌ line_form lines matched item number digits
costless_leaf = refl

costless_call : outcome 512 (bytes "(task 1 0\n(fun\n)\n(fun\n(call p 0 0 0)\n") ≡ refused Refusal.Costless 5
unfolding outcome run fault brackets_in brackets level_in level functions_of heights height ◌⧺◌ line_form lines matched item number digits
costless_call = refl

costless_loop : outcome 512 (bytes "(task 1 0\n(fun\n(loop p 1 0 0\n") ≡ refused Refusal.Costless 3
unfolding outcome run fault brackets_in brackets level_in level functions_of heights height ◌⧺◌ line_form lines matched item number digits
costless_loop = refl

costless_if : outcome 512 (bytes "(task 1 0\n(fun\n(if p 0 9\n") ≡ refused Refusal.Costless 3
unfolding outcome run fault brackets_in brackets level_in level functions_of heights height ◌⧺◌ line_form lines matched item number digits
costless_if = refl

-- Silent leaves of cost 0 pass, and then the text ends early.
silent_costless : outcome 512 (bytes "(task 1 0\n(fun\n)\n(fun\n(leaf s 0 0)\n(call s 0 0 1)\n(if s 0 0\n(then\n(loop s 1 0 0\n") ≡ refused Refusal.Form 10
unfolding outcome run fault brackets_in brackets level_in level functions_of heights height ◌⧺◌ line_form lines matched item number digits
silent_costless = refl

-- 19 comes behind range and count and before target; a bound of 0 is range.
range_before_costless : outcome 512 (bytes "(task 1 0\n(fun\n(loop p 0 0 0\n") ≡ refused Refusal.Range 3
unfolding outcome run fault brackets_in brackets level_in level functions_of heights height ◌⧺◌ line_form lines matched item number digits
range_before_costless = refl

count_before_costless : outcome 0 (bytes "(task 1 0\n(fun\n(leaf p 0 0)\n") ≡ refused Refusal.Count 3
unfolding outcome run fault brackets_in brackets level_in level functions_of heights height ◌⧺◌ line_form lines matched item number digits
count_before_costless = refl

costless_before_target : outcome 512 (bytes "(task 1 0\n(fun\n(call p 0 0 1)\n") ≡ refused Refusal.Costless 3
unfolding outcome run fault brackets_in brackets level_in level functions_of heights height ◌⧺◌ line_form lines matched item number digits
costless_before_target = refl

-- 6, target; load comes before it.
calls_itself : outcome 512 (bytes "(task 1 0\n(fun\n(call p 0 1 1)\n") ≡ refused Refusal.Target 3
unfolding outcome run fault brackets_in brackets level_in level functions_of heights height ◌⧺◌ line_form lines matched item number digits
calls_itself = refl

load_before_target : outcome 512 (bytes "(task 1 0\n(fun\n(call p 0 2 1)\n") ≡ refused Refusal.Load 3
unfolding outcome run fault brackets_in brackets level_in level functions_of heights height ◌⧺◌ line_form lines matched item number digits
load_before_target = refl

-- 7, depth: task and fun are 2 brackets, 31 ifs with a then part 62 more, and the level stays 1.
bracket_65 : outcome 512 (bytes "(task 1 0\n(fun\n" ++ (times 31 (bytes "(if s 1 1\n(then\n") ++ (bytes "(if s 1 1\n"))) ≡ refused Refusal.Depth 65
unfolding join_all outcome run fault brackets_in brackets level_in level functions_of heights height ◌⧺◌ line_form lines matched item number digits
bracket_65 = refl

-- One loop and 30 ifs with a then part make 63; `(if` is the 64th and passes, its `(then` the 65th.
then_65 : outcome 512 (bytes "(task 1 0\n(fun\n(loop s 1 1 1\n" ++ (times 30 (bytes "(if s 1 1\n(then\n") ++ (bytes "(if s 1 1\n(then\n"))) ≡ refused Refusal.Depth 65
unfolding join_all outcome run fault brackets_in brackets level_in level functions_of heights height ◌⧺◌ line_form lines matched item number digits
then_65 = refl

loop_33 : outcome 512 (bytes "(task 1 0\n(fun\n" ++ (times 33 (bytes "(loop s 1 1 1\n"))) ≡ refused Refusal.Depth 35
unfolding join_all outcome run fault brackets_in brackets level_in level functions_of heights height ◌⧺◌ line_form lines matched item number digits
loop_33 = refl

-- An empty body of level 33 passes; a leaf in it does not.
abbrev is_plan : Outcome → Bool
is_plan (plan p) = true
is_plan (refused k i) = false

loop_32_empty : is_plan (outcome 512 (bytes "(task 1 0\n(fun\n" ++ (times 32 (bytes "(loop s 1 1 1\n") ++ times 34 (bytes ")\n")))) ≡ true
unfolding join_all outcome run fault brackets_in brackets level_in level functions_of heights height ◌⧺◌ line_form lines matched item number digits
loop_32_empty = refl

leaf_33 : outcome 512 (bytes "(task 1 0\n(fun\n" ++ (times 32 (bytes "(loop s 1 1 1\n") ++ (bytes "(leaf s 1 1)\n"))) ≡ refused Refusal.Depth 35
unfolding join_all outcome run fault brackets_in brackets level_in level functions_of heights height ◌⧺◌ line_form lines matched item number digits
leaf_33 = refl

-- Function 0 has height 32; a call of it from level 1 reaches 33.
called_levels : outcome 512 (bytes "(task 1 0\n(fun\n" ++ (times 31 (bytes "(loop s 1 1 1\n") ++ (bytes "(leaf s 1 1)\n" ++ (times 32 (bytes ")\n") ++ (bytes "(fun\n(call p 0 1 1)\n"))))) ≡ refused Refusal.Depth 68
unfolding join_all outcome run fault brackets_in brackets level_in level functions_of heights height ◌⧺◌ line_form lines matched item number digits
called_levels = refl

-- A call of a function of height 31 passes, and then the text ends early.
called_31 : outcome 512 (bytes "(task 1 0\n(fun\n" ++ (times 30 (bytes "(loop s 1 1 1\n") ++ (bytes "(leaf s 1 1)\n" ++ (times 31 (bytes ")\n") ++ (bytes "(fun\n(call p 0 1 1)\n"))))) ≡ refused Refusal.Form 67
unfolding join_all outcome run fault brackets_in brackets level_in level functions_of heights height ◌⧺◌ line_form lines matched item number digits
called_31 = refl

-- A call at level 32 of a function without forms passes; a call of its own function at level 33 is refused by 6.
called_empty : outcome 512 (bytes "(task 1 0\n(fun\n)\n(fun\n" ++ (times 31 (bytes "(loop s 1 1 1\n") ++ (bytes "(call p 0 1 1)\n"))) ≡ refused Refusal.Form 37
unfolding join_all outcome run fault brackets_in brackets level_in level functions_of heights height ◌⧺◌ line_form lines matched item number digits
called_empty = refl

target_before_depth : outcome 512 (bytes "(task 1 0\n(fun\n" ++ (times 32 (bytes "(loop s 1 1 1\n") ++ (bytes "(call p 0 1 1)\n"))) ≡ refused Refusal.Target 35
unfolding join_all outcome run fault brackets_in brackets level_in level functions_of heights height ◌⧺◌ line_form lines matched item number digits
target_before_depth = refl

-- A leading zero is form, whatever the value; so is a last line without its line feed, whatever its numbers.
leading_zero : outcome 512 (bytes "(task 01 0\n") ≡ refused Refusal.Form 1
unfolding outcome run fault brackets_in brackets level_in level functions_of heights height ◌⧺◌ line_form lines matched item number digits
leading_zero = refl

zero_twice : outcome 512 (bytes "(task 1 00\n") ≡ refused Refusal.Form 1
unfolding outcome run fault brackets_in brackets level_in level functions_of heights height ◌⧺◌ line_form lines matched item number digits
zero_twice = refl

resume_leading_zero : outcome 512 (bytes "(task 1 0 03\n") ≡ refused Refusal.Form 1
unfolding outcome run fault brackets_in brackets level_in level functions_of heights height ◌⧺◌ line_form lines matched item number digits
resume_leading_zero = refl

feed_before_range : outcome 512 (bytes "(task 0 0") ≡ refused Refusal.Form 1
unfolding outcome run fault brackets_in brackets level_in level functions_of heights height ◌⧺◌ line_form lines matched item number digits
feed_before_range = refl

-- A third number of 0 is one too, and there is no fourth.
resume_0 : outcome 512 (bytes "(task 1 0 0\n(fun\n)\n)\n") ≡ plan (record { deadline = 1; switch = 0; edition = Second 0; functions = close ∷ [] })
unfolding outcome run fault brackets_in brackets level_in level functions_of heights height ◌⧺◌ line_form lines matched item number digits
resume_0 = refl

fourth_number : outcome 512 (bytes "(task 1 0 3 4\n") ≡ refused Refusal.Form 1
unfolding outcome run fault brackets_in brackets level_in level functions_of heights height ◌⧺◌ line_form lines matched item number digits
fourth_number = refl

-- A blank line after the task goes on.
blank_after : outcome 512 (bytes "(task 1 0\n(fun\n)\n)\n\n") ≡ refused Refusal.Form 5
unfolding outcome run fault brackets_in brackets level_in level functions_of heights height ◌⧺◌ line_form lines matched item number digits
blank_after = refl

-- A row of no records holds no leaf; the smallest plan fits a row of one.
row_of_0 : outcome 0 (bytes "(task 1 0\n(fun\n(leaf p 1 1)\n") ≡ refused Refusal.Count 3
unfolding outcome run fault brackets_in brackets level_in level functions_of heights height ◌⧺◌ line_form lines matched item number digits
row_of_0 = refl

smallest_in_1 : outcome 1 (bytes "(task 12 3\n(fun\n(leaf s 7 9)\n)\n)\n") ≡ plan (smallest 12)
unfolding smallest outcome run fault brackets_in brackets level_in level functions_of heights height ◌⧺◌ line_form lines matched item number digits
smallest_in_1 = refl

-- The heights of the functions of plans A and B.
heights_A : heights_of plan_A ≡ 2 ∷ []
unfolding plan_A heights height
heights_A = refl

heights_B : heights_of plan_B ≡ 1 ∷ 2 ∷ []
unfolding plan_B heights height
heights_B = refl
