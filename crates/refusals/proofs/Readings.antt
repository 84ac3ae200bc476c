-- The rules of lines on cases worked by hand: what is open, levels, which rules a line breaks; and whole texts that are refused by 2 for their nesting or
-- their end. One for each reading of document 01, or of 02, L2 or L7, that could have been another.
use Prim.Native.Nat.{ℕ, ◌≤◌, ◌<◌, zero, suc}
use mathlib.Core.Path.{◌≡◌, refl}
use mathlib.Core.List.{List, [], ◌∷◌, ◌++◌}
use mathlib.Core.Logic.{inl}
use mathlib.Core.Bool.{Bool, true, false}
use native.Mathlib.Omega.{arith}
use lib.ListN.{length, replicate}
use lib.Dec.{leb}
use borrow.Author.Tests.{leb-true}
use Rattle.model.specs.declared.Refusal.{Refusal}
use Rattle.model.specs.declared.Edition.TheVariants.{First}
use Rattle.text.specs.declared.Form.{Form}
use Rattle.text.specs.declared.Form.TheVariants.{Task, Fun, Then, Else, Close, Leaf, Call, Loop, If}
use Rattle.text.specs.Text.{bytes, lines}
use Rattle.text.specs.Patterns.{matched, item, number, digits}
use Rattle.text.specs.Grammar.{form, line_form}
use Rattle.model.specs.Levels.{height, heights}
use Rattle.reader.specs.Outcome.{refused}
use Rattle.reader.specs.Machine.{◌⧺◌, outcome, run, fault, brackets_in, brackets, level_in, level, functions_of}
use Rattle.refusals.specs.Refusal.{LeafLine, of_leaf, of_call, of_loop, of_if, leaves_among, functions_among, own_function, innermost, open_brackets, LevelAt, own_level, Breaks, target_range, bound_range, leaf_count, row_count, function_count, load, costless, target, bracket_depth, level_depth, RefusedAt}
use Rattle.refusals.proofs.Measures.{height_of, height_bounds, height_met}
use Rattle.refusals.proofs.Refusal.{refused_exactly}

abbrev a_leaf : Form
a_leaf = Leaf false 1 1

abbrev a_loop : Form
a_loop = Loop false 1 1 1

abbrev an_if : Form
an_if = If false 1 1

-- The lines before, the latest first: in a function's body, behind these.
abbrev in_main : List Form → List Form
in_main fs = fs ++ (Fun ∷ Task 1 0 First ∷ [])

-- So many functions without forms, and so many ifs around each other, each open in its then part.
empty_functions : ℕ → List Form
empty_functions zero = Task 1 0 First ∷ []
empty_functions (suc n) = Close ∷ Fun ∷ empty_functions n

nested_ifs : ℕ → List Form
nested_ifs zero = []
nested_ifs (suc n) = Then ∷ an_if ∷ nested_ifs n

-- BRACKETS AND LEVELS

-- task, fun, loop, if, then and else are brackets, leaf and call lines are not, and `)` closes the last: here else, if, loop, fun and task are open.
five_open : length (open_brackets (in_main (a_leaf ∷ Else ∷ Close ∷ Then ∷ an_if ∷ a_loop ∷ a_leaf ∷ []))) ≡ 5
unfolding open_brackets
five_open = refl

-- then and else keep the level, a loop body is one above.
second_level : innermost (open_brackets (in_main (Else ∷ Close ∷ Then ∷ an_if ∷ a_loop ∷ []))) ≡ 2
unfolding open_brackets
second_level = refl

-- Only forms have levels: a loop at level 32 passes with an empty body ..
empty_loop_32 : {L : ℕ} → LevelAt (Close ∷ in_main (replicate 32 a_loop)) 0 L → L ≤ 32
unfolding height_of open_brackets functions_among
empty_loop_32 x = height_bounds x

-- .. and a form inside has level 33.
inside_33 : Breaks 512 (in_main (replicate 32 a_loop)) (form a_leaf) Refusal.Depth
unfolding open_brackets
inside_33 =
    let e : innermost (open_brackets (in_main (replicate 32 a_loop))) ≡ 33 = refl in
    level_depth {f = a_leaf} (own_level of_leaf) (omega arith)

-- A call at level 32 of a function without forms adds nothing.
calls_empty : {L : ℕ} → LevelAt (Call true 0 1 1 ∷ (replicate 31 a_loop ++ (Fun ∷ Close ∷ Fun ∷ Task 1 0 First ∷ []))) 1 L → L ≤ 32
unfolding height_of open_brackets functions_among
calls_empty x = height_bounds x

-- Through all calls: function 0 has a leaf in a loop (2), function 1 calls it from a loop (2 + 2), and main calls function 1 from level 1.
through_calls : LevelAt (Call true 1 1 1 ∷ Fun ∷ Close ∷ Close ∷ Call true 0 1 1 ∷ a_loop ∷ Fun ∷ Close ∷ Close ∷ in_main (a_leaf ∷ a_loop ∷ [])) 2 5
unfolding height_of open_brackets functions_among
through_calls =
    height_met (Call true 1 1 1 ∷ Fun ∷ Close ∷ Close ∷ Call true 0 1 1 ∷ a_loop ∷ Fun ∷ Close ∷ Close ∷ in_main (a_leaf ∷ a_loop ∷ [])) 2 (omega arith)

-- THE ORDER IN A LINE: these lines break two rules, and the first counts.

-- A 513th leaf with M below C: 4 before 5.
leaf_513_light : Breaks 600 (in_main (replicate 512 a_leaf)) (form (Leaf true 2 1)) Refusal.Count × Breaks 600 (in_main (replicate 512 a_leaf)) (form (Leaf true 2 1)) Refusal.Load
unfolding leaves_among
leaf_513_light = (
  let e : leaves_among (in_main (replicate 512 a_leaf)) ≡ 512 = refl in
      leaf_count {f = Leaf true 2 1} (omega arith),
  load {c = 2} {m = 1} of_leaf (omega arith),
)

-- A lent row of no records: the first leaf is one too many.
row_of_none : Breaks 0 (in_main []) (form a_leaf) Refusal.Count
unfolding leaves_among
row_of_none = row_count {f = a_leaf} (omega arith)

-- A 17th function.
function_17th : Breaks 512 (empty_functions 16) (form Fun) Refusal.Count
unfolding functions_among empty_functions
function_17th =
    let e : functions_among (empty_functions 16) ≡ 16 = refl in
    function_count {f = Fun} (omega arith)

-- A call of its own function with M below C: 5 before 6.
own_light : Breaks 512 (in_main []) (form (Call true 0 2 1)) Refusal.Load × Breaks 512 (in_main []) (form (Call true 0 2 1)) Refusal.Target
unfolding functions_among
own_light = (load {c = 2} {m = 1} of_call (omega arith), target {F = 0} (omega arith))

-- A point with C = 0 that is the 513th leaf: 4 before 19.
leaf_513_costless : Breaks 600 (in_main (replicate 512 a_leaf)) (form (Leaf true 0 1)) Refusal.Count × Breaks 600 (in_main (replicate 512 a_leaf)) (form (Leaf true 0 1)) Refusal.Costless
unfolding leaves_among
leaf_513_costless = (
  let e : leaves_among (in_main (replicate 512 a_leaf)) ≡ 512 = refl in
      leaf_count {f = Leaf true 0 1} (omega arith),
  costless of_leaf,
)

-- A point with C = 0 whose loop has no rounds: 3 before 19.
no_rounds_costless : Breaks 512 (in_main []) (form (Loop true 0 0 0)) Refusal.Range × Breaks 512 (in_main []) (form (Loop true 0 0 0)) Refusal.Costless
no_rounds_costless = (bound_range {b = 0} (inl (omega arith)), costless of_loop)

-- A point with C = 0 that calls its own function: 19 before 6.
own_costless : Breaks 512 (in_main []) (form (Call true 0 0 1)) Refusal.Costless × Breaks 512 (in_main []) (form (Call true 0 0 1)) Refusal.Target
unfolding functions_among
own_costless = (costless of_call, target {F = 0} (omega arith))

-- A point with C = 0 whose bracket is the 65th: 19 before 7.
bracket_65th_costless : Breaks 512 (in_main (nested_ifs 31)) (form (If true 0 0)) Refusal.Costless × Breaks 512 (in_main (nested_ifs 31)) (form (If true 0 0)) Refusal.Depth
unfolding open_brackets nested_ifs
bracket_65th_costless = (
  costless of_if,
  let e : length (open_brackets (in_main (nested_ifs 31))) ≡ 64 = refl in
      bracket_depth {f = If true 0 0} (omega arith),
)

-- No line breaks both 5 and 19: no M is below a C of 0.
load_or_costless : {f : Form} {k : Bool} {c m n : ℕ} → LeafLine f k c m → m < c → LeafLine f true 0 n → ⊥
load_or_costless of_leaf h of_leaf = omega arith
load_or_costless of_call h of_call = omega arith
load_or_costless of_loop h of_loop = omega arith
load_or_costless of_if h of_if = omega arith

-- No silent line, of whatever kind and costs, is one that 19 speaks of.
silent_costless : {f : Form} {c m n : ℕ} → LeafLine f false c m → LeafLine f true 0 n → ⊥
silent_costless of_leaf = elim [ ]
silent_costless of_call = elim [ ]
silent_costless of_loop = elim [ ]
silent_costless of_if = elim [ ]

-- F = 16 is out of its range: 3 before 6.
called_16th : Breaks 512 (in_main []) (form (Call true 16 1 1)) Refusal.Range × Breaks 512 (in_main []) (form (Call true 16 1 1)) Refusal.Target
unfolding functions_among
called_16th = (target_range {F = 16} (omega arith), target {F = 16} (omega arith))

-- A call of its own function at level 33: 6 before 7.
own_at_33 : Breaks 512 (in_main (replicate 32 a_loop)) (form (Call true 0 1 1)) Refusal.Target × Breaks 512 (in_main (replicate 32 a_loop)) (form (Call true 0 1 1)) Refusal.Depth
unfolding functions_among open_brackets
own_at_33 = (
  let e : own_function (in_main (replicate 32 a_loop)) ≡ 0 = refl in
      target {F = 0} (omega arith),
  let e : innermost (open_brackets (in_main (replicate 32 a_loop))) ≡ 33 = refl in
      level_depth {f = Call true 0 1 1} (own_level of_call) (omega arith),
)

-- A 65th bracket at level 1.
bracket_65th : Breaks 512 (in_main (nested_ifs 31)) (form an_if) Refusal.Depth
unfolding open_brackets nested_ifs
bracket_65th =
    let e : length (open_brackets (in_main (nested_ifs 31))) ≡ 64 = refl in
    bracket_depth {f = an_if} (omega arith)

-- WHOLE TEXTS, refused at the first line that breaks a rule, by the first that it breaks, or behind the last
abbrev by_rules : (capacity : ℕ) (text : List ℕ) (k : Refusal) (j : ℕ) → leb (length text) 65536 ≡ true → outcome capacity text ≡ refused k j → RefusedAt capacity text k j
by_rules capacity text k j h e = (refused_exactly capacity text k j (leb-true (length text) 65536 h)).0 e

-- The empty text.
empty_text : RefusedAt 512 (bytes "") Refusal.Form 1
unfolding outcome run fault brackets_in brackets level_in level functions_of heights height ◌⧺◌ line_form lines matched item number digits
empty_text = by_rules 512 (bytes "") Refusal.Form 1 refl refl

-- A task closed with no function.
task_without_function : RefusedAt 512 (bytes "(task 1 0\n)\n") Refusal.Form 2
unfolding outcome run fault brackets_in brackets level_in level functions_of heights height ◌⧺◌ line_form lines matched item number digits
task_without_function = by_rules 512 (bytes "(task 1 0\n)\n") Refusal.Form 2 refl refl

-- An if closed without its parts.
if_without_parts : RefusedAt 512 (bytes "(task 1 0\n(fun\n(if p 1 1\n)\n") Refusal.Form 4
unfolding outcome run fault brackets_in brackets level_in level functions_of heights height ◌⧺◌ line_form lines matched item number digits
if_without_parts = by_rules 512 (bytes "(task 1 0\n(fun\n(if p 1 1\n)\n") Refusal.Form 4 refl refl

-- A form directly inside an if.
form_in_if : RefusedAt 512 (bytes "(task 1 0\n(fun\n(if p 1 1\n(leaf p 1 1)\n") Refusal.Form 4
unfolding outcome run fault brackets_in brackets level_in level functions_of heights height ◌⧺◌ line_form lines matched item number digits
form_in_if = by_rules 512 (bytes "(task 1 0\n(fun\n(if p 1 1\n(leaf p 1 1)\n") Refusal.Form 4 refl refl

-- Parts swapped.
parts_swapped : RefusedAt 512 (bytes "(task 1 0\n(fun\n(if p 1 1\n(else\n") Refusal.Form 4
unfolding outcome run fault brackets_in brackets level_in level functions_of heights height ◌⧺◌ line_form lines matched item number digits
parts_swapped = by_rules 512 (bytes "(task 1 0\n(fun\n(if p 1 1\n(else\n") Refusal.Form 4 refl refl

-- A part doubled.
part_doubled : RefusedAt 512 (bytes "(task 1 0\n(fun\n(if p 1 1\n(then\n)\n(then\n") Refusal.Form 6
unfolding outcome run fault brackets_in brackets level_in level functions_of heights height ◌⧺◌ line_form lines matched item number digits
part_doubled = by_rules 512 (bytes "(task 1 0\n(fun\n(if p 1 1\n(then\n)\n(then\n") Refusal.Form 6 refl refl

-- A text that ends early: the line after the last.
ended_early : RefusedAt 512 (bytes "(task 1 0\n(fun\n)\n") Refusal.Form 4
unfolding outcome run fault brackets_in brackets level_in level functions_of heights height ◌⧺◌ line_form lines matched item number digits
ended_early = by_rules 512 (bytes "(task 1 0\n(fun\n)\n") Refusal.Form 4 refl refl

-- Anything behind the closed task, also a blank line.
blank_behind : RefusedAt 512 (bytes "(task 1 0\n(fun\n)\n)\n\n") Refusal.Form 5
unfolding outcome run fault brackets_in brackets level_in level functions_of heights height ◌⧺◌ line_form lines matched item number digits
blank_behind = by_rules 512 (bytes "(task 1 0\n(fun\n)\n)\n\n") Refusal.Form 5 refl refl

-- A last line without a line feed, whatever else is wrong with it.
no_line_feed : RefusedAt 512 (bytes "(task 0 0") Refusal.Form 1
unfolding outcome run fault brackets_in brackets level_in level functions_of heights height ◌⧺◌ line_form lines matched item number digits
no_line_feed = by_rules 512 (bytes "(task 0 0") Refusal.Form 1 refl refl

-- A leading zero, also where the number would be out of range.
zero_in_front : RefusedAt 512 (bytes "(task 1 0\n(fun\n(leaf p 09999999 1)\n") Refusal.Form 3
unfolding outcome run fault brackets_in brackets level_in level functions_of heights height ◌⧺◌ line_form lines matched item number digits
zero_in_front = by_rules 512 (bytes "(task 1 0\n(fun\n(leaf p 09999999 1)\n") Refusal.Form 3 refl refl

-- Wrong nesting before range.
nesting_before_range : RefusedAt 512 (bytes "(task 1 0\n(leaf p 9999999 1)\n") Refusal.Form 2
unfolding outcome run fault brackets_in brackets level_in level functions_of heights height ◌⧺◌ line_form lines matched item number digits
nesting_before_range = by_rules 512 (bytes "(task 1 0\n(leaf p 9999999 1)\n") Refusal.Form 2 refl refl

-- A U over 2^20 is out of its range; 2^20 is in it, and then the text ends early.
resume_over : RefusedAt 512 (bytes "(task 1 0 1048577\n") Refusal.Range 1
unfolding outcome run fault brackets_in brackets level_in level functions_of heights height ◌⧺◌ line_form lines matched item number digits
resume_over = by_rules 512 (bytes "(task 1 0 1048577\n") Refusal.Range 1 refl refl

resume_greatest : RefusedAt 512 (bytes "(task 1 0 1048576\n") Refusal.Form 2
unfolding outcome run fault brackets_in brackets level_in level functions_of heights height ◌⧺◌ line_form lines matched item number digits
resume_greatest = by_rules 512 (bytes "(task 1 0 1048576\n") Refusal.Form 2 refl refl

-- A point with C = 0 that the lent row has no record for: 4, not 19.
count_not_costless : RefusedAt 0 (bytes "(task 1 0\n(fun\n(leaf p 0 0)\n") Refusal.Count 3
unfolding outcome run fault brackets_in brackets level_in level functions_of heights height ◌⧺◌ line_form lines matched item number digits
count_not_costless = by_rules 0 (bytes "(task 1 0\n(fun\n(leaf p 0 0)\n") Refusal.Count 3 refl refl

-- A call of its own function with M below C: 5, not 6.
load_not_target : RefusedAt 512 (bytes "(task 1 0\n(fun\n(call p 0 2 1)\n") Refusal.Load 3
unfolding outcome run fault brackets_in brackets level_in level functions_of heights height ◌⧺◌ line_form lines matched item number digits
load_not_target = by_rules 512 (bytes "(task 1 0\n(fun\n(call p 0 2 1)\n") Refusal.Load 3 refl refl

-- A call of its own function that is a point with C = 0: 19, not 6.
costless_not_target : RefusedAt 512 (bytes "(task 1 0\n(fun\n(call p 0 0 1)\n") Refusal.Costless 3
unfolding outcome run fault brackets_in brackets level_in level functions_of heights height ◌⧺◌ line_form lines matched item number digits
costless_not_target = by_rules 512 (bytes "(task 1 0\n(fun\n(call p 0 0 1)\n") Refusal.Costless 3 refl refl
