-- Refusals 2 to 7 and 19, said of the lines of a text with no reader in it (01, 'A plan, one form a line', 'Runs, levels' and the table of refusals
-- with the order below it; 02, L2 and L7): which rules a line breaks behind the lines before it, and which line of a text is refused by which rule.
-- The lines before a line are given by their forms, the latest first; `reverse` puts them in text order.
-- Assumes nothing: these are definitions.
use Rattle.std.specs.Prelude.{ℕ, ◌+◌, ◌-◌, ◌^◌, ◌≤◌, ◌<◌, ◌≡◌, List, [], ◌∷◌, ◌++◌, map, reverse, ◌⊎◌, Bool, true, length, get_or, drop}
use Rattle.model.specs.declared.Refusal.{Refusal}
use Rattle.model.specs.declared.Edition.{Edition}
use Rattle.model.specs.declared.Edition.TheVariants.{Second}
use Rattle.model.specs.Plan.{Plan}
use Rattle.text.specs.declared.Form.{Form}
use Rattle.text.specs.declared.Form.TheVariants.{Task, Fun, Then, Else, Close, Leaf, Call, Loop, If}
use Rattle.text.specs.Text.{lines}
use Rattle.text.specs.Grammar.{Line, no_form, form, line_form}
use Rattle.reader.specs.Print.{forms_of}

-- NESTING

-- These are all the lines of a plan (01), with any numbers: a plan is a tree, so each `)` closes the last open form and an if has its two parts in
-- order; and a task holds a function at least.
pub record PlanLines (fs : List Form) : Type 0 where
  pub tree : Plan
  pub some_function : 1 ≤ length tree.functions
  pub lines_are : forms_of tree ≡ fs

-- COUNTING

-- leaf, call, loop and if lines are leaves (01), points or silent, with their costs C and M.
pub data LeafLine : Form → Bool → ℕ → ℕ → Type 0 where
  of_leaf : {k : Bool} {c m : ℕ} → LeafLine (Leaf k c m) k c m
  of_call : {k : Bool} {f c m : ℕ} → LeafLine (Call k f c m) k c m
  of_loop : {k : Bool} {b c m : ℕ} → LeafLine (Loop k b c m) k c m
  of_if : {k : Bool} {c m : ℕ} → LeafLine (If k c m) k c m

-- How many of some lines are leaves.
unfoldable pub leaves_among : List Form → ℕ
leaves_among [] = 0
leaves_among (Task d t e ∷ fs) = leaves_among fs
leaves_among (Fun ∷ fs) = leaves_among fs
leaves_among (Then ∷ fs) = leaves_among fs
leaves_among (Else ∷ fs) = leaves_among fs
leaves_among (Close ∷ fs) = leaves_among fs
leaves_among (Leaf k c m ∷ fs) = leaves_among fs + 1
leaves_among (Call k f c m ∷ fs) = leaves_among fs + 1
leaves_among (Loop k b c m ∷ fs) = leaves_among fs + 1
leaves_among (If k c m ∷ fs) = leaves_among fs + 1

-- How many functions begin on some lines.
unfoldable pub functions_among : List Form → ℕ
functions_among [] = 0
functions_among (Task d t e ∷ fs) = functions_among fs
functions_among (Fun ∷ fs) = functions_among fs + 1
functions_among (Then ∷ fs) = functions_among fs
functions_among (Else ∷ fs) = functions_among fs
functions_among (Close ∷ fs) = functions_among fs
functions_among (Leaf k c m ∷ fs) = functions_among fs
functions_among (Call k f c m ∷ fs) = functions_among fs
functions_among (Loop k b c m ∷ fs) = functions_among fs
functions_among (If k c m ∷ fs) = functions_among fs

-- Functions are numbered from 0 (01): behind some lines, the number of the function that began last.
abbrev pub own_function : List Form → ℕ
own_function earlier = functions_among earlier - 1

-- OPEN BRACKETS AND LEVELS: open brackets are given by the levels of the forms inside them, the last opened first.

-- The level of a form is that inside the last open bracket.
abbrev pub innermost : List ℕ → ℕ
innermost levels = get_or levels 0 0

-- The open brackets behind a line, from those before it: a function's own forms count from 1, a loop body is one above its condition, then and else
-- keep the level; `)` closes the last open form; leaf and call lines close themselves (01).
abbrev pub brackets_behind : Form → List ℕ → List ℕ
brackets_behind (Task d t e) levels = 0 ∷ levels
brackets_behind Fun levels = 1 ∷ levels
brackets_behind Then levels = innermost levels ∷ levels
brackets_behind Else levels = innermost levels ∷ levels
brackets_behind Close levels = drop 1 levels
brackets_behind (Leaf k c m) levels = levels
brackets_behind (Call k f c m) levels = levels
brackets_behind (Loop k b c m) levels = (innermost levels + 1) ∷ levels
brackets_behind (If k c m) levels = innermost levels ∷ levels

-- The open brackets behind some lines.
unfoldable pub open_brackets : List Form → List ℕ
open_brackets [] = []
open_brackets (f ∷ earlier) = brackets_behind f (open_brackets earlier)

-- On some lines a form of function F has level L, called forms included: only forms have levels, and a call line adds the levels of what it calls (01).
pub data LevelAt : List Form → ℕ → ℕ → Type 0 where
  own_level : {earlier : List Form} {f : Form} {k : Bool} {c m : ℕ} → LeafLine f k c m →
      LevelAt (f ∷ earlier) (own_function earlier) (innermost (open_brackets earlier))
  called_level : {earlier : List Form} {k : Bool} {G c m L : ℕ} → LevelAt earlier G L →
      LevelAt (Call k G c m ∷ earlier) (own_function earlier) (innermost (open_brackets earlier) + L)
  earlier_line : {earlier : List Form} {f : Form} {F L : ℕ} → LevelAt earlier F L → LevelAt (f ∷ earlier) F L

-- THE RULES

-- The rules that a line breaks behind lines that break none, where the caller lends so many records. Leaves, functions, brackets and levels are those of
-- the lines so far, this one among them.
pub data Breaks (capacity : ℕ) (earlier : List Form) : Line → Refusal → Type 0 where
  -- 2, form: it is no line of the grammar; or no lines of a plan begin with these and it.
  no_line : Breaks capacity earlier no_form Refusal.Form
  nesting : {f : Form} → ((more : List Form) → ¬ PlanLines (reverse earlier ++ (f ∷ more))) → Breaks capacity earlier (form f) Refusal.Form
  -- 3, range: D is not from 1 to 2^40; T, or U (02, L7), is over 2^20; C or M is over 2^20; F is over 15; B is not from 1 to 65,535.
  deadline_range : {d t : ℕ} {e : Edition} → (d < 1) ⊎ (2 ^ 40 < d) → Breaks capacity earlier (form (Task d t e)) Refusal.Range
  switch_range : {d t : ℕ} {e : Edition} → 2 ^ 20 < t → Breaks capacity earlier (form (Task d t e)) Refusal.Range
  resume_range : {d t u : ℕ} → 2 ^ 20 < u → Breaks capacity earlier (form (Task d t (Second u))) Refusal.Range
  cost_range : {f : Form} {k : Bool} {c m : ℕ} → LeafLine f k c m → (2 ^ 20 < c) ⊎ (2 ^ 20 < m) → Breaks capacity earlier (form f) Refusal.Range
  target_range : {k : Bool} {F c m : ℕ} → 15 < F → Breaks capacity earlier (form (Call k F c m)) Refusal.Range
  bound_range : {k : Bool} {b c m : ℕ} → (b < 1) ⊎ (65535 < b) → Breaks capacity earlier (form (Loop k b c m)) Refusal.Range
  -- 4, count: a 513th leaf; a leaf more than the lent row holds; a 17th function.
  leaf_count : {f : Form} → 512 < leaves_among (f ∷ earlier) → Breaks capacity earlier (form f) Refusal.Count
  row_count : {f : Form} → capacity < leaves_among (f ∷ earlier) → Breaks capacity earlier (form f) Refusal.Count
  function_count : {f : Form} → 16 < functions_among (f ∷ earlier) → Breaks capacity earlier (form f) Refusal.Count
  -- 5, load: M is below C.
  load : {f : Form} {k : Bool} {c m : ℕ} → LeafLine f k c m → m < c → Breaks capacity earlier (form f) Refusal.Load
  -- 19, costless: a point with C = 0.
  costless : {f : Form} {m : ℕ} → LeafLine f true 0 m → Breaks capacity earlier (form f) Refusal.Costless
  -- 6, target: F is not below the number of its own function.
  target : {k : Bool} {F c m : ℕ} → own_function earlier ≤ F → Breaks capacity earlier (form (Call k F c m)) Refusal.Target
  -- 7, depth: a 65th open bracket; level over 32, called forms included.
  bracket_depth : {f : Form} → 64 < length (open_brackets (f ∷ earlier)) → Breaks capacity earlier (form f) Refusal.Depth
  level_depth : {f : Form} {F L : ℕ} → LevelAt (f ∷ earlier) F L → 32 < L → Breaks capacity earlier (form f) Refusal.Depth

-- THE LINE THAT IS REFUSED

-- The rules in the order in which a line is asked for them: 2 to 7 (01), and 19 after 5 and before 6 (02, L2).
abbrev pub line_order : List Refusal
line_order = Refusal.Form ∷ Refusal.Range ∷ Refusal.Count ∷ Refusal.Load ∷ Refusal.Costless ∷ Refusal.Target ∷ Refusal.Depth ∷ []

-- Of some rules in their order, k is the first that a line breaks behind the lines before it.
pub data FirstBroken (capacity : ℕ) (earlier : List Form) (x : Line) : List Refusal → Refusal → Type 0 where
  this : {k : Refusal} {later : List Refusal} → Breaks capacity earlier x k → FirstBroken capacity earlier x (k ∷ later) k
  not_this : {i k : Refusal} {later : List Refusal} → ¬ Breaks capacity earlier x i → FirstBroken capacity earlier x later k → FirstBroken capacity earlier x (i ∷ later) k

-- None of these lines breaks a rule behind the lines before it.
unfoldable pub NoneBroken : ℕ → List Form → Type 0
NoneBroken capacity [] = Unit
NoneBroken capacity (f ∷ earlier) = NoneBroken capacity earlier × ((i : Refusal) → ¬ Breaks capacity earlier (form f) i)

-- A text is refused by k at line j, counted from 1. A last line without its line feed is no line of the grammar.
pub data RefusedAt (capacity : ℕ) (text : List ℕ) : Refusal → ℕ → Type 0 where
  -- None of the lines before line j breaks a rule, and k is the first that line j breaks.
  at_line : (earlier : List Form) {x : Line} (rest : List Line) {k : Refusal} → map line_form (lines text) ≡ map form (reverse earlier) ++ (x ∷ rest) →
      NoneBroken capacity earlier → FirstBroken capacity earlier x line_order k → RefusedAt capacity text k (length earlier + 1)
  -- 2: none of the lines breaks a rule, but they are not those of a plan: the text ends early.
  at_end : (earlier : List Form) → map line_form (lines text) ≡ map form (reverse earlier) → NoneBroken capacity earlier → ¬ PlanLines (reverse earlier) →
      RefusedAt capacity text Refusal.Form (length earlier + 1)
