-- What the reader is to make of a text (01, 'A plan, one form a line' and 'Calls', refusals 1 to 7, and 19 of 02): a machine that takes one line at a time and
-- holds what was read and which brackets are open.
-- Assumes nothing: these are definitions.
use Rattle.std.specs.Prelude.{ℕ, ◌+◌, ◌^◌, min, List, [], ◌∷◌, ◌++◌, Bool, length, get_or, leb, ltb, eqb, Option, None, Some}
use Rattle.model.specs.declared.Refusal.{Refusal}
use Rattle.model.specs.Plan.{Block, Lines, close, leaf_line, call_line, loop_line, if_line, resume_cost, Plan}
use Rattle.model.specs.Levels.{heights}
use Rattle.text.specs.declared.Form.{Form}
use Rattle.text.specs.declared.Form.TheVariants.{Task, Fun, Then, Else, Close, Leaf, Call, Loop, If}
use Rattle.model.specs.Places.{pick, bit}
use Rattle.text.specs.Text.{lines}
use Rattle.text.specs.Grammar.{Line, no_form, form, line_form}
use Rattle.reader.specs.Outcome.{Outcome, plan, refused}

infixl 60 ◌⧺◌
-- Forms after forms.
unfoldable pub ◌⧺◌ : Lines → Lines → Lines
close ⧺ y = y
leaf_line b rest ⧺ y = leaf_line b (rest ⧺ y)
call_line b f rest ⧺ y = call_line b f (rest ⧺ y)
loop_line b n body rest ⧺ y = loop_line b n body (rest ⧺ y)
if_line b then else rest ⧺ y = if_line b then else (rest ⧺ y)

-- WHERE THE READER STANDS

-- What is open around a body, the innermost bracket first, with the forms that stand before it in the body around: the body is that of a function,
-- of a loop (its condition and its bound B), the then part of an if (its condition), or the else part of an if (its condition and its then part).
pub data Around : Type 0 where
  in_fun : Around
  in_loop : Block → ℕ → Lines → Around → Around
  in_then : Block → Lines → Around → Around
  in_else : Block → Lines → Lines → Around → Around

-- Nothing was read yet (start); inside the task but in no function (task); in a body, with its forms so far (body); behind an `(if` line, where
-- its `(then` must come, with the forms before the if (await_then); behind its then part, where its `(else` must come (await_else); behind its else
-- part, where its `)` must come (await_close); behind the closed task (done). The plan is the one so far: D, T, its edition and the functions that are closed.
pub data ParserState : Type 0 where
  start : ParserState
  task : Plan → ParserState
  body : Plan → Around → Lines → ParserState
  await_then : Plan → Around → Block → Lines → ParserState
  await_else : Plan → Around → Block → Lines → Lines → ParserState
  await_close : Plan → Around → Block → Lines → Lines → Lines → ParserState
  done : Plan → ParserState

-- The open brackets (01) in a body: task and fun, and around it one for a loop, two for an if and its part.
unfoldable pub brackets_in : Around → ℕ
brackets_in in_fun = 2
brackets_in (in_loop b n before K) = brackets_in K + 1
brackets_in (in_then b before K) = brackets_in K + 2
brackets_in (in_else b then before K) = brackets_in K + 2

-- The open brackets where the reader stands.
unfoldable pub brackets : ParserState → ℕ
brackets start = 0
brackets (task p) = 1
brackets (body p K fs) = brackets_in K
brackets (await_then p K b fs) = brackets_in K + 1
brackets (await_else p K b then fs) = brackets_in K + 1
brackets (await_close p K b then else fs) = brackets_in K + 1
brackets (done p) = 0

-- The level (01) of a form in a body, in its own function: a function's forms have level 1, a loop body is one above its condition, then and else
-- keep the level.
unfoldable pub level_in : Around → ℕ
level_in in_fun = 1
level_in (in_loop b n before K) = level_in K + 1
level_in (in_then b before K) = level_in K
level_in (in_else b then before K) = level_in K

-- The level of a form where the reader stands.
unfoldable pub level : ParserState → ℕ
level start = 0
level (task p) = 0
level (body p K fs) = level_in K
level (await_then p K b fs) = level_in K
level (await_else p K b then fs) = level_in K
level (await_close p K b then else fs) = level_in K
level (done p) = 0

-- The functions that are closed; their count is the number of the function that is being read.
unfoldable pub functions_of : ParserState → List Lines
functions_of start = []
functions_of (task p) = p.functions
functions_of (body p K fs) = p.functions
functions_of (await_then p K b fs) = p.functions
functions_of (await_else p K b then fs) = p.functions
functions_of (await_close p K b then else fs) = p.functions
functions_of (done p) = p.functions

-- REFUSAL 2, FORM: THE NESTING

-- Where the reader stands after a form; or stuck: the form may not stand there.
pub data Next : Type 0 where
  stuck : Next
  to : ParserState → Next

-- A plan with one function more.
abbrev pub with_function : Plan → Lines → Plan
with_function p fs = record { deadline = p.deadline; switch = p.switch; edition = p.edition; functions = p.functions ++ (fs ∷ []) }

-- `)` closes the last open form (01): a body closes with the forms fs.
abbrev pub closed : Plan → Around → Lines → ParserState
closed p in_fun fs = task (with_function p fs)
closed p (in_loop b n before K) fs = body p K (before ⧺ loop_line b n fs close)
closed p (in_then b before K) fs = await_else p K b fs before
closed p (in_else b then before K) fs = await_close p K b then fs before

-- The task closes if it holds a function: 1 to 16 (01).
abbrev pub closed_task : Plan → List Lines → Next
closed_task p [] = stuck
closed_task p (l ∷ ls) = to (done p)

-- At the beginning only a task line may stand, without U or with it (02, L7).
abbrev pub in_start : Form → Next
in_start (Task d t u) = to (task (record { deadline = d; switch = t; edition = u; functions = [] }))
in_start Fun = stuck
in_start Then = stuck
in_start Else = stuck
in_start Close = stuck
in_start (Leaf k c m) = stuck
in_start (Call k f c m) = stuck
in_start (Loop k b c m) = stuck
in_start (If k c m) = stuck

-- In the task `(fun` may stand, and `)`.
abbrev pub in_task : Plan → Form → Next
in_task p (Task d t u) = stuck
in_task p Fun = to (body p in_fun close)
in_task p Then = stuck
in_task p Else = stuck
in_task p Close = closed_task p p.functions
in_task p (Leaf k c m) = stuck
in_task p (Call k f c m) = stuck
in_task p (Loop k b c m) = stuck
in_task p (If k c m) = stuck

-- Leaf number n, with its K, C and M.
abbrev pub block : ℕ → Bool → ℕ → ℕ → Block
block n k c m = record { number = n; point = k; isolated = c; max_load = m }

-- In a body leaf, call, loop and if lines may stand, and `)`; the next leaf is number n.
abbrev pub in_body : ℕ → Plan → Around → Lines → Form → Next
in_body n p K fs (Task d t u) = stuck
in_body n p K fs Fun = stuck
in_body n p K fs Then = stuck
in_body n p K fs Else = stuck
in_body n p K fs Close = to (closed p K fs)
in_body n p K fs (Leaf k c m) = to (body p K (fs ⧺ leaf_line (block n k c m) close))
in_body n p K fs (Call k f c m) = to (body p K (fs ⧺ call_line (block n k c m) f close))
in_body n p K fs (Loop k b c m) = to (body p (in_loop (block n k c m) b fs K) close)
in_body n p K fs (If k c m) = to (await_then p K (block n k c m) fs)

-- A number for each kind of line.
abbrev pub tag_of : Form → ℕ
tag_of (Task d t u) = 0
tag_of Fun = 1
tag_of Then = 2
tag_of Else = 3
tag_of Close = 4
tag_of (Leaf k c m) = 5
tag_of (Call k f c m) = 6
tag_of (Loop k b c m) = 7
tag_of (If k c m) = 8

-- Only a line of the kind of x may stand there.
abbrev pub only : Form → Form → ParserState → Next
only x f S = pick (eqb (tag_of f) (tag_of x)) (to S) stuck

-- An if is followed by exactly one `(then` and one `(else` part, in that order, and by its `)` (01); behind the closed task nothing may stand.
abbrev pub next : ParserState → ℕ → Form → Next
next start n f = in_start f
next (task p) n f = in_task p f
next (body p K fs) n f = in_body n p K fs f
next (await_then p K b fs) n f = only Then f (body p (in_then b fs K) close)
next (await_else p K b then fs) n f = only Else f (body p (in_else b then fs K) close)
next (await_close p K b then else fs) n f = only Close f (body p K (fs ⧺ if_line b then else close))
next (done p) n f = stuck

-- REFUSALS 3, 4, 5, 19, 6 AND 7, in this order whatever the order of the fields

-- Where the test fails, this refusal; where it holds, what the later tests say.
abbrev pub refuse_unless : Bool → Refusal → Option Refusal → Option Refusal
refuse_unless ok k later = pick ok later (Some k)

-- Of a leaf, call, loop or if line: C and M from 0 to 2^20, else range (3); n leaves read and room in the lent row for one more, else count (4);
-- M not below C, else load (5); C not 0 if it is a point, else costless (19); then what its kind asks.
abbrev pub of_leaf : ℕ → ℕ → Bool → ℕ → ℕ → Option Refusal → Option Refusal
of_leaf room n k c m later =
    refuse_unless (leb c (2 ^ 20)) Refusal.Range
    (refuse_unless (leb m (2 ^ 20)) Refusal.Range
    (refuse_unless (ltb n room) Refusal.Count
    (refuse_unless (leb c m) Refusal.Load
    (refuse_unless (leb (bit k) c) Refusal.Costless later))))

-- The first of the refusals range (3), count (4), load (5), costless (19), target (6) and depth (7) that a form meets, or none. The lent row
-- has room for so many leaves and n are read; d brackets are open; L is the level; hs are the heights of the closed functions, so that `length hs` is
-- the number of the function that is being read.
unfoldable pub fault : ℕ → ℕ → ℕ → ℕ → List ℕ → Form → Option Refusal
fault room d L n hs (Task D t u) =
    refuse_unless (leb 1 D) Refusal.Range
    (refuse_unless (leb D (2 ^ 40)) Refusal.Range
    (refuse_unless (leb t (2 ^ 20)) Refusal.Range
    (refuse_unless (leb (resume_cost u) (2 ^ 20)) Refusal.Range
    (refuse_unless (ltb d 64) Refusal.Depth None))))
fault room d L n hs Fun =
    refuse_unless (ltb (length hs) 16) Refusal.Count
    (refuse_unless (ltb d 64) Refusal.Depth None)
fault room d L n hs Then = refuse_unless (ltb d 64) Refusal.Depth None
fault room d L n hs Else = refuse_unless (ltb d 64) Refusal.Depth None
fault room d L n hs Close = None
fault room d L n hs (Leaf k c m) = of_leaf room n k c m (refuse_unless (leb L 32) Refusal.Depth None)
fault room d L n hs (Call k f c m) =
    refuse_unless (leb f 15) Refusal.Range
    (of_leaf room n k c m
    (refuse_unless (ltb f (length hs)) Refusal.Target
    (refuse_unless (leb (L + get_or hs f 0) 32) Refusal.Depth None)))
fault room d L n hs (Loop k b c m) =
    refuse_unless (leb 1 b) Refusal.Range
    (refuse_unless (leb b 65535) Refusal.Range
    (of_leaf room n k c m
    (refuse_unless (leb L 32) Refusal.Depth
    (refuse_unless (ltb d 64) Refusal.Depth None))))
fault room d L n hs (If k c m) =
    of_leaf room n k c m
    (refuse_unless (leb L 32) Refusal.Depth
    (refuse_unless (ltb d 64) Refusal.Depth None))

-- The number of leaves after a form: leaf, call, loop and if lines are leaves (01).
abbrev pub counted : ℕ → Form → ℕ
counted n (Task d t u) = n
counted n Fun = n
counted n Then = n
counted n Else = n
counted n Close = n
counted n (Leaf k c m) = n + 1
counted n (Call k f c m) = n + 1
counted n (Loop k b c m) = n + 1
counted n (If k c m) = n + 1

-- ONE LINE

-- The reader refuses (stop), or goes on in a state, with the leaves read (go).
pub data Turn : Type 0 where
  stop : Refusal → Turn
  go : ParserState → ℕ → Turn

-- Form (2) comes before the others.
abbrev pub form_first : Next → Option Refusal → ℕ → Turn
form_first stuck x n = stop Refusal.Form
form_first (to S) None n = go S n
form_first (to S) (Some k) n = stop k

-- A line that is no form of the grammar is refused by 2.
abbrev pub line_turn : ℕ → ParserState → ℕ → Line → Turn
line_turn room S n no_form = stop Refusal.Form
line_turn room S n (form f) =
    form_first (next S n f) (fault room (brackets S) (level S) n (heights [] (functions_of S)) f) (counted n f)

-- ALL LINES

-- A text that ends early is refused by 2 at the line after the last, i.
abbrev pub finish : ParserState → ℕ → Outcome
finish start i = refused Refusal.Form i
finish (task p) i = refused Refusal.Form i
finish (body p K fs) i = refused Refusal.Form i
finish (await_then p K b fs) i = refused Refusal.Form i
finish (await_else p K b then fs) i = refused Refusal.Form i
finish (await_close p K b then else fs) i = refused Refusal.Form i
finish (done p) i = plan p

-- A refusal carries the number of its line, i; else the reader goes on.
abbrev pub onwards : Turn → ℕ → (ParserState → ℕ → Outcome) → Outcome
onwards (stop k) i f = refused k i
onwards (go S n) i f = f S n

-- The lines from number i on.
unfoldable pub run : ℕ → ParserState → ℕ → ℕ → List (List ℕ) → Outcome
run room S n i [] = finish S i
run room S n i (l ∷ ls) = onwards (line_turn room S n (line_form l)) i (λ S' n'. run room S' n' (i + 1) ls)

-- What the reader is to make of a text, for a lent row of so many records, of which the first 512 are used. Oversize (1) comes first, with line 0.
unfoldable pub outcome : ℕ → List ℕ → Outcome
outcome row text = pick (leb (length text) 65536) (run (min 512 row) start 0 1 (lines text)) (refused Refusal.Oversize 0)
