-- What the private functions promise. Nothing of this stands in the contracts of `read_lines` and `read_raw`.
-- Assumes nothing: these are definitions.
use Rattle.std.specs.Prelude.{ℕ, ◌+◌, ◌-◌, ◌*◌, ◌≤◌, ◌^◌, ◌≡◌, ◌≢◌, Bool, List, [], ◌∷◌, length, get_or, set, take, drop, leb, ltb, eqb, Option, None, Some, Result, Ok, Err}
use Rattle.std.proofs.lemmas.List.Edits.{sets}
use Rattle.model.specs.declared.Refusal.{Refusal}
use Rattle.model.specs.declared.Edition.{Edition}
use Rattle.model.specs.Plan.{Lines, resume_cost, Plan}
use Rattle.model.specs.Levels.{height, heights}
use Rattle.model.specs.Acceptance.{size}
use Rattle.text.specs.declared.Form.{Form}
use Rattle.text.specs.declared.Form.TheVariants.{Task, Fun, Then, Else, Close, Leaf, Call, Loop, If}
use Rattle.model.specs.Places.{pick}
use Rattle.text.specs.Text.{lines}
use Rattle.text.specs.Grammar.{form, line_form, cap_form}
use Rattle.reader.specs.declared.RefusedAt.{RefusedAt}
use Rattle.reader.specs.declared.Raw.{Raw}
use Rattle.reader.specs.declared.Spot.{Spot}
use Rattle.reader.specs.declared.Nesting.{Nesting}
use Rattle.reader.specs.declared.Closed.{Closed}
use Rattle.reader.specs.Machine.{◌⧺◌, Around, body, brackets_in, level_in, closed, block, refuse_unless, fault, start, run}
use Rattle.reader.specs.Outcome.{refused}
use Rattle.rows.specs.Records.{entry, records}
use Rattle.reader.specs.Raw.{raw_of, Written}

-- ONE LINE

-- The refusals that a loop's bound meets.
abbrev pub of_bound : ℕ → Option Refusal
of_bound b = refuse_unless (leb 1 b) Refusal.Range (refuse_unless (leb b 65535) Refusal.Range None)

-- The refusals that the level of an opening line and its bracket meet.
abbrev pub of_open : ℕ → ℕ → Option Refusal
of_open L d = refuse_unless (leb L 32) Refusal.Depth (refuse_unless (ltb d 64) Refusal.Depth None)

-- The refusals that a call's target meets, where hs are the heights of the functions before.
abbrev pub of_target : ℕ → List ℕ → ℕ → Option Refusal
of_target L hs f = refuse_unless (ltb f (length hs)) Refusal.Target (refuse_unless (leb (L + get_or hs f 0) 32) Refusal.Depth None)

-- The refusals that a task line meets.
abbrev pub of_task : ℕ → ℕ → Edition → Option Refusal
of_task D t u =
    refuse_unless (leb 1 D) Refusal.Range
    (refuse_unless (leb D (2 ^ 40)) Refusal.Range
    (refuse_unless (leb t (2 ^ 20)) Refusal.Range
    (refuse_unless (leb (resume_cost u) (2 ^ 20)) Refusal.Range None)))

-- The refusals that a line in a body meets; its closing bracket meets none.
abbrev pub body_fault : ℕ → ℕ → ℕ → ℕ → List ℕ → Form → Option Refusal
body_fault room d L n hs (Task D t u) = Some Refusal.Form
body_fault room d L n hs Fun = Some Refusal.Form
body_fault room d L n hs Then = Some Refusal.Form
body_fault room d L n hs Else = Some Refusal.Form
body_fault room d L n hs Close = None
body_fault room d L n hs (Leaf k c m) = fault room d L n hs (Leaf k c m)
body_fault room d L n hs (Call k f c m) = fault room d L n hs (Call k f c m)
body_fault room d L n hs (Loop k b c m) = fault room d L n hs (Loop k b c m)
body_fault room d L n hs (If k c m) = fault room d L n hs (If k c m)

-- A line that meets no refusal is taken; any other is refused at its own line, i.
abbrev pub judged_line : ℕ → Option Refusal → Form → ℕ → Result (Form × ℕ) RefusedAt
judged_line i None f e = Ok (f, e)
judged_line i (Some k) f e = Err (record { refusal = k; line = i })

-- What the line with number i is in a body, with the place after it.
abbrev pub body_line : ℕ → ℕ → ℕ → ℕ → ℕ → List ℕ → Option (Form × ℕ) → Result (Form × ℕ) RefusedAt
body_line i room d L n hs None = Err (record { refusal = Refusal.Form; line = i })
body_line i room d L n hs (Some (f, e)) = judged_line i (body_fault room d L n hs f) f e

-- Whether the line at a spot is the form f: then the spot behind it is the answer; if not, it is refused.
abbrev pub AwaitedAt : Form → Spot → Option (Form × ℕ) → Result Spot RefusedAt → Type 0
AwaitedAt f p None r = r ≡ Err (record { refusal = Refusal.Form; line = p.line })
AwaitedAt f p (Some (g, e)) (Err x) = (g ≢ f) × (x ≡ record { refusal = Refusal.Form; line = p.line })
AwaitedAt f p (Some (g, e)) (Ok q) = (g ≡ f) × (q ≡ record { at = e; line = p.line + 1; leaves = p.leaves })

-- A task line that meets no refusal opens the task.
abbrev pub judged_head : Option Refusal → ℕ → ℕ → Edition → ℕ → Result (ℕ × ℕ × Edition × ℕ) Refusal
judged_head None D t u e = Ok (D, t, u, e)
judged_head (Some k) D t u e = Err k

-- What a form is as the first line.
abbrev pub head_form : ℕ → Form → Result (ℕ × ℕ × Edition × ℕ) Refusal
head_form e (Task D t u) = judged_head (of_task D t u) D t u e
head_form e Fun = Err Refusal.Form
head_form e Then = Err Refusal.Form
head_form e Else = Err Refusal.Form
head_form e Close = Err Refusal.Form
head_form e (Leaf k c m) = Err Refusal.Form
head_form e (Call k f c m) = Err Refusal.Form
head_form e (Loop k b c m) = Err Refusal.Form
head_form e (If k c m) = Err Refusal.Form

-- What the first line is: D, T and the edition of the task, and the place after it.
abbrev pub first_line : Option (Form × ℕ) → Result (ℕ × ℕ × Edition × ℕ) Refusal
first_line None = Err Refusal.Form
first_line (Some (f, e)) = head_form e f

-- ONE RECORD

-- The record of leaf number n, from its line; no other line has one.
abbrev pub record_of : ℕ → Form → ℕ → ℕ → ℕ → List ℕ
record_of n (Task D t u) other after L = []
record_of n Fun other after L = []
record_of n Then other after L = []
record_of n Else other after L = []
record_of n Close other after L = []
record_of n (Leaf k c m) other after L = entry 0 (block n k c m) 0 other after L
record_of n (Call k f c m) other after L = entry 1 (block n k c m) f other after L
record_of n (Loop k b c m) other after L = entry 2 (block n k c m) b other after L
record_of n (If k c m) other after L = entry 3 (block n k c m) 0 other after L

-- FORMS: the heights of the closed functions are hs, d brackets are open, the level is L, n leaves were read, and i is the number of the first line

-- The heights of the functions that were read.
abbrev pub heights_before : Raw → List ℕ
heights_before r = take r.functions r.heights

-- The closed functions of the plan have the heights hs, d brackets are open and the level is L.
abbrev pub AroundOf : Plan → Around → List ℕ → ℕ → ℕ → Type 0
AroundOf p K hs d L = (heights [] p.functions ≡ hs) × (brackets_in K ≡ d) × (level_in K ≡ L)

-- Whatever is open around and was read before, the lines us are refused by r at line x.
pub record Halted (room : ℕ) (hs : List ℕ) (d L n i : ℕ) (us : List (List ℕ)) (r : Refusal) (x : ℕ) : Type 0 where
  pub halts : (p : Plan) (K : Around) (fs : Lines) → AroundOf p K hs d L → run room (body p K fs) n i us ≡ refused r x

-- The first of the lines us is the form f, with its numbers held, and ks are the others.
pub record Leads (us : List (List ℕ)) (f : Form) (ks : List (List ℕ)) : Type 0 where
  pub line : List ℕ
  pub split : us ≡ line ∷ ks
  pub whole : Form
  pub reads : line_form line ≡ form whole
  pub held : cap_form whole ≡ f

-- Reading came to the place e, with line number j and m leaves; h is the height of what was read.
pub record Came (s : List ℕ) (room L at e j m h : ℕ) : Type 0 where
  pub past : at ≤ e
  pub within : e ≤ length s
  pub numbered : j ≤ e + 1
  pub fits : m ≤ room
  pub low : h ≤ 33 - L

-- The forms of a body up to its closing bracket were read and their records written: whatever is open around and was read before, the machine answers
-- from the place `at` as it does behind the bracket.
pub record FormsDone (s : List ℕ) (room : ℕ) (hs : List ℕ) (d L at i n : ℕ) (R₀ R : List ℕ) (e j m h : ℕ) : Type 0 where
  pub came : Came s room L at e j m h
  pub forms : Lines
  pub sized : m ≡ n + size forms
  pub tall : h ≡ height hs forms
  pub filled : R ≡ sets R₀ (8 * n) (records L forms n)
  pub same : (p : Plan) (K : Around) (fs : Lines) → AroundOf p K hs d L →
      run room (body p K fs) n i (lines (drop at s)) ≡ run room (closed p K (fs ⧺ forms)) m j (lines (drop e s))

-- What reading the forms of a body from the spot p on promises.
abbrev pub FormsAt : List ℕ → ℕ → List ℕ → Nesting → Spot → List ℕ → List ℕ → Result Closed RefusedAt → Type 0
FormsAt s room hs w p R₀ R (Err x) = Halted room hs w.brackets w.level p.leaves p.line (lines (drop p.at s)) x.refusal x.line
FormsAt s room hs w p R₀ R (Ok c) = FormsDone s room hs w.brackets w.level p.at p.line p.leaves R₀ R c.next.at c.next.line c.next.leaves c.height

-- One form was read, with its line, number i, the first of the lines us, and its records were written; what follows its line begins at the place `at`.
pub record FormDone (s : List ℕ) (room : ℕ) (hs : List ℕ) (d L at i n : ℕ) (us : List (List ℕ)) (R₀ R : List ℕ) (e j m h : ℕ) : Type 0 where
  pub came : Came s room L at e j m h
  pub forms : Lines
  pub sized : m ≡ n + size forms
  pub tall : h ≡ height hs forms
  pub filled : R ≡ sets R₀ (8 * n) (records L forms n)
  pub same : (p : Plan) (K : Around) (fs : Lines) → AroundOf p K hs d L → run room (body p K fs) n i us ≡ run room (body p K (fs ⧺ forms)) m j (lines (drop e s))

-- What reading one form promises, whose line f has the number i and ends before the place e, whatever stands at that line; the form has the leaf number n.
abbrev pub FormAt : List ℕ → ℕ → List ℕ → Nesting → ℕ → ℕ → ℕ → Form → List ℕ → List ℕ → Result Closed RefusedAt → Type 0
FormAt s room hs w i n e f R₀ R (Err x) = (us : List (List ℕ)) → Leads us f (lines (drop e s)) → Halted room hs w.brackets w.level n i us x.refusal x.line
FormAt s room hs w i n e f R₀ R (Ok c) =
    (us : List (List ℕ)) → Leads us f (lines (drop e s)) →
    FormDone s room hs w.brackets w.level e i n us R₀ R c.next.at c.next.line c.next.leaves c.height

-- What reading the parts of an if promises, from the spot p behind its line on: whatever if stands there, it is refused; or it is read once its own record
-- is written too.
abbrev pub PartsAt : List ℕ → ℕ → List ℕ → Nesting → Spot → List ℕ → List ℕ → Result (ℕ × Closed) RefusedAt → Type 0
PartsAt s room hs w p R₀ R (Err x) =
    (i n : ℕ) (k : Bool) (c m : ℕ) → p.line ≡ i + 1 → p.leaves ≡ n + 1 → fault room w.brackets w.level n hs (If k c m) ≡ None →
    FormAt s room hs w i n p.at (If k c m) R₀ R (Err x)
PartsAt s room hs w p R₀ R (Ok q) =
    (i n : ℕ) (k : Bool) (c m : ℕ) (R' : List ℕ) → p.line ≡ i + 1 → p.leaves ≡ n + 1 → fault room w.brackets w.level n hs (If k c m) ≡ None →
    R' ≡ sets R (8 * n) (record_of n (If k c m) q.0 q.1.next.leaves w.level) → FormAt s room hs w i n p.at (If k c m) R₀ R' (Ok q.1)

-- ALL LINES

-- What was read, with one function more.
abbrev pub with_body : Raw → Closed → Raw
with_body r c =
    record r { leaves = c.next.leaves; functions = r.functions + 1; bounds = set r.bounds (r.functions + 1) c.next.leaves; heights = set r.heights r.functions c.height }

-- The answer where the task closes, in line i and before the place e of a text of so many bytes: it must hold a function, and the text must end there.
abbrev pub ended_raw : ℕ → ℕ → ℕ → Raw → Result Raw RefusedAt
ended_raw bytes e i raw =
    pick (eqb raw.functions 0) (Err (record { refusal = Refusal.Form; line = i }))
    (pick (ltb e bytes) (Err (record { refusal = Refusal.Form; line = i + 1 })) (Ok raw))

-- The answer is what the machine makes of the lines of the text, and the records of a plan were written.
pub record TextAt (s : List ℕ) (room : ℕ) (R₀ R : List ℕ) (r : Result Raw RefusedAt) : Type 0 where
  pub answers : r ≡ raw_of (run room start 0 1 (lines s))
  pub writes : Written (run room start 0 1 (lines s)) R₀ R
