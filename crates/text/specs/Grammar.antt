-- The plan's own table of patterns, what a line of a plan is, and what reading one at a place answers (01, 'A plan, one form a line'; 02, L7).
-- Assumes nothing: these are definitions.
use Rattle.std.specs.Prelude.{ℕ, ◌^◌, ◌<◌, ◌≤◌, ◌≡◌, List, Bool, false, length, get_or, drop, Option, Some, None}
use Prim.Native.String.{String}
use Rattle.model.specs.declared.Edition.{Edition}
use Rattle.model.specs.declared.Edition.TheVariants.{First, Second}
use Rattle.text.specs.declared.Form.{Form}
use Rattle.text.specs.declared.Form.TheVariants.{Task, Fun, Then, Else, Close, Leaf, Call, Loop, If}
use Rattle.text.specs.Text.{bytes, line_at, rest_at, line_end}
use Rattle.text.specs.Patterns.{Match, miss, match, matched, capped}

-- What a line is: one of the forms, with its numbers whatever their size; or none of them.
pub data Line : Type 0 where
  no_form : Line
  form : Form → Line

abbrev pub or_else : Match → (Bool → List ℕ → Form) → Line → Line
or_else miss f other = other
or_else (match k v) f other = form (f k v)

abbrev pub like : String → List ℕ → (Bool → List ℕ → Form) → Line → Line
like pattern l = or_else (matched (bytes pattern) false l)

-- a number of the line, counted from 0
abbrev pub nth : List ℕ → ℕ → ℕ
nth v i = get_or v i 0

-- A line without numbers, or none of the forms.
abbrev pub plain_form : List ℕ → Line
plain_form l =
    like "(fun" l (λ k v. Fun)
    (like "(then" l (λ k v. Then)
    (like "(else" l (λ k v. Else)
    (like ")" l (λ k v. Close) no_form)))

-- The line of a leaf (01: leaf, call, loop and if lines are leaves), with its kind and costs; or one without numbers, or none of the forms.
abbrev pub block_form : List ℕ → Line
block_form l =
    like "(leaf K C M)" l (λ k v. Leaf k (nth v 0) (nth v 1))
    (like "(call K F C M)" l (λ k v. Call k (nth v 0) (nth v 1) (nth v 2))
    (like "(loop K B C M" l (λ k v. Loop k (nth v 0) (nth v 1) (nth v 2))
    (like "(if K C M" l (λ k v. If k (nth v 0) (nth v 1)) (plain_form l))))

-- Any line: the task's (02, L7: with a third number, that of a plan of edition 2), a leaf's, or one without numbers; or none of the forms.
unfoldable pub line_form : List ℕ → Line
line_form l =
    like "(task D T" l (λ k v. Task (nth v 0) (nth v 1) First)
    (like "(task D T U" l (λ k v. Task (nth v 0) (nth v 1) (Second (nth v 2))) (block_form l))

-- A form with its numbers held at 2^41: no range of 01 goes so far.
abbrev cap : ℕ → ℕ
cap = capped (2 ^ 41)

abbrev pub cap_edition : Edition → Edition
cap_edition First = First
cap_edition (Second u) = Second (cap u)

abbrev pub cap_form : Form → Form
cap_form (Task d t e) = Task (cap d) (cap t) (cap_edition e)
cap_form Fun = Fun
cap_form Then = Then
cap_form Else = Else
cap_form Close = Close
cap_form (Leaf k c m) = Leaf k (cap c) (cap m)
cap_form (Call k f c m) = Call k (cap f) (cap c) (cap m)
cap_form (Loop k b c m) = Loop k (cap b) (cap c) (cap m)
cap_form (If k c m) = If k (cap c) (cap m)

-- What is answered of a line that ends before the place e.
abbrev pub answered : ℕ → Line → Option (Form × ℕ)
answered e no_form = None
answered e (form f) = Some (cap_form f, e)

-- What reading at a place answers: the form of the line there with its numbers held, and the place after the line.
unfoldable pub read_at : List ℕ → ℕ → Option (Form × ℕ)
read_at s i = answered (line_end s i) (line_form (line_at s i))

-- The line at a place is the form f, held, and the next line begins at e.
pub record Found (s : List ℕ) (i : ℕ) (f : Form) (e : ℕ) : Type 0 where
  pub past : i < e
  pub within : e ≤ length s
  pub rest : rest_at s i ≡ drop e s
  pub exact : Form
  pub held : f ≡ cap_form exact
  pub reads : line_form (line_at s i) ≡ form exact

-- What an answer says of the line at a place.
abbrev pub Means : List ℕ → ℕ → Option (Form × ℕ) → Type 0
Means s i None = line_form (line_at s i) ≡ no_form
Means s i (Some (f, e)) = Found s i f e
