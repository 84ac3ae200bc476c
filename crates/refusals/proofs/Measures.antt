-- What the machine holds in a state is what the lines before it say: open brackets and levels, leaves, functions and their heights.
use Prim.Native.Nat.{ℕ, zero, suc, ◌+◌, ◌-◌, ◌≤◌, ◌<◌, max}
use mathlib.Core.Path.{◌≡◌, refl, sym, ap, ◌∙◌, subst}
use mathlib.Core.List.{List, [], ◌∷◌, ◌++◌, reverse, reverse-cons}
use mathlib.Core.Bool.{Bool, true, false}
use native.Mathlib.Omega.{arith}
use native.Mathlib.Decide.{dec_le}
use lib.ListN.{length, get_or, length-append}
use Rattle.std.proofs.lemmas.List.{get_or_append_left}
use lib.Seq.{get_or-append_seam}
use lib.Dec.{eqb}
use borrow.Author.Tests.{eqb-true, eqb-false, eq-eqb}
use Rattle.model.specs.Places.{pick}
use Rattle.text.specs.declared.Form.{Form}
use Rattle.text.specs.declared.Form.TheVariants.{Task, Fun, Then, Else, Close, Leaf, Call, Loop, If}
use Rattle.model.specs.Plan.{Lines, close, leaf_line, call_line, loop_line, if_line}
use Rattle.model.specs.Levels.{height, heights}
use Rattle.reader.specs.Machine.{◌⧺◌, Around, in_fun, in_loop, in_then, in_else, ParserState, start, task, body, await_then, await_else, await_close, done, brackets_in, brackets, level_in, functions_of, to, block, next, counted}
use Rattle.reader.proofs.Appended.{height-⧺, heights_snoc, heights_length}
use Rattle.reader.proofs.Steps.{before, Step, opens_task, opens_fun, closes_task, leaf, call, loop, cond, closes_fun, closes_loop, closes_then, closes_else, opens_then, opens_else, closes_if, stepped, before_step}
use Rattle.refusals.specs.Refusal.{of_leaf, of_call, of_loop, of_if, leaves_among, functions_among, own_function, innermost, brackets_behind, open_brackets, LevelAt, own_level, called_level, earlier_line}
use Rattle.refusals.proofs.Nesting.{Held, held_step, nests, leaves_after, nests_append}

-- OPEN BRACKETS AND LEVELS

-- The open brackets of a state, as the levels inside them.
unfoldable pub levels_in : Around → List ℕ
levels_in in_fun = 1 ∷ 0 ∷ []
levels_in (in_loop b n hs K) = (level_in K + 1) ∷ levels_in K
levels_in (in_then b hs K) = level_in K ∷ level_in K ∷ levels_in K
levels_in (in_else b ts hs K) = level_in K ∷ level_in K ∷ levels_in K

unfoldable pub levels_at : ParserState → List ℕ
levels_at start = []
levels_at (task p) = 0 ∷ []
levels_at (body p K fs) = levels_in K
levels_at (await_then p K b fs) = level_in K ∷ levels_in K
levels_at (await_else p K b ts fs) = level_in K ∷ levels_in K
levels_at (await_close p K b ts es fs) = level_in K ∷ levels_in K
levels_at (done p) = []

-- The level of a form in a body is that inside its last bracket.
pub innermost_in : (K : Around) → innermost (levels_in K) ≡ level_in K
unfolding levels_in level_in
innermost_in in_fun = refl
innermost_in (in_loop b n hs K) = refl
innermost_in (in_then b hs K) = refl
innermost_in (in_else b ts hs K) = refl

-- A step opens and closes what its line does.
brackets_step : {S : ParserState} {n : ℕ} {f : Form} {S' : ParserState} → Step S n f S' → brackets_behind f (levels_at S) ≡ levels_at S'
unfolding levels_at levels_in level_in
brackets_step opens_task = refl
brackets_step opens_fun = refl
brackets_step (closes_task h) = refl
brackets_step leaf = refl
brackets_step call = refl
brackets_step (loop {K = K}) = ap (λ L. (L + 1) ∷ levels_in K) (innermost_in K)
brackets_step (cond {K = K}) = ap (λ L. L ∷ levels_in K) (innermost_in K)
brackets_step closes_fun = refl
brackets_step closes_loop = refl
brackets_step closes_then = refl
brackets_step closes_else = refl
brackets_step opens_then = refl
brackets_step opens_else = refl
brackets_step closes_if = refl

brackets_within : (K : Around) → brackets_in K ≡ length (levels_in K)
unfolding brackets_in levels_in
brackets_within in_fun = refl
brackets_within (in_loop b n hs K) = omega (arith, brackets_within K)
brackets_within (in_then b hs K) = omega (arith, brackets_within K)
brackets_within (in_else b ts hs K) = omega (arith, brackets_within K)

-- The machine counts these brackets.
pub brackets_at : (S : ParserState) → brackets S ≡ length (levels_at S)
unfolding brackets levels_at
brackets_at start = refl
brackets_at (task p) = refl
brackets_at (body p K fs) = brackets_within K
brackets_at (await_then p K b fs) = omega (arith, brackets_within K)
brackets_at (await_else p K b ts fs) = omega (arith, brackets_within K)
brackets_at (await_close p K b ts es fs) = omega (arith, brackets_within K)
brackets_at (done p) = refl

-- The loops around a body.
unfoldable pub under : Around → ℕ
under in_fun = 0
under (in_loop b n hs K) = under K + 1
under (in_then b hs K) = under K
under (in_else b ts hs K) = under K

level_under : (K : Around) → level_in K ≡ under K + 1
unfolding level_in under
level_under in_fun = refl
level_under (in_loop b n hs K) = omega (arith, level_under K)
level_under (in_then b hs K) = level_under K
level_under (in_else b ts hs K) = level_under K

innermost_under : (K : Around) → innermost (levels_in K) ≡ under K + 1
innermost_under K = innermost_in K ∙ level_under K

-- FUNCTIONS AND LEAVES

-- The functions that have begun.
unfoldable pub functions_in : ParserState → ℕ
functions_in start = 0
functions_in (task p) = length p.functions
functions_in (body p K fs) = length p.functions + 1
functions_in (await_then p K b fs) = length p.functions + 1
functions_in (await_else p K b ts fs) = length p.functions + 1
functions_in (await_close p K b ts es fs) = length p.functions + 1
functions_in (done p) = length p.functions

functions_step : {S : ParserState} {n : ℕ} {f : Form} {S' : ParserState} → Step S n f S' → (es : List Form) → functions_among es ≡ functions_in S →
    functions_among (f ∷ es) ≡ functions_in S'
unfolding functions_in functions_among
functions_step opens_task es e = e
functions_step opens_fun es e = omega (arith, e)
functions_step (closes_task h) es e = e
functions_step leaf es e = e
functions_step call es e = e
functions_step loop es e = e
functions_step cond es e = e
functions_step (closes_fun {p = p} {fs = fs}) es e = omega (arith, e, length-append p.functions (fs ∷ []))
functions_step closes_loop es e = e
functions_step closes_then es e = e
functions_step closes_else es e = e
functions_step opens_then es e = e
functions_step opens_else es e = e
functions_step closes_if es e = e

pub leaves_step : (f : Form) (es : List Form) → leaves_among (f ∷ es) ≡ counted (leaves_among es) f
unfolding leaves_among
leaves_step (Task d t u) es = refl
leaves_step Fun es = refl
leaves_step Then es = refl
leaves_step Else es = refl
leaves_step Close es = refl
leaves_step (Leaf k c m) es = refl
leaves_step (Call k f c m) es = refl
leaves_step (Loop k b c m) es = refl
leaves_step (If k c m) es = refl

leaves_snoc : (fs : List Form) (n : ℕ) (f : Form) → leaves_after n (fs ++ (f ∷ [])) ≡ counted (leaves_after n fs) f
unfolding leaves_after
leaves_snoc [] n f = refl
leaves_snoc (g ∷ fs) n f = leaves_snoc fs (counted n g) f

-- HEIGHTS

-- The highest level on a line of level L, and the height of a function behind some lines: the greatest level of its forms, called forms included.
abbrev pub highest : ℕ → (ℕ → ℕ) → Form → ℕ
highest L tall (Task d t u) = 0
highest L tall Fun = 0
highest L tall Then = 0
highest L tall Else = 0
highest L tall Close = 0
highest L tall (Leaf k c m) = L
highest L tall (Call k f c m) = L + tall f
highest L tall (Loop k b c m) = L
highest L tall (If k c m) = L

unfoldable pub height_of : ℕ → List Form → ℕ
height_of F [] = 0
height_of F (f ∷ es) =
    max (height_of F es) (pick (eqb F (own_function es)) (highest (innermost (open_brackets es)) (λ G. height_of G es) f) 0)

same_number : (F : ℕ) → eqb F F ≡ true
same_number F = eq-eqb F F refl

-- No form is higher.
pub height_bounds : {es : List Form} {F L : ℕ} → LevelAt es F L → L ≤ height_of F es
unfolding height_of
height_bounds (own_level {earlier = es} of_leaf) = rw (same_number (own_function es)) (omega arith)
height_bounds (own_level {earlier = es} of_call) = rw (same_number (own_function es)) (omega arith)
height_bounds (own_level {earlier = es} of_loop) = rw (same_number (own_function es)) (omega arith)
height_bounds (own_level {earlier = es} of_if) = rw (same_number (own_function es)) (omega arith)
height_bounds (called_level {earlier = es} x) = rw (same_number (own_function es)) (omega (arith, height_bounds x))
height_bounds (earlier_line x) = omega (arith, height_bounds x)

-- The highest level on a line is that of a form.
highest_met : (es : List Form) → ((F : ℕ) → 1 ≤ height_of F es → LevelAt es F (height_of F es)) → (f : Form) →
    1 ≤ highest (innermost (open_brackets es)) (λ G. height_of G es) f →
    LevelAt (f ∷ es) (own_function es) (highest (innermost (open_brackets es)) (λ G. height_of G es) f)
highest_met es ih (Task d t u) h = absurd (omega arith)
highest_met es ih Fun h = absurd (omega arith)
highest_met es ih Then h = absurd (omega arith)
highest_met es ih Else h = absurd (omega arith)
highest_met es ih Close h = absurd (omega arith)
highest_met es ih (Leaf k c m) h = own_level of_leaf
highest_met es ih (Call k g c m) h =
    elim (dec_le 1 (height_of g es)) [
      | yes q ↦ called_level (ih g q)
      | no q ↦
          let z : innermost (open_brackets es) ≡ innermost (open_brackets es) + height_of g es = omega arith in
          subst (λ L. LevelAt (Call k g c m ∷ es) (own_function es) L) z (own_level of_call)
    ]
highest_met es ih (Loop k b c m) h = own_level of_loop
highest_met es ih (If k c m) h = own_level of_if

-- Some form is as high as its function, unless the function has none.
pub height_met : (es : List Form) (F : ℕ) → 1 ≤ height_of F es → LevelAt es F (height_of F es)
unfolding height_of
height_met [] F h = absurd (omega arith)
height_met (f ∷ es) F h = by (eqb F (own_function es)) refl h (height_met es)
  where
    here : ℕ
    here = highest (innermost (open_brackets es)) (λ G. height_of G es) f

    by : (t : Bool) → eqb F (own_function es) ≡ t → 1 ≤ max (height_of F es) (pick t here 0) →
        ((F : ℕ) → 1 ≤ height_of F es → LevelAt es F (height_of F es)) → LevelAt (f ∷ es) F (max (height_of F es) (pick t here 0))
    by false q h ih =
        let z : height_of F es ≡ max (height_of F es) 0 = omega arith in
        subst (λ L. LevelAt (f ∷ es) F L) z (earlier_line (ih F (omega arith)))
    by true q h ih =
        elim (dec_le here (height_of F es)) [
          | yes g ↦
              let z : height_of F es ≡ max (height_of F es) here = omega arith in
              subst (λ L. LevelAt (f ∷ es) F L) z (earlier_line (ih F (omega arith)))
          | no g ↦
              let z : here ≡ max (height_of F es) here = omega arith in
              subst (λ L. LevelAt (f ∷ es) F L) z
              (subst (λ G. LevelAt (f ∷ es) G here) (sym (eqb-true F (own_function es) q)) (highest_met es ih f (omega arith)))
        ]

-- The height that the function being read has so far.
unfoldable pub peak : List ℕ → Around → Lines → ℕ
peak hs in_fun fs = height hs fs
peak hs (in_loop b n gs K) fs = max (peak hs K gs) (under K + 1 + height hs fs)
peak hs (in_then b gs K) fs = max (peak hs K gs) (under K + max 1 (height hs fs))
peak hs (in_else b ts gs K) fs = max (peak hs K gs) (under K + max 1 (max (height hs ts) (height hs fs)))

peak-⧺ : (hs : List ℕ) (K : Around) (fs x : Lines) → peak hs K (fs ⧺ x) ≡ max (peak hs K fs) (under K + height hs x)
unfolding peak under
peak-⧺ hs in_fun fs x = omega (arith, height-⧺ hs fs x)
peak-⧺ hs (in_loop b n gs K) fs x = omega (arith, height-⧺ hs fs x)
peak-⧺ hs (in_then b gs K) fs x = omega (arith, height-⧺ hs fs x)
peak-⧺ hs (in_else b ts gs K) fs x =
    ap (λ y. max (peak hs K gs) (under K + max 1 (max (height hs ts) y))) (height-⧺ hs fs x) ∙
    (ap (λ y. max (peak hs K gs) (under K + y)) (regroup (height hs ts) (height hs fs) (height hs x)) ∙
    further (peak hs K gs) (under K) (max 1 (max (height hs ts) (height hs fs))) (height hs x))
  where
    regroup : (a b c : ℕ) → max 1 (max a (max b c)) ≡ max (max 1 (max a b)) c
    regroup a b c = omega arith

    further : (a b c d : ℕ) → max a (b + max c d) ≡ max (max a (b + c)) (b + d)
    further a b c d = omega arith

-- The heights of all functions so far, that of the one being read last.
unfoldable pub talls : ParserState → List ℕ
talls start = []
talls (task p) = heights [] p.functions
talls (body p K fs) = heights [] p.functions ++ (peak (heights [] p.functions) K fs ∷ [])
talls (await_then p K b fs) = heights [] p.functions ++ (max (peak (heights [] p.functions) K fs) (under K + 1) ∷ [])
talls (await_else p K b ts fs) =
    heights [] p.functions ++ (max (peak (heights [] p.functions) K fs) (under K + max 1 (height (heights [] p.functions) ts)) ∷ [])
talls (await_close p K b ts es fs) =
    heights [] p.functions ++
    (max (peak (heights [] p.functions) K fs) (under K + max 1 (max (height (heights [] p.functions) ts) (height (heights [] p.functions) es))) ∷ [])
talls (done p) = heights [] p.functions

-- A line without a level changes no height.
same : (x : ℕ) (t : Bool) → x ≡ max x (pick t 0 0)
same x true = omega arith
same x false = omega arith

keep : (hs : List ℕ) (x y F : ℕ) (t : Bool) → y ≡ x → get_or (hs ++ (y ∷ [])) F 0 ≡ max (get_or (hs ++ (x ∷ [])) F 0) (pick t 0 0)
keep hs x y F t e = ap (λ z. get_or (hs ++ (z ∷ [])) F 0) e ∙ same (get_or (hs ++ (x ∷ [])) F 0) t

pad : (hs : List ℕ) (F : ℕ) → get_or (hs ++ (0 ∷ [])) F 0 ≡ get_or hs F 0
pad [] zero = refl
pad [] (suc F) = refl
pad (h ∷ hs) zero = refl
pad (h ∷ hs) (suc F) = pad hs F

other : (hs : List ℕ) (x y F : ℕ) → (F ≡ length hs → ⊥) → get_or (hs ++ (y ∷ [])) F 0 ≡ get_or (hs ++ (x ∷ [])) F 0
other [] x y zero h = absurd (h refl)
other [] x y (suc F) h = refl
other (k ∷ hs) x y zero h = refl
other (k ∷ hs) x y (suc F) h = other hs x y F (λ e. h (ap suc e))

-- A line with a level raises the height of its own function.
raise : (hs : List ℕ) (x y z own F : ℕ) → own ≡ length hs → z ≡ max x y → get_or (hs ++ (z ∷ [])) F 0 ≡ max (get_or (hs ++ (x ∷ [])) F 0) (pick (eqb F own) y 0)
raise hs x y z own F o e = by (eqb F own) refl
  where
    by : (t : Bool) → eqb F own ≡ t → get_or (hs ++ (z ∷ [])) F 0 ≡ max (get_or (hs ++ (x ∷ [])) F 0) (pick t y 0)
    by true q =
        let i : F ≡ length hs = eqb-true F own q ∙ o in
        rw i (rw (get_or-append_seam hs z [] 0, get_or-append_seam hs x [] 0) e)
    by false q = other hs x z F (λ i. eqb-false F own q (i ∙ sym o)) ∙ same (get_or (hs ++ (x ∷ [])) F 0) true

-- A call names a function that is closed.
abbrev pub NamesClosed : ParserState → Form → Type 0
NamesClosed S (Task d t u) = Unit
NamesClosed S Fun = Unit
NamesClosed S Then = Unit
NamesClosed S Else = Unit
NamesClosed S Close = Unit
NamesClosed S (Leaf k c m) = Unit
NamesClosed S (Call k f c m) = f < length (functions_of S)
NamesClosed S (Loop k b c m) = Unit
NamesClosed S (If k c m) = Unit

talls_step : {S : ParserState} {n : ℕ} {f : Form} {S' : ParserState} → Step S n f S' → NamesClosed S f → (F : ℕ) →
    get_or (talls S') F 0 ≡ max (get_or (talls S) F 0) (pick (eqb F (functions_in S - 1)) (highest (innermost (levels_at S)) (λ G. get_or (talls S) G 0) f) 0)
unfolding talls peak under height heights functions_in levels_at functions_of
talls_step opens_task h F = same 0 (eqb F 0)
talls_step (opens_fun {p = p}) h F = pad (heights [] p.functions) F ∙ same (get_or (heights [] p.functions) F 0) (eqb F (length p.functions - 1))
talls_step (closes_task {p = p} q) h F = same (get_or (heights [] p.functions) F 0) (eqb F (length p.functions - 1))
talls_step (leaf {p = p} {K = K} {fs = fs} {n = n} {k = k} {c = c} {m = m}) h F =
    raise (heights [] p.functions) _ _ _ _ F (omega (arith, heights_length [] p.functions))
    (peak-⧺ (heights [] p.functions) K fs (leaf_line (block n k c m) close) ∙ omega (arith, innermost_under K))
talls_step (call {p = p} {K = K} {fs = fs} {n = n} {k = k} {g = g} {c = c} {m = m}) h F =
    raise (heights [] p.functions) _ _ _ _ F (omega (arith, heights_length [] p.functions))
    (peak-⧺ (heights [] p.functions) K fs (call_line (block n k c m) g close) ∙
    omega (
      arith,
      innermost_under K,
      get_or_append_left (heights [] p.functions) (peak (heights [] p.functions) K fs ∷ []) 0 g (omega (arith, heights_length [] p.functions)),
    ))
talls_step (loop {p = p} {K = K}) h F =
    raise (heights [] p.functions) _ _ _ _ F (omega (arith, heights_length [] p.functions)) (omega (arith, innermost_under K))
talls_step (cond {p = p} {K = K}) h F =
    raise (heights [] p.functions) _ _ _ _ F (omega (arith, heights_length [] p.functions)) (omega (arith, innermost_under K))
talls_step (closes_fun {p = p} {fs = fs}) h F =
    ap (λ hs. get_or hs F 0) (heights_snoc [] p.functions fs) ∙ keep (heights [] p.functions) _ _ F (eqb F (length p.functions + 1 - 1)) refl
talls_step (closes_loop {p = p} {x = x} {b = b} {hs = hs} {K = K} {fs = fs}) h F =
    keep (heights [] p.functions) _ _ F (eqb F (length p.functions + 1 - 1))
    (peak-⧺ (heights [] p.functions) K hs (loop_line x b fs close) ∙ omega arith)
talls_step (closes_then {p = p}) h F = keep (heights [] p.functions) _ _ F (eqb F (length p.functions + 1 - 1)) refl
talls_step (closes_else {p = p}) h F = keep (heights [] p.functions) _ _ F (eqb F (length p.functions + 1 - 1)) refl
talls_step (opens_then {p = p}) h F = keep (heights [] p.functions) _ _ F (eqb F (length p.functions + 1 - 1)) (omega arith)
talls_step (opens_else {p = p}) h F = keep (heights [] p.functions) _ _ F (eqb F (length p.functions + 1 - 1)) (omega arith)
talls_step (closes_if {p = p} {K = K} {x = x} {ts = ts} {es = es} {fs = fs}) h F =
    keep (heights [] p.functions) _ _ F (eqb F (length p.functions + 1 - 1))
    (peak-⧺ (heights [] p.functions) K fs (if_line x ts es close) ∙ omega arith)

highest_same : (L : ℕ) (g h : ℕ → ℕ) → ((F : ℕ) → g F ≡ h F) → (f : Form) → highest L g f ≡ highest L h f
highest_same L g h e (Task d t u) = refl
highest_same L g h e Fun = refl
highest_same L g h e Then = refl
highest_same L g h e Else = refl
highest_same L g h e Close = refl
highest_same L g h e (Leaf k c m) = refl
highest_same L g h e (Call k f c m) = ap (λ x. L + x) (e f)
highest_same L g h e (Loop k b c m) = refl
highest_same L g h e (If k c m) = refl

-- THE STATE AND THE LINES BEFORE IT

-- A state with n leaves is that behind these lines, in every measure.
pub record Agrees (S : ParserState) (n : ℕ) (es : List Form) : Type 0 where
  pub order : before S ≡ reverse es
  pub nested : nests start 0 (reverse es) ≡ to S
  pub held : Held S
  pub leaves : n ≡ leaves_among es
  pub leaves_read : leaves_after 0 (reverse es) ≡ n
  pub brackets_are : open_brackets es ≡ levels_at S
  pub functions : functions_among es ≡ functions_in S
  pub tall : (F : ℕ) → height_of F es ≡ get_or (talls S) F 0

pub agrees_start : Agrees start 0 []
unfolding before nests leaves_after leaves_among functions_among open_brackets levels_at functions_in height_of talls
agrees_start = record { order = refl; nested = refl; held = tt; leaves = refl; leaves_read = refl; brackets_are = refl; functions = refl; tall = λ F. refl }

pub agrees_step : {S S' : ParserState} {n : ℕ} {es : List Form} {f : Form} → Agrees S n es → next S n f ≡ to S' → NamesClosed S f → Agrees S' (counted n f) (f ∷ es)
unfolding open_brackets height_of
agrees_step {S} {S'} {n} {es} {f} a e h =
    let s : Step S n f S' = stepped e in
    record {
      order = before_step s ∙ (ap (λ x. x ++ (f ∷ [])) a.order ∙ sym (reverse-cons f es));
      nested = ap (nests start 0) (reverse-cons f es) ∙ (nests_append (reverse es) (f ∷ []) start 0 S a.nested ∙ goes);
      held = held_step s;
      leaves = ap (λ x. counted x f) a.leaves ∙ sym (leaves_step f es);
      leaves_read = ap (leaves_after 0) (reverse-cons f es) ∙ (leaves_snoc (reverse es) 0 f ∙ ap (λ x. counted x f) a.leaves_read);
      brackets_are = ap (brackets_behind f) a.brackets_are ∙ brackets_step s;
      functions = functions_step s es a.functions;
      tall = λ F. here F ∙ sym (talls_step s h F);
    }
  where
    goes : nests S (leaves_after 0 (reverse es)) (f ∷ []) ≡ to S'
    goes = unfold nests in rw (a.leaves_read, e)

    here : (F : ℕ) → max (height_of F es) (pick (eqb F (own_function es)) (highest (innermost (open_brackets es)) (λ G. height_of G es) f) 0) ≡
        max (get_or (talls S) F 0) (pick (eqb F (functions_in S - 1)) (highest (innermost (levels_at S)) (λ G. get_or (talls S) G 0) f) 0)
    here F = rw (a.functions, a.brackets_are, highest_same (innermost (levels_at S)) (λ G. height_of G es) (λ G. get_or (talls S) G 0) a.tall f, a.tall F)
