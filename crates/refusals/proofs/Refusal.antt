-- The machine refuses a text by k at line j, 2 to 7 or 19, exactly when the rules do, by following the lines before j.
use Prim.Native.Nat.{ℕ, suc, ◌+◌, ◌≤◌, min}
use mathlib.Core.Path.{◌≡◌, refl, sym, ap, ◌∙◌, subst}
use mathlib.Core.List.{List, [], ◌∷◌, ◌++◌, map, append-nil, append_assoc, reverse, reverse-cons}
use mathlib.Core.Logic.{◌⊎◌, ◌↔◌, inl, inr}
use mathlib.Core.Bool.{Bool}
use native.Mathlib.Omega.{arith}
use lib.ListN.{length}
use Rattle.std.proofs.lemmas.List.{get_or_append_left}
use borrow.Author.Tests.{le-leb}
use Rattle.text.specs.Text.{lines}
use Rattle.text.specs.declared.Form.{Form}
use Rattle.text.specs.declared.Form.TheVariants.{Task, Fun, Then, Else, Close, Leaf, Call, Loop, If}
use Rattle.text.specs.Grammar.{Line, no_form, form, line_form}
use Rattle.model.specs.declared.Refusal.{Refusal}
use Rattle.model.specs.Refusals.{number_of}
use Rattle.std.specs.Prelude.{Option, None, Some}
use Rattle.model.specs.Plan.{Lines, Plan}
use Rattle.model.specs.Levels.{heights}
use Rattle.reader.specs.Outcome.{Outcome, plan, refused}
use Rattle.reader.specs.Machine.{Around, ParserState, start, task, body, await_then, await_else, await_close, done, brackets, level, functions_of, Next, stuck, to, next, fault, counted, Turn, stop, go, form_first, line_turn, finish, onwards, run, outcome}
use Rattle.reader.proofs.Allowed.{Allowed, allowed}
use Rattle.reader.proofs.Appended.{heights_length}
use Rattle.reader.proofs.Steps.{before, Step, opens_fun, leaf, call, loop, cond, stepped, before_step}
use Rattle.refusals.specs.Refusal.{PlanLines, LeafLine, of_leaf, of_call, of_loop, of_if, innermost, Breaks, no_line, nesting, line_order, FirstBroken, this, not_this, NoneBroken, RefusedAt, at_line, at_end}
use Rattle.refusals.proofs.Nesting.{held_step, begins, stuck_begins, whole_done}
use Rattle.refusals.proofs.Measures.{levels_at, innermost_in, brackets_at, functions_in, peak, talls, NamesClosed, Agrees, agrees_start, agrees_step}
use Rattle.refusals.proofs.Rulings.{AtLeaf, Values, breaks_rule, Ruling, ruling}

-- THE MACHINE'S NUMBERS are those of the lines before
at_body : {n : ℕ} {es : List Form} (p : Plan) (K : Around) (fs : Lines) → Agrees (body p K fs) n es →
    AtLeaf es (level (body p K fs)) (heights [] (functions_of (body p K fs)))
unfolding level levels_at functions_of functions_in talls
at_body p K fs a = record {
  level_is = sym (innermost_in K) ∙ ap innermost (sym a.brackets_are);
  own_is = omega (arith, heights_length [] p.functions, a.functions);
  heights_are = λ F h. a.tall F ∙ get_or_append_left (heights [] p.functions) (peak (heights [] p.functions) K fs ∷ []) 0 F h;
}

at_leaf : {S : ParserState} {n c m : ℕ} {k : Bool} {f : Form} {S' : ParserState} {es : List Form} → LeafLine f k c m → Step S n f S' → Agrees S n es →
    AtLeaf es (level S) (heights [] (functions_of S))
at_leaf of_leaf (leaf {p = p} {K = K} {fs = fs}) a = at_body p K fs a
at_leaf of_call (call {p = p} {K = K} {fs = fs}) a = at_body p K fs a
at_leaf of_loop (loop {p = p} {K = K} {fs = fs}) a = at_body p K fs a
at_leaf of_if (cond {p = p} {K = K} {fs = fs}) a = at_body p K fs a

at_fun : {S S' : ParserState} {n : ℕ} → Step S n Fun S' → length (heights [] (functions_of S)) ≡ functions_in S
unfolding functions_of functions_in
at_fun (opens_fun {p = p}) = omega (arith, heights_length [] p.functions)

values : {S : ParserState} {n : ℕ} {f : Form} {S' : ParserState} {es : List Form} → Agrees S n es → Step S n f S' →
    Values es f (brackets S) (level S) n (heights [] (functions_of S))
values {S} {n = n} {S' = S'} a s = record {
  brackets_are = brackets_at S ∙ ap length (sym a.brackets_are);
  leaves_are = a.leaves;
  functions_are = λ q. at_fun (subst (λ g. Step S n g S') q s) ∙ sym a.functions;
  at_leaf = λ x. at_leaf x s a;
}

names : (room d L n : ℕ) (S : ParserState) (f : Form) → Allowed room d L n (heights [] (functions_of S)) f → NamesClosed S f
names room d L n S (Task x t u) a = tt
names room d L n S Fun a = tt
names room d L n S Then a = tt
names room d L n S Else a = tt
names room d L n S Close a = tt
names room d L n S (Leaf k c m) a = tt
names room d L n S (Call k f c m) (o, p, q, r, s, z, u, t) = omega (arith, heights_length [] (functions_of S))
names room d L n S (Loop k b c m) a = tt
names room d L n S (If k c m) a = tt

-- ONE LINE

-- The first rule that a line breaks is one that it breaks, and there is no second one.
first_breaks : {capacity : ℕ} {es : List Form} {x : Line} {ks : List Refusal} {k : Refusal} → FirstBroken capacity es x ks k → Breaks capacity es x k
first_breaks (this b) = b
first_breaks (not_this o b) = first_breaks b

first_once : {capacity : ℕ} {es : List Form} {x : Line} {ks : List Refusal} {k k' : Refusal} → FirstBroken capacity es x ks k → FirstBroken capacity es x ks k' → k ≡ k'
first_once (this b) (this c) = refl
first_once (this b) (not_this o c) = absurd (o b)
first_once (not_this o b) (this c) = absurd (o c)
first_once (not_this o b) (not_this u c) = first_once b c

-- The machine goes on at a line that breaks no rule, and stops by the first rule that a line breaks.
data Judged (capacity : ℕ) (es : List Form) : Line → Turn → Type 0 where
  goes : {f : Form} {S : ParserState} {n : ℕ} → ((i : Refusal) → ¬ Breaks capacity es (form f) i) → Agrees S n (f ∷ es) → Judged capacity es (form f) (go S n)
  stops : {x : Line} {k : Refusal} → FirstBroken capacity es x line_order k → Judged capacity es x (stop k)

judge : (capacity : ℕ) {S : ParserState} {n : ℕ} {es : List Form} → Agrees S n es → NoneBroken capacity es → (x : Line) →
    Judged capacity es x (line_turn (min 512 capacity) S n x)
judge capacity a h no_form = stops (this no_line)
judge capacity {S} {n} {es} a h (form f) = here (next S n f) refl (fault (min 512 capacity) (brackets S) (level S) n (heights [] (functions_of S)) f) refl
  where
    here : (x : Next) → next S n f ≡ x → (k : Option Refusal) → fault (min 512 capacity) (brackets S) (level S) n (heights [] (functions_of S)) f ≡ k →
        Judged capacity es (form f) (form_first x k (counted n f))
    here stuck q k r =
        stops (this (nesting (stuck_begins (reverse es) S a.nested f (ap (λ m. next S m f) a.leaves_read ∙ q))))
    here (to S') q k r = by k r
      where
        s : Step S n f S'
        s = stepped q

        begun : (more : List Form) × PlanLines (reverse es ++ (f ∷ more))
        begun =
            let (more, p) = begins S' (held_step s) in
            let z : before S' ++ more ≡ reverse es ++ (f ∷ more) =
            ap (λ x. x ++ more) (before_step s ∙ ap (λ x. x ++ (f ∷ [])) a.order) ∙ append_assoc (reverse es) (f ∷ []) more in
            (more, subst (λ x. PlanLines x) z p)

        ruled : Ruling capacity es f (fault (min 512 capacity) (brackets S) (level S) n (heights [] (functions_of S)) f)
        ruled = ruling capacity es f (brackets S) (level S) n (heights [] (functions_of S)) begun h (values a s)

        by : (k : Option Refusal) → fault (min 512 capacity) (brackets S) (level S) n (heights [] (functions_of S)) f ≡ k →
            Judged capacity es (form f) (form_first (to S') k (counted n f))
        by None r =
            let c : Allowed (min 512 capacity) (brackets S) (level S) n (heights [] (functions_of S)) f = allowed _ _ _ _ _ f r in
            goes (subst (λ k. Ruling capacity es f k) r ruled) (agrees_step a q (names (min 512 capacity) (brackets S) (level S) n S f c))
        by (Some k) r = stops (subst (λ k. Ruling capacity es f k) r ruled)

-- ALL LINES, as what the grammar makes of them
unfoldable through : ℕ → ParserState → ℕ → ℕ → List Line → Outcome
through room S n i [] = finish S i
through room S n i (x ∷ xs) = onwards (line_turn room S n x) i (λ S' n'. through room S' n' (i + 1) xs)

onwards_same : (t : Turn) (i : ℕ) (f g : ParserState → ℕ → Outcome) → ((S : ParserState) (n : ℕ) → f S n ≡ g S n) → onwards t i f ≡ onwards t i g
onwards_same (stop k) i f g h = refl
onwards_same (go S n) i f g h = h S n

run_through : (room : ℕ) (ls : List (List ℕ)) (S : ParserState) (n i : ℕ) → run room S n i ls ≡ through room S n i (map line_form ls)
unfolding run through
run_through room [] S n i = refl
run_through room (l ∷ ls) S n i = onwards_same (line_turn room S n (line_form l)) i _ _ (λ S' n'. run_through room ls S' n' (i + 1))

same_refusal : {k k' : Refusal} {j j' : ℕ} → refused k j ≡ refused k' j' → (k ≡ k') × (j ≡ j')
same_refusal e = (cc, cc)

never_plan : {A : Type 0} {p : Plan} {k : Refusal} {j : ℕ} → plan p ≡ refused k j → A
never_plan e = cc

-- The lines one after the other.
snoc_lines : (es : List Form) (f : Form) (xs : List Line) → map form (reverse (f ∷ es)) ++ xs ≡ map form (reverse es) ++ (form f ∷ xs)
snoc_lines es f xs = ap (λ fs. map form fs ++ xs) (reverse-cons f es) ∙ onto (reverse es)
  where
    onto : (fs : List Form) → map form (fs ++ (f ∷ [])) ++ xs ≡ map form fs ++ (form f ∷ xs)
    onto [] = refl
    onto (g ∷ fs) = ap (λ ys. form g ∷ ys) (onto fs)

-- The end of the text: the task is closed, or the end is refused by 2.
ending : (S : ParserState) → ((p : Plan) × (S ≡ done p)) ⊎ (((i : ℕ) → finish S i ≡ refused Refusal.Form i) × ((p : Plan) → S ≡ done p → ⊥))
ending start = inr ((λ i. refl), λ p q. cc)
ending (task r) = inr ((λ i. refl), λ p q. cc)
ending (body r K fs) = inr ((λ i. refl), λ p q. cc)
ending (await_then r K b fs) = inr ((λ i. refl), λ p q. cc)
ending (await_else r K b ts fs) = inr ((λ i. refl), λ p q. cc)
ending (await_close r K b ts es fs) = inr ((λ i. refl), λ p q. cc)
ending (done r) = inl (r, refl)

-- The lines before a closed task are those of a plan.
done_whole : {p : Plan} {n : ℕ} {es : List Form} → Agrees (done p) n es → PlanLines (reverse es)
unfolding before
done_whole {p} a = record { tree = p; some_function = a.held; lines_are = a.order }

-- FROM THE MACHINE TO THE RULES
module _ (capacity : ℕ) (text : List ℕ) where
  refused_as : {k k' : Refusal} {j j' : ℕ} → refused k j ≡ refused k' j' → RefusedAt capacity text k j → RefusedAt capacity text k' j'
  refused_as {k} {k'} {j} e r =
      let (x, y) = same_refusal e in
      subst (λ i. RefusedAt capacity text k' i) y (subst (λ i. RefusedAt capacity text i j) x r)

  found : (xs : List Line) (S : ParserState) (n : ℕ) (es : List Form) → Agrees S n es → NoneBroken capacity es →
      map line_form (lines text) ≡ map form (reverse es) ++ xs → (k : Refusal) (j : ℕ) → through (min 512 capacity) S n (length es + 1) xs ≡ refused k j →
      RefusedAt capacity text k j
  unfolding through
  found [] S n es a h q k j e = by (ending S)
    where
      by : ((p : Plan) × (S ≡ done p)) ⊎ (((i : ℕ) → finish S i ≡ refused Refusal.Form i) × ((p : Plan) → S ≡ done p → ⊥)) → RefusedAt capacity text k j
      by (inl (p, z)) = never_plan (sym (ap (λ x. finish x (length es + 1)) z) ∙ e)
      by (inr (f, o)) =
          refused_as (sym (f (length es + 1)) ∙ e)
          (at_end es (q ∙ append-nil (map form (reverse es))) h (λ w. let (p, z) = whole_done (reverse es) S a.nested w in o p z))
  found (x ∷ xs) S n es a h q k j e = by x (line_turn (min 512 capacity) S n x) q (judge capacity a h x) e (found xs)
    where
      by : (x : Line) (t : Turn) → map line_form (lines text) ≡ map form (reverse es) ++ (x ∷ xs) → Judged capacity es x t →
          onwards t (length es + 1) (λ S' n'. through (min 512 capacity) S' n' (length es + 1 + 1) xs) ≡ refused k j →
          ((S : ParserState) (n : ℕ) (es : List Form) → Agrees S n es → NoneBroken capacity es → map line_form (lines text) ≡ map form (reverse es) ++ xs →
          (k : Refusal) (j : ℕ) → through (min 512 capacity) S n (length es + 1) xs ≡ refused k j → RefusedAt capacity text k j) → RefusedAt capacity text k j
      by x t q (goes {f = f} {S = S'} {n = n'} c b) e ih =
          let z : suc (length es) + 1 ≡ length es + 1 + 1 = omega arith in
          ih S' n' (f ∷ es) b (unfold NoneBroken in (h, c)) (q ∙ sym (snoc_lines es f xs)) k j (ap (λ i. through (min 512 capacity) S' n' i xs) z ∙ e)
      by x t q (stops b) e ih = refused_as e (at_line es xs q h b)

-- FROM THE RULES TO THE MACHINE

-- Some lines lead the machine from the start to a state that agrees with them, whatever follows.
record Led (capacity : ℕ) (es : List Form) : Type 0 where
  pub state : ParserState
  pub leaves : ℕ
  pub agrees : Agrees state leaves es
  pub led : (xs : List Line) → through (min 512 capacity) start 0 1 (map form (reverse es) ++ xs) ≡ through (min 512 capacity) state leaves (length es + 1) xs

through_go : (room : ℕ) (S : ParserState) (n i : ℕ) (x : Line) (xs : List Line) (S' : ParserState) (n' : ℕ) → line_turn room S n x ≡ go S' n' →
    through room S n i (x ∷ xs) ≡ through room S' n' (i + 1) xs
unfolding through
through_go room S n i x xs S' n' e = rw e

leads_on : (capacity : ℕ) (es : List Form) (f : Form) → Led capacity es → NoneBroken capacity es → ((i : Refusal) → ¬ Breaks capacity es (form f) i) →
    Led capacity (f ∷ es)
leads_on capacity es f r h c = by (line_turn (min 512 capacity) r.state r.leaves (form f)) refl (judge capacity r.agrees h (form f))
  where
    by : (t : Turn) → line_turn (min 512 capacity) r.state r.leaves (form f) ≡ t → Judged capacity es (form f) t → Led capacity (f ∷ es)
    by t q (goes {S = S} {n = n} d a) = record {
      state = S;
      leaves = n;
      agrees = a;
      led = λ xs.
          let z : length es + 1 + 1 ≡ suc (length es) + 1 = omega arith in
          ap (through (min 512 capacity) start 0 1) (snoc_lines es f xs) ∙
          (r.led (form f ∷ xs) ∙
          (through_go (min 512 capacity) r.state r.leaves (length es + 1) (form f) xs S n q ∙ ap (λ i. through (min 512 capacity) S n i xs) z));
    }
    by t q (stops {k = k} b) = absurd (c k (first_breaks b))

leads : (capacity : ℕ) (es : List Form) → NoneBroken capacity es → Led capacity es
unfolding NoneBroken
leads capacity [] h = record { state = start; leaves = 0; agrees = agrees_start; led = λ xs. refl }
leads capacity (f ∷ es) (h, c) = leads_on capacity es f (leads capacity es h) h c

-- The machine stops at the first rule that a line breaks, and at the end of lines that are not those of a plan.
stops_line : (capacity : ℕ) {S : ParserState} {n : ℕ} {es : List Form} {k : Refusal} (x : Line) (i : ℕ) (xs : List Line) → Agrees S n es → NoneBroken capacity es →
    FirstBroken capacity es x line_order k → through (min 512 capacity) S n i (x ∷ xs) ≡ refused k i
unfolding through
stops_line capacity {S} {n} {es} {k} x i xs a h b = by x (line_turn (min 512 capacity) S n x) b (judge capacity a h x)
  where
    by : (x : Line) (t : Turn) → FirstBroken capacity es x line_order k → Judged capacity es x t →
        onwards t i (λ S' n'. through (min 512 capacity) S' n' (i + 1) xs) ≡ refused k i
    by x t b (goes d a) = absurd (d k (first_breaks b))
    by x t b (stops d) = ap (λ m. refused m i) (first_once d b)

stops_end : (capacity : ℕ) {S : ParserState} {n : ℕ} {es : List Form} (i : ℕ) → Agrees S n es → ¬ PlanLines (reverse es) →
    through (min 512 capacity) S n i [] ≡ refused Refusal.Form i
unfolding through
stops_end capacity {S} {n} {es} i a o = by (ending S)
  where
    by : ((p : Plan) × (S ≡ done p)) ⊎ (((i : ℕ) → finish S i ≡ refused Refusal.Form i) × ((p : Plan) → S ≡ done p → ⊥)) → finish S i ≡ refused Refusal.Form i
    by (inl (p, z)) = absurd (o (done_whole (subst (λ T. Agrees T n es) z a)))
    by (inr (f, h)) = f i

-- The lines of a text that the rules refuse by k at line j are refused so.
lines_refused : {capacity : ℕ} {text : List ℕ} {k : Refusal} {j : ℕ} → RefusedAt capacity text k j →
    through (min 512 capacity) start 0 1 (map line_form (lines text)) ≡ refused k j
lines_refused {capacity} (at_line es {x = x} rest q h b) =
    let l = leads capacity es h in
    ap (through (min 512 capacity) start 0 1) q ∙ (l.led (x ∷ rest) ∙ stops_line capacity x (length es + 1) rest l.agrees h b)
lines_refused {capacity} (at_end es q h o) =
    let l = leads capacity es h in
    ap (through (min 512 capacity) start 0 1) (q ∙ sym (append-nil (map form (reverse es)))) ∙ (l.led [] ∙ stops_end capacity (length es + 1) l.agrees o)

-- The rules refuse a text by one number, from 2 to 7 or 19, at one line.
pub refused_once : {capacity : ℕ} {text : List ℕ} {k k' : Refusal} {j j' : ℕ} → RefusedAt capacity text k j → RefusedAt capacity text k' j' → (k ≡ k') × (j ≡ j')
refused_once r s = same_refusal (sym (lines_refused r) ∙ lines_refused s)

pub refused_rule : {capacity : ℕ} {text : List ℕ} {k : Refusal} {j : ℕ} → RefusedAt capacity text k j → ((2 ≤ number_of k) × (number_of k ≤ 7)) ⊎ (number_of k ≡ 19)
refused_rule (at_line es rest q h b) = breaks_rule (first_breaks b)
refused_rule (at_end es q h o) = inl (omega arith)

-- BOTH
outcome_short : (capacity : ℕ) (text : List ℕ) → length text ≤ 65536 →
    outcome capacity text ≡ through (min 512 capacity) start 0 1 (map line_form (lines text))
unfolding outcome
outcome_short capacity text h = rw (le-leb (length text) 65536 h) (run_through (min 512 capacity) (lines text) start 0 1)

-- A text of at most 65,536 bytes is refused by k at line j exactly when the rules refuse it so.
pub refused_exactly : (capacity : ℕ) (text : List ℕ) (k : Refusal) (j : ℕ) → length text ≤ 65536 → (outcome capacity text ≡ refused k j) ↔ RefusedAt capacity text k j
refused_exactly capacity text k j h = (there, λ r. outcome_short capacity text h ∙ lines_refused r)
  where
    there : outcome capacity text ≡ refused k j → RefusedAt capacity text k j
    there e =
        found capacity text (map line_form (lines text)) start 0 [] agrees_start (unfold NoneBroken in tt) refl k j (sym (outcome_short capacity text h) ∙ e)
