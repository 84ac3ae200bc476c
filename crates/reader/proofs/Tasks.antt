-- The contracts of the code that reads the task: its first line, its functions one after the other, its end, and the answer.
use Prim.Native.Nat.{ℕ, zero, suc, ◌+◌, ◌*◌, ◌≤◌, ◌<◌, min}
use mathlib.Core.Path.{◌≡◌, refl, sym, ap, ap₂, subst, ◌∙◌}
use mathlib.Core.List.{List, [], ◌∷◌, ◌++◌}
use mathlib.Core.Bool.{Bool, true, false}
use native.Mathlib.Omega.{arith}
use lib.ListN.{length, get_or, set, take, drop, length-append}
use lib.Seq.{sets}
use lib.Dec.{eqb, ltb}
use borrow.Author.Tests.{le-ltb, eqb-true, eqb-false, ltb-true, ltb-false}
use Rattle.model.specs.declared.Edition.{Edition}
use Rattle.model.specs.Plan.{Lines, Plan}
use Rattle.model.specs.Levels.{heights}
use Rattle.text.specs.declared.Form.{Form}
use Rattle.text.specs.declared.Form.TheVariants.{Task, Fun, Then, Else, Close, Leaf, Call, Loop, If}
use Rattle.text.specs.Text.{lines, line_at}
use Rattle.text.specs.Grammar.{no_form, line_form, read_at, Found, Means}
use Rattle.text.proofs.Theorems.{read_means, lines_found, lines_at, lines_end}
use Rattle.std.specs.Prelude.{Option, None, Some, Result, Ok, Err}
use Rattle.model.specs.declared.Refusal.{Refusal}
use Rattle.reader.specs.declared.RefusedAt.{RefusedAt}
use Rattle.reader.specs.declared.Raw.{Raw}
use Rattle.reader.specs.Machine.{start, task, done, brackets, level, functions_of, stuck, in_task, closed_task, with_function, fault, run, outcome}
use Rattle.reader.specs.Outcome.{plan, refused}
use Rattle.rows.specs.Records.{records, row_of}
use Rattle.reader.specs.Raw.{padded, raw_with, raw_of, Written}
use Rattle.reader.specs.Private.{of_task, judged_head, first_line, ended_raw, Halted, FormsDone, TextAt}
use Rattle.reader.proofs.Allowed.{no_fault}
use Rattle.reader.proofs.Capped.{Held, found_held}
use Rattle.rows.proofs.Records.{records_all_length, bounds_length}
use Rattle.reader.proofs.Contract.{broken, misplaced, no_line, Reading, reading_start, reading_fun, reading_end}
use Rattle.reader.proofs.Halts.{start_end, task_end, task_unread, task_misplaced, task_full, task_fun, done_end, done_on, outcome_oversize, outcome_lines}
use Rattle.reader.proofs.Stores.{sets_behind}
use Rattle.reader.proofs.Bodies.{enclosed, refuses, no_line_at}

-- LISTS FILLED UP WITH 0

pub take_padded : (N : ℕ) (xs : List ℕ) → length xs ≤ N → take (length xs) (padded N xs) ≡ xs
take_padded zero [] h = refl
take_padded zero (x ∷ xs) h = absurd (omega arith)
take_padded (suc N) [] h = refl
take_padded (suc N) (x ∷ xs) h = ap (λ r. x ∷ r) (take_padded N xs (omega arith))

set_padded : (N : ℕ) (xs : List ℕ) (v : ℕ) → length xs < N → set (padded N xs) (length xs) v ≡ padded N (xs ++ (v ∷ []))
set_padded zero xs v h = absurd (omega arith)
set_padded (suc N) [] v h = refl
set_padded (suc N) (x ∷ xs) v h = ap (λ r. x ∷ r) (set_padded N xs v (omega arith))

pub length_padded : (N : ℕ) (xs : List ℕ) → length (padded N xs) ≡ N
length_padded zero xs = refl
length_padded (suc N) [] = ap suc (length_padded N [])
length_padded (suc N) (x ∷ xs) = ap suc (length_padded N xs)

-- The zeros behind a list are what it gives past its end.
pub padded_same : (N : ℕ) (xs : List ℕ) (j : ℕ) → length xs ≤ N → get_or (padded N xs) j 0 ≡ get_or xs j 0
padded_same zero [] j h = refl
padded_same zero (x ∷ xs) j h = absurd (omega arith)
padded_same (suc N) [] zero h = refl
padded_same (suc N) [] (suc j) h = padded_same N [] j (omega arith) ∙ refl
padded_same (suc N) (x ∷ xs) zero h = refl
padded_same (suc N) (x ∷ xs) (suc j) h = padded_same N xs j (omega arith)

-- THE ANSWER

-- A refusal is answered by itself.
pub text_refused : {s : List ℕ} {room : ℕ} {R₀ R : List ℕ} {k : Refusal} {j : ℕ} → run room start 0 1 (lines s) ≡ refused k j →
    TextAt s room R₀ R (Err (record { refusal = k; line = j }))
text_refused {R₀ = R₀} {R} e = record { answers = ap raw_of (sym e); writes = subst (λ o. Written o R₀ R) (sym e) tt }

-- A plan is answered by its numbers.
text_plan : {s : List ℕ} {room : ℕ} {R₀ R : List ℕ} {r : Result Raw RefusedAt} (p : Plan) → run room start 0 1 (lines s) ≡ plan p → r ≡ raw_of (plan p) → R ≡ sets R₀ 0 (row_of p) → TextAt s room R₀ R r
text_plan {R₀ = R₀} {R} p e q f = record { answers = q ∙ ap raw_of (sym e); writes = subst (λ o. Written o R₀ R) (sym e) f }

-- THE FIRST LINE

abbrev pub HeadAt : List ℕ → ℕ → Result (ℕ × ℕ × Edition × ℕ) Refusal → Type 0
HeadAt s room (Err k) = run room start 0 1 (lines s) ≡ refused k 1
HeadAt s room (Ok q) = Found s 0 (Task q.0 q.1 q.2) q.3 × (of_task q.0 q.1 q.2 ≡ None)

module _ (s : List ℕ) (room : ℕ) where
  judged_at : (D t : ℕ) (u : Edition) (e : ℕ) → Found s 0 (Task D t u) e → (x : Option Refusal) → of_task D t u ≡ x → HeadAt s room (judged_head x D t u e)
  unfolding brackets level functions_of fault heights
  judged_at D t u e w None q = (w, q)
  judged_at D t u e w (Some x) q = broken room start (task (record { deadline = D; switch = t; edition = u; functions = [] })) 0 1 x (Task D t u) (lines_found w) (found_held w) refl q

  head_at : (r : Option (Form × ℕ)) → Means s 0 r → HeadAt s room (first_line r)
  head_at None w = no_line_at s 0 w (λ q. start_end room q) (λ l ks z a. no_line room start 0 1 z a)
  head_at (Some (Task D t u, e)) w = judged_at D t u e w (of_task D t u) refl
  head_at (Some (Fun, e)) w = misplaced room start 0 1 Fun (lines_found w) (found_held w) refl
  head_at (Some (Then, e)) w = misplaced room start 0 1 Then (lines_found w) (found_held w) refl
  head_at (Some (Else, e)) w = misplaced room start 0 1 Else (lines_found w) (found_held w) refl
  head_at (Some (Close, e)) w = misplaced room start 0 1 Close (lines_found w) (found_held w) refl
  head_at (Some (Leaf k c m, e)) w = misplaced room start 0 1 (Leaf k c m) (lines_found w) (found_held w) refl
  head_at (Some (Call k f c m, e)) w = misplaced room start 0 1 (Call k f c m) (lines_found w) (found_held w) refl
  head_at (Some (Loop k b c m, e)) w = misplaced room start 0 1 (Loop k b c m) (lines_found w) (found_held w) refl
  head_at (Some (If k c m, e)) w = misplaced room start 0 1 (If k c m) (lines_found w) (found_held w) refl

  -- What `task_line` answers is so.
  pub head_means : {r : Result (ℕ × ℕ × Edition × ℕ) Refusal} → r ≡ first_line (read_at s 0) → HeadAt s room r
  head_means q = subst (HeadAt s room) (sym q) (head_at (read_at s 0) (read_means s 0 (read_at s 0) refl))

-- A LINE IN THE TASK

-- The line is neither a function's nor the closing bracket: the text ends, the line is no form, or it is another form.
pub data Strays (us : List (List ℕ)) : Type 0 where
  no_more : us ≡ [] → Strays us
  unread : (l : List ℕ) (ks : List (List ℕ)) → us ≡ l ∷ ks → line_form l ≡ no_form → Strays us
  other : (l : List ℕ) (ks : List (List ℕ)) (f : Form) → us ≡ l ∷ ks → Held l f → ((p : Plan) → in_task p f ≡ stuck) → Strays us

-- A line in the task is a function's or the closing bracket; or it is neither.
abbrev pub is_member : Option (Form × ℕ) → Bool
is_member None = false
is_member (Some (Task d t u, e)) = false
is_member (Some (Fun, e)) = true
is_member (Some (Then, e)) = false
is_member (Some (Else, e)) = false
is_member (Some (Close, e)) = true
is_member (Some (Leaf k c m, e)) = false
is_member (Some (Call k f c m, e)) = false
is_member (Some (Loop k b c m, e)) = false
is_member (Some (If k c m, e)) = false

module _ (s : List ℕ) (at : ℕ) where
  another : (f : Form) (e : ℕ) → Found s at f e → ((p : Plan) → in_task p f ≡ stuck) → Strays (lines (drop at s))
  another f e w a = other (line_at s at) (lines (drop e s)) f (lines_found w) (found_held w) a

  strays_at : (r : Option (Form × ℕ)) → Means s at r → is_member r ≡ false → Strays (lines (drop at s))
  strays_at None w h = no_line_at s at w (λ q. no_more q) (λ l ks z a. unread l ks z a)
  strays_at (Some (Task x y u, e)) w h = another (Task x y u) e w (λ p. refl)
  strays_at (Some (Fun, e)) w h = cc
  strays_at (Some (Then, e)) w h = another Then e w (λ p. refl)
  strays_at (Some (Else, e)) w h = another Else e w (λ p. refl)
  strays_at (Some (Close, e)) w h = cc
  strays_at (Some (Leaf k c m, e)) w h = another (Leaf k c m) e w (λ p. refl)
  strays_at (Some (Call k f c m, e)) w h = another (Call k f c m) e w (λ p. refl)
  strays_at (Some (Loop k b c m, e)) w h = another (Loop k b c m) e w (λ p. refl)
  strays_at (Some (If k c m, e)) w h = another (If k c m) e w (λ p. refl)

  -- What `line` answers there is neither.
  pub strays_means : {r : Option (Form × ℕ)} → r ≡ read_at s at → is_member r ≡ false → Strays (lines (drop at s))
  strays_means {r} q h = strays_at r (read_means s at r q) h

  -- What `line` answers there is found.
  pub member_means : {f : Form} {e : ℕ} → Some (f, e) ≡ read_at s at → Found s at f e
  member_means {f} {e} q = read_means s at (Some (f, e)) q

-- THE FUNCTIONS, one after the other

-- So far: the plan read, its records, bounds and heights, and the place.
pub record Holding (s : List ℕ) (room D t : ℕ) (u : Edition) (R₀ : List ℕ) (at i n own : ℕ) (bs hs R : List ℕ) : Type 0 where
  pub read : Plan
  pub tall : List ℕ
  pub rows : List ℕ
  pub firsts : List ℕ
  pub reading : Reading room (lines s) read n i tall rows firsts (lines (drop at s))
  pub same_deadline : D ≡ read.deadline
  pub same_switch : t ≡ read.switch
  pub same_edition : u ≡ read.edition
  pub counted : own ≡ length read.functions
  pub few : own ≤ 16
  pub measured : own ≡ length tall
  pub bounds_held : bs ≡ padded 17 firsts
  pub heights_held : hs ≡ padded 16 tall
  pub filled : R ≡ sets R₀ 0 rows
  pub within : at ≤ length s
  pub numbered : i ≤ at + 1
  pub fits : n ≤ room

-- Behind the task line.
pub holding_start : {s : List ℕ} {room D t e : ℕ} {u : Edition} (R : List ℕ) → Found s 0 (Task D t u) e → of_task D t u ≡ None → Holding s room D t u R e 2 0 0 (padded 17 []) (padded 16 []) R
unfolding fault
holding_start {s} {room} {D} {t} {u = u} R w q =
    record {
      read = record { deadline = D; switch = t; edition = u; functions = [] };
      tall = [];
      rows = [];
      firsts = 0 ∷ [];
      reading = reading_start room D t u (lines_found w) (found_held w) q;
      same_deadline = refl;
      same_switch = refl;
      same_edition = refl;
      counted = refl;
      few = omega arith;
      measured = refl;
      bounds_held = refl;
      heights_held = refl;
      filled = refl;
      within = w.within;
      numbered = omega (arith, w.past);
      fits = omega arith;
    }

-- A task without functions may not close.
closed_empty : (p : Plan) (fs : List Lines) → length fs ≡ 0 → closed_task p fs ≡ stuck
closed_empty p [] h = refl
closed_empty p (f ∷ fs) h = absurd (omega arith)

module _ {s : List ℕ} {room D t : ℕ} {u : Edition} {R₀ : List ℕ} {at i n own : ℕ} {bs hs R : List ℕ} (g : Holding s room D t u R₀ at i n own bs hs R) where
  -- The heights of the functions before.
  pub held_heights : take own hs ≡ g.tall
  held_heights = ap₂ take g.measured g.heights_held ∙ take_padded 16 g.tall (omega (arith, g.few, g.measured))

  -- The line is neither a function's nor the closing bracket.
  pub holding_neither : Strays (lines (drop at s)) → TextAt s room R₀ R (Err (record { refusal = Refusal.Form; line = i }))
  holding_neither (no_more e) = text_refused (task_end g.reading e)
  holding_neither (unread l ks z a) = text_refused (task_unread g.reading z a)
  holding_neither (other l ks f z a b) = text_refused (task_misplaced g.reading z f a (b g.read))

  module _ {e : ℕ} (w : Found s at Close e) where
    -- The task closes and holds no function.
    holding_empty : own ≡ 0 → TextAt s room R₀ R (Err (record { refusal = Refusal.Form; line = i }))
    holding_empty o = text_refused (task_misplaced g.reading (lines_found w) Close (found_held w) (closed_empty g.read g.read.functions (sym g.counted ∙ o)))

    module _ (o : own ≡ 0 → ⊥) where
      closes : run room start 0 1 (lines s) ≡ run room (done g.read) n (i + 1) (lines (drop e s))
      closes = reading_end g.reading (lines_found w) (found_held w) (omega (arith, g.counted, o))

      -- The text goes on behind the task.
      holding_on : e < length s → TextAt s room R₀ R (Err (record { refusal = Refusal.Form; line = i + 1 }))
      holding_on h = text_refused (closes ∙ done_on room n (i + 1) g.read (lines_at s e h))

      -- The text ends behind the task.
      holding_end : length s ≤ e → TextAt s room R₀ R (Ok (raw_with D t u n own bs hs))
      holding_end h =
          text_plan g.read (closes ∙ done_end room n (i + 1) g.read (lines_end s e h))
          (rw (g.same_deadline, g.same_switch, g.same_edition, g.reading.sized, g.counted, g.bounds_held, g.heights_held, g.reading.bounded, ← g.reading.known) refl)
          (g.filled ∙ ap (sets R₀ 0) g.reading.rows)

    -- What is answered where the task closes.
    pub holding_ended : {r : Result Raw RefusedAt} → r ≡ ended_raw (length s) e i (raw_with D t u n own bs hs) → TextAt s room R₀ R r
    holding_ended {r} q = subst (λ x. TextAt s room R₀ R x) (sym q) (here (eqb own 0) refl (ltb e (length s)) refl)
      where
        here : (x : Bool) → eqb own 0 ≡ x → (y : Bool) → ltb e (length s) ≡ y → TextAt s room R₀ R (ended_raw (length s) e i (raw_with D t u n own bs hs))
        here true h y k = rw h (holding_empty (eqb-true own 0 h))
        here false h true k = rw (h, k) (holding_on (eqb-false own 0 h) (ltb-true e (length s) k))
        here false h false k = rw (h, k) (holding_end (eqb-false own 0 h) (ltb-false e (length s) k))

  module _ {e : ℕ} (w : Found s at Fun e) where
    -- A 17th function.
    pub holding_full : own ≡ 16 → TextAt s room R₀ R (Err (record { refusal = Refusal.Count; line = i }))
    unfolding fault
    holding_full o = text_refused (task_full g.reading (lines_found w) Refusal.Count (found_held w) (rw (le-ltb (length g.tall) 16 (omega (arith, g.measured)))))

    module _ (o : own ≡ 16 → ⊥) where
      no_fun_fault : fault room 1 0 n g.tall Fun ≡ None
      no_fun_fault = no_fault room 1 0 n g.tall Fun (omega (arith, g.measured, g.few, o), omega arith)

      -- A function whose body is refused.
      pub holding_stopped : {R' : List ℕ} {x : RefusedAt} → Halted room (take own hs) 2 1 n (i + 1) (lines (drop e s)) x.refusal x.line → TextAt s room R₀ R' (Err x)
      holding_stopped {x = x} h =
          text_refused (task_fun g.reading (lines_found w) (found_held w) no_fun_fault
          (refuses (subst (λ y. Halted room y 2 1 n (i + 1) (lines (drop e s)) x.refusal x.line) held_heights h)))

      -- One more function.
      pub holding_fun : {a j m h : ℕ} {R' : List ℕ} → FormsDone s room (take own hs) 2 1 e (i + 1) n R R' a j m h →
          Holding s room D t u R₀ a j m (own + 1) (set bs (own + 1) m) (set hs own h) R'
      holding_fun {a} {j} {m} {h} {R'} x =
          let y : FormsDone s room g.tall 2 1 e (i + 1) n R R' a j m h = subst (λ z. FormsDone s room z 2 1 e (i + 1) n R R' a j m h) held_heights x in
          let wide : length g.rows ≡ 8 * n = ap length g.reading.rows ∙ (records_all_length 0 g.read.functions ∙ ap (λ z. 8 * z) (sym g.reading.sized)) in
          let long : length g.firsts ≡ own + 1 = ap length g.reading.bounded ∙ (bounds_length 0 g.read.functions ∙ ap (λ z. z + 1) (sym g.counted)) in
          record {
            read = with_function g.read (enclosed y).forms;
            tall = g.tall ++ (h ∷ []);
            rows = g.rows ++ records 1 y.forms n;
            firsts = g.firsts ++ (m ∷ []);
            reading = reading_fun g.reading (lines_found w) (found_held w) no_fun_fault (enclosed y);
            same_deadline = g.same_deadline;
            same_switch = g.same_switch;
            same_edition = g.same_edition;
            counted = omega (arith, g.counted, length-append g.read.functions ((enclosed y).forms ∷ []));
            few = omega (arith, g.few, o);
            measured = omega (arith, g.measured, length-append g.tall (h ∷ []));
            bounds_held = rw (g.bounds_held, ← long) (set_padded 17 g.firsts m (omega (arith, g.few, o)));
            heights_held = rw (g.heights_held, g.measured) (set_padded 16 g.tall h (omega (arith, g.measured, g.few, o)));
            filled =
                y.filled ∙ (ap (λ z. sets z (8 * n) (records 1 y.forms n)) g.filled ∙ sets_behind g.rows (records 1 y.forms n) R₀ 0 (8 * n) (omega arith));
            within = y.came.within;
            numbered = y.came.numbered;
            fits = y.came.fits;
          }

-- THE WHOLE TEXT

-- A text over 65,536 bytes is oversize.
pub raw_oversize : (row : ℕ) (s R₀ R : List ℕ) → 65536 < length s →
    (Err (record { refusal = Refusal.Oversize; line = 0 }) ≡ raw_of (outcome row s)) × Written (outcome row s) R₀ R
raw_oversize row s R₀ R h = (ap raw_of (sym (outcome_oversize row s h)), subst (λ o. Written o R₀ R) (sym (outcome_oversize row s h)) tt)

-- Any other text is what the machine makes of its lines.
pub raw_lines : (row : ℕ) (s R₀ R : List ℕ) {room : ℕ} {r : Result Raw RefusedAt} → length s ≤ 65536 → room ≡ min 512 row → TextAt s room R₀ R r →
    (r ≡ raw_of (outcome row s)) × Written (outcome row s) R₀ R
raw_lines row s R₀ R h q w =
    let e = ap (λ x. run x start 0 1 (lines s)) q ∙ sym (outcome_lines row s h) in
    (w.answers ∙ ap raw_of e, subst (λ o. Written o R₀ R) e w.writes)
