-- What the reader accepts is the text of the plan that it finds, and that plan keeps the rules: every step keeps an invariant of the state, and adds
-- its form to those that were read (`Steps`).
use Prim.Native.Nat.{ℕ, ◌+◌, ◌^◌, ◌≤◌, ◌<◌, min}
use mathlib.Core.Path.{◌≡◌, refl, sym, ap, ap₂, ◌∙◌, subst}
use mathlib.Core.List.{List, [], ◌∷◌, ◌++◌, append_assoc, append-nil, map}
use mathlib.Core.Bool.{Bool, true, false}
use native.Mathlib.Omega.{arith}
use lib.ListN.{length, length-append}
use lib.Dec.{leb}
use Rattle.std.specs.Prelude.{Option, None, Some}
use Rattle.model.specs.declared.Refusal.{Refusal}
use Rattle.text.specs.Text.{lines}
use Rattle.model.specs.Places.{pick}
use Rattle.text.specs.declared.Form.{Form}
use Rattle.text.specs.Grammar.{Line, no_form, form, line_form}
use Rattle.model.specs.Plan.{Block, Lines, close, leaf_line, call_line, loop_line, if_line, resume_cost, Plan}
use Rattle.model.specs.Levels.{height, heights}
use Rattle.model.specs.Acceptance.{size, sizes, Functions, Formed, Fits}
use Rattle.reader.specs.Machine.{◌⧺◌, Around, in_fun, in_loop, in_then, in_else, ParserState, start, task, body, await_then, await_else, await_close, done, brackets_in, brackets, level_in, level, functions_of, Next, stuck, to, block, next, fault, counted, form_first, line_turn, onwards, run, outcome}
use Rattle.reader.specs.Outcome.{Outcome, plan, refused}
use Rattle.text.specs.Spelling.{spell}
use Rattle.reader.specs.Print.{loop_form, if_form, forms_of, join_all, print}
use Rattle.reader.proofs.Texts.{join_lines}
use Rattle.text.proofs.Theorems.{spells_read}
use Rattle.reader.proofs.Allowed.{Allowed, allowed, Good, GoodAll, good_numbered, good_ranged, good_size, good_height, good_depth}
use Rattle.reader.proofs.Complete.{follow}
use Rattle.reader.proofs.Steps.{before, Step, opens_task, opens_fun, closes_task, leaf, call, loop, cond, closes_fun, closes_loop, closes_then, closes_else, opens_then, opens_else, closes_if, stepped, before_step}
use Rattle.reader.proofs.Appended.{size-⧺, sizes_snoc, heights_length}

-- WHAT HOLDS IN A STATE
module _ (room : ℕ) where
  good_append : (hs : List ℕ) (x y : Lines) (d L n m : ℕ) → m ≡ n + size x → Good room hs d L n x → Good room hs d L m y → Good room hs d L n (x ⧺ y)
  unfolding Good size ◌⧺◌
  good_append hs close y d L n m e g h = let q : m ≡ n = omega arith in rw q at h
  good_append hs (leaf_line b rest) y d L n m e (q, a, g) h = (q, a, good_append hs rest y d L (n + 1) m (omega arith) g h)
  good_append hs (call_line b f rest) y d L n m e (q, a, g) h = (q, a, good_append hs rest y d L (n + 1) m (omega arith) g h)
  good_append hs (loop_line b k inner rest) y d L n m e (q, a, g, i) h = (q, a, g, good_append hs rest y d L (n + 1 + size inner) m (omega arith) i h)
  good_append hs (if_line b then else rest) y d L n m e (q, a, o, g, i, j) h =
      (q, a, o, g, i, good_append hs rest y d L (n + 1 + size then + size else) m (omega arith) j h)

  good_snoc : (hs : List ℕ) (ls : List Lines) (l : Lines) (n m : ℕ) → m ≡ n + sizes ls → GoodAll room hs n ls → Good room (heights hs ls) 2 1 m l → GoodAll room hs n (ls ++ (l ∷ []))
  unfolding GoodAll sizes heights
  good_snoc hs [] l n m e g h = let q : m ≡ n = omega arith in (rw q at h, tt)
  good_snoc hs (k ∷ ls) l n m e (g, i) h = (g, good_snoc (hs ++ (height hs k ∷ [])) ls l (n + size k) m (omega arith) i h)

  record Header (p : Plan) : Type 0 where
    pub low : 1 ≤ p.deadline
    pub high : p.deadline ≤ 2 ^ 40
    pub cost : p.switch ≤ 2 ^ 20
    pub resume : resume_cost p.edition ≤ 2 ^ 20
    pub few : length p.functions ≤ 16
    pub all : GoodAll room [] 0 p.functions

  -- the number of the first leaf of the innermost body
  base : Plan → Around → ℕ
  base p in_fun = sizes p.functions
  base p (in_loop b n fs K) = b.number + 1
  base p (in_then b fs K) = b.number + 1
  base p (in_else b ts fs K) = b.number + 1 + size ts

  -- forms of a body, and a leaf line that comes next there
  abbrev Here : Plan → Around → Lines → Type 0
  Here p K fs = Good room (heights [] p.functions) (brackets_in K) (level_in K) (base p K) fs

  abbrev At : Plan → Around → Lines → Block → Form → Type 0
  At p K fs b f = (b.number ≡ base p K + size fs) × Allowed room (brackets_in K) (level_in K) b.number (heights [] p.functions) f

  abbrev Part : Plan → Around → ℕ → Lines → Type 0
  Part p K n ts = Good room (heights [] p.functions) (brackets_in K + 2) (level_in K) n ts

  Open : Plan → Around → Type 0
  Open p in_fun = Header p × (length p.functions < 16)
  Open p (in_loop b n fs K) = Open p K × Here p K fs × At p K fs b (loop_form b n)
  Open p (in_then b fs K) = Open p K × Here p K fs × At p K fs b (if_form b) × (brackets_in K + 1 < 64)
  Open p (in_else b ts fs K) = Open p K × Here p K fs × At p K fs b (if_form b) × (brackets_in K + 1 < 64) × Part p K (b.number + 1) ts

  Inv : ParserState → ℕ → Type 0
  Inv start n = n ≡ 0
  Inv (task p) n = Header p × (n ≡ sizes p.functions)
  Inv (body p K fs) n = Open p K × Here p K fs × (n ≡ base p K + size fs)
  Inv (await_then p K b fs) n = Open p K × Here p K fs × At p K fs b (if_form b) × (n ≡ b.number + 1)
  Inv (await_else p K b ts fs) n =
      Open p K × Here p K fs × At p K fs b (if_form b) × (brackets_in K + 1 < 64) × Part p K (b.number + 1) ts × (n ≡ b.number + 1 + size ts)
  Inv (await_close p K b ts es fs) n =
      Open p K × Here p K fs × At p K fs b (if_form b) × (brackets_in K + 1 < 64) × Part p K (b.number + 1) ts × Part p K (b.number + 1 + size ts) es × (n ≡ b.number + 1 + size ts + size es)
  Inv (done p) n = Header p × (1 ≤ length p.functions)

  abbrev Asked : ParserState → ℕ → Form → Type 0
  Asked S n f = Allowed room (brackets S) (level S) n (heights [] (functions_of S)) f

  -- A step keeps it.
  kept : {S : ParserState} {n : ℕ} {f : Form} {S' : ParserState} → Step S n f S' → Inv S n → Asked S n f → Inv S' (counted n f)
  unfolding Inv Open base brackets level functions_of Good GoodAll size sizes brackets_in level_in
  kept opens_task e (a, b, c, r, d) = (record { low = a; high = b; cost = c; resume = r; few = omega arith; all = tt }, e)
  kept (opens_fun {p = p}) (h, e) (a, b) = ((h, omega (arith, heights_length [] p.functions)), tt, omega arith)
  kept (closes_task q) (h, e) a = (h, q)
  kept (leaf {p = p} {K = K} {fs = fs} {n = n} {k = k} {c = c} {m = m}) (o, g, e) a =
      let l = leaf_line (block n k c m) close in
      (o, good_append (heights [] p.functions) fs l (brackets_in K) (level_in K) (base p K) n e g (refl, a, tt), omega (arith, size-⧺ fs l))
  kept (call {p = p} {K = K} {fs = fs} {n = n} {k = k} {g = t} {c = c} {m = m}) (o, g, e) a =
      let l = call_line (block n k c m) t close in
      (o, good_append (heights [] p.functions) fs l (brackets_in K) (level_in K) (base p K) n e g (refl, a, tt), omega (arith, size-⧺ fs l))
  kept loop (o, g, e) a = ((o, g, (e, a)), tt, omega arith)
  kept cond (o, g, e) a = (o, g, (e, a), refl)
  kept (closes_fun {p = p} {fs = fs}) ((h, u), g, e) a = (
    record {
      low = h.low;
      high = h.high;
      cost = h.cost;
      resume = h.resume;
      few = omega (arith, length-append p.functions (fs ∷ []));
      all = good_snoc [] p.functions fs 0 (sizes p.functions) (omega arith) h.all g;
    },
    omega (arith, sizes_snoc p.functions fs),
  )
  kept (closes_loop {p = p} {x = x} {b = b} {hs = hs} {K = K} {fs = fs}) ((o, g₀, (q, a)), g, e) u =
      let l = loop_line x b fs close in
      (o, good_append (heights [] p.functions) hs l (brackets_in K) (level_in K) (base p K) x.number q g₀ (refl, a, g, tt), omega (arith, size-⧺ hs l))
  kept closes_then ((o, g₀, a, d), g, e) u = (o, g₀, a, d, g, e)
  kept closes_else ((o, g₀, a, d, t), g, e) u = (o, g₀, a, d, t, g, e)
  kept opens_then (o, g, a, e) d = ((o, g, a, d), tt, omega arith)
  kept opens_else (o, g, a, c, t, e) d = ((o, g, a, d, t), tt, omega arith)
  kept (closes_if {p = p} {K = K} {x = x} {ts = ts} {es = es} {fs = fs}) (o, g, (q, a), d, t, s, e) u =
      let l = if_line x ts es close in
      let w = good_append (heights [] p.functions) fs l (brackets_in K) (level_in K) (base p K) x.number q g (refl, a, d, t, s, tt) in
      (o, w, omega (arith, size-⧺ fs l))

-- THE RUN
never_plan : {A : Type 0} {p : Plan} {k : Refusal} {i : ℕ} → refused k i ≡ plan p → A
never_plan e = cc

-- a line by which the machine went on
pub record Went (room : ℕ) (S : ParserState) (n : ℕ) (f : Form) (S' : ParserState) (n' : ℕ) : Type 0 where
  pub step : next S n f ≡ to S'
  pub leaves : n' ≡ counted n f
  pub faultless : fault room (brackets S) (level S) n (heights [] (functions_of S)) f ≡ None

went : (room : ℕ) (S : ParserState) (n i : ℕ) (f : Form) (then : ParserState → ℕ → Outcome) (p : Plan) → onwards (line_turn room S n (form f)) i then ≡ plan p →
    (S' : ParserState) × (n' : ℕ) × Went room S n f S' n' × (then S' n' ≡ plan p)
went room S n i f then p e = here (next S n f) (fault room (brackets S) (level S) n (heights [] (functions_of S)) f) refl refl e
  where
    here : (x : Next) (k : Option Refusal) → next S n f ≡ x → fault room (brackets S) (level S) n (heights [] (functions_of S)) f ≡ k → onwards (form_first x k (counted n f)) i then ≡ plan p →
        (S' : ParserState) × (n' : ℕ) × Went room S n f S' n' × (then S' n' ≡ plan p)
    here stuck k a b e = never_plan e
    here (to S') None a b e = (S', counted n f, record { step = a; leaves = refl; faultless = b }, e)
    here (to S') (Some k) a b e = never_plan e

-- The lines of an accepted text are spelled forms.
unspelled : (room : ℕ) (ls : List (List ℕ)) (S : ParserState) (n i : ℕ) (p : Plan) → run room S n i ls ≡ plan p →
    (fs : List Form) × (ls ≡ map spell fs) × (follow room S n i fs ≡ plan p)
unfolding run follow
unspelled room [] S n i p e = ([], refl, e)
unspelled room (l ∷ ls) S n i p e = here (line_form l) refl e (unspelled room ls)
  where
    here : (x : Line) → line_form l ≡ x → onwards (line_turn room S n x) i (λ S' n'. run room S' n' (i + 1) ls) ≡ plan p →
        ((S : ParserState) (n i : ℕ) (p : Plan) → run room S n i ls ≡ plan p → (fs : List Form) × (ls ≡ map spell fs) × (follow room S n i fs ≡ plan p)) →
        (fs : List Form) × (l ∷ ls ≡ map spell fs) × (follow room S n i fs ≡ plan p)
    here no_form q e ih = never_plan e
    here (form f) q e ih =
        let (S', n', w, r) = went room S n i f (λ S' n'. run room S' n' (i + 1) ls) p e in
        let (fs, s, t) = ih S' n' (i + 1) p r in
        (f ∷ fs, ap₂ (λ x y. x ∷ y) (spells_read l f q) s, rw (w.step, w.faultless, ← w.leaves) t)

-- What a state leads to.
module _ (room : ℕ) where
  step_kept : (S : ParserState) (n : ℕ) (f : Form) (S' : ParserState) (n' : ℕ) → Inv room S n → Went room S n f S' n' → Inv room S' n' × (before S' ≡ before S ++ (f ∷ []))
  step_kept S n f S' n' h w =
      let s : Step S n f S' = stepped w.step in
      (rw w.leaves (kept room s h (allowed room (brackets S) (level S) n (heights [] (functions_of S)) f w.faultless)), before_step s)

  ends_in : (fs : List Form) (S : ParserState) (n i : ℕ) (p : Plan) → Inv room S n → follow room S n i fs ≡ plan p →
      (before S ++ fs ≡ forms_of p) × ((m : ℕ) × Inv room (done p) m)
  unfolding follow before
  ends_in [] start n i p h e = never_plan e
  ends_in [] (task q) n i p h e = never_plan e
  ends_in [] (body q K fs) n i p h e = never_plan e
  ends_in [] (await_then q K b fs) n i p h e = never_plan e
  ends_in [] (await_else q K b ts fs) n i p h e = never_plan e
  ends_in [] (await_close q K b ts es fs) n i p h e = never_plan e
  ends_in [] (done q) n i p h e =
      let z : q ≡ p = cc in
      (append-nil (forms_of q) ∙ ap forms_of z, (n, subst (λ x. Inv room (done x) n) z h))
  ends_in (f ∷ fs) S n i p h e =
      let (S', n', w, r) = went room S n i f (λ S' n'. follow room S' n' (i + 1) fs) p e in
      let (k, b) = step_kept S n f S' n' h w in
      let (t, j) = ends_in fs S' n' (i + 1) p k r in
      (sym (append_assoc (before S) (f ∷ []) fs) ∙ (ap (λ x. x ++ fs) (sym b) ∙ t), j)

  all_sizes : (ls : List Lines) (hs : List ℕ) (n : ℕ) → GoodAll room hs n ls → n ≤ room → n + sizes ls ≤ room
  unfolding GoodAll sizes
  all_sizes [] hs n g z = omega arith
  all_sizes (l ∷ ls) hs n (g, h) z = omega (arith, all_sizes ls (hs ++ (height hs l ∷ [])) (n + size l) h (good_size room hs l 2 1 n g z))

  all_functions : (ls : List Lines) (hs : List ℕ) (n : ℕ) → GoodAll room hs n ls → Functions hs n ls
  unfolding GoodAll Functions
  all_functions [] hs n g = tt
  all_functions (l ∷ ls) hs n (g, h) = (
    record {
      numbered = good_numbered room hs l 2 1 n g;
      ranged = good_ranged room hs l 2 1 n g;
      levels = omega (arith, good_height room hs l 2 1 n g (omega arith));
      brackets = good_depth room hs l 2 1 n g (omega arith);
    },
    all_functions ls (hs ++ (height hs l ∷ [])) (n + size l) h,
  )

well_formed : (row : ℕ) (p : Plan) (m : ℕ) → Inv (min 512 row) (done p) m → Formed p × Fits row p
unfolding Inv
well_formed row p m (h, s) =
    let few : sizes p.functions ≤ min 512 row = omega (arith, all_sizes (min 512 row) p.functions [] 0 h.all (omega arith)) in (
      record {
        deadline_low = h.low;
        deadline_high = h.high;
        switch_range = h.cost;
        resume_range = h.resume;
        some_function = s;
        few_functions = h.few;
        few_leaves = omega arith;
        each = all_functions (min 512 row) p.functions [] 0 h.all;
      },
      omega arith,
    )

printed_as : (text : List ℕ) (fs : List Form) (p : Plan) → lines text ≡ map spell fs → fs ≡ forms_of p → text ≡ print p
unfolding print
printed_as text fs p s z = sym (join_lines text) ∙ ap join_all (s ∙ ap (λ x. map spell x) z)

-- A text in which the reader finds a plan is the text of this plan, which keeps the rules.
pub sound : (row : ℕ) (text : List ℕ) (p : Plan) → outcome row text ≡ plan p → (text ≡ print p) × Formed p × Fits row p
unfolding outcome
sound row text p e = here (leb (length text) 65536) e
  where
    reading : run (min 512 row) start 0 1 (lines text) ≡ plan p → (text ≡ print p) × Formed p × Fits row p
    reading r =
        let (fs, s, t) = unspelled (min 512 row) (lines text) start 0 1 p r in
        let (q, (m, i)) = ends_in (min 512 row) fs start 0 1 p (unfold Inv in refl) t in
        let z : fs ≡ forms_of p = unfold before in q in
        let (w, h) = well_formed row p m i in
        (printed_as text fs p s z, w, h)

    here : (x : Bool) → pick x (run (min 512 row) start 0 1 (lines text)) (refused Refusal.Oversize 0) ≡ plan p → (text ≡ print p) × Formed p × Fits row p
    here true e = reading e
    here false e = never_plan e
