-- Rule 2, the nesting: the lines behind which the machine stands begin the lines of a plan, and a line at which it is stuck goes on none.
use Prim.Native.Nat.{ℕ, ◌+◌, ◌≤◌}
use mathlib.Core.Path.{◌≡◌, refl, sym, ap, ◌∙◌}
use mathlib.Core.List.{List, [], ◌∷◌, ◌++◌, append_assoc, append-nil}
use native.Mathlib.Omega.{arith}
use lib.ListN.{length, length-append}
use Rattle.model.specs.declared.Edition.TheVariants.{First}
use Rattle.text.specs.declared.Form.{Form}
use Rattle.text.specs.declared.Form.TheVariants.{Task, Fun, Then, Else, Close}
use Rattle.model.specs.Plan.{Lines, close, leaf_line, call_line, loop_line, if_line, Plan}
use Rattle.reader.specs.Machine.{◌⧺◌, Around, in_fun, in_loop, in_then, in_else, ParserState, start, task, body, await_then, await_else, await_close, done, Next, stuck, to, with_function, block, next, counted}
use Rattle.reader.specs.Print.{loop_form, if_form, forms_in, forms_all, forms_of}
use Rattle.reader.proofs.Complete as completeness
use Rattle.reader.proofs.Steps.{before, Step, opens_task, opens_fun, closes_task, leaf, call, loop, cond, closes_fun, closes_loop, closes_then, closes_else, opens_then, opens_else, closes_if, stepped, before_step}
use Rattle.refusals.specs.Refusal.{PlanLines}

-- A closed task holds a function.
abbrev pub Held : ParserState → Type 0
Held start = Unit
Held (task p) = Unit
Held (body p K fs) = Unit
Held (await_then p K b fs) = Unit
Held (await_else p K b ts fs) = Unit
Held (await_close p K b ts es fs) = Unit
Held (done p) = 1 ≤ length p.functions

pub held_step : {S : ParserState} {n : ℕ} {f : Form} {S' : ParserState} → Step S n f S' → Held S'
held_step opens_task = tt
held_step opens_fun = tt
held_step (closes_task h) = h
held_step leaf = tt
held_step call = tt
held_step loop = tt
held_step cond = tt
held_step closes_fun = tt
held_step closes_loop = tt
held_step closes_then = tt
held_step closes_else = tt
held_step opens_then = tt
held_step opens_else = tt
held_step closes_if = tt

-- MANY LINES: the nesting alone

-- Where the machine is stuck it stays so.
abbrev and_then : Next → (ParserState → Next) → Next
and_then stuck g = stuck
and_then (to S) g = g S

-- Where the machine stands behind some lines by their nesting, whatever other rules they break.
unfoldable pub nests : ParserState → ℕ → List Form → Next
nests S n [] = to S
nests S n (f ∷ fs) = and_then (next S n f) (λ S'. nests S' (counted n f) fs)

-- The number of leaves behind some lines.
unfoldable pub leaves_after : ℕ → List Form → ℕ
leaves_after n [] = n
leaves_after n (f ∷ fs) = leaves_after (counted n f) fs

not_stuck : {A : Type 0} {S : ParserState} → stuck ≡ to S → A
not_stuck e = let z : ◌≡◌ {A = ℕ} 0 1 = cc in absurd (omega arith)

same_state : {S T : ParserState} → to S ≡ to T → S ≡ T
same_state e = cc

pub nests_append : (fs gs : List Form) (S : ParserState) (n : ℕ) (T : ParserState) → nests S n fs ≡ to T → nests S n (fs ++ gs) ≡ nests T (leaves_after n fs) gs
unfolding nests leaves_after
nests_append [] gs S n T e = rw (same_state e)
nests_append (f ∷ fs) gs S n T e = here (next S n f) e (λ S'. nests_append fs gs S' (counted n f) T)
  where
    here : (x : Next) → and_then x (λ S'. nests S' (counted n f) fs) ≡ to T →
        ((S' : ParserState) → nests S' (counted n f) fs ≡ to T → nests S' (counted n f) (fs ++ gs) ≡ nests T (leaves_after (counted n f) fs) gs) →
        and_then x (λ S'. nests S' (counted n f) (fs ++ gs)) ≡ nests T (leaves_after (counted n f) fs) gs
    here stuck e ih = not_stuck e
    here (to S') e ih = ih S' e

before_nests : (gs : List Form) (S : ParserState) (n : ℕ) (T : ParserState) → nests S n gs ≡ to T → before T ≡ before S ++ gs
unfolding nests
before_nests [] S n T e = ap before (sym (same_state e)) ∙ sym (append-nil (before S))
before_nests (g ∷ gs) S n T e = here (next S n g) refl e (λ S'. before_nests gs S' (counted n g) T)
  where
    here : (x : Next) → next S n g ≡ x → and_then x (λ S'. nests S' (counted n g) gs) ≡ to T →
        ((S' : ParserState) → nests S' (counted n g) gs ≡ to T → before T ≡ before S' ++ gs) → before T ≡ before S ++ (g ∷ gs)
    here stuck q e ih = not_stuck e
    here (to S') q e ih = ih S' e ∙ (ap (λ x. x ++ gs) (before_step (stepped q)) ∙ append_assoc (before S) (g ∷ []) gs)

-- EVERY STATE CAN BE CLOSED

-- Some lines lead from a state to a closed task with a function.
pub record Closes (S : ParserState) (n : ℕ) : Type 0 where
  pub by : List Form
  pub found : Plan
  pub some_function : 1 ≤ length found.functions
  pub closed_by : nests S n by ≡ to (done found)

closes_body : (K : Around) (p : Plan) (fs : Lines) (n : ℕ) → Closes (body p K fs) n
unfolding nests
closes_body in_fun p fs n =
    let h : 1 ≤ length (p.functions ++ (fs ∷ [])) = omega (arith, length-append p.functions (fs ∷ [])) in
    record { by = Close ∷ Close ∷ []; found = with_function p fs; some_function = h; closed_by = rw (completeness.closes_task (with_function p fs) n h) }
closes_body (in_loop b m hs K) p fs n =
    let c = closes_body K p (hs ⧺ loop_line b m fs close) n in
    record { by = Close ∷ c.by; found = c.found; some_function = c.some_function; closed_by = c.closed_by }
closes_body (in_then b hs K) p fs n =
    let c = closes_body K p (hs ⧺ if_line b fs close close) n in
    record { by = Close ∷ Else ∷ Close ∷ Close ∷ c.by; found = c.found; some_function = c.some_function; closed_by = c.closed_by }
closes_body (in_else b ts hs K) p fs n =
    let c = closes_body K p (hs ⧺ if_line b ts fs close) n in
    record { by = Close ∷ Close ∷ c.by; found = c.found; some_function = c.some_function; closed_by = c.closed_by }

closes : (S : ParserState) (n : ℕ) → Held S → Closes S n
unfolding nests
closes start n h =
    let c = closes_body in_fun (record { deadline = 1; switch = 0; edition = First; functions = [] }) close n in
    record { by = Task 1 0 First ∷ Fun ∷ c.by; found = c.found; some_function = c.some_function; closed_by = c.closed_by }
closes (task p) n h =
    let c = closes_body in_fun p close n in
    record { by = Fun ∷ c.by; found = c.found; some_function = c.some_function; closed_by = c.closed_by }
closes (body p K fs) n h = closes_body K p fs n
closes (await_then p K b fs) n h =
    let c = closes_body (in_then b fs K) p close n in
    record { by = Then ∷ c.by; found = c.found; some_function = c.some_function; closed_by = c.closed_by }
closes (await_else p K b ts fs) n h =
    let c = closes_body (in_else b ts fs K) p close n in
    record { by = Else ∷ c.by; found = c.found; some_function = c.some_function; closed_by = c.closed_by }
closes (await_close p K b ts es fs) n h =
    let c = closes_body K p (fs ⧺ if_line b ts es close) n in
    record { by = Close ∷ c.by; found = c.found; some_function = c.some_function; closed_by = c.closed_by }
closes (done p) n h = record { by = []; found = p; some_function = h; closed_by = refl }

-- So the lines behind which the machine stands begin those of a plan.
pub begins : (S : ParserState) → Held S → (more : List Form) × PlanLines (before S ++ more)
unfolding before
begins S h =
    let c = closes S 0 h in
    (c.by, record { tree = c.found; some_function = omega (arith, c.some_function); lines_are = before_nests c.by S 0 (done c.found) c.closed_by })

-- THE LINES OF A PLAN ARE NESTED

-- Some lines lead from a body back into it; the lines gs follow them.
record Passes (S : ParserState) (n : ℕ) (fs : List Form) (p : Plan) (K : Around) (gs : List Form) : Type 0 where
  pub forms_read : Lines
  pub leaves_read : ℕ
  pub passed : nests S n fs ≡ nests (body p K forms_read) leaves_read gs

passes : (l : Lines) (p : Plan) (K : Around) (fs : Lines) (n : ℕ) (gs : List Form) → Passes (body p K fs) n (forms_in l ++ gs) p K gs
unfolding forms_in nests
passes close p K fs n gs = record { forms_read = fs; leaves_read = n; passed = refl }
passes (leaf_line b rest) p K fs n gs =
    let r = passes rest p K (fs ⧺ leaf_line (block n b.point b.isolated b.max_load) close) (n + 1) gs in
    record { forms_read = r.forms_read; leaves_read = r.leaves_read; passed = r.passed }
passes (call_line b f rest) p K fs n gs =
    let r = passes rest p K (fs ⧺ call_line (block n b.point b.isolated b.max_load) f close) (n + 1) gs in
    record { forms_read = r.forms_read; leaves_read = r.leaves_read; passed = r.passed }
passes (loop_line b m inner rest) p K fs n gs =
    let c = block n b.point b.isolated b.max_load in
    let i = passes inner p (in_loop c m fs K) close (n + 1) (Close ∷ (forms_in rest ++ gs)) in
    let r = passes rest p K (fs ⧺ loop_line c m i.forms_read close) i.leaves_read gs in
    record {
      forms_read = r.forms_read;
      leaves_read = r.leaves_read;
      passed = ap (λ x. nests (body p K fs) n (loop_form b m ∷ x)) (append_assoc (forms_in inner) (Close ∷ forms_in rest) gs) ∙ (i.passed ∙ r.passed);
    }
passes (if_line b then else rest) p K fs n gs =
    let c = block n b.point b.isolated b.max_load in
    let tail = Close ∷ Close ∷ (forms_in rest ++ gs) in
    let t = passes then p (in_then c fs K) close (n + 1) (Close ∷ Else ∷ (forms_in else ++ tail)) in
    let e = passes else p (in_else c t.forms_read fs K) close t.leaves_read tail in
    let r = passes rest p K (fs ⧺ if_line c t.forms_read e.forms_read close) e.leaves_read gs in
    record {
      forms_read = r.forms_read;
      leaves_read = r.leaves_read;
      passed = ap (λ x. nests (body p K fs) n (if_form b ∷ Then ∷ x))
          (append_assoc (forms_in then) (Close ∷ Else ∷ (forms_in else ++ (Close ∷ Close ∷ forms_in rest))) gs ∙
          ap (λ x. forms_in then ++ (Close ∷ Else ∷ x)) (append_assoc (forms_in else) (Close ∷ Close ∷ forms_in rest) gs)) ∙
          (t.passed ∙ (e.passed ∙ r.passed));
    }

-- Some lines lead from the task back into it, with so many functions; the lines gs follow them.
record PassesAll (S : ParserState) (n : ℕ) (fs : List Form) (gs : List Form) (many : ℕ) : Type 0 where
  pub plan_read : Plan
  pub leaves_read : ℕ
  pub functions_read : length plan_read.functions ≡ many
  pub passed : nests S n fs ≡ nests (task plan_read) leaves_read gs

passes_all : (ls : List Lines) (p : Plan) (n : ℕ) (gs : List Form) → PassesAll (task p) n (forms_all ls ++ gs) gs (length p.functions + length ls)
unfolding forms_all nests
passes_all [] p n gs = record { plan_read = p; leaves_read = n; functions_read = omega arith; passed = refl }
passes_all (l ∷ ls) p n gs =
    let i = passes l p in_fun close n (Close ∷ (forms_all ls ++ gs)) in
    let r = passes_all ls (with_function p i.forms_read) i.leaves_read gs in
    record {
      plan_read = r.plan_read;
      leaves_read = r.leaves_read;
      functions_read = omega (arith, r.functions_read, length-append p.functions (i.forms_read ∷ []));
      passed = ap (λ x. nests (task p) n (Fun ∷ x)) (append_assoc (forms_in l) (Close ∷ forms_all ls) gs) ∙ (i.passed ∙ r.passed);
    }

-- The lines of a plan lead to a closed task.
pub passes_whole : (p : Plan) → 1 ≤ length p.functions → (q : Plan) × (nests start 0 (forms_of p) ≡ to (done q))
unfolding forms_of nests
passes_whole p h =
    let r = passes_all p.functions (record { deadline = p.deadline; switch = p.switch; edition = p.edition; functions = [] }) 0 (Close ∷ []) in
    let q = r.plan_read in
    (q, r.passed ∙ rw (completeness.closes_task q r.leaves_read (omega (arith, r.functions_read))))

-- WHERE THE MACHINE STANDS BEHIND LINES
module _ (fs : List Form) (S : ParserState) (nested : nests start 0 fs ≡ to S) where
  -- Where it is stuck, no lines of a plan begin so.
  pub stuck_begins : (f : Form) → next S (leaves_after 0 fs) f ≡ stuck → (more : List Form) → ¬ PlanLines (fs ++ (f ∷ more))
  unfolding nests
  stuck_begins f e more w =
      let (q, x) = passes_whole w.tree w.some_function in
      let y : nests S (leaves_after 0 fs) (f ∷ more) ≡ stuck = rw e in
      not_stuck (sym y ∙ (sym (nests_append fs (f ∷ more) start 0 S nested) ∙ (ap (nests start 0) (sym w.lines_are) ∙ x)))

  -- Where they are all lines of a plan, the task is closed.
  pub whole_done : PlanLines fs → (q : Plan) × (S ≡ done q)
  whole_done w =
      let (q, x) = passes_whole w.tree w.some_function in
      (q, same_state (sym nested ∙ (ap (nests start 0) (sym w.lines_are) ∙ x)))
