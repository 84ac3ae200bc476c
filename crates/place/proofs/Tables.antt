-- The rows of an accepted plan are a table, and its derived columns the columns of that table. Assumes nothing.
use mathlib.Core.Path.{◌≡◌, refl, ap, ◌∙◌}
use mathlib.Core.List.{List, [], ◌∷◌, ◌++◌}
use Prim.Native.Nat.{ℕ, zero, suc, ◌+◌, ◌-◌, ◌^◌, ◌≤◌, ◌<◌}
use native.Mathlib.Omega.{arith}
use lib.ListN.{length, get_or, take, length-append}
use lib.Seq.{length-take-le}
use Rattle.model.specs.Plan.{C, Lines, close, leaf_line, call_line, loop_line, if_line, Plan}
use Rattle.model.specs.Forms.{Forms, done, leaf, call, loop, cond, forms, linked, main}
use Rattle.model.specs.Total.{total}
use Rattle.model.specs.Levels.{height, heights}
use Rattle.model.specs.Acceptance.{size, sizes, Functions, Accepted}
use Rattle.model.proofs.Total.{total_largest}
use Rattle.model.proofs.Links.{accepted_traceable}
use Rattle.model.proofs.Statics.{plan_whole, plan_totals, main_last}
use Rattle.rows.specs.Plans.{PlanIn}
use Rattle.rows.proofs.Measures.{function_part}
use Rattle.rows.proofs.Plans.{length_heights, function_kept, function_in, bound_in, leaves_in}
use Rattle.rows.specs.Costs.{limit}
use Rattle.place.specs.Stack.{Shallow, FunctionTable}
use Rattle.place.specs.Times.{Columns}
use Rattle.place.specs.Plans.{PlanColumns}

-- No form of a function lies deeper than its height.
low_more : (k m : ℕ) (f : Forms) → k ≤ m → Shallow k f → Shallow m f
unfolding Shallow
low_more k m done q h = tt
low_more k m (leaf b r) q h = (omega arith, low_more k m r q h.1)
low_more k m (call b fun r) q h = (omega arith, low_more (k - 1) (m - 1) fun (omega arith) h.1, low_more k m r q h.2)
low_more k m (loop b n body r) q h = (omega arith, low_more (k - 1) (m - 1) body (omega arith) h.1, low_more k m r q h.2)
low_more k m (cond b t e r) q h = (omega arith, low_more k m t q h.1, low_more k m e q h.2, low_more k m r q h.3)

low_lines : (hs : List ℕ) (fs : List Forms) → ((f : ℕ) → Shallow (get_or hs f 0) (get_or fs f done)) → (m : ℕ) (l : Lines) → height hs l ≤ m → Shallow m (forms fs l)
unfolding Shallow height forms
low_lines hs fs h m close q = tt
low_lines hs fs h m (leaf_line b r) q = (omega arith, low_lines hs fs h m r (omega arith))
low_lines hs fs h m (call_line b f r) q = (omega arith, low_more (get_or hs f 0) (m - 1) (get_or fs f done) (omega arith) (h f), low_lines hs fs h m r (omega arith))
low_lines hs fs h m (loop_line b n body r) q = (omega arith, low_lines hs fs h (m - 1) body (omega arith), low_lines hs fs h m r (omega arith))
low_lines hs fs h m (if_line b t e r) q = (omega arith, low_lines hs fs h m t (omega arith), low_lines hs fs h m e (omega arith), low_lines hs fs h m r (omega arith))

-- One function more.
low_push : (hs : List ℕ) (fs : List Forms) (x : ℕ) (g : Forms) → length hs ≡ length fs → ((f : ℕ) → Shallow (get_or hs f 0) (get_or fs f done)) → Shallow x g →
    (f : ℕ) → Shallow (get_or (hs ++ (x ∷ [])) f 0) (get_or (fs ++ (g ∷ [])) f done)
unfolding Shallow
low_push [] [] x g e h p zero = p
low_push [] [] x g e h p (suc f) = tt
low_push [] (y ∷ fs) x g e h p f = absurd (omega arith)
low_push (y ∷ hs) [] x g e h p f = absurd (omega arith)
low_push (y ∷ hs) (z ∷ fs) x g e h p zero = h 0
low_push (y ∷ hs) (z ∷ fs) x g e h p (suc f) = low_push hs fs x g (omega arith) (λ k. h (suc k)) p f

high_push : (fs : List Forms) (g : Forms) → ((f : ℕ) → Shallow 32 (get_or fs f done)) → Shallow 32 g → (f : ℕ) → Shallow 32 (get_or (fs ++ (g ∷ [])) f done)
unfolding Shallow
high_push [] g h p zero = p
high_push [] g h p (suc f) = tt
high_push (z ∷ fs) g h p zero = h 0
high_push (z ∷ fs) g h p (suc f) = high_push fs g (λ k. h (suc k)) p f

low_all : (ls : List Lines) (hs : List ℕ) (fs : List Forms) (n : ℕ) → length hs ≡ length fs → ((f : ℕ) → Shallow (get_or hs f 0) (get_or fs f done)) → ((f : ℕ) → Shallow 32 (get_or fs f done)) →
    Functions hs n ls → (f : ℕ) → Shallow 32 (get_or (linked fs ls) f done)
unfolding Functions linked
low_all [] hs fs n e h q v f = q f
low_all (l ∷ ls) hs fs n e h q (v, w) f =
    low_all ls (hs ++ (height hs l ∷ [])) (fs ++ (forms fs l ∷ [])) (n + size l) (omega (arith, length-append hs (height hs l ∷ []), length-append fs (forms fs l ∷ [])))
    (low_push hs fs (height hs l) (forms fs l) e h (low_lines hs fs h (height hs l) l (omega arith))) (high_push fs (forms fs l) q (low_lines hs fs h 32 l v.levels)) w f

pub low_plan : (p : Plan) → Accepted p → Shallow 32 (get_or (linked [] p.functions) (length p.functions - 1) done)
unfolding Shallow
low_plan p a = low_all p.functions [] [] 0 refl (λ f. tt) (λ f. tt) a.formed.each (length p.functions - 1)

pub short_main : (p : Plan) → Accepted p → total C (get_or (linked [] p.functions) (length p.functions - 1) done) ≤ limit
short_main p a =
    let (r, e) = (total_largest C (main p)).met in
    let z : 2 ^ 40 ≡ limit = refl in
    omega (arith, a.short r, e, z, ap (total C) (main_last p))

module _ {w starts : List ℕ} (p : Plan) (a : Accepted p) (d : PlanIn w starts p) where
  -- The table of the plan: its functions are the plan's, linked.
  abbrev pub table_of : FunctionTable w starts (length p.functions)
  table_of =
      record {
        count = a.formed.some_function;
        fits = d.fits;
        funs = linked [] p.functions;
        each = λ f h. record {
          piece = record {
            heights = heights [] (take f p.functions);
            level = 1;
            part = function_part (get_or p.functions f close) (function_in d f h) (function_kept p.functions [] 0 f a.formed.each h) refl;
          };
          few = omega (arith, length_heights (take f p.functions) [], length-take-le f p.functions (omega arith));
          same = (plan_whole p a).linked f h;
          room = omega (arith, bound_in d f h, d.held);
        };
        low = low_plan p a;
        traceable = rw (main_last p) at (accepted_traceable p a);
      }

  -- No function ends behind the last leaf.
  pub ends_low : (f : ℕ) → f < length p.functions → get_or starts (f + 1) 0 ≤ sizes p.functions
  ends_low f h = omega (arith, bound_in d f h, leaves_in d)

  -- Its columns.
  abbrev pub columns_of : {tails turns totals : List ℕ} → PlanColumns p tails turns totals → Columns table_of tails turns totals
  columns_of {tails} {turns} {totals} c =
      record {
        few_functions = a.formed.few_functions;
        long_tails = λ f h. omega (arith, ends_low f h, c.long_tails);
        long_turns = λ f h. omega (arith, ends_low f h, c.long_turns);
        totals_are = λ f h. c.totals_are f h ∙ plan_totals C p f h;
        priced = c.priced;
        bounded = short_main p a;
      }
