-- The steps of the machine: the lines that may stand in a state, one by one, and the forms that were read on the way to it.
use Prim.Native.Nat.{ℕ, ◌≤◌}
use mathlib.Core.Path.{◌≡◌, refl, subst}
use mathlib.Core.List.{List, [], ◌∷◌, ◌++◌, append_assoc, append-nil}
use mathlib.Core.Bool.{Bool}
use native.Mathlib.Omega.{arith}
use lib.ListN.{length}
use Rattle.text.specs.declared.Form.{Form}
use Rattle.text.specs.declared.Form.TheVariants.{Task, Fun, Then, Else, Close, Leaf, Call, Loop, If}
use Rattle.model.specs.declared.Edition.{Edition}
use Rattle.model.specs.Plan.{Block, Lines, close, leaf_line, call_line, loop_line, if_line, Plan}
use Rattle.reader.specs.Machine.{◌⧺◌, Around, in_fun, in_loop, in_then, in_else, ParserState, start, task, body, await_then, await_else, await_close, done, Next, stuck, to, closed, closed_task, with_function, block, next}
use Rattle.reader.specs.Print.{loop_form, if_form, forms_in, forms_all, forms_of}
use Rattle.reader.proofs.Appended.{forms-⧺, forms_snoc}

-- THE FORMS THAT WERE READ on the way to a state
unfoldable pub opening : Plan → Around → List Form
opening p in_fun = Task p.deadline p.switch p.edition ∷ (forms_all p.functions ++ (Fun ∷ []))
opening p (in_loop b n fs K) = opening p K ++ (forms_in fs ++ (loop_form b n ∷ []))
opening p (in_then b fs K) = opening p K ++ (forms_in fs ++ (if_form b ∷ Then ∷ []))
opening p (in_else b ts fs K) = opening p K ++ (forms_in fs ++ (if_form b ∷ Then ∷ (forms_in ts ++ (Close ∷ Else ∷ []))))

unfoldable pub before : ParserState → List Form
before start = []
before (task p) = Task p.deadline p.switch p.edition ∷ forms_all p.functions
before (body p K fs) = opening p K ++ forms_in fs
before (await_then p K b fs) = opening p K ++ (forms_in fs ++ (if_form b ∷ []))
before (await_else p K b ts fs) = opening p K ++ (forms_in fs ++ (if_form b ∷ Then ∷ (forms_in ts ++ (Close ∷ []))))
before (await_close p K b ts es fs) = opening p K ++ (forms_in fs ++ (if_form b ∷ Then ∷ (forms_in ts ++ (Close ∷ Else ∷ (forms_in es ++ (Close ∷ []))))))
before (done p) = forms_of p

-- ONE STEP: the lines that may stand in a state, one by one.
pub data Step : ParserState → ℕ → Form → ParserState → Type 0 where
  opens_task : {n d t : ℕ} {u : Edition} → Step start n (Task d t u) (task (record { deadline = d; switch = t; edition = u; functions = [] }))
  opens_fun : {p : Plan} {n : ℕ} → Step (task p) n Fun (body p in_fun close)
  closes_task : {p : Plan} {n : ℕ} → 1 ≤ length p.functions → Step (task p) n Close (done p)
  leaf : {p : Plan} {K : Around} {fs : Lines} {n : ℕ} {k : Bool} {c m : ℕ} →
      Step (body p K fs) n (Leaf k c m) (body p K (fs ⧺ leaf_line (block n k c m) close))
  call : {p : Plan} {K : Around} {fs : Lines} {n : ℕ} {k : Bool} {g c m : ℕ} →
      Step (body p K fs) n (Call k g c m) (body p K (fs ⧺ call_line (block n k c m) g close))
  loop : {p : Plan} {K : Around} {fs : Lines} {n : ℕ} {k : Bool} {b c m : ℕ} →
      Step (body p K fs) n (Loop k b c m) (body p (in_loop (block n k c m) b fs K) close)
  cond : {p : Plan} {K : Around} {fs : Lines} {n : ℕ} {k : Bool} {c m : ℕ} →
      Step (body p K fs) n (If k c m) (await_then p K (block n k c m) fs)
  closes_fun : {p : Plan} {fs : Lines} {n : ℕ} → Step (body p in_fun fs) n Close (task (with_function p fs))
  closes_loop : {p : Plan} {x : Block} {b : ℕ} {hs : Lines} {K : Around} {fs : Lines} {n : ℕ} →
      Step (body p (in_loop x b hs K) fs) n Close (body p K (hs ⧺ loop_line x b fs close))
  closes_then : {p : Plan} {x : Block} {hs : Lines} {K : Around} {fs : Lines} {n : ℕ} →
      Step (body p (in_then x hs K) fs) n Close (await_else p K x fs hs)
  closes_else : {p : Plan} {x : Block} {ts hs : Lines} {K : Around} {fs : Lines} {n : ℕ} →
      Step (body p (in_else x ts hs K) fs) n Close (await_close p K x ts fs hs)
  opens_then : {p : Plan} {K : Around} {x : Block} {fs : Lines} {n : ℕ} → Step (await_then p K x fs) n Then (body p (in_then x fs K) close)
  opens_else : {p : Plan} {K : Around} {x : Block} {ts fs : Lines} {n : ℕ} → Step (await_else p K x ts fs) n Else (body p (in_else x ts fs K) close)
  closes_if : {p : Plan} {K : Around} {x : Block} {ts es fs : Lines} {n : ℕ} →
      Step (await_close p K x ts es fs) n Close (body p K (fs ⧺ if_line x ts es close))

-- The machine goes by such a step, or is stuck.
abbrev Moved : ParserState → ℕ → Form → Next → Type 0
Moved S n f stuck = Unit
Moved S n f (to S') = Step S n f S'

moved_task : (p : Plan) (n : ℕ) (ls : List Lines) → p.functions ≡ ls → Moved (task p) n Close (closed_task p ls)
moved_task p n [] q = tt
moved_task p n (l ∷ ls) q = closes_task {p = p} (rw q (omega arith))

moved_close : {p : Plan} {fs : Lines} {n : ℕ} (K : Around) → Step (body p K fs) n Close (closed p K fs)
moved_close in_fun = closes_fun
moved_close (in_loop b n hs K) = closes_loop
moved_close (in_then b hs K) = closes_then
moved_close (in_else b ts hs K) = closes_else

moved : (S : ParserState) (n : ℕ) (f : Form) → Moved S n f (next S n f)
moved start n (Task d t u) = opens_task
moved start n Fun = tt
moved start n Then = tt
moved start n Else = tt
moved start n Close = tt
moved start n (Leaf k c m) = tt
moved start n (Call k g c m) = tt
moved start n (Loop k b c m) = tt
moved start n (If k c m) = tt
moved (task p) n (Task d t u) = tt
moved (task p) n Fun = opens_fun
moved (task p) n Then = tt
moved (task p) n Else = tt
moved (task p) n Close = moved_task p n p.functions refl
moved (task p) n (Leaf k c m) = tt
moved (task p) n (Call k g c m) = tt
moved (task p) n (Loop k b c m) = tt
moved (task p) n (If k c m) = tt
moved (body p K fs) n (Task d t u) = tt
moved (body p K fs) n Fun = tt
moved (body p K fs) n Then = tt
moved (body p K fs) n Else = tt
moved (body p K fs) n Close = moved_close K
moved (body p K fs) n (Leaf k c m) = leaf
moved (body p K fs) n (Call k g c m) = call
moved (body p K fs) n (Loop k b c m) = loop
moved (body p K fs) n (If k c m) = cond
moved (await_then p K x fs) n (Task d t u) = tt
moved (await_then p K x fs) n Fun = tt
moved (await_then p K x fs) n Then = opens_then
moved (await_then p K x fs) n Else = tt
moved (await_then p K x fs) n Close = tt
moved (await_then p K x fs) n (Leaf k c m) = tt
moved (await_then p K x fs) n (Call k g c m) = tt
moved (await_then p K x fs) n (Loop k b c m) = tt
moved (await_then p K x fs) n (If k c m) = tt
moved (await_else p K x ts fs) n (Task d t u) = tt
moved (await_else p K x ts fs) n Fun = tt
moved (await_else p K x ts fs) n Then = tt
moved (await_else p K x ts fs) n Else = opens_else
moved (await_else p K x ts fs) n Close = tt
moved (await_else p K x ts fs) n (Leaf k c m) = tt
moved (await_else p K x ts fs) n (Call k g c m) = tt
moved (await_else p K x ts fs) n (Loop k b c m) = tt
moved (await_else p K x ts fs) n (If k c m) = tt
moved (await_close p K x ts es fs) n (Task d t u) = tt
moved (await_close p K x ts es fs) n Fun = tt
moved (await_close p K x ts es fs) n Then = tt
moved (await_close p K x ts es fs) n Else = tt
moved (await_close p K x ts es fs) n Close = closes_if
moved (await_close p K x ts es fs) n (Leaf k c m) = tt
moved (await_close p K x ts es fs) n (Call k g c m) = tt
moved (await_close p K x ts es fs) n (Loop k b c m) = tt
moved (await_close p K x ts es fs) n (If k c m) = tt
moved (done p) n (Task d t u) = tt
moved (done p) n Fun = tt
moved (done p) n Then = tt
moved (done p) n Else = tt
moved (done p) n Close = tt
moved (done p) n (Leaf k c m) = tt
moved (done p) n (Call k g c m) = tt
moved (done p) n (Loop k b c m) = tt
moved (done p) n (If k c m) = tt

pub stepped : {S S' : ParserState} {n : ℕ} {f : Form} → next S n f ≡ to S' → Step S n f S'
stepped {S} {S'} {n} {f} e = subst (λ x. Moved S n f x) e (moved S n f)

-- A step adds its form to those that were read.
pub before_step : {S : ParserState} {n : ℕ} {f : Form} {S' : ParserState} → Step S n f S' → before S' ≡ before S ++ (f ∷ [])
unfolding before opening forms_in forms_all forms_of
before_step opens_task = refl
before_step (opens_fun {p = p}) = append-nil (Task p.deadline p.switch p.edition ∷ (forms_all p.functions ++ (Fun ∷ [])))
before_step (closes_task h) = refl
before_step (leaf {fs = fs} {n = n} {k = k} {c = c} {m = m}) = rw (forms-⧺ fs (leaf_line (block n k c m) close)) (simp append_assoc)
before_step (call {fs = fs} {n = n} {k = k} {g = g} {c = c} {m = m}) = rw (forms-⧺ fs (call_line (block n k c m) g close)) (simp append_assoc)
before_step loop = simp (append_assoc, append-nil)
before_step cond = simp append_assoc
before_step (closes_fun {p = p} {fs = fs}) = rw (forms_snoc p.functions fs) (simp append_assoc)
before_step (closes_loop {x = x} {b = b} {hs = hs} {fs = fs}) = rw (forms-⧺ hs (loop_line x b fs close)) (simp append_assoc)
before_step closes_then = simp append_assoc
before_step closes_else = simp append_assoc
before_step opens_then = simp (append_assoc, append-nil)
before_step opens_else = simp (append_assoc, append-nil)
before_step (closes_if {x = x} {ts = ts} {es = es} {fs = fs}) = rw (forms-⧺ fs (if_line x ts es close)) (simp append_assoc)
