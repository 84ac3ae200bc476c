-- Numbers from 2^41 on are all alike, since no range goes so far: the reader makes the same of a line whose numbers are held at 2^41.
use Prim.Native.Nat.{ℕ, ◌^◌, ◌≤◌, ◌<◌}
use mathlib.Core.Path.{◌≡◌, refl, sym, ap, ◌∙◌}
use mathlib.Core.List.{List, []}
use mathlib.Core.Bool.{Bool, true, false}
use native.Mathlib.Omega.{arith}
use lib.Dec.{leb, ltb}
use Rattle.std.specs.Prelude.{Option, None, Some}
use Rattle.model.specs.declared.Refusal.{Refusal}
use borrow.Author.Tests.{leb-true}
use Rattle.text.specs.declared.Form.{Form}
use Rattle.text.specs.declared.Form.TheVariants.{Task, Fun, Then, Else, Close, Leaf, Call, Loop, If}
use Rattle.text.specs.Grammar.{line_form, form, cap_edition, cap_form, Found}
use Rattle.model.specs.declared.Edition.{Edition}
use Rattle.model.specs.declared.Edition.TheVariants.{First, Second}
use Rattle.model.specs.Plan.{resume_cost}
use Rattle.model.specs.Levels.{heights}
use Rattle.model.specs.Places.{bit}
use Rattle.text.specs.Text.{line_at}
use Rattle.text.specs.Patterns.{capped}
use Rattle.text.proofs.Theorems.{cap_high, cap_low, cap_same}
use Rattle.reader.specs.Machine.{ParserState, start, task, body, await_then, await_else, await_close, done, brackets, level, functions_of, Next, stuck, to, next, refuse_unless, fault, counted, Turn, stop, form_first, line_turn}
use Rattle.reader.proofs.Allowed.{Allowed, allowed}

-- a number of a plan, held
abbrev cap : ℕ → ℕ
cap = capped (2 ^ 41)

-- the edition of a plan, with its U held
resume_held : (u : Edition) → resume_cost (cap_edition u) ≡ cap (resume_cost u)
resume_held First = refl
resume_held (Second v) = refl

edition_same : (u : Edition) → resume_cost u ≤ 2 ^ 20 → cap_edition u ≡ u
edition_same First h = refl
edition_same (Second v) h = ap Second (cap_same (2 ^ 41) v (omega arith))

-- two tests alike: what follows need only be the same where they hold
both : (t u : Bool) (k : Refusal) (x y : Option Refusal) → t ≡ u → (u ≡ true → x ≡ y) → refuse_unless t k x ≡ refuse_unless u k y
both t true k x y e h = rw e (h refl)
both t false k x y e h = rw e

high : (a b : ℕ) (k : Refusal) (x y : Option Refusal) → b < 2 ^ 41 → (a ≤ b → cap a ≡ a → x ≡ y) → refuse_unless (leb (cap a) b) k x ≡ refuse_unless (leb a b) k y
high a b k x y h g =
    both (leb (cap a) b) (leb a b) k x y (cap_high (2 ^ 41) a b h) (λ e. let l : a ≤ b = leb-true a b e in g l (cap_same (2 ^ 41) a (omega arith)))

module _ (room d L n : ℕ) (hs : List ℕ) where
  -- of costs, with what follows
  costs : (k : Bool) (c m : ℕ) (x y : Option Refusal) → (cap c ≡ c → cap m ≡ m → x ≡ y) →
      refuse_unless (leb (cap c) (2 ^ 20)) Refusal.Range (refuse_unless (leb (cap m) (2 ^ 20)) Refusal.Range (refuse_unless (ltb n room) Refusal.Count (refuse_unless (leb (cap c) (cap m)) Refusal.Load
      (refuse_unless (leb (bit k) (cap c)) Refusal.Costless x)))) ≡
      refuse_unless (leb c (2 ^ 20)) Refusal.Range (refuse_unless (leb m (2 ^ 20)) Refusal.Range (refuse_unless (ltb n room) Refusal.Count (refuse_unless (leb c m) Refusal.Load (refuse_unless (leb (bit k) c) Refusal.Costless y))))
  costs k c m x y h = high c (2 ^ 20) Refusal.Range _ _ (omega arith) (λ l e. high m (2 ^ 20) Refusal.Range _ _ (omega arith) (λ l' e'. rw (e, e', h e e')))

  cap_fault : (f : Form) → fault room d L n hs (cap_form f) ≡ fault room d L n hs f
  unfolding fault
  cap_fault (Task x y u) =
      both _ _ Refusal.Range _ _ (cap_low (2 ^ 41) x (omega arith)) (λ _. high x (2 ^ 40) Refusal.Range _ _ (omega arith) (λ l e. high y (2 ^ 20) Refusal.Range _ _ (omega arith)
      (λ l' e'. rw (resume_held u) (high (resume_cost u) (2 ^ 20) Refusal.Range _ _ (omega arith) (λ l'' e''. refl)))))
  cap_fault Fun = refl
  cap_fault Then = refl
  cap_fault Else = refl
  cap_fault Close = refl
  cap_fault (Leaf k c m) = costs k c m _ _ (λ e e'. refl)
  cap_fault (Call k f c m) = high f 15 Refusal.Range _ _ (omega arith) (λ l q. costs k c m _ _ (λ e e'. rw q))
  cap_fault (Loop k b c m) = both _ _ Refusal.Range _ _ (cap_low (2 ^ 41) b (omega arith)) (λ _. high b 65535 Refusal.Range _ _ (omega arith) (λ l q. costs k c m _ _ (λ e e'. refl)))
  cap_fault (If k c m) = costs k c m _ _ (λ e e'. refl)

-- where nothing is at fault nothing was held
uncapped : (room d L n : ℕ) (hs : List ℕ) (f : Form) → Allowed room d L n hs f → cap_form f ≡ f
uncapped room d L n hs (Task x y u) (a, b, c, r, e) = rw (cap_same (2 ^ 41) x (omega arith), cap_same (2 ^ 41) y (omega arith), edition_same u r)
uncapped room d L n hs Fun a = refl
uncapped room d L n hs Then a = refl
uncapped room d L n hs Else a = refl
uncapped room d L n hs Close a = refl
uncapped room d L n hs (Leaf k c m) (p, q, r, s, z, t) = rw (cap_same (2 ^ 41) c (omega arith), cap_same (2 ^ 41) m (omega arith))
uncapped room d L n hs (Call k f c m) (o, p, q, r, s, z, t, u) =
    rw (cap_same (2 ^ 41) f (omega arith), cap_same (2 ^ 41) c (omega arith), cap_same (2 ^ 41) m (omega arith))
uncapped room d L n hs (Loop k b c m) (v, o, p, q, r, s, z, t, u) =
    rw (cap_same (2 ^ 41) b (omega arith), cap_same (2 ^ 41) c (omega arith), cap_same (2 ^ 41) m (omega arith))
uncapped room d L n hs (If k c m) (p, q, r, s, z, t, u) = rw (cap_same (2 ^ 41) c (omega arith), cap_same (2 ^ 41) m (omega arith))

-- where something is, only that matters: which fault, and whether the form may stand there
verdict : Next → Refusal → Turn
verdict stuck k = stop Refusal.Form
verdict (to S) k = stop k

form_first_verdict : (x : Next) (k : Refusal) (n : ℕ) → form_first x (Some k) n ≡ verdict x k
unfolding verdict
form_first_verdict stuck k n = refl
form_first_verdict (to S) k n = refl

cap_verdict : (S : ParserState) (n : ℕ) (k : Refusal) (f : Form) → verdict (next S n (cap_form f)) k ≡ verdict (next S n f) k
unfolding verdict
cap_verdict start n j (Task x y u) = refl
cap_verdict start n j Fun = refl
cap_verdict start n j Then = refl
cap_verdict start n j Else = refl
cap_verdict start n j Close = refl
cap_verdict start n j (Leaf k c m) = refl
cap_verdict start n j (Call k f c m) = refl
cap_verdict start n j (Loop k b c m) = refl
cap_verdict start n j (If k c m) = refl
cap_verdict (task p) n j (Task x y u) = refl
cap_verdict (task p) n j Fun = refl
cap_verdict (task p) n j Then = refl
cap_verdict (task p) n j Else = refl
cap_verdict (task p) n j Close = refl
cap_verdict (task p) n j (Leaf k c m) = refl
cap_verdict (task p) n j (Call k f c m) = refl
cap_verdict (task p) n j (Loop k b c m) = refl
cap_verdict (task p) n j (If k c m) = refl
cap_verdict (body p K fs) n j (Task x y u) = refl
cap_verdict (body p K fs) n j Fun = refl
cap_verdict (body p K fs) n j Then = refl
cap_verdict (body p K fs) n j Else = refl
cap_verdict (body p K fs) n j Close = refl
cap_verdict (body p K fs) n j (Leaf k c m) = refl
cap_verdict (body p K fs) n j (Call k f c m) = refl
cap_verdict (body p K fs) n j (Loop k b c m) = refl
cap_verdict (body p K fs) n j (If k c m) = refl
cap_verdict (await_then p K b' fs) n j (Task x y u) = refl
cap_verdict (await_then p K b' fs) n j Fun = refl
cap_verdict (await_then p K b' fs) n j Then = refl
cap_verdict (await_then p K b' fs) n j Else = refl
cap_verdict (await_then p K b' fs) n j Close = refl
cap_verdict (await_then p K b' fs) n j (Leaf k c m) = refl
cap_verdict (await_then p K b' fs) n j (Call k f c m) = refl
cap_verdict (await_then p K b' fs) n j (Loop k b c m) = refl
cap_verdict (await_then p K b' fs) n j (If k c m) = refl
cap_verdict (await_else p K b' ts fs) n j (Task x y u) = refl
cap_verdict (await_else p K b' ts fs) n j Fun = refl
cap_verdict (await_else p K b' ts fs) n j Then = refl
cap_verdict (await_else p K b' ts fs) n j Else = refl
cap_verdict (await_else p K b' ts fs) n j Close = refl
cap_verdict (await_else p K b' ts fs) n j (Leaf k c m) = refl
cap_verdict (await_else p K b' ts fs) n j (Call k f c m) = refl
cap_verdict (await_else p K b' ts fs) n j (Loop k b c m) = refl
cap_verdict (await_else p K b' ts fs) n j (If k c m) = refl
cap_verdict (await_close p K b' ts es fs) n j (Task x y u) = refl
cap_verdict (await_close p K b' ts es fs) n j Fun = refl
cap_verdict (await_close p K b' ts es fs) n j Then = refl
cap_verdict (await_close p K b' ts es fs) n j Else = refl
cap_verdict (await_close p K b' ts es fs) n j Close = refl
cap_verdict (await_close p K b' ts es fs) n j (Leaf k c m) = refl
cap_verdict (await_close p K b' ts es fs) n j (Call k f c m) = refl
cap_verdict (await_close p K b' ts es fs) n j (Loop k b c m) = refl
cap_verdict (await_close p K b' ts es fs) n j (If k c m) = refl
cap_verdict (done p) n j (Task x y u) = refl
cap_verdict (done p) n j Fun = refl
cap_verdict (done p) n j Then = refl
cap_verdict (done p) n j Else = refl
cap_verdict (done p) n j Close = refl
cap_verdict (done p) n j (Leaf k c m) = refl
cap_verdict (done p) n j (Call k f c m) = refl
cap_verdict (done p) n j (Loop k b c m) = refl
cap_verdict (done p) n j (If k c m) = refl

-- A form and the form with its numbers held are judged alike.
pub turn_capped : (room : ℕ) (S : ParserState) (n : ℕ) (f : Form) → line_turn room S n (form (cap_form f)) ≡ line_turn room S n (form f)
turn_capped room S n f = here (fault room (brackets S) (level S) n (heights [] (functions_of S)) f) refl
  where
    here : (k : Option Refusal) → fault room (brackets S) (level S) n (heights [] (functions_of S)) f ≡ k → line_turn room S n (form (cap_form f)) ≡ line_turn room S n (form f)
    here None e = ap (λ x. line_turn room S n (form x)) (uncapped room (brackets S) (level S) n (heights [] (functions_of S)) f (allowed room (brackets S) (level S) n (heights [] (functions_of S)) f e))
    here (Some k) e =
        let q : fault room (brackets S) (level S) n (heights [] (functions_of S)) (cap_form f) ≡ Some k = cap_fault room (brackets S) (level S) n (heights [] (functions_of S)) f ∙ e in
        rw (q, e) (form_first_verdict (next S n (cap_form f)) k (counted n (cap_form f)) ∙ (cap_verdict S n k f ∙ sym (form_first_verdict (next S n f) k (counted n f))))

-- A line whose form, with its numbers held, is g: what reading a line gives.
pub record Held (l : List ℕ) (g : Form) : Type 0 where
  pub whole : Form
  pub line : line_form l ≡ form whole
  pub held : cap_form whole ≡ g

-- Such a line is judged as g.
pub turn_held : (room : ℕ) (S : ParserState) (n : ℕ) (l : List ℕ) (g : Form) → Held l g → line_turn room S n (line_form l) ≡ line_turn room S n (form g)
turn_held room S n l g h = ap (line_turn room S n) h.line ∙ (sym (turn_capped room S n h.whole) ∙ ap (λ x. line_turn room S n (form x)) h.held)

-- What was found at a place of a text is held there.
pub found_held : {s : List ℕ} {i : ℕ} {g : Form} {e : ℕ} → Found s i g e → Held (line_at s i) g
found_held w = record { whole = w.exact; line = w.reads; held = sym w.held }
