-- The contract of a recursion that reads forms, where it stops: one law for each place at which a body, an if, a function or the task is refused.
use Prim.Native.Nat.{ℕ, min, ◌+◌, ◌≤◌, ◌<◌}
use mathlib.Core.Path.{◌≡◌, refl, ap, ◌∙◌}
use mathlib.Core.List.{List, [], ◌∷◌}
use mathlib.Core.Bool.{Bool}
use lib.ListN.{length}
use Rattle.std.specs.Prelude.{None, Some, ◌≢◌}
use Rattle.model.specs.declared.Refusal.{Refusal}
use Rattle.text.specs.Text.{lines}
use borrow.Author.Tests.{le-ltb, le-leb, lt-leb}
use Rattle.text.specs.declared.Form.{Form}
use Rattle.text.specs.declared.Form.TheVariants.{Task, Fun, Then, Else, Close, Leaf, Call, Loop, If}
use Rattle.text.specs.Grammar.{Line, no_form, form, line_form}
use Rattle.model.specs.Plan.{Block, Lines, close, Plan}
use Rattle.reader.specs.Machine.{outcome, ◌⧺◌, start, line_turn, onwards, Around, in_fun, in_loop, in_then, in_else, ParserState, task, body, await_then, await_else, await_close, done, brackets, level, functions_of, stuck, to, block, only, in_body, in_task, fault, run}
use Rattle.reader.specs.Outcome.{plan, refused}
use Rattle.reader.proofs.Capped.{Held}
use Rattle.reader.proofs.Contract.{broken, misplaced, no_line, Stands, Forming, Enclosed, Reading, loop_opens, in_loop_stands, in_then_stands, in_else_stands, if_opens, then_opens, then_closes, else_opens, else_closes, fun_opens, in_fun_stands}

-- In any body in which the closed functions have the heights hs, d brackets are open and the level is L, the machine refuses the lines us by r at line x.
pub record Refuses (room : ℕ) (hs : List ℕ) (d L n i : ℕ) (us : List (List ℕ)) (r : Refusal) (x : ℕ) : Type 0 where
  pub stops : (p : Plan) (K : Around) (fs : Lines) → Stands p K hs d L → run room (body p K fs) n i us ≡ refused r x

-- The line x must come and does not: the text ends, the next line is no form, or it is another form.
pub data Amiss (x : Form) (us : List (List ℕ)) : Type 0 where
  no_more : us ≡ [] → Amiss x us
  unread : (l : List ℕ) (ks : List (List ℕ)) → us ≡ l ∷ ks → line_form l ≡ no_form → Amiss x us
  other : (l : List ℕ) (ks : List (List ℕ)) (f : Form) → us ≡ l ∷ ks → Held l f → f ≢ x → Amiss x us

-- Another form may not stand there.
not_then : (f : Form) (S : ParserState) → f ≢ Then → only Then f S ≡ stuck
not_then (Task d t u) S h = refl
not_then Fun S h = refl
not_then Then S h = absurd (h refl)
not_then Else S h = refl
not_then Close S h = refl
not_then (Leaf k c m) S h = refl
not_then (Call k g c m) S h = refl
not_then (Loop k b c m) S h = refl
not_then (If k c m) S h = refl

not_else : (f : Form) (S : ParserState) → f ≢ Else → only Else f S ≡ stuck
not_else (Task d t u) S h = refl
not_else Fun S h = refl
not_else Then S h = refl
not_else Else S h = absurd (h refl)
not_else Close S h = refl
not_else (Leaf k c m) S h = refl
not_else (Call k g c m) S h = refl
not_else (Loop k b c m) S h = refl
not_else (If k c m) S h = refl

not_close : (f : Form) (S : ParserState) → f ≢ Close → only Close f S ≡ stuck
not_close (Task d t u) S h = refl
not_close Fun S h = refl
not_close Then S h = refl
not_close Else S h = refl
not_close Close S h = absurd (h refl)
not_close (Leaf k c m) S h = refl
not_close (Call k g c m) S h = refl
not_close (Loop k b c m) S h = refl
not_close (If k c m) S h = refl

-- Where an if awaits `(then`, `(else` or `)`, anything else is refused by 2.
awaits_then : (room n i : ℕ) (p : Plan) (K : Around) (b : Block) (fs : Lines) (us : List (List ℕ)) → Amiss Then us → run room (await_then p K b fs) n i us ≡ refused Refusal.Form i
unfolding run
awaits_then room n i p K b fs us (no_more e) = rw e
awaits_then room n i p K b fs us (unread l ks z a) = no_line room (await_then p K b fs) n i z a
awaits_then room n i p K b fs us (other l ks f z a e) = misplaced room (await_then p K b fs) n i f z a (not_then f _ e)

awaits_else : (room n i : ℕ) (p : Plan) (K : Around) (b : Block) (ts fs : Lines) (us : List (List ℕ)) → Amiss Else us → run room (await_else p K b ts fs) n i us ≡ refused Refusal.Form i
unfolding run
awaits_else room n i p K b ts fs us (no_more e) = rw e
awaits_else room n i p K b ts fs us (unread l ks z a) = no_line room (await_else p K b ts fs) n i z a
awaits_else room n i p K b ts fs us (other l ks f z a e) = misplaced room (await_else p K b ts fs) n i f z a (not_else f _ e)

awaits_close : (room n i : ℕ) (p : Plan) (K : Around) (b : Block) (ts es fs : Lines) (us : List (List ℕ)) → Amiss Close us → run room (await_close p K b ts es fs) n i us ≡ refused Refusal.Form i
unfolding run
awaits_close room n i p K b ts es fs us (no_more e) = rw e
awaits_close room n i p K b ts es fs us (unread l ks z a) = no_line room (await_close p K b ts es fs) n i z a
awaits_close room n i p K b ts es fs us (other l ks f z a e) = misplaced room (await_close p K b ts es fs) n i f z a (not_close f _ e)

module _ {room : ℕ} {hs : List ℕ} {d L : ℕ} where
  -- What is refused from here on is refused from the beginning of the body.
  pub refuses_on : {n i : ℕ} {ls : List (List ℕ)} {m j h : ℕ} {rs : List ℕ} {us : List (List ℕ)} {r : Refusal} {x : ℕ} →
      Forming room hs d L n i ls m j h rs us → Refuses room hs d L m j us r x → Refuses room hs d L n i ls r x
  refuses_on g q = record { stops = λ p K fs st. g.same p K fs st ∙ q.stops p K (fs ⧺ g.forms) st }

  -- The text ends in the body.
  pub refuses_end : {n i : ℕ} {us : List (List ℕ)} → us ≡ [] → Refuses room hs d L n i us Refusal.Form i
  unfolding run
  refuses_end {n} {i} e = record { stops = λ p K fs st. rw e }

  module _ {n i : ℕ} {us : List (List ℕ)} {l : List ℕ} {ks : List (List ℕ)} (z : us ≡ l ∷ ks) where
    -- A line that is no form.
    pub refuses_unread : line_form l ≡ no_form → Refuses room hs d L n i us Refusal.Form i
    refuses_unread a = record { stops = λ p K fs st. no_line room (body p K fs) n i z a }

    -- A form that may not stand in a body.
    pub refuses_misplaced : (f : Form) → Held l f → ((p : Plan) (K : Around) (fs : Lines) → in_body n p K fs f ≡ stuck) → Refuses room hs d L n i us Refusal.Form i
    refuses_misplaced f a b = record { stops = λ p K fs st. misplaced room (body p K fs) n i f z a (b p K fs) }

    -- A form that may stand in a body and meets one of the refusals 3 to 7 and 19.
    pub refuses_fault : (f : Form) (k : Refusal) → Held l f → ((p : Plan) (K : Around) (fs : Lines) → (S : ParserState) × (in_body n p K fs f ≡ to S)) →
        fault room d L n hs f ≡ Some k → Refuses room hs d L n i us k i
    unfolding brackets level functions_of
    refuses_fault f k a b c =
        record { stops = λ p K fs st. broken room (body p K fs) (b p K fs).0 n i k f z a (b p K fs).1 (rw (st.known, st.opened, st.floor) c) }

    -- A loop whose body is refused.
    pub refuses_loop : (k : Bool) (b c v : ℕ) {r : Refusal} {x : ℕ} → Held l (Loop k b c v) → fault room d L n hs (Loop k b c v) ≡ None →
        Refuses room hs (d + 1) (L + 1) (n + 1) (i + 1) ks r x → Refuses room hs d L n i us r x
    refuses_loop k b c v a e q =
        record { stops = λ p K fs st. loop_opens room n i z p K fs st k b c v a e ∙ q.stops p (in_loop (block n k c v) b fs K) close (in_loop_stands p K (block n k c v) b fs st) }

    module _ (k : Bool) (c v : ℕ) (a : Held l (If k c v)) (e : fault room d L n hs (If k c v) ≡ None) where
      -- An if whose then part does not come.
      pub refuses_no_then : Amiss Then ks → Refuses room hs d L n i us Refusal.Form (i + 1)
      refuses_no_then q = record { stops = λ p K fs st. if_opens room n i z p K fs st k c v a e ∙ awaits_then room (n + 1) (i + 1) p K (block n k c v) fs ks q }

      module _ {l₁ : List ℕ} {ks₁ : List (List ℕ)} (z₁ : ks ≡ l₁ ∷ ks₁) (a₁ : Held l₁ Then) where
        -- `(then` as the 65th open bracket.
        pub refuses_deep_then : 64 ≤ d + 1 → Refuses room hs d L n i us Refusal.Depth (i + 1)
        unfolding brackets level functions_of
        refuses_deep_then o =
            record {
              stops = λ p K fs st.
                  if_opens room n i z p K fs st k c v a e
                  ∙ broken room (await_then p K (block n k c v) fs) (body p (in_then (block n k c v) fs K) close) (n + 1) (i + 1) Refusal.Depth Then z₁ a₁ refl
                  (unfold fault in rw (st.opened, le-ltb (d + 1) 64 o));
            }

        module _ (o : d + 1 < 64) where
          -- An if whose then part is refused.
          pub refuses_then : {r : Refusal} {x : ℕ} → Refuses room hs (d + 2) L (n + 1) (i + 1 + 1) ks₁ r x → Refuses room hs d L n i us r x
          refuses_then q =
              record { stops = λ p K fs st. then_opens room n i z p K fs st k c v a e o z₁ a₁ ∙ q.stops p (in_then (block n k c v) fs K) close (in_then_stands p K (block n k c v) fs st) }

          module _ {m₁ j₁ h₁ : ℕ} {rs₁ : List ℕ} {us₂ : List (List ℕ)} (got₁ : Enclosed room hs (d + 2) L (n + 1) (i + 1 + 1) ks₁ m₁ j₁ h₁ rs₁ us₂) where
            -- An if whose else part does not come.
            pub refuses_no_else : Amiss Else us₂ → Refuses room hs d L n i us Refusal.Form j₁
            refuses_no_else q =
                record { stops = λ p K fs st. then_closes room n i z p K fs st k c v a e o z₁ a₁ got₁ ∙ awaits_else room m₁ j₁ p K (block n k c v) got₁.forms fs us₂ q }

            module _ {l₂ : List ℕ} {ks₂ : List (List ℕ)} (z₂ : us₂ ≡ l₂ ∷ ks₂) (a₂ : Held l₂ Else) where
              -- An if whose else part is refused.
              pub refuses_else : {r : Refusal} {x : ℕ} → Refuses room hs (d + 2) L m₁ (j₁ + 1) ks₂ r x → Refuses room hs d L n i us r x
              refuses_else q =
                  record {
                    stops = λ p K fs st.
                        else_opens room n i z p K fs st k c v a e o z₁ a₁ got₁ z₂ a₂
                        ∙ q.stops p (in_else (block n k c v) got₁.forms fs K) close (in_else_stands p K (block n k c v) got₁.forms fs st);
                  }

              -- An if that is not closed behind its else part.
              pub refuses_no_close : {m₂ j₂ h₂ : ℕ} {rs₂ : List ℕ} {us₃ : List (List ℕ)} → Enclosed room hs (d + 2) L m₁ (j₁ + 1) ks₂ m₂ j₂ h₂ rs₂ us₃ → Amiss Close us₃ →
                  Refuses room hs d L n i us Refusal.Form j₂
              refuses_no_close {m₂} {j₂} {us₃ = us₃} got₂ q =
                  record {
                    stops = λ p K fs st.
                        else_closes room n i z p K fs st k c v a e o z₁ a₁ got₁ z₂ a₂ got₂
                        ∙ awaits_close room m₂ j₂ p K (block n k c v) got₁.forms got₂.forms fs us₃ q;
                  }

-- BEFORE THE TASK the text ends: it is empty.
pub start_end : (room : ℕ) {us : List (List ℕ)} → us ≡ [] → run room start 0 1 us ≡ refused Refusal.Form 1
unfolding run
start_end room e = rw e

-- IN THE TASK

module _ {room : ℕ} {ls : List (List ℕ)} {p : Plan} {n i : ℕ} {hs rs bs : List ℕ} {us : List (List ℕ)} (g : Reading room ls p n i hs rs bs us) where
  -- The text ends in the task.
  pub task_end : us ≡ [] → run room start 0 1 ls ≡ refused Refusal.Form i
  unfolding run
  task_end e = g.same ∙ rw e

  module _ {l : List ℕ} {ks : List (List ℕ)} (z : us ≡ l ∷ ks) where
    -- A line that is no form.
    pub task_unread : line_form l ≡ no_form → run room start 0 1 ls ≡ refused Refusal.Form i
    task_unread a = g.same ∙ no_line room (task p) n i z a

    -- A form that may not stand in the task; so is its closing bracket where it holds no function.
    pub task_misplaced : (f : Form) → Held l f → in_task p f ≡ stuck → run room start 0 1 ls ≡ refused Refusal.Form i
    task_misplaced f a b = g.same ∙ misplaced room (task p) n i f z a b

    -- A 17th function.
    pub task_full : (k : Refusal) → Held l Fun → fault room 1 0 n hs Fun ≡ Some k → run room start 0 1 ls ≡ refused k i
    unfolding brackets level functions_of
    task_full k a b = g.same ∙ broken room (task p) (body p in_fun close) n i k Fun z a refl (rw g.known b)

    -- A function whose body is refused.
    pub task_fun : Held l Fun → fault room 1 0 n hs Fun ≡ None → {r : Refusal} {x : ℕ} → Refuses room hs 2 1 n (i + 1) ks r x → run room start 0 1 ls ≡ refused r x
    task_fun a b q = fun_opens g z a b ∙ q.stops p in_fun close (in_fun_stands g)

-- BEHIND THE TASK the text ends, or goes on and is refused by 2.
pub done_end : (room n i : ℕ) (p : Plan) {us : List (List ℕ)} → us ≡ [] → run room (done p) n i us ≡ plan p
unfolding run
done_end room n i p e = rw e

pub done_on : (room n i : ℕ) (p : Plan) {us : List (List ℕ)} {l : List ℕ} {ks : List (List ℕ)} → us ≡ l ∷ ks → run room (done p) n i us ≡ refused Refusal.Form i
unfolding run
done_on room n i p {us} {l} {ks} z = ap (run room (done p) n i) z ∙ here (line_form l)
  where
    here : (x : Line) → onwards (line_turn room (done p) n x) i (λ S' n'. run room S' n' (i + 1) ks) ≡ refused Refusal.Form i
    here no_form = refl
    here (form f) = refl

-- THE WHOLE TEXT: oversize first, else its lines.
pub outcome_oversize : (row : ℕ) (text : List ℕ) → 65536 < length text → outcome row text ≡ refused Refusal.Oversize 0
unfolding outcome
outcome_oversize row text h = rw (lt-leb (length text) 65536 h)

pub outcome_lines : (row : ℕ) (text : List ℕ) → length text ≤ 65536 → outcome row text ≡ run (min 512 row) start 0 1 (lines text)
unfolding outcome
outcome_lines row text h = rw (le-leb (length text) 65536 h)
