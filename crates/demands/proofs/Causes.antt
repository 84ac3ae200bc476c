-- What held the others back (02, L9): what `cause` prints of a log's last report explains what the delivered calls answered to it. The other theorems about it
-- stand in `crates/explanation/proofs/Theorems.antt`.
-- Assumes nothing.
use mathlib.Core.List.{List, [], ◌∷◌, ◌++◌}
use mathlib.Core.Logic.{inl, inr}
use mathlib.Core.Option.{some}
use mathlib.Core.Path.{◌≡◌, refl, ap, sym, ◌∙◌, subst}
use Prim.Native.Nat.{ℕ}
use Rattle.std.specs.Prelude.{Option, Some, None, flat_map}
use Rattle.model.specs.Plan.{Plan, all_leaves}
use Rattle.model.specs.Acceptance.{Accepted}
use Rattle.model.specs.Stack.{whole}
use Rattle.model.specs.declared.Call.{Call}
use Rattle.model.specs.declared.Call.TheVariants.{Report}
use Rattle.model.specs.declared.Others.{Others}
use Rattle.model.specs.declared.Refusal.{Refusal}
use Rattle.model.specs.declared.Refusal.TheVariants.{Idle}
use Rattle.model.specs.declared.Answer.{Answer}
use Rattle.model.specs.declared.Answer.TheVariants.{Refused, Decided, Closed}
use Rattle.model.specs.Calls.{Accepts}
use Rattle.model.specs.Decisions.{at_report, outlook, holds, word, late, Decision}
use Rattle.model.specs.Cause.{up_to_next, listed}
use Rattle.model.specs.Timed.{last_reading}
use Rattle.model.specs.Controller as places
use Rattle.model.specs.Controller.{idle, running, respond}
use Rattle.model.specs.Histories as histories
use Rattle.model.specs.Histories.{Reached, Since}
use Rattle.model.proofs.Links.{accepted_traceable}
use Rattle.model.proofs.Outlooks.{next_stands, stands_located, outlook_is}
use Rattle.model.proofs.Since as since
use Rattle.model.proofs.Theorems as model
use Rattle.table.specs.Table.{Table, table_of}
use Rattle.table.proofs.Theorems.{read_as_plan}
use Rattle.table.proofs.Plans.{plan_of_exactly}
use Rattle.control.specs.declared.State as control
use Rattle.control.specs.Calls.{found_at, read_state, call_on}
use Rattle.control.proofs.Alike.{Tied}
use Rattle.print.specs.Lines.{answer_line}
use Rattle.flight_log.specs.Log.{entries}
use Rattle.flight_log.specs.Pieces.{whole_log}
use Rattle.table.specs.Reading.{verdict}
use Rattle.table.specs.Lent.{table_with}
use Rattle.reader.specs.Outcome.{plan}
use lib.ListN.{length}
use Rattle.explanation.specs.declared.Asked.{Asked}
use Rattle.explanation.specs.Explanation.{NoReport, counted_line, last_line, decision_told, others_in, reply_told, report_told, asked_told, table_told, explained, explanation_on, explanation}
use Rattle.explanation.specs.Pieces.{at_start, ExplanationPrinted}
use Rattle.explanation.proofs.Theorems.{printed_is_explanation, last_report_explained, no_report_explained}
use Rattle.transcript.specs.Transcript.{Progress, next_progress, progress_after, at_first}
use Rattle.rolsipay.specs.declared.State.{State}
use Rattle.rolsipay.specs.Calling.{zeros, state_of}
use Rattle.demands.specs.Delivered.{Memory, after_read, ReadAs, delivered}
use Rattle.demands.specs.Rules.{TableOf}
use Rattle.demands.specs.Causes.{state_by_lines, AnswerExplained, Told, by_refusal, by_decision}
use Rattle.demands.proofs.Tables.{numbers_held, read_holds}
use Rattle.demands.proofs.Delivered.{as_there, StandsFor, alike}
use Rattle.demands.proofs.Reached.{reached_known}

-- The state of the controller over places that a state stands for is read off it.
read_tied : (p : Plan) (a : Accepted p) (s : control.State) (x : places.State) → Tied p a s x → read_state p s ≡ some x
read_tied p a s idle e = ap (read_state p) e
read_tied p a s (running x last others) k = ap (read_state p) k.is ∙ ap (found_at k.release) k.at.stands ∙ ap (λ y. some y) (sym k.for)

module _ (text : List ℕ) (m : Memory) (p : Plan) (h : ReadAs text m p) where
  abbrev there : Memory
  there = after_read text m

  abbrev held : TableOf p there
  held = read_holds text m p h

  abbrev t : Table
  t = table_of p

  -- The delivered calls lead to the state that the replay of the lines leads to.
  after_replay : (s : State) (x : Progress) → state_of s ≡ x.state → (es : List (Option Call)) →
      state_of (state_by_lines (delivered there) s es) ≡ (progress_after t x es).state
  unfolding state_by_lines progress_after
  after_replay s x e [] = e
  after_replay s x e (Some c ∷ es) =
      let q = as_there there s x.state c e in
      after_replay ((delivered there).respond s c).state (next_progress t x (Some c)) (q.1 ∙ ap (λ u. (call_on u x.state c).state) (numbers_held p there held)) es
  after_replay s x e (None ∷ es) = after_replay s (next_progress t x None) e es

  -- It stands for one of the controller over places.
  after_stands : (s : State) (x : places.State) → StandsFor p there held s x → (es : List (Option Call)) →
      (y : places.State) × StandsFor p there held (state_by_lines (delivered there) s es) y
  unfolding state_by_lines
  after_stands s x i [] = (x, i)
  after_stands s x i (Some c ∷ es) = after_stands ((delivered there).respond s c).state (respond p x c).state (alike p there held s x c i).1 es
  after_stands s x i (None ∷ es) = after_stands s x i es

  -- It is one that calls lead to.
  after_reached : (es : List (Option Call)) {s : State} → Reached (delivered there) s → Reached (delivered there) (state_by_lines (delivered there) s es)
  unfolding state_by_lines
  after_reached [] w = w
  after_reached (Some c ∷ es) w = after_reached es (histories.after w c)
  after_reached (None ∷ es) w = after_reached es w

  -- On a state of zeros a report is refused by 14.
  idle_refuses : (s : State) (n r : ℕ) → s ≡ zeros → ((delivered there).respond s (Report n r)).answer ≡ Refused Idle
  unfolding respond
  idle_refuses s n r e = ap (λ x. ((delivered there).respond x (Report n r)).answer) e ∙ (alike p there held zeros idle (Report n r) refl).0

  module _ (log : List ℕ) (es fs : List (Option Call)) (n r : ℕ) (lines : entries log ≡ es ++ (Some (Report n r) ∷ fs)) (q : NoReport fs) where
    abbrev s : State
    s = state_by_lines (delivered there) zeros es

    abbrev asked : Asked
    asked = record { state = state_of s; point = n; reading = r }

    told : explanation text log ≡ asked_told p asked (read_state p (state_of s))
    told =
        let (is, accepted, fits) = (read_as_plan _ text p).0 h in
        ap (λ o. explanation_on o log) ((read_as_plan 512 text p).1 (is, accepted, accepted.formed.few_leaves)) ∙
        (last_report_explained t log es fs n r lines q ∙
        (ap (λ k. explained t (Some (record { state = k; point = n; reading = r }))) (sym (after_replay zeros at_first refl es)) ∙
        ap (table_told asked) ((plan_of_exactly t p).1 (accepted, refl))))

    -- A report that is refused.
    refused : (k : Refusal) → ((delivered there).respond s (Report n r)).answer ≡ Refused k → explanation text log ≡ answer_line (Refused k)
    refused k e =
        let (x, i) = after_stands zeros idle refl es in
        let a : (respond p x (Report n r)).answer ≡ Refused k = sym (alike p there held s x (Report n r) i).0 ∙ e in
        told ∙ (ap (asked_told p asked) (read_tied p held.accepted (state_of s) x i) ∙ ap (λ y. reply_told p (others_in x) (respond p x (Report n r)).state y) a)

    -- A report that is accepted, in a state after a history.
    module _ {others : Others} {u : List ℕ} {ds : List Decision} (w : Since (delivered there) s others u ds) where
      explains : Accepts ((delivered there).respond s (Report n r)).answer →
          AnswerExplained p (u ++ (n ∷ [])) r others ((delivered there).respond s (Report n r)).answer (explanation text log)
      explains a =
          let f = accepted_traceable p held.accepted in
          let (x, i, k) = since.since_state p f (delivered there) (StandsFor p there held) refl (alike p there held) w in
          let e : ((delivered there).respond s (Report n r)).answer ≡ (respond p (running k.place (last_reading ds) others) (Report n r)).answer =
          (alike p there held s x (Report n r) i).0 ∙ ap (λ y. (respond p y (Report n r)).answer) k.state in
          let g = since.report_found p k.place (last_reading ds) others n r (subst Accepts e a) in
          let y = at_report n g.levels in
          let st = next_stands p k.place u n g.levels k.stands g.next in
          let l = stands_located p n g.levels (u ++ (n ∷ [])) st in
          let (c, d) = model.cause_found p held.accepted (u ++ (n ∷ [])) (whole g.levels) l in
          let v = model.visit_stretch_is_largest p held.accepted (u ++ (n ∷ [])) (whole g.levels) l in
          let j : explanation text log ≡ decision_told p n g.levels r others =
          told ∙ (ap (asked_told p asked) (read_tied p held.accepted (state_of s) x i) ∙
          (ap (λ z. report_told p z n r) k.state ∙ ap (λ z. reply_told p others z.state z.answer) g.reply)) in
          record {
            cause = c;
            outlook = outlook p y;
            outlook_is = outlook_is p f y (u ++ (n ∷ [])) st;
            leaves = listed (all_leaves p.functions) (up_to_next c.run);
            leaves_are = refl;
            text_is = j ∙ ap (λ z. flat_map counted_line (listed (all_leaves p.functions) z) ++ last_line p (outlook p y) r others) (sym d);
            adds_up = model.cause_adds_up p held.accepted (u ++ (n ∷ [])) (outlook p y).stretch v c;
            word = _;
            answer_is = e ∙ (ap (λ z. z.answer) g.reply ∙
                ap (λ z. Decided (word (holds p (outlook p y) r others) others) (outlook p y).remaining z (late p r))
                (model.cause_leaves_margin p held.accepted (u ++ (n ∷ [])) (outlook p y) v c r others));
          }

    -- Every state that the calls lead to is known, and on a fresh one a report is refused.
    known : Told p (delivered there) s n r (explanation text log)
    known =
        elim (reached_known p there held (after_reached es histories.at_first)) [
          | inl e ↦ by_refusal Idle (idle_refuses s n r e) (refused Idle (idle_refuses s n r e))
          | inr (others, u, ds, w) ↦ by others u ds w ((delivered there).respond s (Report n r)).answer refl
        ]
      where
        by : (others : Others) (u : List ℕ) (ds : List Decision) → Since (delivered there) s others u ds → (a : Answer) →
            ((delivered there).respond s (Report n r)).answer ≡ a → Told p (delivered there) s n r (explanation text log)
        by others u ds w (Refused k) e = by_refusal k e (refused k e)
        by others u ds w (Decided i m g b) e = by_decision others u ds w (explains w (subst Accepts (sym e) tt))
        by others u ds w (Closed i b) e = by_decision others u ds w (explains w (subst Accepts (sym e) tt))

-- WHAT IS PRINTED

-- Consider a text that is read as a plan into lent memory of 512 records, and a log in pieces of at most 4,096 bytes, however it was cut. What is printed is
-- what `start`, `follow` for each piece and `explain` give on that memory.
module _ (text : List ℕ) (m : Memory) (p : Plan) (room : length m.row ≡ 512) (h : ReadAs text m p) (pieces : List (List ℕ)) (out : List ℕ)
    (printed : ExplanationPrinted (table_with (after_read text m).row (after_read text m).head) at_start pieces out) where
  plan_read : verdict 512 text ≡ plan p
  plan_read = rw room at h

  printed_is : out ≡ explanation text (whole_log pieces)
  printed_is = printed_is_explanation text p plan_read m.row m.head room pieces out (rw room at printed)

  -- Where the log has a line that says a report of the point n at the reading r, and no line behind it says one: let the calls that the lines before it say be
  -- made on that memory, one after the other, from a state of zeros. The refusal of this report on the state that they lead to is printed, if it is refused;
  -- and if it is accepted, what is printed explains the answer.
  pub last_report_told : (before later : List (Option Call)) (n r : ℕ) → entries (whole_log pieces) ≡ before ++ (Some (Report n r) ∷ later) → NoReport later →
      Told p (delivered (after_read text m)) (state_by_lines (delivered (after_read text m)) zeros before) n r out
  last_report_told before later n r lines q =
      subst (Told p (delivered (after_read text m)) (state_by_lines (delivered (after_read text m)) zeros before) n r) (sym printed_is)
      (known text m p h (whole_log pieces) before later n r lines q)

  -- Where no line of the log says a report nothing is printed.
  pub nothing_told : NoReport (entries (whole_log pieces)) → out ≡ []
  nothing_told q = printed_is ∙ (ap (λ o. explanation_on o (whole_log pieces)) plan_read ∙ no_report_explained (table_of p) (whole_log pieces) q)
