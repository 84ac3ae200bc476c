-- Demand 2 on the table of an accepted plan in lent memory: that the state is that of its history, which calls are accepted behind it, and what they answer.
use mathlib.Core.Bool.{Bool, true, false, ◌&&◌}
use mathlib.Core.List.{List, [], ◌∷◌, ◌++◌}
use mathlib.Core.Logic.{◌↔◌}
use mathlib.Core.Path.{◌≡◌, refl, ap, sym, ◌∙◌, subst}
use Prim.Native.Nat.{ℕ, ◌+◌, ◌≤◌}
use native.Mathlib.Omega.{arith}
use lib.Dec.{leb, ltb}
use lib.IntN.{sub_ℕ}
use Rattle.model.specs.declared.Edition.{Edition}
use Rattle.model.specs.declared.Edition.TheVariants.{First, Second}
use Rattle.model.specs.Plan.{Plan}
use Rattle.model.specs.Forms.{main}
use Rattle.model.specs.Remaining.{Reported, Complete}
use Rattle.model.specs.Places.{pick, Traceable}
use Rattle.model.specs.declared.Refusal.{Refusal}
use Rattle.model.specs.declared.Refusal.TheVariants.{Backward, Astray}
use Rattle.model.specs.declared.Call.{Call}
use Rattle.model.specs.declared.Call.TheVariants.{Release, Report, End}
use Rattle.model.specs.declared.Answer.{Answer}
use Rattle.model.specs.declared.Answer.TheVariants.{Decided, Closed}
use Rattle.model.specs.declared.Outlook.{Outlook}
use Rattle.model.specs.declared.Others.{Others}
use Rattle.model.specs.declared.Others.TheVariants.{Running, Suspended}
use Rattle.model.specs.Calls.{Accepts, Reply, refuse}
use Rattle.model.specs.Decisions.{Place, at_release, at_report, OutlookAt, outlook, reserve, need, may_return, holds, held, margin, word, late, decide, Decision, RuleAt, ConditionAtEach, MayRunBy, MayRunBy, MayRunBy, MayRun, Fit}
use Rattle.model.specs.Timed.{PointOf, last_reading}
use Rattle.model.specs.Controller as places
use Rattle.model.specs.Controller.{idle, running, can_close, ending, respond}
use Rattle.model.specs.Histories.{Since}
use Rattle.model.proofs.Links.{accepted_traceable}
use Rattle.model.proofs.Outlooks.{next_stands, outlook_is}
use Rattle.model.proofs.Decisions.{holds_exactly}
use Rattle.model.proofs.Permitted.{may_run_first}
use Rattle.model.proofs.Theorems as model
use Rattle.model.proofs.Since as since
use Rattle.model.proofs.Since.{StateOf}
use Rattle.control.specs.declared.OpenRelease.{OpenRelease}
use Rattle.control.specs.declared.State.TheVariants.{Open}
use Rattle.control.specs.Calls.{in_numbers, reply, call_on}
use Rattle.control.specs.Meaning.{HistoryState}
use Rattle.control.proofs.Theorems as control
use Rattle.control.proofs.Alike.{on_tied}
use Rattle.rolsipay.specs.declared.State.{State}
use Rattle.rolsipay.specs.Calling.{zeros, state_of, lent}
use Rattle.demands.specs.Decisions.{WordedInFirst, goes, suspends, stays, WordedInSecond, goes_by_condition, suspends_by_condition, resumes_by_return, stays_by_return, WordedBy, Worded, Decides, DecidesAsBefore, ClosesBy, Closes, ClosesAsBefore, resumes, just_ends}
use Rattle.demands.specs.Delivered.{Memory, delivered}
use Rattle.demands.specs.Rules.{TableOf}
use Rattle.demands.proofs.Tests.{failed}
use Rattle.demands.proofs.Tables.{numbers_held}
use Rattle.demands.proofs.Delivered.{answer_held, accepted_leaves, StandsFor, alike}

-- THE WORD OF A DECISION

-- What holds exactly where the others run does not hold where they are suspended.
not_where_suspended : {A : Type 0} → (Suspended ≡ Running) ↔ A → ¬ A
not_where_suspended w a = let e = w.1 a in let z : ◌≡◌ {A = ℕ} 0 1 = cc in omega arith

-- The test of the rule, for what the others did before.
rule_test : (p : Plan) (d : Decision) (o : Outlook) → OutlookAt p d.history o → (others : Others) → (holds p o d.reading others ≡ true) ↔ RuleAt p others d
rule_test p d o x others = let (i, j) = holds_exactly p d o others x in (j, i)

-- In edition 1 the word goes by what the others do, and where they run by the test of the condition.
word_in_first : (p : Plan) → p.edition ≡ First → (before : List Decision) (d : Decision) (o : Outlook) → OutlookAt p d.history o → (others : Others) →
    (others ≡ Running) ↔ ConditionAtEach p before → WordedInFirst p before d (word (holds p o d.reading others) others)
word_in_first p e before d o x Suspended w =
    let f : holds p o d.reading Suspended ≡ false = ap (λ i. may_return i && leb (need p o Suspended + d.reading) p.deadline) e in
    subst (λ h. WordedInFirst p before d (word h Suspended)) (sym f) (stays (not_where_suspended w))
word_in_first p e before d o x Running w = by (holds p o d.reading Running) refl
  where
    by : (h : Bool) → holds p o d.reading Running ≡ h → WordedInFirst p before d (word h Running)
    by true i = goes (w.0 refl) ((rule_test p d o x Running).0 i)
    by false i = suspends (w.0 refl) (failed _ (rule_test p d o x Running) i)

-- In edition 2 it goes by what they did before, and by the test of the rule for that.
word_in_second : (p : Plan) (d : Decision) (o : Outlook) → OutlookAt p d.history o → (others : Others) → d.others ≡ others →
    WordedInSecond p d (word (holds p o d.reading others) others)
word_in_second p d o x Running e = by (holds p o d.reading Running) refl
  where
    by : (h : Bool) → holds p o d.reading Running ≡ h → WordedInSecond p d (word h Running)
    by true i = goes_by_condition e ((rule_test p d o x Running).0 i)
    by false i = suspends_by_condition e (failed _ (rule_test p d o x Running) i)
word_in_second p d o x Suspended e = by (holds p o d.reading Suspended) refl
  where
    by : (h : Bool) → holds p o d.reading Suspended ≡ h → WordedInSecond p d (word h Suspended)
    by true i = resumes_by_return e ((rule_test p d o x Suspended).0 i)
    by false i = stays_by_return e (failed _ (rule_test p d o x Suspended) i)

word_said : (p : Plan) (before : List Decision) (d : Decision) (o : Outlook) → OutlookAt p d.history o → (d.others ≡ Running) ↔ MayRun p before →
    Worded p before d (word (holds p o d.reading d.others) d.others)
word_said p before d o x w = by p.edition refl w
  where
    by : (e : Edition) → p.edition ≡ e → (d.others ≡ Running) ↔ MayRunBy e p before → WordedBy e p before d (word (holds p o d.reading d.others) d.others)
    by First i w = word_in_first p i before d o x d.others w
    by (Second u) i w = word_in_second p d o x d.others refl

decides : (p : Plan) (before : List Decision) (d : Decision) (o : Outlook) → OutlookAt p d.history o → (d.others ≡ Running) ↔ MayRun p before →
    Decides p before d (decide p o d.reading d.others)
decides p before d o x w = record { word = _; outlook = o; worded = word_said p before d o x w; outlook_is = x; answer_is = refl }

-- In edition 1 the margin has no U.
margin_in_first : (p : Plan) → p.edition ≡ First → (o : Outlook) (t : ℕ) (others : Others) →
    margin p o t others ≡ held (sub_ℕ p.deadline (reserve p o + o.stretch + t))
margin_in_first p e o t Running = let i = (model.two_numbers_as_before p e o t).0 in cc
margin_in_first p e o t Suspended = let i = (model.two_numbers_as_before p e o t).1 in cc

-- So what is decided is what was decided before there were editions.
as_before : (p : Plan) → p.edition ≡ First → (before : List Decision) (d : Decision) (a : Answer) → Decides p before d a → DecidesAsBefore p before d a
as_before p e before d a x =
    record {
      word = x.word;
      outlook = x.outlook;
      worded = subst (λ i. WordedBy i p before d x.word) e x.worded;
      outlook_is = x.outlook_is;
      answer_is = x.answer_is ∙ ap (λ m. Decided x.word x.outlook.remaining m (late p d.reading)) (margin_in_first p e x.outlook d.reading d.others);
    }

-- An end answers by what the others do.
closed_said : (p : Plan) (ds : List Decision) (r : ℕ) (others : Others) → (others ≡ Running) ↔ MayRun p ds →
    Closes p ds r (record { state = zeros; answer = Closed (ending others) (late p r) })
closed_said p ds r Suspended w = resumes (not_where_suspended w)
closed_said p ds r Running w = just_ends (w.0 refl)

-- The reply of an accepted end.
end_reply : (p : Plan) (x : Place) (last : ℕ) (others : Others) (r : ℕ) → Accepts (respond p (running x last others) (End r)).answer →
    respond p (running x last others) (End r) ≡ record { state = idle; answer = Closed (ending others) (late p r) }
unfolding respond
end_reply p x last others r q = by (ltb r last) (can_close p x) q
  where
    closes : Reply places.State
    closes = record { state = idle; answer = Closed (ending others) (late p r) }

    kept : Refusal → Reply places.State
    kept k = refuse (running x last others) k

    by : (i j : Bool) → Accepts (pick i (kept Backward) (pick j closes (kept Astray))).answer → pick i (kept Backward) (pick j closes (kept Astray)) ≡ closes
    by true j q = absurd q
    by false true q = refl
    by false false q = absurd q

-- No release is accepted while one is open.
busy : (p : Plan) (x : Place) (last : ℕ) (others : Others) → ¬ Accepts (respond p (running x last others) Release).answer
unfolding respond
busy p x last others q = q

module _ (p : Plan) (m : Memory) (o : TableOf p m) where
  abbrev t : Traceable (main p)
  t = accepted_traceable p o.accepted

  -- The answer of a delivered call.
  abbrev answer : State → Call → Answer
  answer s c = ((delivered m).respond s c).answer

  -- The state after a history stands for that of the history.
  since_state : {s : State} {others : Others} {h : List ℕ} {ds : List Decision} → Since (delivered m) s others h ds →
      (x : places.State) × StandsFor p m o s x × StateOf p t x others h ds
  since_state w = since.since_state p t (delivered m) (StandsFor p m o) refl (alike p m o) w

  -- So it is an open release of its history.
  pub history_state : {s : State} {others : Others} {n : ℕ} {h : List ℕ} {ds : List Decision} → Since (delivered m) s others (n ∷ h) ds →
      (o : OpenRelease) × (state_of s ≡ Open o) × HistoryState p o (n ∷ h)
  history_state {s} {others} {n} {h} {ds} w = let (x, i, k) = since_state w in control.state_is_of_history p o.accepted (state_of s) x others n h ds i k

  -- The release.
  released : answer zeros Release ≡ (respond p idle Release).answer
  released = (alike p m o zeros idle Release refl).0

  pub release_exactly : Accepts (answer zeros Release) ↔ Fit p
  release_exactly = subst (λ a. Accepts a ↔ Fit p) (sym released) (since.release_exactly p)

  abbrev first : Decision
  first = record { history = []; reading = 0; others = Running }

  pub release_decided : Accepts (answer zeros Release) → Decides p [] first (answer zeros Release)
  release_decided q =
      let d = since.release_decided p (subst Accepts released q) in
      subst (Decides p [] first) (sym (released ∙ ap (λ y. y.answer) d))
      (decides p [] first (outlook p at_release) (outlook_is p t at_release [] refl) ((λ i. may_run_first p), λ u. refl))

  pub release_as_before : p.edition ≡ First → Accepts (answer zeros Release) → DecidesAsBefore p [] first (answer zeros Release)
  release_as_before e q = as_before p e [] first (answer zeros Release) (release_decided q)

  module _ {s : State} {others : Others} {h : List ℕ} {ds : List Decision} (w : Since (delivered m) s others h ds) where
    -- The others run behind the history exactly where they may.
    pub others_told : (others ≡ Running) ↔ MayRun p ds
    others_told = (since_state w).2.right

    -- The answer of a call is that at the place of the history.
    answered : (c : Call) (k : (x : places.State) × StandsFor p m o s x × StateOf p t x others h ds) →
        answer s c ≡ (respond p (running k.2.place (last_reading ds) others) c).answer
    answered c (x, i, k) = (alike p m o s x c i).0 ∙ ap (λ y. (respond p y c).answer) k.state

    -- A report.
    pub report_exactly : (n r : ℕ) → Accepts (answer s (Report n r)) ↔ (PointOf p n × (last_reading ds ≤ r) × Reported (main p) (h ++ (n ∷ [])))
    report_exactly n r =
        let k = since_state w in
        subst (λ a. Accepts a ↔ (PointOf p n × (last_reading ds ≤ r) × Reported (main p) (h ++ (n ∷ [])))) (sym (answered (Report n r) k))
        (since.report_exactly p t k.2.place h k.2.stands (last_reading ds) others n r)

    abbrev next : ℕ → ℕ → Decision
    next n r = record { history = h ++ (n ∷ []); reading = r; others = others }

    pub report_decided : (n r : ℕ) → Accepts (answer s (Report n r)) → Decides p ds (next n r) (answer s (Report n r))
    report_decided n r q =
        let k = since_state w in
        let e = answered (Report n r) k in
        let f = since.report_found p k.2.place (last_reading ds) others n r (subst Accepts e q) in
        let y = at_report n f.levels in
        let st = next_stands p k.2.place h n f.levels k.2.stands f.next in
        subst (Decides p ds (next n r)) (sym (e ∙ ap (λ z. z.answer) f.reply))
        (decides p ds (next n r) (outlook p y) (outlook_is p t y (h ++ (n ∷ [])) st) k.2.right)

    pub report_as_before : p.edition ≡ First → (n r : ℕ) → Accepts (answer s (Report n r)) → DecidesAsBefore p ds (next n r) (answer s (Report n r))
    report_as_before e n r q = as_before p e ds (next n r) (answer s (Report n r)) (report_decided n r q)

    -- The end.
    pub end_exactly : (r : ℕ) → Accepts (answer s (End r)) ↔ ((last_reading ds ≤ r) × Complete (main p) h)
    end_exactly r =
        let k = since_state w in
        subst (λ a. Accepts a ↔ ((last_reading ds ≤ r) × Complete (main p) h)) (sym (answered (End r) k))
        (since.end_exactly p t k.2.place h k.2.stands (last_reading ds) others r)

    -- What an accepted end leaves, and its reply.
    left_fresh : (r : ℕ) (k : (x : places.State) × StandsFor p m o s x × StateOf p t x others h ds) → Accepts (answer s (End r)) → ((delivered m).respond s (End r)).state ≡ zeros
    left_fresh r (x, i, k) q =
        let e = end_reply p k.place (last_reading ds) others r (subst Accepts (answered (End r) (x, i, k)) q) in
        let c = ap (λ u. call_on u (state_of s) (End r)) (numbers_held p m o) ∙ (on_tied p o.accepted (state_of s) x (End r) i ∙ ap (λ y. reply p (state_of s) y (End r)) k.state) in
        accepted_leaves m s (End r) (subst Accepts (answer_held m s (End r)) q) ∙ (ap (λ y. lent y.state) c ∙ ap (λ y. lent (in_numbers p (state_of s) y).state) e)

    pub end_closes : (r : ℕ) → Accepts (answer s (End r)) → Closes p ds r ((delivered m).respond s (End r))
    end_closes r q =
        let k = since_state w in
        let e = answered (End r) k in
        let i = end_reply p k.2.place (last_reading ds) others r (subst Accepts e q) in
        let l = left_fresh r k q in
        let j = e ∙ ap (λ y. y.answer) i in
        subst (Closes p ds r) (λ z. record { state = sym l z; answer = sym j z }) (closed_said p ds r others k.2.right)

    pub end_as_before : p.edition ≡ First → (r : ℕ) → Accepts (answer s (End r)) → ClosesAsBefore p ds r ((delivered m).respond s (End r))
    end_as_before e r q = subst (λ i. ClosesBy (MayRunBy i p ds) p r ((delivered m).respond s (End r))) e (end_closes r q)

    -- No release is accepted while one is open.
    pub none_released : ¬ Accepts (answer s Release)
    none_released q = let k = since_state w in busy p k.2.place (last_reading ds) others (subst Accepts (answered Release k) q)
