-- A report that is asked of a state, on lent memory: its refusal, or the release that its decision leaves open, and what is printed of it. Assumes nothing.
use mathlib.Core.Bool.{Bool, true, false}
use mathlib.Core.List.{List, [], ◌∷◌}
use mathlib.Core.Option.{Option, none, some}
use mathlib.Core.Path.{◌≡◌, refl, ap, sym, ◌∙◌, subst}
use Prim.Native.Nat.{ℕ, ◌≤◌}
use native.Mathlib.Omega.{arith}
use lib.Dec.{ltb}
use lib.ListN.{length}
use Rattle.std.specs.Prelude as prelude
use Rattle.std.specs.Prelude.{Some}
use Rattle.model.specs.declared.Refusal.{Refusal}
use Rattle.model.specs.declared.Refusal.TheVariants.{Broken, Stranger, Backward, Astray}
use Rattle.model.specs.declared.Refusal.TheVariants as refusals
use Rattle.model.specs.declared.Call.{Call}
use Rattle.model.specs.declared.Call.TheVariants.{Report}
use Rattle.model.specs.declared.Answer.TheVariants.{Refused}
use Rattle.model.specs.declared.Others.{Others}
use Rattle.model.specs.Calls.{Reply, refuse}
use Rattle.model.specs.Plan.{Plan, all_leaves}
use Rattle.model.specs.Acceptance.{Accepted}
use Rattle.model.specs.Stack.{Levels}
use Rattle.model.specs.Decisions.{at_report}
use Rattle.model.specs.Controller as places
use Rattle.model.specs.Controller.{running, idle, is_point, next_levels, decided, respond}
use Rattle.rows.specs.declared.Leaf.{Leaf}
use Rattle.table.specs.declared.Head.{Head}
use Rattle.table.specs.Table.{Table, table_of, plan_of}
use Rattle.table.specs.Lent.{table_with}
use Rattle.table.proofs.Plans.{plan_of_exactly}
use Rattle.control.specs.declared.OpenRelease.{OpenRelease}
use Rattle.control.specs.declared.State.{State}
use Rattle.control.specs.declared.State.TheVariants.{Idle, Open}
use Rattle.control.specs.declared.Step.{Step}
use Rattle.control.specs.State.{standing}
use Rattle.control.specs.Calls.{running_at, found_at, read_state, on_state, on_plan, call_on, as_step}
use Rattle.control.proofs.Alike.{OpenAt, Tied, alike}
use Rattle.control.proofs.Judging.{stands_depth}
use Rattle.print.specs.Lines.{answer_line}
use Rattle.print.specs.Printed.{PrintedWithin}
use Rattle.explanation.specs.declared.Asked.{Asked}
use Rattle.explanation.specs.Explanation.{others_in, decision_told, reply_told, report_told, asked_told, table_told, explained}
use Rattle.explanation.specs.Pieces.{Explains}
use Rattle.explanation.specs.Private.{others_before, decides, GoodAtPoint}

-- What was written fits.
pub explains : {t : Table} {a : prelude.Option Asked} {old new : List ℕ} {n : ℕ} → PrintedWithin 21588 old 0 (explained t a) new n → Explains old t a new n
explains p = record { told = p; fits = omega (arith, p.printed.after, p.short) }

-- BY THE CONTROLLER OVER PLACES

-- A report is refused, and leaves the state; or it comes to levels, and is decided there.
data Reached (p : Plan) (x : places.State) (n e : ℕ) : Type 0 where
  refused : (k : Refusal) → respond p x (Report n e) ≡ refuse x k → Reached p x n e
  comes : (ls : Levels) → respond p x (Report n e) ≡ decided p (at_report n ls) e (others_in x) → Reached p x n e

reached_by : (p : Plan) (x : places.State) (n e : ℕ) → Reached p x n e
unfolding respond
reached_by p idle n e = refused refusals.Idle refl
reached_by p (running y last others) n e = by (is_point (all_leaves p.functions) n) (ltb e last) (next_levels p y n) refl refl refl
  where
    by : (b d : Bool) (o : Option Levels) → is_point (all_leaves p.functions) n ≡ b → ltb e last ≡ d → next_levels p y n ≡ o →
        Reached p (running y last others) n e
    by false d o i j k = refused Stranger (rw i refl)
    by true true o i j k = refused Backward (rw (i, j) refl)
    by true false none i j k = refused Astray (rw (i, j, k) refl)
    by true false (some ls) i j k = comes ls (rw (i, j, k) refl)

-- Where no release is open it is refused.
idle_refused : (p : Plan) (n e : ℕ) → respond p idle (Report n e) ≡ refuse idle refusals.Idle
unfolding respond
idle_refused p n e = refl

-- ON LENT MEMORY

module _ (row : List Leaf) (h : Head) (a : Asked) where
  abbrev t : Table
  t = table_with row h

  -- What is printed of a report with this reply.
  pub data Explained (r : Reply State) : Type 0 where
    refused_told : (k : Refusal) → r.answer ≡ Refused k → explained (table_with row h) (Some a) ≡ answer_line (Refused k) → Explained r
    decision_of : (o : OpenRelease) (q : GoodAtPoint row h o) → r.state ≡ Open o → decides r.answer ≡ true →
        explained (table_with row h) (Some a) ≡ decision_told q.plan a.point q.levels o.reading (others_before a.state) → Explained r

  abbrev asks : Call
  asks = Report a.point a.reading

  -- On a table of no plan.
  on_none : plan_of (table_with row h) ≡ none → Explained (call_on (table_with row h) a.state asks)
  unfolding call_on
  on_none e = refused_told Broken (ap (λ o. (on_plan a.state asks o).answer) e) (ap (table_told a) e)

  module _ (p : Plan) (ok : Accepted p) (is : table_with row h ≡ table_of p) (found : plan_of (table_with row h) ≡ some p) where
    there : {x : Option places.State} → read_state p a.state ≡ x → call_on (table_with row h) a.state asks ≡ on_state p a.state asks x
    unfolding call_on
    there e = ap (on_plan a.state asks) found ∙ ap (on_state p a.state asks) e

    told : {x : Option places.State} → read_state p a.state ≡ x → explained (table_with row h) (Some a) ≡ asked_told p a x
    told e = ap (table_told a) found ∙ ap (asked_told p a) e

    -- In a state that stands nowhere.
    on_broken : read_state p a.state ≡ none → Explained (call_on (table_with row h) a.state asks)
    on_broken e = refused_told Broken (ap (λ r. r.answer) (there e)) (told e)

    -- In one that stands for x, where the report is refused.
    on_refused : (x : places.State) → read_state p a.state ≡ some x → (k : Refusal) → respond p x asks ≡ refuse x k →
        Explained (call_on (table_with row h) a.state asks)
    on_refused x e k i =
        refused_told k (ap (λ r. r.answer) (there e) ∙ ap (λ r. r.answer) i) (told e ∙ ap (λ r. reply_told p (others_in x) r.state r.answer) i)

    -- Where it is decided, the release that is left open stands at its levels.
    same_levels : (n e : ℕ) (others : Others) (new ls : Levels) (o : OpenRelease) → running (at_report n new) e others ≡ running_at o ls →
        (new ≡ ls) × (e ≡ o.reading) × (1 ≤ length ls)
    same_levels n e others new [] o z = absurd cc
    same_levels n e others new (g ∷ ks) o z = (cc, cc, omega arith)

    module _ (o : OpenRelease) (s : a.state ≡ Open o) (ls : Levels) (at : standing p o ≡ some ls) (l : length o.place.leaves ≡ 33)
        (v : length o.place.earlier ≡ 33) where
      reads : read_state p a.state ≡ some (running_at o ls)
      reads = ap (read_state p) s ∙ ap (found_at o) at

      tied : Tied p ok a.state (running_at o ls)
      tied = record { release = o; levels = ls; is = s; at = record { stands = at; leaves_33 = l; earlier_33 = v }; for = refl }

      on_decided : (new : Levels) → respond p (running_at o ls) asks ≡ decided p (at_report a.point new) a.reading o.others →
          Explained (call_on (table_with row h) a.state asks)
      on_decided new i =
          let (y, w) = alike p ok a.state (running_at o ls) asks tied in
          let k : OpenAt p ok (call_on (table_of p) a.state asks).state (decided p (at_report a.point new) a.reading o.others).state = rw i at w in
          let (e, f, one) = same_levels a.point a.reading _ new k.levels k.release k.for in
          decision_of k.release
          (record {
            plan = p;
            accepted = ok;
            table_is = is;
            levels = k.levels;
            stands = k.at.stands;
            at_point = omega (arith, one, stands_depth p ok k.release k.levels k.at.stands);
          })
          (ap (λ x. (call_on x a.state asks).state) is ∙ k.is)
          (ap (λ r. decides r.answer) (there reads) ∙ ap (λ r. decides r.answer) i)
          (
          told reads ∙ (
          ap (λ r. reply_told p o.others r.state r.answer) i ∙ (
          ap (λ x. decision_told p a.point x a.reading o.others) e ∙ (
          ap (λ x. decision_told p a.point k.levels x o.others) f ∙
          ap (λ x. decision_told p a.point k.levels k.release.reading (others_before x)) (sym s))))
          )

  -- Of each report.
  pub report_explained : ((o : OpenRelease) → a.state ≡ Open o → length o.place.leaves ≡ 33) →
      ((o : OpenRelease) → a.state ≡ Open o → length o.place.earlier ≡ 33) → Explained (call_on (table_with row h) a.state asks)
  report_explained l v = by (plan_of (table_with row h)) refl
    where
      standing_at : (p : Plan) → Accepted p → table_with row h ≡ table_of p → plan_of (table_with row h) ≡ some p → (o : OpenRelease) → a.state ≡ Open o →
          (q : Option Levels) → standing p o ≡ q → Explained (call_on (table_with row h) a.state asks)
      standing_at p ok is found o s none e = on_broken p ok is found (ap (read_state p) s ∙ ap (found_at o) e)
      standing_at p ok is found o s (some ls) e =
          elim (reached_by p (running_at o ls) a.point a.reading) [
            | refused k i ↦ on_refused p ok is found (running_at o ls) (reads p ok is found o s ls e (l o s) (v o s)) k i
            | comes new i ↦ on_decided p ok is found o s ls e (l o s) (v o s) new i
          ]

      in_state : (p : Plan) → Accepted p → table_with row h ≡ table_of p → plan_of (table_with row h) ≡ some p → (s : State) → a.state ≡ s →
          Explained (call_on (table_with row h) a.state asks)
      in_state p ok is found Idle e = on_refused p ok is found idle (ap (read_state p) e) refusals.Idle (idle_refused p a.point a.reading)
      in_state p ok is found (Open o) e = standing_at p ok is found o e (standing p o) refl

      by : (o : Option Plan) → plan_of (table_with row h) ≡ o → Explained (call_on (table_with row h) a.state asks)
      by none e = on_none e
      by (some p) e = let (ok, is) = (plan_of_exactly (table_with row h) p).0 e in in_state p ok is e a.state refl

  -- BY WHAT THE CALL GIVES

  -- A release at its report, of which this is printed.
  pub record DecisionOf (o : OpenRelease) : Type 0 where
    pub here : GoodAtPoint row h o
    pub is_told : explained (table_with row h) (Some a) ≡ decision_told here.plan a.point here.levels o.reading (others_before a.state)

  module _ {r : Reply State} (x : Explained r) {s : Step} (i : s ≡ as_step r) where
    -- Unless a decision is answered, the answer is printed.
    pub answer_told : decides s.answer ≡ false → explained (table_with row h) (Some a) ≡ answer_line s.answer
    answer_told d =
        elim x [
          | refused_told k e t ↦ t ∙ ap answer_line (sym e ∙ ap (λ y. y.answer) (sym i))
          | decision_of o q e y t ↦ absurd (let z : true ≡ false = sym y ∙ (ap (λ y. decides y.answer) (sym i) ∙ d) in cc)
        ]

    -- A decision leaves a release open.
    pub decision_there : decides s.answer ≡ true → (o : OpenRelease) × (s.state ≡ Open o) × DecisionOf o
    decision_there d =
        elim x [
          | refused_told k e t ↦ absurd (let z : false ≡ true = ap decides (sym e ∙ ap (λ y. y.answer) (sym i)) ∙ d in cc)
          | decision_of o q e y t ↦ (o, ap (λ y. y.state) i ∙ e, record { here = q; is_told = t })
        ]

    pub decision_at : decides s.answer ≡ true → (o : OpenRelease) → s.state ≡ Open o → DecisionOf o
    decision_at d o e =
        let (u, f, k) = decision_there d in
        let z : Open u ≡ Open o = sym f ∙ e in
        let y : u ≡ o = cc in
        subst DecisionOf y k

    pub never_idle : decides s.answer ≡ true → s.state ≡ Idle → ⊥
    never_idle d e =
        let (u, f, k) = decision_there d in
        let z : Open u ≡ Idle = sym f ∙ e in
        cc

-- ON THE TABLE OF AN ACCEPTED PLAN

-- What is printed is what the controller over places says, in the state that the report's state stands for.
pub told_by_places : (p : Plan) (ok : Accepted p) (s : State) (x : places.State) (n e : ℕ) → Tied p ok s x →
    explained (table_of p) (Some (record { state = s; point = n; reading = e })) ≡ report_told p x n e
told_by_places p ok s idle n e k =
    ap (table_told (record { state = s; point = n; reading = e })) ((plan_of_exactly (table_of p) p).1 (ok, refl)) ∙
    ap (asked_told p (record { state = s; point = n; reading = e })) (ap (read_state p) k)
told_by_places p ok s (running y last others) n e k =
    ap (table_told (record { state = s; point = n; reading = e })) ((plan_of_exactly (table_of p) p).1 (ok, refl)) ∙
    ap (asked_told p (record { state = s; point = n; reading = e }))
    (ap (read_state p) k.is ∙ (ap (found_at k.release) k.at.stands ∙ ap (λ z. some z) (sym k.for)))
