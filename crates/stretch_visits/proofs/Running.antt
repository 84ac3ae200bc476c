-- Running what is still to be run: a function's notes stand for its calls, and name earlier functions alone. Plain mathematics: no code is named here.
-- Assumes nothing.
use mathlib.Core.Path.{◌≡◌, refl, ap, ◌∙◌}
use mathlib.Core.Bool.{Bool}
use mathlib.Core.List.{List, [], ◌∷◌}
use mathlib.Core.Logic.{inl, inr}
use Prim.Native.Nat.{ℕ, zero, suc, ◌+◌, ◌-◌, ◌*◌, ◌≤◌, ◌<◌}
use native.Mathlib.Omega.{arith}
use native.Mathlib.Decide.{dec_le}
use lib.ListN.{length, get_or, set, get_or-eq_default}
use Rattle.std.proofs.lemmas.Bool.{cases_eq}
use Rattle.std.proofs.lemmas.List.{get_or-set_other}
use Rattle.model.specs.Plan.{Block}
use Rattle.model.specs.Forms.{Forms, done}
use Rattle.model.specs.Total.{total}
use Rattle.rows.specs.declared.PricedCode.{PricedCode}
use Rattle.rows.specs.Leaves.{numbers}
use Rattle.rows.specs.Costs.{cost_in}
use Rattle.place.specs.Pieces.{Spanned}
use Rattle.outlook.specs.Quiets.{roof, PricedForms, priced_forms}
use Rattle.outlook.proofs.Levels.{spanned_priced}
use Rattle.stretch_visits.specs.declared.Notes.{Notes}
use Rattle.stretch_visits.specs.Worth.{Within, worth}
use Rattle.stretch_visits.specs.Private.{notes_worth, load, Runnable, Room, NotedForms, CallsHeld, AllRun}
use Rattle.stretch_visits.proofs.Summing.{dot_cleared, dot_none}
use Rattle.stretch_visits.proofs.Noting.{pick_same}

cleared_same : (xs : List ℕ) (i : ℕ) → get_or (set xs i 0) i 0 ≡ 0
cleared_same [] i = refl
cleared_same (x ∷ xs) zero = refl
cleared_same (x ∷ xs) (suc i) = cleared_same xs i

-- No function from f on is still to be run, and none that is not there; and the notes are worth what they were.
pub record Run {c : PricedCode} {old : Notes} (h : CallsHeld c old) (f : ℕ) (z : Notes) : Type 0 where
  pub same : (m : Block → ℕ) → Within (cost_in c.cost) m →
      notes_worth (cost_in c.cost) m (numbers c.code.row.now) h.table.funs z ≡ notes_worth (cost_in c.cost) m (numbers c.code.row.now) h.table.funs old
  pub runnable : Runnable (cost_in c.cost) h.table.funs z
  pub room : load (cost_in c.cost) (numbers c.code.row.now) h.table.funs z ≤ roof
  pub none : (j : ℕ) → f ≤ j → get_or z.calls j 0 ≡ 0
  pub outside : (j : ℕ) → c.code.functions ≤ j → get_or z.calls j 0 ≡ 0

pub run_start : {c : PricedCode} {old : Notes} (h : CallsHeld c old) {f : ℕ} → length old.calls ≤ f → Run h f old
run_start {old = old} h le =
    record { same = λ m y. refl; runnable = h.runnable; room = h.room; none = λ j l. get_or-eq_default old.calls 0 (omega arith); outside = h.none }

module _ {c : PricedCode} {old : Notes} {h : CallsHeld c old} {f : ℕ} {z : Notes} (r : Run h f z) where
  abbrev k : Block → ℕ
  k = cost_in c.cost

  abbrev w : List ℕ
  w = numbers c.code.row.now

  abbrev G : List Forms
  G = h.table.funs

  -- None is left to be run.
  pub run_end : f ≤ 0 → AllRun h z.leaves
  run_end le m y = omega (arith, r.same m y, dot_none z.calls (λ j. worth k m (get_or G j done) 0 0) (λ j. r.none j (omega arith)))

  module _ (some : 0 < f) where
    abbrev last : ℕ
    last = f - 1

    abbrev times : ℕ
    times = get_or z.calls last 0

    -- It is not to be run.
    pub run_skip : times ≤ 0 → Run h last z
    run_skip le =
        record {
          same = r.same;
          runnable = r.runnable;
          room = r.room;
          none = λ j l. elim (cases_eq j last) [ inl e ↦ rw e (omega arith) | inr e ↦ r.none j (omega arith) ];
          outside = r.outside;
        }

    module _ (calls : 0 < times) where
      pub run_there : last < c.code.functions
      run_there = elim (dec_le c.code.functions last) [ yes l ↦ absurd (omega (arith, r.outside last l)) | no n ↦ omega arith ]

      abbrev rest_calls : Notes
      rest_calls = record { leaves = z.leaves; calls = set z.calls last 0 }

      cleared : (j : ℕ) → last ≤ j → get_or rest_calls.calls j 0 ≡ 0
      cleared j l =
          elim (cases_eq j last) [
            | inl e ↦ rw e (cleared_same z.calls last)
            | inr e ↦ get_or-set_other z.calls last j 0 0 e ∙ r.none j (omega arith)
          ]

      rest_runnable : Runnable k G rest_calls
      rest_runnable j p =
          elim (cases_eq j last) [
            | inl e ↦ absurd (omega (arith, cleared j (omega arith)))
            | inr e ↦ r.runnable j (rw (get_or-set_other z.calls last j 0 0 e) at p)
          ]

      -- Its records.
      module _ {i e : ℕ} (hi : i ≡ get_or c.code.bounds.now last 0) (he : e ≡ get_or c.code.bounds.now (last + 1) 0) where
        spans : Spanned w G last i e (get_or G last done)
        spans = rw (hi, he) (h.table.each last run_there)

        inside : e ≤ h.columns.records
        inside = omega (arith, he, h.columns.inside last run_there)

        unfoldable run_priced : PricedForms c i e
        run_priced =
            spanned_priced h.columns (record { piece = spans.piece; few = omega (arith, spans.few, run_there); same = spans.same; room = spans.room }) inside
            (r.runnable last calls)

        load_here : load k w G rest_calls + times * total k (priced_forms run_priced) ≡ load k w G z
        unfolding run_priced
        load_here = omega (arith, dot_cleared z.calls last (λ j. total k (get_or G j done)), ap (λ (g : Forms). times * total k g) spans.same)

        pub run_room : Room c i e 0 times rest_calls
        unfolding run_priced
        run_room = record { held = run_priced; few = omega (arith, h.few, inside); room = omega (arith, load_here, r.room); sums = omega (arith, run_priced.small) }

        -- It was run.
        pub run_next : {new : Notes} {through : Bool} → ((x : PricedForms c i e) → NotedForms x 0 times rest_calls new through) → Run h last new
        unfolding run_priced
        run_next {new} {through} u =
            let n = u run_priced in
            let none : (j : ℕ) → last ≤ j → get_or new.calls j 0 ≡ 0 = λ j l. n.kept j (omega (arith, spans.few)) ∙ cleared j l in
            record {
              same = λ m y.
                  let a = rw (pick_same through 0) at (n.says m y 0) in
                  omega (arith, a, r.same m y, dot_cleared z.calls last (λ j. worth k m (get_or G j done) 0 0), ap (λ (g : Forms). times * worth k m g 0 0) spans.same);
              runnable = n.runnable rest_runnable;
              room = omega (arith, n.low, load_here, r.room);
              none = none;
              outside = λ j l. none j (omega (arith, run_there));
            }
