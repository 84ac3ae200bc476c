-- Lent memory that holds the table of an accepted plan: what crates `place` and `outlook` ask for of it, and what their answers say of an open release.
-- Assumes nothing.
use mathlib.Core.Bool.{Bool, true, false}
use mathlib.Core.List.{[]}
use mathlib.Core.Option.{some}
use mathlib.Core.Path.{◌≡◌, refl, ap, sym, ◌∙◌, subst}
use Prim.Native.Nat.{ℕ, ◌≤◌, ◌<◌}
use lib.ListN.{length, get_or}
use Rattle.model.specs.Plan.{C, M, Plan}
use Rattle.model.specs.Forms.{main}
use Rattle.model.specs.Total.{total}
use Rattle.model.specs.Acceptance.{Accepted}
use Rattle.model.specs.Stack.{Levels, whole, decode}
use Rattle.model.proofs.Points.{AllPoints}
use Rattle.rows.specs.declared.Code.{Code}
use Rattle.rows.specs.declared.Cost.{Cost}
use Rattle.rows.specs.declared.PricedCode.{PricedCode}
use Rattle.rows.specs.Costs.{cost_in}
use Rattle.rows.specs.Answers.{Says}
use Rattle.rows.specs.Leaves.{numbers, lent_turns, lent_tails, lent_max_load_turns}
use Rattle.place.specs.Lent.{CodeTable, main_forms, PlaceDecodes, PlaceCosted}
use Rattle.place.specs.Plans.{PlanColumns}
use Rattle.place.specs.Stack.{frames}
use Rattle.place.specs.declared.Place.{Place}
use Rattle.place.specs.Times.{TimesAt, CostedStack}
use Rattle.place.proofs.Tables.{table_of}
use Rattle.outlook.specs.declared.Ahead.{Ahead}
use Rattle.outlook.specs.Ahead.{ahead_of, ahead_at}
use Rattle.outlook.specs.Loads.{CodePriced, PlacePriced}
use Rattle.outlook.specs.Plans.{PlanPriced}
use Rattle.outlook.proofs.Meaning.{code_priced, at_release_is, place_priced, at_report_is}
use Rattle.table.specs.declared.Head.{Head}
use Rattle.table.specs.Table.{head_of, table_of as its_table}
use Rattle.table.specs.Lent.{AtMaxLoad, CodeOf, Coded}
use Rattle.control.specs.declared.LentPlan.{LentPlan}
use Rattle.control.specs.declared.OpenRelease.{OpenRelease}
use Rattle.table.proofs.Codes.{laid_here, count_here}
use Rattle.control.specs.Private.{Rowed, Costed, WholeTable, GoodState}
use Rattle.control.proofs.Tabled.{filled, filled_loads}
use Rattle.control.proofs.Judging.{Located, release_wrong, release_right, above_wrong, place_right, place_wrong, costed_at, times_judged}

module _ {c : Code} (q : Coded c) where
  pub table_here : CodeTable c
  table_here = rw (count_here q) (table_of q.plan q.accepted (laid_here q))

module _ {l : LentPlan} (q : Rowed l) where
  abbrev p : Plan
  p = q.head.plan

  abbrev a : Accepted q.head.plan
  a = q.head.accepted

  -- The code beside the head.
  abbrev pub coded : Coded l.code
  coded = record { plan = p; accepted = a; is = q.code_is }

  total_here : l.head.now.total ≡ total C (main p)
  total_here = ap (λ k. k.total) q.head.is

  -- A RELEASE JUDGED

  module _ (o : OpenRelease) where
    -- Where no point was reported.
    pub total_wrong : (get_or o.times 0 0 ≡ l.head.now.total → ⊥) → GoodState p o → ⊥
    total_wrong e = release_wrong p a o (λ z. e (z ∙ sym total_here))

    pub release_judged : o.place.level ≡ 0 → length o.times ≡ 33 → get_or o.times 0 0 ≡ l.head.now.total → (r : Bool) → Says r ((k : ℕ) → 0 < k → get_or o.times k 0 ≡ 0) → Says r (GoodState p o)
    release_judged z n t true e = release_right p a o z n (t ∙ total_here) e
    release_judged z n t false e = above_wrong p a o (sym z) e

    -- At a report: the answer of `place_ok`.
    abbrev pub Judged : Bool → Type 0
    Judged r = (t : CodeTable l.code) → Says r (PlaceDecodes l.code (main_forms t) o.place)

    pub spot_right : (r : Bool) → r ≡ true → Judged r → Located p o
    spot_right r y e = place_right p a (laid_here coded) o (rw (y, count_here coded) at e)

    pub spot_wrong : 1 ≤ o.place.level → (r : Bool) → r ≡ false → Judged r → GoodState p o → ⊥
    spot_wrong one r y e = place_wrong p a (laid_here coded) o one (rw (y, count_here coded) at e)

    pub spot_above : (r : Bool) → r ≡ false → Says r ((k : ℕ) → o.place.level < k → get_or o.times k 0 ≡ 0) → GoodState p o → ⊥
    spot_above r y e = above_wrong p a o refl (rw y at e)

-- With the turns and tails: what `place` asks for to judge the times, and its answer.
module _ {l : LentPlan} (q : Costed l) where
  pub filled_here : PlanColumns q.rowed.head.plan (lent_tails l.code.row.now) (lent_turns l.code.row.now) l.head.now.totals
  filled_here = rw (q.tails_are, q.turns_are, ap (λ k. k.totals) q.rowed.head.is) (filled q.rowed.head.plan q.rowed.head.accepted)

  module _ (o : OpenRelease) (k : Located q.rowed.head.plan o) where
    pub spot_costed : PlaceCosted l.code l.head.now.totals o.place
    spot_costed =
        let z = costed_at q.rowed.head.plan q.rowed.head.accepted (laid_here (coded q.rowed)) o filled_here k in
        record { least = k.least; most = k.most; costed = rw (count_here (coded q.rowed)) z }

    pub spot_times : length o.times ≡ 33 → (y : Bool) → y ≡ true → Says y ((j : ℕ) → o.place.level < j → get_or o.times j 0 ≡ 0) → (r : Bool) →
        ((c : PlaceCosted l.code l.head.now.totals o.place) → Says r (TimesAt (main_forms c.costed.decoded.table) o.times c.costed.decoded.levels)) →
        Says r (GoodState q.rowed.head.plan o)
    spot_times n y t above r e =
        let f = λ (c : CostedStack (numbers l.code.row.now) (lent_tails l.code.row.now) (lent_turns l.code.row.now) l.head.now.totals o.place.leaves o.place.earlier l.code.functions o.place.level).
        e (record { least = k.least; most = k.most; costed = c }) in
        times_judged q.rowed.head.plan q.rowed.head.accepted (laid_here (coded q.rowed)) o filled_here k n (rw t at above) r
        (rw (count_here (coded q.rowed)) at f)

-- The code of an accepted plan at the max-load cost, with the plan's max-load totals and turns.
pub priced : (p : Plan) → Accepted p → {h : Head} {k : Code} {c : PricedCode} → AtMaxLoad h k c → CodeOf p k → h ≡ head_of p →
    lent_max_load_turns k.row.now ≡ (its_table p).max_load_turns → PlanPriced c p
priced p a {h} {k} {c} m is head turns =
    let q : Coded c.code = record { plan = p; accepted = a; is = subst (CodeOf p) (sym m.code_is) is } in
    let totals = m.totals_are ∙ ap (λ x. x.max_load_totals) head in
    let loads = ap (λ (y : Code). lent_max_load_turns y.row.now) m.code_is ∙ turns in
    record { lies = laid_here q; functions_are = count_here q; loads = rw (m.cost_is, totals, loads) (filled_loads p a) }

-- With the max-load turns, at the max-load cost: what `outlook` asks for, and its answers.
module _ {l : LentPlan} (q : WholeTable l) {c : PricedCode} (m : AtMaxLoad l.head.now l.code c) where
  abbrev this : Plan
  this = q.costed.rowed.head.plan

  abbrev ok : Accepted q.costed.rowed.head.plan
  ok = q.costed.rowed.head.accepted

  here : PlanPriced c this
  here = priced this ok m q.costed.rowed.code_is q.costed.rowed.head.is q.max_load_turns_are

  -- At the release.
  pub release_asked : CodePriced c
  release_asked = code_priced ok here

  pub release_ahead : {a : Ahead} → ((t : CodePriced c) → a ≡ ahead_of (cost_in c.cost) (main_forms t.table)) → a ≡ ahead_of M (main q.costed.rowed.head.plan)
  release_ahead {a} e = at_release_is ok here a e ∙ ap (λ (y : Cost). ahead_of (cost_in y) (main this)) m.cost_is

  -- At a place whose stack decodes.
  module _ (x : Place) (ls : Levels) (one : 1 ≤ x.level) (most : x.level ≤ 32) (f : decode (main q.costed.rowed.head.plan) [] (frames x.leaves x.earlier 1 x.level) ≡ some ls)
      (u : AllPoints q.costed.rowed.head.plan (frames x.leaves x.earlier 1 x.level)) where
    pub report_asked : PlacePriced c x
    report_asked = place_priced ok here x ls one most f u

    pub report_ahead : {a : Ahead} → ((t : PlacePriced c x) → a ≡ ahead_at (cost_in c.cost) (whole t.decoded.levels)) → a ≡ ahead_at M (whole ls)
    report_ahead {a} e = at_report_is ok here x ls one most f u a e ∙ ap (λ (y : Cost). ahead_at (cost_in y) (whole ls)) m.cost_is
