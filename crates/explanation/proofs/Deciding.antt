-- What is printed of a decision, where a release stands at its report on lent memory that holds the table of an accepted plan. Assumes nothing.
use mathlib.Core.List.{List, []}
use Rattle.std.specs.List.{flat_map}
use mathlib.Core.Option.{some}
use mathlib.Core.Path.{◌≡◌, ap, sym, ◌∙◌, subst}
use Prim.Native.Nat.{ℕ, ◌+◌, ◌^◌, ◌≤◌, ◌<◌}
use native.Mathlib.Omega.{arith}
use lib.ListN.{length, take, get_or}
use lib.Seq.{take_all}
use Rattle.model.specs.Plan.{M, C, Plan, all_leaves}
use Rattle.model.specs.Forms.{main}
use Rattle.model.specs.Total.{total}
use Rattle.model.specs.Acceptance.{Accepted}
use Rattle.model.specs.Places.{locate}
use Rattle.model.specs.Runs.{Among}
use Rattle.model.specs.Stack.{Levels, whole, decode, times}
use Rattle.model.specs.Levels.{history}
use Rattle.model.specs.declared.Outlook.{Outlook}
use Rattle.model.specs.Decisions.{at_report, outlook}
use Rattle.model.specs.Cause.{count, listed, visit_way}
use Rattle.model.proofs.Counting.{OfPlan, way_of_plan, costly_count}
use Rattle.model.proofs.Decoded.{standing_decodes}
use Rattle.model.proofs.Leaves.{spans_all_row}
use Rattle.model.proofs.Links.{plan_spans}
use Rattle.model.proofs.Points.{AllPoints}
use Rattle.model.proofs.Theorems.{cause_found, stack_has_run, number_tells_leaf}
use Rattle.rows.specs.declared.Code.{Code}
use Rattle.rows.specs.declared.Cost.{Cost}
use Rattle.rows.specs.declared.Leaf.{Leaf}
use Rattle.rows.specs.declared.PricedCode.{PricedCode}
use Rattle.rows.specs.Costs.{cost_in}
use Rattle.rows.specs.Leaves.{numbers}
use Rattle.rows.specs.Plans.{PlanIn}
use Rattle.rows.specs.Rows.{max_load_at, block_at}
use Rattle.rows.proofs.Plans.{leaves_in}
use Rattle.place.proofs.Points.{among_plan}
use Rattle.outlook.specs.declared.Ahead.{Ahead}
use Rattle.outlook.specs.Ahead.{ahead_at}
use Rattle.outlook.specs.Loads.{PlacePriced}
use Rattle.outlook.specs.Plans.{PlanPriced}
use Rattle.outlook.proofs.Meaning.{place_priced, at_report_is}
use Rattle.stretch_visits.specs.Counts.{CountsOf, PlaceFew}
use Rattle.stretch_visits.proofs.Meaning.{place_counted, counts_are}
use Rattle.table.specs.declared.Head.{Head}
use Rattle.table.specs.Table.{head_of}
use Rattle.table.specs.Lent.{table_with, AtMaxLoad, CodeOf, Coded}
use Rattle.table.proofs.Plans.{plan_of_exactly}
use Rattle.table.proofs.Codes.{Owned, leaves_held, lent_code, laid_here, row_size}
use Rattle.control.specs.declared.OpenRelease.{OpenRelease}
use Rattle.control.specs.State.{stack_of}
use Rattle.control.proofs.Calling.{lent_loads}
use Rattle.control.proofs.Good.{stands_times}
use Rattle.control.proofs.Judging.{stands_depth, stands_few, stands_decode}
use Rattle.control.proofs.Lending.{priced}
use Rattle.control.proofs.Reporting.{top_time}
use Rattle.control.proofs.Tabled.{all_size}
use Rattle.explanation.specs.Explanation.{counted_line}
use Rattle.explanation.specs.Private.{leaves_told, GoodAtPoint}
use Rattle.explanation.proofs.Listing.{row_nth, first_told}

-- THE PLACE OF A REPORT

module _ (p : Plan) (a : Accepted p) (o : OpenRelease) (ls : Levels) (one : 1 ≤ o.place.level) (d : decode (main p) [] (stack_of o) ≡ some ls)
    (u : AllPoints p (stack_of o)) where
  -- Some run of the plan has come to it,
  come_to : (h : List ℕ) × (locate (main p) h ≡ some (whole ls))
  come_to =
      let (x, e) = stack_has_run p a (stack_of o) ls d u in
      let k = standing_decodes p a x in
      let z : some k.ls ≡ some ls = sym k.decoded ∙ (ap (decode (main p) []) e ∙ d) in
      let y : k.ls ≡ ls = cc in
      (history x, k.left ∙ ap (λ l. some (whole l)) y)

  -- so the visits of its stretch are of leaves of the plan.
  pub way_there : OfPlan p (visit_way M (whole ls) [])
  way_there =
      let (h, l) = come_to in
      let (c, e) = cause_found p a h (whole ls) l in
      subst (OfPlan p) e (way_of_plan p c.run)

-- ON LENT MEMORY

module _ {row : List Leaf} {h : Head} {o : OpenRelease} (q : GoodAtPoint row h o) where
  abbrev owned : Owned row h
  owned = record {
    plan = q.plan;
    accepted = q.accepted;
    table_is = q.table_is;
    found_is = (plan_of_exactly (table_with row h) q.plan).1 (q.accepted, q.table_is);
  }

  pub leaves_fit : h.leaves ≤ length row
  leaves_fit = leaves_held owned

  pub head_is : h ≡ head_of q.plan
  head_is = ap (λ t. t.head) q.table_is

  pub costs_small : h.switch + h.resume < 2 ^ 64
  costs_small =
      let f = q.accepted.formed in
      omega (arith, f.switch_range, f.resume_range, ap (λ k. k.switch) head_is, ap (λ k. k.resume) head_is)

  pub level_low : o.place.level ≤ 32
  level_low = stands_few q.plan q.accepted o q.levels q.stands

  -- What is lent of its code, at the max-load cost.
  module _ (k : Code) (r : k.row.now ≡ take h.leaves row) (b : k.bounds.now ≡ h.bounds) (n : k.functions ≡ h.functions) {c : PricedCode}
      (m : AtMaxLoad h k c) where
    code_is : CodeOf q.plan k
    code_is = lent_code owned k r b n

    abbrev its_code : Coded k
    its_code = record { plan = q.plan; accepted = q.accepted; is = code_is }

    at_cost : PlanPriced c q.plan
    at_cost = priced q.plan q.accepted m code_is head_is (lent_loads owned k r)

    laid : PlanIn (numbers k.row.now) k.bounds.now q.plan
    laid = laid_here its_code

    points : (decode (main q.plan) [] (stack_of o) ≡ some q.levels) × AllPoints q.plan (stack_of o)
    points = stands_decode q.plan q.accepted o q.levels q.at_point q.stands

    -- What `at_report` of `outlook` asks for, and its answer.
    pub priced_here : PlacePriced c o.place
    priced_here = place_priced q.accepted at_cost o.place q.levels q.at_point level_low points.0 points.1

    pub outlook_here : (i : ℕ) {a : Ahead} → ((t : PlacePriced c o.place) → a ≡ ahead_at (cost_in c.cost) (whole t.decoded.levels)) →
        ◌≡◌ {A = Outlook} (record { remaining = get_or o.times o.place.level 0; stretch = a.stretch; last = a.last }) (outlook q.plan (at_report i q.levels))
    outlook_here i {a} f =
        let g : a ≡ ahead_at M (whole q.levels) =
        at_report_is q.accepted at_cost o.place q.levels q.at_point level_low points.0 points.1 a f ∙
        ap (λ (x : Cost). ahead_at (cost_in x) (whole q.levels)) m.cost_is in
        let d = stands_depth q.plan q.accepted o q.levels q.stands in
        let z : get_or o.times o.place.level 0 ≡ total C (whole q.levels) =
        ap (λ ts. get_or ts o.place.level 0) (stands_times q.plan q.accepted o q.levels q.stands) ∙
        (ap (λ j. get_or (times (main q.plan) q.levels) j 0) (sym d) ∙ top_time (main q.plan) q.levels (omega (arith, d, q.at_point))) in
        λ i. record { remaining = z i; stretch = (g i).stretch; last = (g i).last }

    -- What `leaf_counts` asks for,
    pub counted_here : PlaceFew c o.place
    counted_here = place_counted q.accepted at_cost o.place q.levels q.at_point level_low points.0 points.1

    -- and its answer: the lines of the leaves.
    size : length k.row.now ≡ length (all_leaves q.plan.functions)
    size = row_size its_code ∙ sym (all_size q.plan.functions)

    pub row_small : length k.row.now ≤ 512
    row_small = omega (arith, row_size its_code, q.accepted.formed.few_leaves)

    leaf_there : (i : ℕ) → i < length (all_leaves q.plan.functions) → Among (block_at (numbers k.row.now) i) (all_leaves q.plan.functions)
    leaf_there i lt = among_plan q.plan q.accepted laid i (omega (arith, lt, leaves_in laid, all_size q.plan.functions))

    blocks : (i : ℕ) → i < length (all_leaves q.plan.functions) →
        get_or (all_leaves q.plan.functions) i (block_at (numbers k.row.now) 0) ≡ block_at (numbers k.row.now) i
    blocks i lt =
        let numbered = spans_all_row q.plan.functions 0 (plan_spans q.plan q.accepted.formed) in
        let (e, a) = row_nth 0 (all_leaves q.plan.functions) numbered i (block_at (numbers k.row.now) 0) lt in
        number_tells_leaf q.plan q.accepted _ _ a (leaf_there i lt) (omega (arith, e))

    counted : (visits : List ℕ) → ((s : PlaceFew c o.place) → CountsOf (cost_in c.cost) (numbers c.code.row.now) (whole s.priced.decoded.levels) visits) →
        (i : ℕ) → i < length (all_leaves q.plan.functions) → 0 < max_load_at (numbers k.row.now) i →
        get_or visits i 0 ≡ count i (visit_way M (whole q.levels) [])
    counted visits f i lt costs =
        let w = numbers k.row.now in
        let s : CountsOf M w (whole q.levels) visits =
        rw (m.cost_is, m.code_is) at (counts_are q.accepted at_cost o.place q.levels q.at_point level_low points.0 points.1 visits f) in
        s i costs ∙
        costly_count M q.plan q.accepted (block_at w i) (leaf_there i lt) costs (visit_way M (whole q.levels) [])
        (way_there q.plan q.accepted o q.levels q.at_point points.0 points.1)

    pub listed_here : (visits : List ℕ) →
        ((s : PlaceFew c o.place) → CountsOf (cost_in c.cost) (numbers c.code.row.now) (whole s.priced.decoded.levels) visits) →
        leaves_told (numbers k.row.now) visits (length k.row.now) ≡
        flat_map counted_line (listed (all_leaves q.plan.functions) (visit_way M (whole q.levels) []))
    listed_here visits f =
        let bs = all_leaves q.plan.functions in
        let way = visit_way M (whole q.levels) [] in
        ap (leaves_told (numbers k.row.now) visits) size ∙
        (first_told (numbers k.row.now) visits way bs blocks (counted visits f) (length bs) (omega arith) ∙
        ap (λ x. flat_map counted_line (listed x way)) (take_all (length bs) bs (omega arith)))
