-- The raw row and the bounds of a plan are exactly those that `structure` takes for a plan's: seventeen bounds that it finds well formed are those of
-- the functions in the row; and the row and bounds of a plan that keeps the rules are found well formed, with the plan's functions.
use mathlib.Core.List.{List, [], append-nil}
use mathlib.Core.Path.{◌≡◌, refl, ap, sym, ◌∙◌}
use Prim.Native.Nat.{ℕ, ◌+◌, ◌^◌, ◌≤◌}
use native.Mathlib.Omega.{arith}
use lib.ListN.{length, get_or, get_or-eq_default}
use lib.Seq.{ext_get_or}
use Rattle.model.specs.Plan.{C, M, resume_cost, Plan}
use Rattle.model.specs.Forms.{main}
use Rattle.model.specs.Total.{total}
use Rattle.model.specs.Acceptance.{sizes, Formed, Accepted}
use Rattle.model.proofs.Limits.{short_total}
use Rattle.rows.specs.Plans.{Lies, Bounds, PlanOf}
use Rattle.rows.specs.Records.{bounds, row_of, bounds_of}
use Rattle.rows.proofs.Plans.{plan_formed}
use Rattle.rows.proofs.Records.{records_all_length, bounds_length, bounds_last}
use Rattle.rows.proofs.Storing.{plan_bound, first_bound, records_lie}
use Rattle.reader.specs.Raw.{padded}
use Rattle.reader.proofs.Tasks.{length_padded, padded_same}
use Rattle.structure.specs.Plans.{Structured}

-- Seventeen bounds are those of the plan's functions, filled up with 0.
pub plan_bounds : {w s : List ℕ} {n : ℕ} (q : PlanOf w s n) → length s ≡ 17 → s ≡ padded 17 (bounds 0 q.functions)
plan_bounds {w} {s} {n} q e =
    let bs = bounds 0 q.functions in
    let few : length bs ≤ 17 = omega (arith, bounds_length 0 q.functions, q.count, q.bounds.few) in
    ext_get_or 0 s (padded 17 bs) (e ∙ sym (length_padded 17 bs)) (λ j h. plan_bound q j (omega arith) ∙ sym (padded_same 17 bs j few))

module _ (p : Plan) (f : Formed p) where
  -- The zeros behind a plan's bounds change none of them.
  bound_is : (j : ℕ) → get_or (padded 17 (bounds_of p)) j 0 ≡ get_or (bounds_of p) j 0
  bound_is j = padded_same 17 (bounds_of p) j (omega (arith, bounds_length 0 p.functions, f.few_functions))

  -- The last one is the number of leaves.
  last_bound : get_or (padded 17 (bounds_of p)) (length p.functions) 0 ≡ sizes p.functions
  last_bound = omega (arith, bound_is (length p.functions), bounds_last 0 p.functions)

  -- They are bounds of a plan for its row.
  pub formed_bounds : Bounds (row_of p) (padded 17 (bounds_of p)) (length p.functions)
  formed_bounds =
      record {
        some = f.some_function;
        few = f.few_functions;
        first = bound_is 0 ∙ first_bound 0 p.functions;
        leaves = omega (arith, last_bound, f.few_leaves);
        held = omega (arith, last_bound, records_all_length 0 p.functions);
        unused = λ j h k. bound_is j ∙ get_or-eq_default (bounds_of p) 0 (omega (arith, bounds_length 0 p.functions));
      }

  -- The functions lie in the row between them.
  pub formed_lies : Lies (row_of p) (padded 17 (bounds_of p)) 0 p.functions
  formed_lies =
      records_lie p.functions (row_of p) (padded 17 (bounds_of p)) [] 0 0 f.each ([], sym (append-nil (row_of p)))
      (λ j. let e : 0 + j ≡ j = omega arith in ap (λ k. get_or (padded 17 (bounds_of p)) k 0) e ∙ bound_is j)

-- The row and the bounds of a plan that keeps rules 3 to 7 and 19 are those of a plan with its functions.
abbrev pub formed_plan : (p : Plan) → Formed p → (q : PlanOf (row_of p) (padded 17 (bounds_of p)) (length p.functions)) × (q.functions ≡ p.functions)
formed_plan p f = (
  record { functions = p.functions; count = refl; bounds = formed_bounds p f; lie = formed_lies p f; kept = f.each; small = f.few_leaves },
  refl,
)

-- And where it keeps rules 8 and 9 too, so do they.
abbrev pub accepted_structured :
    (p : Plan) → Accepted p → (q : Structured (row_of p) (padded 17 (bounds_of p)) (length p.functions)) × (q.plan.functions ≡ p.functions)
accepted_structured p a = (record { plan = (formed_plan p a.formed).0; seen = a.seen; called = a.called }, refl)

-- A plan whose functions are those of a row that keeps rules 3 to 9 and 19 is accepted, where its deadline, switch cost, U and totals are in range.
pub structured_accepted :
    {w s : List ℕ} {n : ℕ} (q : Structured w s n) (p : Plan) → p.functions ≡ q.plan.functions → 1 ≤ p.deadline → p.deadline ≤ 2 ^ 40
    → p.switch ≤ 2 ^ 20 → resume_cost p.edition ≤ 2 ^ 20 → total C (main p) ≤ 2 ^ 40 → total M (main p) ≤ 2 ^ 40 → Accepted p
structured_accepted q p e low high switch resume c m =
    record {
      formed = plan_formed q.plan p e low high switch resume;
      seen = rw e q.seen;
      called = rw e q.called;
      short = (short_total C (main p) (2 ^ 40)).1 c;
      short_loaded = (short_total M (main p) (2 ^ 40)).1 m;
    }
