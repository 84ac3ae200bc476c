-- What the contract of `leaf_counts` means for an accepted plan, in the model's words: for any accepted plan p and any code that is p's, with the totals and
-- turns of p at the code's cost.
-- Assumes nothing.
use mathlib.Core.Path.{◌≡◌}
use mathlib.Core.List.{List, []}
use mathlib.Core.Option.{some}
use Prim.Native.Nat.{ℕ, ◌≤◌}
use native.Mathlib.Omega.{arith}
use Rattle.model.specs.Plan.{Plan}
use Rattle.model.specs.Forms.{main}
use Rattle.model.specs.Acceptance.{Accepted}
use Rattle.model.specs.Stack.{Levels, decode, whole}
use Rattle.model.proofs.Points.{AllPoints}
use Rattle.rows.specs.declared.PricedCode.{PricedCode}
use Rattle.rows.specs.Costs.{cost_in}
use Rattle.rows.specs.Leaves.{numbers}
use Rattle.rows.proofs.Plans.{leaves_in}
use Rattle.place.specs.declared.Place.{Place}
use Rattle.place.specs.Stack.{frames}
use Rattle.outlook.specs.Plans.{PlanPriced}
use Rattle.outlook.proofs.Meaning.{place_priced, place_levels, place_records}
use Rattle.stretch_visits.specs.Counts.{CountsOf, PlaceFew}

-- Where the stack of the place decodes to ls, at one of the 32 levels, and its leaves are points of the plan:
module _ {c : PricedCode} {p : Plan} (a : Accepted p) (q : PlanPriced c p) (x : Place) (ls : Levels) (least : 1 ≤ x.level) (most : x.level ≤ 32)
    (h : decode (main p) [] (frames x.leaves x.earlier 1 x.level) ≡ some ls) (u : AllPoints p (frames x.leaves x.earlier 1 x.level)) where
  -- What `leaf_counts` asks for.
  pub place_counted : PlaceFew c x
  place_counted = record {
    priced = place_priced a q x ls least most h u;
    few = omega (arith, place_records a q x ls least most h u, leaves_in q.lies, a.formed.few_leaves);
  }

  -- `leaf_counts`: the visits on the way of what is left to run.
  pub counts_are : (visits : List ℕ) → ((s : PlaceFew c x) → CountsOf (cost_in c.cost) (numbers c.code.row.now) (whole s.priced.decoded.levels) visits) →
      CountsOf (cost_in c.cost) (numbers c.code.row.now) (whole ls) visits
  unfolding place_counted
  counts_are visits e = rw (place_levels a q x ls least most h u) at (e place_counted)
