-- The table of an accepted plan is one that crates `place` and `outlook` work on: its functions lie in the row, its columns are filled, and its points are
-- marked. Assumes nothing.
use mathlib.Core.Bool.{true}
use mathlib.Core.List.{List, [], ◌∷◌}
use mathlib.Core.Path.{◌≡◌, refl, sym}
use Prim.Native.Nat.{ℕ, ◌<◌}
use native.Mathlib.Omega.{arith}
use lib.ListN.{length, get_or, length-append}
use Rattle.model.specs.Plan.{Block, C, M, Lines, close, Plan, leaves, all_leaves}
use Rattle.model.specs.Total.{tallies}
use Rattle.model.specs.Acceptance.{sizes, Accepted}
use Rattle.model.specs.Controller.{is_point}
use Rattle.model.proofs.Links.{plan_spans}
use Rattle.model.proofs.Leaves.{row_range, spans_all_row}
use Rattle.model.proofs.Blocks.{is_point_of, point_of_is}
use Rattle.rows.specs.Records.{row_of, bounds_of}
use Rattle.reader.specs.Raw.{padded}
use Rattle.reader.proofs.Tasks.{padded_same}
use Rattle.rows.specs.Rows.{point_at}
use Rattle.place.specs.Plans.{PlanColumns}
use Rattle.outlook.specs.Plans.{PlanLoads}
use Rattle.place.proofs.Points.{mark_point, point_mark}
use Rattle.table.specs.Table.{table_of, all_tails, all_turns}
use Rattle.rows.proofs.Plans.{plan_leaves}
use Rattle.table.proofs.Bridge.{formed_plan}
use Rattle.table.proofs.Deriving.{tallies_length}
use Rattle.table.proofs.Holding.{leaves_size}
use Rattle.table.proofs.Written.{turns_size, tails_size}
use Rattle.table.proofs.Codes.{laid}
use Rattle.control.proofs.Columns.{holds_self, priced_all, priced_same, rounds_all, rounds_same}

-- A plan has as many leaves as its lines have in all.
pub all_size : (ls : List Lines) → length (all_leaves ls) ≡ sizes ls
unfolding all_leaves sizes
all_size [] = refl
all_size (l ∷ ls) = omega (arith, length-append (leaves l) (all_leaves ls), leaves_size l, all_size ls)

module _ (p : Plan) (a : Accepted p) where
  -- The last bound is the number of leaves.
  end_bound : get_or (padded 17 (bounds_of p)) (length p.functions) 0 ≡ sizes p.functions
  end_bound = plan_leaves (formed_plan p a.formed).0

  -- THE COLUMNS

  total_is : (k : Block → ℕ) (f : ℕ) → get_or (tallies k [] p.functions) f 0 ≡ get_or (padded 16 (tallies k [] p.functions)) f 0
  total_is k f = sym (padded_same 16 (tallies k [] p.functions) f (omega (arith, tallies_length k [] p.functions, a.formed.few_functions)))

  pub filled : PlanColumns p (table_of p).tails (table_of p).turns (padded 16 (tallies C [] p.functions))
  filled =
      let ts = tallies C [] p.functions in
      let ls = p.functions in
      record {
        long_tails = omega (arith, tails_size p);
        long_turns = omega (arith, turns_size p);
        totals_are = λ f h. sym (total_is C f);
        priced = λ f h. priced_same ts (padded 16 ts) (total_is C) (all_tails ts ls) (all_turns C ts ls) (get_or ls f close) 0
            (priced_all ts (all_tails ts ls) (all_turns C ts ls) ls 0 (plan_spans p a.formed) (holds_self (all_tails ts ls)) (holds_self (all_turns C ts ls)) f h);
      }

  pub filled_loads : PlanLoads M p (padded 16 (tallies M [] p.functions)) (table_of p).max_load_turns
  filled_loads =
      let ts = tallies M [] p.functions in
      let ls = p.functions in
      record {
        totals_are = λ f h. sym (total_is M f);
        rounds = λ f h. rounds_same ts (padded 16 ts) (total_is M) M (all_turns M ts ls) (get_or ls f close)
            (rounds_all M ts (all_turns M ts ls) ls 0 (plan_spans p a.formed) (holds_self (all_turns M ts ls)) f h);
      }

  -- POINTS

  -- A number is that of a point exactly where its record is there and is marked.
  pub marked_point : (n : ℕ) → n < sizes p.functions → point_at (row_of p) n ≡ 1 → is_point (all_leaves p.functions) n ≡ true
  marked_point n h m = point_of_is p n (mark_point p a (laid p a) n (omega (arith, h, end_bound)) m)

  pub point_marked : (n : ℕ) → is_point (all_leaves p.functions) n ≡ true → (n < sizes p.functions) × (point_at (row_of p) n ≡ 1)
  point_marked n e =
      let (b, i, j, k) = is_point_of p n e in
      let r = row_range 0 (all_leaves p.functions) (spans_all_row p.functions 0 (plan_spans p a.formed)) b i in
      let h : n < sizes p.functions = omega (arith, r, k, all_size p.functions) in
      (h, point_mark p a (laid p a) n (omega (arith, h, end_bound)) (b, i, j, k))
