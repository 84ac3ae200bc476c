-- The code of a plan's table is one that crate `trail` works on. Assumes nothing.
use mathlib.Core.List.{List, []}
use mathlib.Core.Path.{◌≡◌, ap, sym, ◌∙◌}
use Prim.Native.Nat.{ℕ, ◌-◌, ◌≤◌, ◌<◌}
use native.Mathlib.Omega.{arith}
use lib.ListN.{length, get_or, take}
use mathlib.Core.Option.{some}
use Rattle.model.specs.Plan.{Plan}
use Rattle.model.specs.Forms.{done, linked, main}
use Rattle.model.specs.Acceptance.{Costs}
use Rattle.model.proofs.Statics.{main_last}
use Rattle.rows.specs.declared.Code.{Code}
use Rattle.rows.specs.Leaves.{numbers}
use Rattle.rows.specs.Rows.{block_at}
use Rattle.rows.proofs.Plans.{leaves_in}
use Rattle.place.specs.Lent.{CodeTable, main_forms}
use Rattle.place.proofs.Tables.{table_of}
use Rattle.rows.specs.declared.Leaf.{Leaf}
use Rattle.table.specs.declared.Head.{Head}
use Rattle.table.specs.Table.{plan_of}
use Rattle.table.proofs.Plans.{plan_of_exactly}
use Rattle.table.specs.Lent.{table_with, Coded}
use Rattle.table.proofs.Codes.{Owned, lent_code, laid_here, count_here, row_size}
use Rattle.std.specs.Prelude.{Some, None, map}
use Rattle.enumeration.specs.Enumeration.{run_line, plan_lines}
use Rattle.short_runs.specs.Listing.{short_runs}
use Rattle.short_runs.proofs.Listing.{listed_ascending}
use Rattle.short_runs.proofs.Told.{accepted_told}
use Rattle.least_visits.specs.Least.{TableLeasts}
use Rattle.trail.specs.declared.Trail.{Trail}
use Rattle.trail.specs.Trails.{GivesFirst, ShortRunsOn}
use Rattle.enumeration.specs.Private.{Enumerates}
use Rattle.enumeration.proofs.Costing.{costs_of}

-- Lent memory that holds the table of a plan holds that of an accepted one,
pub owned : (row : List Leaf) (head : Head) (p : Plan) → plan_of (table_with row head) ≡ some p → Owned row head
owned row head p e =
    let (a, i) = (plan_of_exactly (table_with row head) p).0 e in record { plan = p; accepted = a; table_is = i; found_is = e }

-- and its code is the plan's.
abbrev pub planned_code : (row : List Leaf) (head : Head) (p : Plan) → plan_of (table_with row head) ≡ some p → (c : Code) → c.row.now ≡ take head.leaves row →
    c.bounds.now ≡ head.bounds → c.functions ≡ head.functions → Coded c
planned_code row head p e c r b n =
    let (a, i) = (plan_of_exactly (table_with row head) p).0 e in
    let o : Owned row head = record { plan = p; accepted = a; table_is = i; found_is = e } in
    record { plan = p; accepted = a; is = lent_code o c r b n }

module _ {c : Code} (q : Coded c) where
  abbrev pub table_here : CodeTable c
  table_here =
      let t = table_of q.plan q.accepted (laid_here q) in
      let e = count_here q in
      record {
        count = rw e t.count;
        fits = rw e t.fits;
        funs = linked [] q.plan.functions;
        each = λ f l. t.each f (omega (arith, l, e));
        low = rw e t.low;
        traceable = rw e t.traceable;
      }

  -- Its main function is the plan's.
  pub main_here : main_forms table_here ≡ main q.plan
  main_here = ap (λ k. get_or (linked [] q.plan.functions) (k - 1) done) (count_here q) ∙ sym (main_last q.plan)

  pub few_rows : length c.row.now ≤ 512
  few_rows = omega (arith, row_size q, q.accepted.formed.few_leaves)

  pub costs_here : (i : ℕ) → i < length c.row.now → Costs (block_at (numbers c.row.now) i)
  costs_here i h =
      let d = laid_here q in
      costs_of (numbers c.row.now) table_here d.first i (omega (arith, h, row_size q, leaves_in d, ap (λ k. get_or c.bounds.now k 0) (count_here q)))

  pub few_functions : c.functions ≤ 16
  few_functions = omega (arith, count_here q, q.accepted.formed.few_functions)

  pub few_records : get_or c.bounds.now c.functions 0 ≤ 512
  few_records =
      omega (arith, leaves_in (laid_here q), ap (λ k. get_or c.bounds.now k 0) (count_here q), q.accepted.formed.few_leaves)

  -- What `trail` asks for of it, with the least numbers of visits,
  module _ (column : List ℕ) (noted : (h : CodeTable c) → TableLeasts h column) where
    abbrev pub short_runs_on : ShortRunsOn c column
    short_runs_on =
        record { table = table_here; noted = noted table_here; told = rw main_here (accepted_told q.plan q.accepted) }

    -- and what it gives: the first of the plan's short runs, if there is one.
    abbrev pub first_enumerates : (x : Trail) → GivesFirst c column (Some x) → Enumerates c column x
    first_enumerates x b =
        record {
          on = short_runs_on;
          runs = short_runs 64 (main_forms table_here);
          stands = b table_here (noted table_here) short_runs_on.told;
          ascending = listed_ascending 64 (main_forms table_here);
          few = few_rows;
          costs = costs_here;
        }

    -- Where there is none, the plan has no lines.
    pub no_lines : GivesFirst c column None → plan_lines q.plan ≡ []
    no_lines b = ap (λ z. map run_line z) (ap (short_runs 64) (sym main_here) ∙ b table_here (noted table_here) short_runs_on.told)

    -- The runs of the first trail are all of the plan's.
    pub first_lines : (x : Trail) (b : GivesFirst c column (Some x)) → map run_line (first_enumerates x b).runs ≡ plan_lines q.plan
    first_lines x b = ap (λ f. map run_line (short_runs 64 f)) main_here
