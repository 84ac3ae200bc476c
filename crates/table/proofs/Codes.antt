-- Lent memory that holds the table of an accepted plan, and the code in it: the plan's functions lie in its row. Assumes nothing.
use mathlib.Core.Bool.{true}
use mathlib.Core.List.{List}
use mathlib.Core.Option.{Option, none, some}
use mathlib.Core.Path.{◌≡◌, refl, ap, ◌∙◌}
use Prim.Native.Nat.{ℕ, ◌*◌, ◌≤◌}
use native.Mathlib.Omega.{arith}
use lib.ListN.{length, take, length-take}
use Rattle.model.specs.Plan.{Plan}
use Rattle.model.specs.Acceptance.{sizes, Accepted}
use Rattle.rows.specs.declared.Code.{Code}
use Rattle.rows.specs.declared.Leaf.{Leaf}
use Rattle.rows.specs.Leaves.{numbers}
use Rattle.rows.specs.Plans.{PlanIn}
use Rattle.rows.specs.Records.{row_of, bounds_of}
use Rattle.rows.proofs.Leaves.{numbers_length, numbers_take}
use Rattle.rows.proofs.Records.{records_all_length}
use Rattle.reader.specs.Raw.{padded}
use Rattle.reader.proofs.Tasks.{length_padded}
use Rattle.table.specs.declared.Head.{Head}
use Rattle.table.specs.Table.{Table, table_of, plan_of, found, good}
use Rattle.table.specs.Lent.{table_with, CodeOf, Coded}
use Rattle.table.proofs.Bridge.{formed_plan}
use Rattle.table.proofs.Plans.{plan_of_exactly}

module _ (row : List Leaf) (h : Head) where
  -- The first leaves of the row, as many as the head says, are the table of an accepted plan.
  pub record Owned : Type 0 where
    pub plan : Plan
    pub accepted : Accepted plan
    pub table_is : table_with row h ≡ table_of plan
    pub found_is : plan_of (table_with row h) ≡ some plan

  pub good_table : good (table_with row h) ≡ true → Owned
  good_table e = by (plan_of (table_with row h)) refl e
    where
      by : (o : Option Plan) → plan_of (table_with row h) ≡ o → found o ≡ true → Owned
      by none z e = absurd (let y : ◌≡◌ {A = ℕ} 0 1 = cc in omega arith)
      by (some p) z e = let (a, i) = (plan_of_exactly (table_with row h) p).0 z in record { plan = p; accepted = a; table_is = i; found_is = z }

module _ {row : List Leaf} {h : Head} (o : Owned row h) where
  pub leaves_held : h.leaves ≤ length row
  leaves_held =
      omega (
        arith,
        ap (λ (u : Table). u.head.leaves) o.table_is,
        ap (λ (u : Table). length u.row) o.table_is,
        records_all_length 0 o.plan.functions,
        length-take (h.leaves * 8) (numbers row),
        numbers_length row,
      )

  -- Its code.
  abbrev pub lent_code : (c : Code) → c.row.now ≡ take h.leaves row → c.bounds.now ≡ h.bounds → c.functions ≡ h.functions → CodeOf o.plan c
  lent_code c r b n =
      let i = o.table_is in
      record {
        row_is = ap numbers r ∙ (numbers_take h.leaves row ∙ ap (λ (u : Table). u.row) i);
        bounds_are = b ∙ ap (λ (u : Table). u.head.bounds) i;
        functions_are = n ∙ ap (λ (u : Table). u.head.functions) i;
      }

module _ (p : Plan) (a : Accepted p) where
  -- The functions lie in the row between the bounds.
  pub laid : PlanIn (row_of p) (padded 17 (bounds_of p)) p
  laid =
      let q = (formed_plan p a.formed).0 in
      record { fits = omega (arith, length_padded 17 (bounds_of p), a.formed.few_functions); first = q.bounds.first; lie = q.lie; held = q.bounds.held }

module _ {c : Code} (q : Coded c) where
  pub laid_here : PlanIn (numbers c.row.now) c.bounds.now q.plan
  laid_here = rw (q.is.row_is, q.is.bounds_are) (laid q.plan q.accepted)

  pub count_here : c.functions ≡ length q.plan.functions
  count_here = q.is.functions_are

  -- The code has a record for each leaf.
  pub row_size : length c.row.now ≡ sizes q.plan.functions
  row_size = omega (arith, numbers_length c.row.now, ap length q.is.row_is ∙ records_all_length 0 q.plan.functions)
