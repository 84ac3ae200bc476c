-- What `read` answers and leaves where a text is read as a plan: the head of the plan, and the plan's table in row and head. Assumes nothing.
use mathlib.Core.List.{List}
use mathlib.Core.Option.{some}
use mathlib.Core.Path.{◌≡◌, refl, ap}
use Prim.Native.Nat.{ℕ, ◌≤◌}
use native.Mathlib.Omega.{arith}
use Rattle.std.specs.Prelude.{Ok}
use Rattle.model.specs.Plan.{Plan}
use Rattle.model.specs.Acceptance.{Accepted}
use Rattle.reader.specs.Outcome.{Outcome, plan, refused}
use Rattle.rows.specs.declared.Leaf.{Leaf}
use Rattle.table.specs.declared.Head.{Head}
use Rattle.table.specs.Table.{head_of, plan_of}
use Rattle.table.specs.Reading.{verdict, result_of}
use Rattle.table.specs.Lent.{table_with, row_after}
use Rattle.table.proofs.Theorems.{read_as_plan, plan_of_table, read_back}

-- A head is that of a plan, which is accepted.
pub record Read (text : List ℕ) (h : Head) : Type 0 where
  pub of : Plan
  pub is : verdict 512 text ≡ plan of
  pub accepted : Accepted of
  pub head : h ≡ head_of of
  pub few : h.leaves ≤ 512

pub head_read : (text : List ℕ) {h : Head} → Ok h ≡ result_of (verdict 512 text) → Read text h
head_read text {h} e = by (verdict 512 text) refl e
  where
    by : (o : Outcome) → verdict 512 text ≡ o → Ok h ≡ result_of o → Read text h
    by (plan p) o e =
        let a = ((read_as_plan 512 text p).0 o).1 in
        let z : h ≡ head_of p = cc in
        record { of = p; is = o; accepted = a; head = z; few = omega (arith, ap (λ (y : Head). y.leaves) z, a.formed.few_leaves) }
    by (refused k j) o e = cc

-- Consider the row as `read` leaves it.
module _ {text : List ℕ} {h : Head} (r : Read text h) (row : List Leaf) {read : List Leaf} (left : read ≡ row_after (verdict 512 text) row) where
  -- Row and head hold the table of the plan.
  pub planned : plan_of (table_with read h) ≡ some r.of
  planned = (plan_of_table (table_with read h) r.of).1 (r.accepted, rw (left, r.is, r.head) (read_back r.of row))
