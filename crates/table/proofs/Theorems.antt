-- Lemmas about tables of numbers; each is proved in a file beside this one. What is promised of the delivered calls stands in `demands`.
use mathlib.Core.List.{List}
use mathlib.Core.Logic.{◌↔◌}
use mathlib.Core.Option.{some}
use mathlib.Core.Path.{◌≡◌, sym}
use Prim.Native.Nat.{ℕ}
use lib.ListN.{drop}
use Rattle.std.specs.Prelude.{Err}
use Rattle.model.specs.Plan.{Plan}
use Rattle.model.specs.Acceptance.{sizes, Fits, Accepted}
use Rattle.reader.specs.declared.RefusedAt.{RefusedAt}
use Rattle.reader.specs.Outcome.{Outcome, plan}
use Rattle.reader.specs.Print.{print}
use Rattle.rows.specs.declared.Leaf.{Leaf}
use Rattle.table.specs.declared.Head.{Head}
use Rattle.table.specs.Table.{Table, table_of, head_of, plan_of}
use Rattle.table.specs.Reading.{verdict, result_of, head_after}
use Rattle.table.specs.Lent.{table_with, row_after}
use Rattle.table.proofs.Plans as plans
use Rattle.table.proofs.Reading as reading
use Rattle.table.proofs.Lent as lent
use Rattle.table.proofs.Writing as writing

-- A text is read as the plan p exactly when it is the one text of p, p is accepted, and the lent row holds its leaves.
pub read_as_plan : (row : ℕ) (text : List ℕ) (p : Plan) → (verdict row text ≡ plan p) ↔ ((text ≡ print p) × Accepted p × Fits row p)
read_as_plan = reading.read_exactly

-- The plan of a table is p exactly when p is accepted and this is its table.
pub plan_of_table : (t : Table) (p : Plan) → (plan_of t ≡ some p) ↔ (Accepted p × (t ≡ table_of p))
plan_of_table = plans.plan_of_exactly

-- A text that is refused keeps the lent row and the lent head: they are, after the answer, what they were.
pub refused_keeps : (o : Outcome) (e : RefusedAt) → result_of o ≡ Err e → (ls : List Leaf) (h : Head) → (row_after o ls ≡ ls) × (head_after o h ≡ h)
refused_keeps o e x ls h = writing.kept o (sym x) ls h

-- After a plan was read, row and head hold its table, whatever the row held before.
pub read_back : (p : Plan) (ls : List Leaf) → table_with (row_after (plan p) ls) (head_of p) ≡ table_of p
read_back p ls = lent.table_back p (drop (sizes p.functions) ls)
