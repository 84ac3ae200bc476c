-- `table::check` meets its contract: each test fails only where the table is that of no accepted plan. Assumes nothing.
use mathlib.Core.Path.{◌≡◌, sym, ◌∙◌}
use borrow.Author.Rules.{rules}
use borrow.Author.Tests.{eqb-true, eqb-false}
use lib.ListN.{length, get_or, take}
use Rattle.rows.specs.Leaves.{numbers}
use Rattle.structure.specs.Plans.{Structured}
use Rattle.rows.proofs.Answers.{said_true, said_false}
use Rattle.table.specs.Lent.{table_with}
use Rattle.table.proofs.Checking.{good_exactly, plan_ranged, plan_structured, plan_end, tested}
use Rattle.table.proofs.check.Goals.{then-is_ok, else-is_ok}
use Rattle.table.proofs.check.Goals as goal

pub returns-then-not-ranged : goal.returns-then-not-ranged
returns-then-not-ranged c =
    let ls = c.args.row.now in
    let h = c.args.head.now in
    good_exactly _ (table_with ls h) (λ t. said_false c.ranged.result c.if-not-ranged.true c.ranged.ensures (plan_ranged ls h t))

pub returns-then-head : goal.returns-then-head
returns-then-head c =
    let ls = c.args.row.now in
    let h = c.args.head.now in
    let k = c.code-code.ensures in
    let bounds-long : length h.bounds ≡ 17 = search rules in
    elim c.if-is_ok.branch [
      | then-is_ok w ↦
          let q : Structured (numbers (take h.leaves ls)) h.bounds h.functions =
          rw (k.row, k.bounds, k.functions) at (said_true _ (sym w.if-is_ok.ensures.value) c.structured.ensures.says) in
          let end : get_or h.bounds h.functions 0 ≡ h.leaves = eqb-true _ _ (sym w.value-is ∙ c.if-head.true) in
          tested ls h q c.if-not-ranged.ensures bounds-long end (rw (k.row, k.bounds, k.functions) at c.agrees.ensures)
      | else-is_ok w ↦ let z = sym w.if-is_ok.false ∙ (sym w.value-is ∙ c.if-head.true) in cc
    ]

pub returns-else-head : goal.returns-else-head
returns-else-head c =
    let ls = c.args.row.now in
    let h = c.args.head.now in
    let k = c.code-code.ensures in
    good_exactly _ (table_with ls h) (rw c.if-head.false (λ t. elim c.if-is_ok.branch [
      | then-is_ok w ↦ eqb-false _ _ (sym w.value-is ∙ c.if-head.false) (plan_end ls h t)
      | else-is_ok w ↦ said_false _ (sym w.if-is_ok.ensures.value) c.structured.ensures.says (rw (k.row, k.bounds, k.functions) (plan_structured ls h t).0)
    ]))
