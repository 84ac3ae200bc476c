-- `table::agrees` meets its contract: each test fails only where the lent numbers do not agree. Assumes nothing.
use mathlib.Core.Path.{◌≡◌, sym, ◌∙◌}
use borrow.Author.Rules.{rules}
use lib.ListN.{length}
use Rattle.rows.proofs.Answers.{same_answer, said_true, said_false}
use Rattle.table.proofs.InPlace.{agree_tails, agree_sums, agree_totals, agreement}
use Rattle.table.proofs.agrees.Goals.{then-tails_agree, else-tails_agree}
use Rattle.table.proofs.agrees.Goals as goal

pub returns-then-sums_agree : goal.returns-then-sums_agree
returns-then-sums_agree c =
    let row = c.args.code.now.row.now in
    let h = c.args.head.now in
    let totals-long : length h.totals ≡ 16 = search rules in
    let loads-long : length h.max_load_totals ≡ 16 = search rules in
    elim c.if-tails_agree.branch [
      | then-tails_agree w ↦ λ p q same few.
          let m = c.at_max_load-priced.ensures in
          let x = said_true c.tails_agree.result w.if-tails_agree.true (c.tails_agree.ensures q.plan) in
          let y = said_true w.sums_agree.result (sym w.value-is ∙ c.if-sums_agree.true) ((rw (m.code_is, m.cost_is, m.totals_are) at w.sums_agree.ensures) q.plan) in
          same_answer c.stands.result (agreement q p same row h few totals-long loads-long x y) (agree_totals q p same row h few) c.stands.ensures
      | else-tails_agree w ↦ let z = sym w.if-tails_agree.false ∙ (sym w.value-is ∙ c.if-sums_agree.true) in cc
    ]

pub returns-else-sums_agree : goal.returns-else-sums_agree
returns-else-sums_agree c =
    let row = c.args.code.now.row.now in
    let h = c.args.head.now in
    rw c.if-sums_agree.false (λ p q same few g. elim c.if-tails_agree.branch [
      | then-tails_agree w ↦
          let m = c.at_max_load-priced.ensures in
          said_false w.sums_agree.result (sym w.value-is ∙ c.if-sums_agree.false) ((rw (m.code_is, m.cost_is, m.totals_are) at w.sums_agree.ensures) q.plan)
          (agree_sums q p same row h few g)
      | else-tails_agree w ↦ said_false c.tails_agree.result w.if-tails_agree.false (c.tails_agree.ensures q.plan) (agree_tails q p same row h few g)
    ])
