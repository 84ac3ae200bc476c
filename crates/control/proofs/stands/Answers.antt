-- `control::stands` meets its contract. Assumes nothing.
use borrow.Author.Tests.{ne_eqb}
use borrow.Author.Rules.{rules}
use mathlib.Core.Path.{◌≡◌, sym, ◌∙◌}
use lib.ListN.{length}
use native.Mathlib.Omega.{arith}
use Rattle.table.proofs.Tests.{no_truth}
use Rattle.control.proofs.Lending.{coded, table_here, total_wrong, release_judged, spot_right, spot_wrong, spot_above, spot_costed, spot_times}
use Rattle.control.proofs.stands.Goals as goal
use Rattle.control.proofs.stands.Goals.{then-place_ok, else-place_ok}

pub returns-then-release-plan : goal.returns-then-release-plan
returns-then-release-plan c =
    let times-33 : length c.args.release.now.times ≡ 33 = search rules in λ q.
    release_judged q.rowed c.args.release.now c.if-release-eq0.true times-33 c.if-release-plan.true c.zero_above.result c.zero_above.ensures

pub returns-else-release-plan : goal.returns-else-release-plan
returns-else-release-plan c = λ q. rw (ne_eqb _ _ c.if-release-plan.false) (total_wrong q.rowed c.args.release.now c.if-release-plan.false)

pub place_ok-requires : goal.place_ok-requires
place_ok-requires c = table_here (coded c.requires.rowed)

pub zero_above-requires-then-place_ok : goal.zero_above-requires-then-place_ok
zero_above-requires-then-place_ok c =
    (spot_right c.requires.rowed c.args.release.now c.place_ok.result c.if-place_ok.true c.place_ok.ensures).most

pub times_ok-requires : goal.times_ok-requires
times_ok-requires c =
    elim c.if-place_ok.branch [
      | then-place_ok w ↦
          let k = spot_right c.requires.rowed c.args.release.now c.place_ok.result w.if-place_ok.true c.place_ok.ensures in spot_costed c.requires c.args.release.now k
      | else-place_ok w ↦ no_truth (sym w.if-place_ok.false ∙ (sym w.value-is ∙ c.if-zero_above.true))
    ]

pub returns-then-zero_above : goal.returns-then-zero_above
returns-then-zero_above c =
    let times-33 : length c.args.release.now.times ≡ 33 = search rules in λ q.
    elim c.if-place_ok.branch [
      | then-place_ok w ↦
          let k = spot_right q.rowed c.args.release.now c.place_ok.result w.if-place_ok.true c.place_ok.ensures in
          spot_times q c.args.release.now k times-33 w.zero_above-then-place_ok.result (sym w.value-is ∙ c.if-zero_above.true) w.zero_above-then-place_ok.ensures
          c.times_ok.result c.times_ok.ensures
      | else-place_ok w ↦ no_truth (sym w.if-place_ok.false ∙ (sym w.value-is ∙ c.if-zero_above.true))
    ]

pub returns-else-zero_above : goal.returns-else-zero_above
returns-else-zero_above c =
    λ q.
    rw c.if-zero_above.false (elim c.if-place_ok.branch [
      | then-place_ok w ↦
          spot_above q.rowed c.args.release.now w.zero_above-then-place_ok.result (sym w.value-is ∙ c.if-zero_above.false) w.zero_above-then-place_ok.ensures
      | else-place_ok w ↦
          spot_wrong q.rowed c.args.release.now (omega (arith, c.if-release-eq0.false)) c.place_ok.result w.if-place_ok.false c.place_ok.ensures
    ])
