use Rattle.rows.specs.Leaves.{numbers}
use Rattle.rows.specs.Rows.{point_at}
use Rattle.rows.proofs.Answers.{says, said_true, said_false}
use Rattle.place.proofs.Holding.{absent, in_room, counts_so, counts_not}
use Rattle.place.proofs.Lent.{leaf_held, numbers_held}
use mathlib.Core.Bool.{false≢true}
use mathlib.Core.Path.{◌≡◌, sym, ◌∙◌}
use borrow.Author.Tests.{eqb-true, eqb-false}
use Rattle.place.proofs.settled.Goals.{then-on_level, else-on_level}
use Rattle.place.proofs.settled.Goals as goal

pub point-requires : goal.point-requires
point-requires c =
    leaf_held c.args.row.now (in_room c.requires.forms (numbers_held c.args.row.now c.requires.room) c.args.p (c.on_level.ensures c.requires.left) c.if-on_level.true)

pub counted-requires : goal.counted-requires
counted-requires c =
    elim c.if-on_level.branch [
      | then-on_level w ↦
          leaf_held c.args.row.now (in_room c.requires.forms (numbers_held c.args.row.now c.requires.room) c.args.p (c.on_level.ensures c.requires.left) w.if-on_level.true)
      | else-on_level w ↦ absurd (false≢true (sym w.if-on_level.false ∙ (sym w.value-is ∙ c.if-point-eq1.true)))
    ]

pub returns-then-point-eq1 : goal.returns-then-point-eq1
returns-then-point-eq1 c =
    elim c.if-on_level.branch [
      | then-on_level w ↦
          let m : point_at (numbers c.args.row.now) c.args.p ≡ 1 = sym w.point.ensures ∙ eqb-true _ _ (sym w.value-is ∙ c.if-point-eq1.true) in
          λ n G f sp.
          says c.counted.result
          (λ t. counts_so sp c.args.p c.args.count (c.on_level.ensures 62) w.if-on_level.true m (said_true c.counted.result t c.counted.ensures))
          (λ t. counts_not sp c.args.p c.args.count (c.on_level.ensures 62) (said_false c.counted.result t c.counted.ensures))
      | else-on_level w ↦ absurd (false≢true (sym w.if-on_level.false ∙ (sym w.value-is ∙ c.if-point-eq1.true)))
    ]

pub returns-else-point-eq1 : goal.returns-else-point-eq1
returns-else-point-eq1 c =
    λ n G f sp.
    rw c.if-point-eq1.false (λ s. elim c.if-on_level.branch [
      | then-on_level w ↦ eqb-false _ _ (sym w.value-is ∙ c.if-point-eq1.false) (w.point.ensures ∙ s.mark)
      | else-on_level w ↦ absent sp c.args.p c.args.count (c.on_level.ensures 62) w.if-on_level.false s
    ])
