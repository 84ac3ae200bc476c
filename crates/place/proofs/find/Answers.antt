use Rattle.rows.specs.Leaves.{numbers}
-- `place::find` meets its contract. Assumes nothing.
use Rattle.std.specs.Option.{is_some}
use mathlib.Core.Bool.{true, false}
use mathlib.Core.Path.{◌≡◌}
use lib.ListN.{get_or}
use borrow.Author.Rules.{rules}
use Rattle.rows.specs.Rows.{kind_at}
use Rattle.place.proofs.Finding.{leaf_room, none_found, call_top, loop_top, find_flat, call_enter, call_pass, call_stop, loop_left}
use Rattle.place.proofs.find.Goals.{else-eq-2-via-then-eq-2+else-is_none, else-eq-2-via-else-eq-2}
use Rattle.place.proofs.Lent.{leaf_held, leaves_held}
use Rattle.place.proofs.find.Goals as goal

pub kind_of-kind-requires : goal.kind_of-kind-requires
kind_of-kind-requires c = leaf_held c.args.code.now.row.now (leaf_room c.requires.placed c.requires.least)

pub enclosed-sight-requires-clause-enterable : goal.enclosed-sight-requires-clause-enterable
enclosed-sight-requires-clause-enterable c =
    let k : kind_at (numbers c.args.code.now.row.now) (get_or c.args.place.now.leaves c.args.place.now.level 0) ≡ 1 = search rules in (call_top c.requires.placed c.requires.least k).head

pub enclosed-sight-requires-clause-held : goal.enclosed-sight-requires-clause-held
enclosed-sight-requires-clause-held c =
    let k : kind_at (numbers c.args.code.now.row.now) (get_or c.args.place.now.leaves c.args.place.now.level 0) ≡ 1 = search rules in
    let h = (call_top c.requires.placed c.requires.least k).spanned in
    record { room = leaves_held c.args.code.now.row.now h.room; left = 62; forms = h.piece }

pub returns-then-sight : goal.returns-then-sight
returns-then-sight c =
    let k : kind_at (numbers c.args.code.now.row.now) (get_or c.args.place.now.leaves c.args.place.now.level 0) ≡ 1 = search rules in
    λ s. let q = s.placed in let h = c.requires.least in call_enter q h c.args.x (call_top q h k) c.enclosed-sight.ensures c.if-sight.true

pub returns-then-sight-2 : goal.returns-then-sight-2
returns-then-sight-2 c =
    let k : kind_at (numbers c.args.code.now.row.now) (get_or c.args.place.now.leaves c.args.place.now.level 0) ≡ 1 = search rules in
    λ s. let q = s.placed in let h = c.requires.least in call_pass q h c.args.x (call_top q h k) c.enclosed-sight.ensures c.below.result c.if-sight.false c.if-sight-2.true (c.below.ensures s)

pub returns-else-sight-2 : goal.returns-else-sight-2
returns-else-sight-2 c =
    let k : kind_at (numbers c.args.code.now.row.now) (get_or c.args.place.now.leaves c.args.place.now.level 0) ≡ 1 = search rules in
    λ s. let q = s.placed in let h = c.requires.least in call_stop q h c.args.x (call_top q h k) c.enclosed-sight.ensures c.if-sight.false c.if-sight-2.false

pub round_again-requires-clause-x_value : goal.round_again-requires-clause-x_value
round_again-requires-clause-x_value c =
    let e : is_some c.below-under.result ≡ false = search rules in λ q. none_found q.placed c.requires.least c.args.x c.below-under.result e (c.below-under.ensures q)

pub returns : goal.returns
returns c =
    let k : kind_at (numbers c.args.code.now.row.now) (get_or c.args.place.now.leaves c.args.place.now.level 0) ≡ 1 → ⊥ = search rules in
    λ s.
    let q = s.placed in
    let h = c.requires.least in
    elim c.else-eq-2.branch [
      | else-eq-2-via-then-eq-2+else-is_none w ↦
          let two : kind_at (numbers c.args.code.now.row.now) (get_or c.args.place.now.leaves c.args.place.now.level 0) ≡ 2 = search rules in
          let e : is_some c.below-under.result ≡ true = search rules in
          loop_left q h c.args.x (loop_top q h two) c.below-under.result e (c.below-under.ensures s)
      | else-eq-2-via-else-eq-2 w ↦
          let two : kind_at (numbers c.args.code.now.row.now) (get_or c.args.place.now.leaves c.args.place.now.level 0) ≡ 2 → ⊥ = search rules in
          find_flat q h c.args.x c.below-under.result k two (c.below-under.ensures s)
    ]
