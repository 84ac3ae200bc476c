use Rattle.rows.specs.Leaves.{numbers}
-- `place::round_again` meets its contract. Assumes nothing.
use Prim.Native.Nat.{◌≤◌}
use native.Mathlib.Decide.{dec_le}
use native.Mathlib.Omega.{arith}
use lib.ListN.{get_or}
use Rattle.rows.specs.Rows.{detail_at}
use Rattle.place.proofs.Finding.{leaf_room, loop_top, loop_spent, loop_enter, loop_stop, loop_other, loop_again}
use Rattle.place.proofs.round_again.Goals.{else-sight-2-via-then-sight-2+else-here-x, else-sight-2-via-else-sight-2}
use Rattle.place.proofs.Lent.{leaf_held, leaves_held}
use Rattle.place.proofs.round_again.Goals as goal

pub may_turn-requires : goal.may_turn-requires
may_turn-requires c = leaf_held c.args.code.now.row.now (leaf_room c.requires.stands.placed c.requires.stands.least)

pub returns-then-not-may_turn : goal.returns-then-not-may_turn
returns-then-not-may_turn c =
    let p = get_or c.args.place.now.leaves c.args.place.now.level 0 in
    let spent : detail_at (numbers c.args.code.now.row.now) p ≤ get_or c.args.place.now.earlier c.args.place.now.level 0 =
    elim (dec_le (detail_at (numbers c.args.code.now.row.now) p) (get_or c.args.place.now.earlier c.args.place.now.level 0)) [
      | yes h ↦ h
      | no h ↦ absurd (c.if-not-may_turn.ensures (c.requires.at_loop, omega arith))
    ] in
    λ s. let q = s.placed in let h = c.requires.stands.least in loop_spent q h c.args.x (loop_top q h c.requires.at_loop) (c.requires.x_value s) spent

pub enclosed-sight-requires-clause-enterable : goal.enclosed-sight-requires-clause-enterable
enclosed-sight-requires-clause-enterable c = (loop_top c.requires.stands.placed c.requires.stands.least c.requires.at_loop).head

pub enclosed-sight-requires-clause-held : goal.enclosed-sight-requires-clause-held
enclosed-sight-requires-clause-held c =
    let h = (loop_top c.requires.stands.placed c.requires.stands.least c.requires.at_loop).spanned in
    record { room = leaves_held c.args.code.now.row.now h.room; left = 62; forms = h.piece }

pub returns-then-sight : goal.returns-then-sight
returns-then-sight c =
    λ s.
    let q = s.placed in
    let h = c.requires.stands.least in
    loop_enter q h c.args.x (loop_top q h c.requires.at_loop) (c.requires.x_value s) c.if-not-may_turn.ensures.1 c.enclosed-sight.ensures c.if-sight.true

pub overflow_add-result-then-here-x : goal.overflow_add-result-then-here-x
overflow_add-result-then-here-x c = omega (arith, c.if-not-may_turn.ensures.1, (loop_top c.requires.stands.placed c.requires.stands.least c.requires.at_loop).few)

pub returns-then-here-x : goal.returns-then-here-x
returns-then-here-x c =
    λ s.
    let q = s.placed in
    let h = c.requires.stands.least in
    loop_again q h c.args.x (loop_top q h c.requires.at_loop) (c.requires.x_value s) c.if-not-may_turn.ensures.1 c.enclosed-sight.ensures c.if-sight.false c.if-sight-2.true
    c.if-here-x.true c.requires.stands.most

pub returns : goal.returns
returns c =
    λ s.
    let q = s.placed in
    let h = c.requires.stands.least in
    let t = loop_top q h c.requires.at_loop in
    elim c.else-sight-2.branch [
      | else-sight-2-via-then-sight-2+else-here-x w ↦
          loop_other q h c.args.x t (c.requires.x_value s) c.if-not-may_turn.ensures.1 c.enclosed-sight.ensures c.if-sight.false w.if-sight-2.true w.if-here-x.false
      | else-sight-2-via-else-sight-2 w ↦
          loop_stop q h c.args.x t (c.requires.x_value s) c.if-not-may_turn.ensures.1 c.enclosed-sight.ensures c.if-sight.false w.if-sight-2.false
    ]
