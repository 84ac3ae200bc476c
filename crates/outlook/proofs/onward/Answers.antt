-- `outlook::onward` meets its contract. Assumes nothing.
use lib.ListN.{get_or}
use mathlib.Core.Path.{◌≡◌}
use native.Mathlib.Omega.{arith}
use borrow.Author.Rules.{rules}
use Rattle.rows.specs.Leaves.{numbers}
use Rattle.rows.specs.Rows.{kind_at}
use Rattle.place.proofs.Lent.{leaf_held}
use Rattle.place.proofs.Finding.{leaf_room, call_top, loop_top}
use Rattle.place.proofs.Stacking.{placed}
use Rattle.outlook.proofs.Quieting.{low_of, stop}
use Rattle.outlook.proofs.Seeing.{walks, falls_low, call_priced, loop_priced, sees_call, sees_loop, sees_rest}
use Rattle.outlook.proofs.onward.Goals as goal

pub downward-under-requires : goal.downward-under-requires
downward-under-requires c = walks c.requires

pub kind_of-requires : goal.kind_of-requires
kind_of-requires c =
    let q = c.requires in
    leaf_held c.args.priced.now.code.row.now (leaf_room (placed q.least q.decoded) q.least)

pub enclosed-requires-clause-enterable : goal.enclosed-requires-clause-enterable
enclosed-requires-clause-enterable c =
    let k : kind_at (numbers c.args.priced.now.code.row.now) (get_or c.args.place.now.leaves c.args.place.now.level 0) ≡ 1 = search rules in
    let q = c.requires in
    (call_top (placed q.least q.decoded) q.least k).head

pub enclosed-requires-clause-held : goal.enclosed-requires-clause-held
enclosed-requires-clause-held c =
    let k : kind_at (numbers c.args.priced.now.code.row.now) (get_or c.args.place.now.leaves c.args.place.now.level 0) ≡ 1 = search rules in
    call_priced c.requires k

pub then-requires : goal.then-requires
then-requires c =
    let k : kind_at (numbers c.args.priced.now.code.row.now) (get_or c.args.place.now.leaves c.args.place.now.level 0) ≡ 1 = search rules in
    let q = c.requires in
    let h = call_priced q k in
    (low_of (c.enclosed.ensures h) (omega (arith, h.small)), falls_low q (c.downward-under.ensures (walks q)))

pub returns-then-eq : goal.returns-then-eq
returns-then-eq c =
    let k : kind_at (numbers c.args.priced.now.code.row.now) (get_or c.args.place.now.leaves c.args.place.now.level 0) ≡ 1 = search rules in
    λ q. sees_call q (c.downward-under.ensures (walks q)) k c.enclosed.ensures c.then.ensures

pub may_turn-requires : goal.may_turn-requires
may_turn-requires c =
    let q = c.requires in
    leaf_held c.args.priced.now.code.row.now (leaf_room (placed q.least q.decoded) q.least)

pub enclosed-requires-then-may_turn-clause-enterable : goal.enclosed-requires-then-may_turn-clause-enterable
enclosed-requires-then-may_turn-clause-enterable c =
    let q = c.requires in
    (loop_top (placed q.least q.decoded) q.least c.if-may_turn.ensures.0).head

pub enclosed-requires-then-may_turn-clause-held : goal.enclosed-requires-then-may_turn-clause-held
enclosed-requires-then-may_turn-clause-held c = loop_priced c.requires c.if-may_turn.ensures

pub then-again-requires : goal.then-again-requires
then-again-requires c =
    let h = loop_priced c.requires c.if-may_turn.ensures in
    (low_of (c.enclosed-then-may_turn.ensures h) (omega (arith, h.small)), low_of stop (omega arith))

pub returns-then-may_turn : goal.returns-then-may_turn
returns-then-may_turn c =
    λ q. sees_loop q (c.downward-under.ensures (walks q)) c.if-may_turn.ensures c.enclosed-then-may_turn.ensures c.then-again.ensures c.or.ensures

pub returns : goal.returns
returns c =
    let k : kind_at (numbers c.args.priced.now.code.row.now) (get_or c.args.place.now.leaves c.args.place.now.level 0) ≡ 1 → ⊥ = search rules in
    λ q. sees_rest q (c.downward-under.ensures (walks q)) k c.if-may_turn.ensures
