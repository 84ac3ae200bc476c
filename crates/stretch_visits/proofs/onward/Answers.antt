-- `stretch_visits::onward` meets its contract. Assumes nothing.
use lib.ListN.{get_or}
use mathlib.Core.Bool.{true, false}
use mathlib.Core.Path.{◌≡◌}
use native.Mathlib.Omega.{arith}
use borrow.Author.Rules.{rules}
use Rattle.rows.specs.Leaves.{numbers}
use Rattle.rows.specs.Rows.{kind_at}
use Rattle.place.proofs.Lent.{leaf_held}
use Rattle.place.proofs.Finding.{leaf_room, call_top, loop_top}
use Rattle.place.proofs.Stacking.{placed}
use Rattle.outlook.proofs.Quieting.{low_of}
use Rattle.outlook.proofs.Seeing.{walks}
use Rattle.stretch_visits.proofs.Scanned.{quiet_small}
use Rattle.stretch_visits.proofs.Seeing.{under_is, see_rest, see_leave, see_stop, see_call, loop_inner, round_is, see_round}
use Rattle.stretch_visits.proofs.Seeing.{room_run, room_call, room_loop, room_passed}
use Rattle.stretch_visits.proofs.onward.Goals.{then-eq+else-not-note, else-eq+then-may_turn+else-under-sum, else-eq+else-may_turn}
use Rattle.stretch_visits.proofs.onward.Goals as goal

pub downward-requires : goal.downward-requires
downward-requires c = walks c.requires.priced

pub sum-under-requires : goal.sum-under-requires
sum-under-requires c =
    let q = c.requires.priced in
    let most = q.most in
    (low_of (c.downward.ensures (walks q)) (omega arith), omega arith)

pub kind_of-requires : goal.kind_of-requires
kind_of-requires c =
    let q = c.requires.priced in
    leaf_held c.args.priced.now.code.row.now (leaf_room (placed q.least q.decoded) q.least)

pub opening-inner-requires : goal.opening-inner-requires
opening-inner-requires c =
    let k : kind_at (numbers c.args.priced.now.code.row.now) (get_or c.args.place.now.leaves c.args.place.now.level 0) ≡ 1 = search rules in
    let q = c.requires.priced in
    (call_top (placed q.least q.decoded) q.least k).head

pub note-requires : goal.note-requires
note-requires c =
    let k : kind_at (numbers c.args.priced.now.code.row.now) (get_or c.args.place.now.leaves c.args.place.now.level 0) ≡ 1 = search rules in
    let r = c.requires in
    let (x, y) = c.opening-inner.ensures in
    record { held = room_call r x y k (omega (arith, c.sum-under.ensures, quiet_small (c.downward.ensures (walks r.priced)) 0)) }

pub returns-then-not-note : goal.returns-then-not-note
returns-then-not-note c =
    let k : kind_at (numbers c.args.priced.now.code.row.now) (get_or c.args.place.now.leaves c.args.place.now.level 0) ≡ 1 = search rules in
    let z : c.note.result ≡ false = search rules in
    let (x, y) = c.opening-inner.ensures in
    λ q. see_stop q x y k (under_is q c.downward.ensures c.sum-under.ensures) (rw z at c.note.ensures)

pub may_turn-requires : goal.may_turn-requires
may_turn-requires c =
    let q = c.requires.priced in
    leaf_held c.args.priced.now.code.row.now (leaf_room (placed q.least q.decoded) q.least)

pub opening-inner-requires-then-may_turn : goal.opening-inner-requires-then-may_turn
opening-inner-requires-then-may_turn c =
    let q = c.requires.priced in
    (loop_top (placed q.least q.decoded) q.least c.if-may_turn.ensures.0).head

pub scan-requires : goal.scan-requires
scan-requires c = let (x, y) = c.opening-inner-then-may_turn.ensures in loop_inner c.requires.priced x y c.if-may_turn.ensures

pub sum-requires : goal.sum-requires
sum-requires c =
    let (x, y) = c.opening-inner-then-may_turn.ensures in
    let h = loop_inner c.requires.priced x y c.if-may_turn.ensures in
    (low_of (c.scan.ensures h) (omega (arith, h.small)), omega arith)

pub note-requires-then-under-sum : goal.note-requires-then-under-sum
note-requires-then-under-sum c = let (x, y) = c.opening-inner-then-may_turn.ensures in record { held = room_loop c.requires x y c.if-may_turn.ensures }

pub returns-then-under-sum : goal.returns-then-under-sum
returns-then-under-sum c =
    let (x, y) = c.opening-inner-then-may_turn.ensures in
    λ q. see_round q x y c.if-may_turn.ensures (under_is q c.downward.ensures c.sum-under.ensures)
    (round_is q x y c.if-may_turn.ensures c.scan.ensures c.sum.ensures)
    c.if-under-sum.true c.note-then-under-sum.ensures

pub levels-requires : goal.levels-requires
levels-requires c =
    elim c.if-eq.branch [
      | then-eq+else-not-note w ↦
          let k : kind_at (numbers c.args.priced.now.code.row.now) (get_or c.args.place.now.leaves c.args.place.now.level 0) ≡ 1 = search rules in
          let (x, y) = w.opening-inner.ensures in
          rw w.notes-is (room_passed c.requires x y c.sum-under.result k w.note.ensures)
      | else-eq+then-may_turn+else-under-sum w ↦ rw w.notes-is (room_run c.requires)
      | else-eq+else-may_turn w ↦ rw w.notes-is (room_run c.requires)
    ]

pub returns : goal.returns
returns c =
    λ q. elim c.if-eq.branch [
      | then-eq+else-not-note w ↦
          let k : kind_at (numbers c.args.priced.now.code.row.now) (get_or c.args.place.now.leaves c.args.place.now.level 0) ≡ 1 = search rules in
          let z : w.note.result ≡ true = search rules in
          let (x, y) = w.opening-inner.ensures in
          see_call q x y k (under_is q c.downward.ensures c.sum-under.ensures) (rw z at w.note.ensures) (rw w.notes-is at c.levels.ensures)
      | else-eq+then-may_turn+else-under-sum w ↦
          let (x, y) = w.opening-inner-then-may_turn.ensures in
          see_leave q w.if-may_turn.ensures (rw w.notes-is at c.levels.ensures) (under_is q c.downward.ensures c.sum-under.ensures)
          (round_is q x y w.if-may_turn.ensures w.scan.ensures w.sum.ensures)
          w.if-under-sum.false
      | else-eq+else-may_turn w ↦
          let k : kind_at (numbers c.args.priced.now.code.row.now) (get_or c.args.place.now.leaves c.args.place.now.level 0) ≡ 1 → ⊥ = search rules in
          see_rest q (rw w.notes-is at c.levels.ensures) k w.if-may_turn.ensures
    ]
