-- `explanation::follow` meets its contract. The loop's invariant: the bytes passed were taken. Assumes nothing.
use borrow.Author.Rules.{rules}
use borrow.Author.Tests.{eq-eqb, ne_eqb}
use native.Mathlib.Omega.{arith}
use lib.ListN.{length-take}
use Rattle.explanation.proofs.Following.{following_none, following_byte, following_line, followed_all}
use Rattle.explanation.proofs.follow.Goals as goal
use Rattle.explanation.proofs.follow.Goals.{then-b-eq10, else-b-eq10}

pub loop-b-init : goal.loop-b-init
loop-b-init c = following_none _ _ _ _ _ (search rules)

pub loop-b-preserved : goal.loop-b-preserved
loop-b-preserved c =
    let l = c.loop-b in
    let h = c.hold-held.ensures in
    let inside = c.loop-b-test.true in
    elim c.if-b-eq10.branch [
      | then-b-eq10 w ↦ rw (w.held-is, w.seen-is) (following_line l.invariant inside h (eq-eqb _ 10 w.if-b-eq10.true) w.read_entry-entry.ensures w.next_seen-seen.ensures)
      | else-b-eq10 w ↦ rw (w.held-is, w.seen-is) (following_byte l.invariant inside h (ne_eqb _ 10 w.if-b-eq10.false))
    ]

pub returns : goal.returns
returns c =
    let l = c.loop-b in
    followed_all c.args.piece.now l.invariant c.min.ensures (omega (arith, c.loop-b-test.false, length-take c.min.result c.args.piece.now, c.min.ensures))
