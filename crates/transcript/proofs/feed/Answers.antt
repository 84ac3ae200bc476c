-- `transcript::feed` meets its contract. The loop's invariant: the bytes passed were taken, 128 bytes at most being printed for each.
-- Assumes nothing.
use borrow.Author.Rules.{rules}
use borrow.Author.Tests.{eq-eqb, ne_eqb}
use native.Mathlib.Omega.{arith}
use mathlib.Core.Path.{refl}
use lib.ListN.{length-take}
use Rattle.transcript.proofs.Feeding.{feeding_none, feeding_byte, feeding_line, fed_all}
use Rattle.transcript.proofs.feed.Goals as goal
use Rattle.transcript.proofs.feed.Goals.{then-b-eq10, else-b-eq10}

pub loop-b-init : goal.loop-b-init
loop-b-init c = feeding_none _ _ _ _ _ _ (search rules) refl

pub loop-b-preserved : goal.loop-b-preserved
loop-b-preserved c =
    let l = c.loop-b in
    let h = c.hold-held.ensures in
    let inside = c.loop-b-test.true in
    elim c.if-b-eq10.branch [
      | then-b-eq10 w ↦ rw (w.out-is, w.held-is, w.told-is) (feeding_line l.invariant inside h (eq-eqb _ 10 w.if-b-eq10.true) w.read_entry-entry.ensures w.tell-told.ensures)
      | else-b-eq10 w ↦ rw (w.out-is, w.held-is, w.told-is) (feeding_byte l.invariant inside h (ne_eqb _ 10 w.if-b-eq10.false))
    ]

pub returns : goal.returns
returns c =
    let l = c.loop-b in
    rw c.handed_back.ensures (fed_all l.invariant c.min.ensures (omega (arith, c.loop-b-test.false, length-take c.min.result c.args.piece.now, c.min.ensures)))
