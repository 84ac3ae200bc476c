-- `listing::put_points` meets its contract. The loop's invariant: the lines of the points passed are written, 90 bytes at most for each. Assumes nothing.
use mathlib.Core.List.{[]}
use native.Mathlib.Omega.{arith}
use Rattle.print.specs.Lines.{point_line}
use Rattle.print.proofs.Laws.{none_written, one_written, wider}
use Rattle.listing.proofs.put_points.Goals as goal

pub loop-point-init : goal.loop-point-init
loop-point-init c = none_written point_line c.args.points.now 90 c.args.out.now c.args.at

pub loop-point-preserved : goal.loop-point-preserved
loop-point-preserved c =
    let l = c.loop-point in
    one_written point_line [] c.args.points.now 90 l.point-index c.loop-point-test.true l.invariant
    (wider (omega (arith, c.told-points l.point-index c.loop-point-test.true)) c.numbers_line-end.ensures)
