-- `pages::put_points` meets its contract. The loop's invariant: the lines passed are written. Assumes nothing.
use Rattle.pages.proofs.Lines.{no_points, point_more}
use Rattle.pages.proofs.put_points.Goals as goal

pub loop-j-init : goal.loop-j-init
loop-j-init c =
    let s = c.args in
    no_points s.points.now s.first s.out.now s.at

pub loop-j-preserved : goal.loop-j-preserved
loop-j-preserved c = point_more c.args.points.now c.args.first c.loop-j.j c.loop-j.invariant c.put_point-end.ensures
