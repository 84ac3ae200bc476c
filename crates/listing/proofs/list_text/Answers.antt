-- `listing::list_text` meets its contract, once for a refused text and once for a plan. Assumes nothing.
use native.Mathlib.Omega.{arith}
use lib.ListN.{replicate}
use lib.Seq.{length-take-le}
use mathlib.Core.Path.{sym}
use Rattle.listing.proofs.Lines.{listed, list_accepted}
use Rattle.listing.proofs.list_text.Goals as goal

pub slice_bounds-points-end : goal.slice_bounds-points-end
slice_bounds-points-end c =
    let k = listed c.args.text.now (replicate 4 0) c.in-Ok.ensures.summary c.in-Ok.ensures.numbers in
    omega (arith, k.few, k.long)

pub slice_bounds-put_points-end : goal.slice_bounds-put_points-end
slice_bounds-put_points-end c =
    let k = listed c.args.text.now (replicate 4 0) c.in-Ok.ensures.summary c.in-Ok.ensures.numbers in
    sym (length-take-le c.in-Ok.summary.count c.collect.new.points (omega (arith, k.few, k.long)))

pub returns-in-Ok : goal.returns-in-Ok
returns-in-Ok c =
    let k = listed c.args.text.now (replicate 4 0) c.in-Ok.ensures.summary c.in-Ok.ensures.numbers in
    let both = list_accepted c.args.text.now c.told-out k c.numbers_line-first.ensures c.put_points.ensures in record {
      lines = both.0;
      size = both.1.0;
      fits = both.1.1;
    }
