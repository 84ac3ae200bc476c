-- `listing::put_points` meets its contract. The loop's invariant: the lines of the points passed are written, 90 bytes at most for each. Assumes nothing.
use Prim.Native.Nat.{◌*◌}
use mathlib.Core.List.{flat_map}
use lib.ListN.{take}
use Rattle.print.specs.Lines.{point_line}
use Rattle.print.specs.Printed.{PrintedWithin}
use Rattle.listing.proofs.put_points.Given as goal

abbrev pub invariant-loop-point : goal.invariant-loop-point
invariant-loop-point l = PrintedWithin (l.point-index * 90) l.initial.out l.at (flat_map point_line (take l.point-index l.points)) l.out l.end
