-- `pages::put_points` meets its contract. The loop's invariant: the lines passed are written. Assumes nothing.
use mathlib.Core.List.{flatten}
use Rattle.print.specs.Printed.{Printed}
use Rattle.pages.specs.Sheet.{point_lines}
use Rattle.pages.proofs.put_points.Given as goal

abbrev pub invariant-loop-j : goal.invariant-loop-j
invariant-loop-j l = Printed l.initial.out l.at (flatten (point_lines l.points l.first l.j)) l.out l.end
