-- `pages::put_pages` meets its contract. The loop's invariant: the pages passed are written. Assumes nothing.
use mathlib.Core.List.{flatten}
use Rattle.print.specs.Printed.{Printed}
use Rattle.pages.specs.Sheet.{pages_to}
use Rattle.pages.proofs.put_pages.Given as goal

abbrev pub invariant-loop-k : goal.invariant-loop-k
invariant-loop-k l = Printed l.initial.out 0 (flatten (pages_to l.task l.points l.k)) l.out l.end
