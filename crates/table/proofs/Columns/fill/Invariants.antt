-- The loop of `fill`: what the turns so far have written.
use Rattle.std.proofs.Common.{◌≡◌}
use Rattle.table.specs.Private.{filled}
use Rattle.table.proofs.Columns.fill.Given as goal

abbrev pub invariant-loop-i : goal.invariant-loop-i
invariant-loop-i l = l.row ≡ filled l.self.turns l.self.tails l.self.max_load_turns l.i l.initial.row
