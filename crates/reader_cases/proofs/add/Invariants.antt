-- The loop of `reader_cases::add`: the place is within the text. Assumes nothing.
use Rattle.std.proofs.Common.{◌≤◌}
use Rattle.reader_cases.proofs.add.Given as goal

abbrev pub invariant-loop : goal.invariant-loop
invariant-loop l = l.end ≤ 65537
