-- The loop of `files::fill`: the bytes that were counted are within the buffer, and the measure is what is left of it.
use Rattle.std.proofs.Common.{◌-◌, ◌≤◌, length}
use Rattle.files.proofs.fill.Given as goal

abbrev pub invariant-loop-n : goal.invariant-loop-n
invariant-loop-n g l = l.n ≤ length l.buf

abbrev pub decreases-loop-n : goal.decreases-loop-n
decreases-loop-n g l = length l.initial.buf - l.n
