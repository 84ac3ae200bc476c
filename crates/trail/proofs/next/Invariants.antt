-- The trail is as it was, and from the counter on no visit can be left for a later run.
use Rattle.std.specs.Prelude.{◌≡◌, ◌≤◌}
use Rattle.trail.proofs.Turning.{NoLater}
use Rattle.trail.proofs.next.Given as goal

abbrev pub invariant-loop-k : goal.invariant-loop-k
invariant-loop-k l = (l.trail ≡ l.initial.trail) × (l.k ≤ l.trail.len) × NoLater l.trail l.k
