use Prim.Native.Nat.{ℕ, ◌<◌}
use Rattle.rows.specs.Leaves.{numbers, lent_tails, lent_turns}
use Rattle.place.proofs.Timing.{Right}
use Rattle.place.proofs.times_ok.Given as goal

abbrev pub invariant-loop-l : goal.invariant-loop-l
invariant-loop-l l =
    let r = l.code.row.now in
    (k : ℕ) → k < l.l → Right (numbers r) (lent_tails r) (lent_turns r) l.totals l.place.leaves l.place.earlier l.code.functions l.times k
