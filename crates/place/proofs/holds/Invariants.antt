use Prim.Native.Nat.{ℕ, ◌<◌}
use Rattle.place.specs.Lent.{CodeTable, main_forms}
use Rattle.place.specs.Private.{PlaceHolds}
use Rattle.place.proofs.holds.Given as goal

abbrev pub invariant-loop-l : goal.invariant-loop-l
invariant-loop-l l = (p : CodeTable l.code) (k : ℕ) → k < l.l → PlaceHolds l.code (main_forms p) l.place k
