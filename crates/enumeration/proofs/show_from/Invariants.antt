-- The loop of `enumeration::show_from`: the trail is one of the code's, and what is shown from here on, behind what was shown, is what is shown from the start
-- on. What falls is what the trail's rank is short of. Assumes nothing.
use Prim.Native.Nat.{◌-◌, ◌^◌}
use mathlib.Core.Path.{◌≡◌}
use lib.ListN.{length, take}
use Rattle.enumeration.specs.Private.{Enumerates}
use Rattle.enumeration.proofs.Ranks.{rank}
use Rattle.enumeration.proofs.Showing.{StillToShow}
use Rattle.enumeration.proofs.show_from.Given as goal

abbrev pub invariant-loop-trail : goal.invariant-loop-trail
invariant-loop-trail g l =
    goal.F-IsAlwaysCallable g l.show × Enumerates l.code l.leasts l.trail × (length l.out ≡ 1386) ×
    StillToShow (λ f line r f'. (x : _) × (x.now ≡ line) × goal.F-step g f x r f') l.code l.leasts l.fn.start l.fn.show l.trail l.show

abbrev pub decreases-loop-trail : goal.decreases-loop-trail
decreases-loop-trail g l = 513 ^ 64 - rank 64 (take l.trail.len l.trail.leaves)
