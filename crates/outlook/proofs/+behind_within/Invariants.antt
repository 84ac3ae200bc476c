-- `outlook::behind` and `outlook::within`, which call each other, meet their contracts. Assumes nothing.
use Prim.Native.Nat.{◌+◌, ◌-◌, ◌≤◌}
use Rattle.outlook.specs.Quiets.{PricedForms, priced_forms}
use Rattle.outlook.proofs.Leaving.{Going}
use Rattle.outlook.proofs.+behind_within.Given as goal

abbrev pub decreases-behind : goal.decreases-behind
decreases-behind l = l.to - l.from + (l.to - l.from) + 1

abbrev pub decreases-within : goal.decreases-within
decreases-within l = l.to - l.i + (l.to - l.i)

abbrev pub invariant-behind-loop-i : goal.invariant-behind-loop-i
invariant-behind-loop-i l = (l.i ≤ l.p) × (l.from ≤ l.i) × ((h : PricedForms l.priced l.from l.to) → Going l.priced l.i l.to l.p (priced_forms h))

abbrev pub decreases-behind-loop-i : goal.decreases-behind-loop-i
decreases-behind-loop-i l = l.to - l.i
