-- `stretch_visits::behind` and `stretch_visits::within`, which call each other, meet their contracts. Assumes nothing.
use Prim.Native.Nat.{◌+◌, ◌-◌, ◌≤◌}
use mathlib.Core.Path.{◌≡◌}
use Rattle.rows.specs.Leaves.{numbers}
use Rattle.rows.specs.Rows.{after_at}
use Rattle.outlook.specs.Quiets.{PricedForms}
use Rattle.stretch_visits.proofs.Leaving.{Left}
use Rattle.stretch_visits.proofs.+behind_within.Given as goal

abbrev pub decreases-behind : goal.decreases-behind
decreases-behind l = l.to - l.from + (l.to - l.from) + 1

abbrev pub decreases-within : goal.decreases-within
decreases-within l = l.to - l.i + (l.to - l.i)

abbrev pub invariant-behind-loop-after : goal.invariant-behind-loop-after
invariant-behind-loop-after l =
    (l.from ≤ l.i) × (l.i ≤ l.p) × (l.after ≡ after_at (numbers l.priced.code.row.now) l.i) × ((h : PricedForms l.priced l.from l.to) → Left h l.i l.p)

abbrev pub decreases-behind-loop-after : goal.decreases-behind-loop-after
decreases-behind-loop-after l = l.to - l.i
