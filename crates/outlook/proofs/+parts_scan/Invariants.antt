-- `outlook::parts` and `outlook::scan`, which call each other, meet their contracts. Assumes nothing.
use Prim.Native.Nat.{◌+◌, ◌-◌, ◌≤◌}
use Rattle.rows.specs.Costs.{cost_in}
use Rattle.model.specs.Total.{total}
use Rattle.model.specs.Places.{no_more}
use Rattle.outlook.specs.Quiets.{still, PricedForms, priced_forms}
use Rattle.outlook.proofs.Walking.{Scanning}
use Rattle.outlook.proofs.+parts_scan.Given as goal

abbrev pub decreases-parts : goal.decreases-parts
decreases-parts l = l.to - l.i + (l.to - l.i)

abbrev pub decreases-scan : goal.decreases-scan
decreases-scan l = l.to - l.from + (l.to - l.from) + 1

abbrev pub invariant-scan-loop-i : goal.invariant-scan-loop-i
invariant-scan-loop-i l =
    (l.from ≤ l.i) ×
    ((h : PricedForms l.priced l.from l.to) → Scanning l.priced l.i l.to l.passed (λ s. still (cost_in l.priced.cost) (priced_forms h) s) (no_more (priced_forms h)) (total (cost_in l.priced.cost) (priced_forms h)))

abbrev pub decreases-scan-loop-i : goal.decreases-scan-loop-i
decreases-scan-loop-i l = l.to - l.i
