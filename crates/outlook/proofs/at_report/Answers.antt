-- `outlook::at_report` meets its contract. Assumes nothing.
use mathlib.Core.Path.{ap, ◌∙◌}
use Prim.Native.Nat.{◌+◌}
use native.Mathlib.Omega.{arith}
use Rattle.outlook.specs.Quiets.{quiet_sum}
use Rattle.place.proofs.Lent.{leaf_held}
use Rattle.place.proofs.Finding.{leaf_room}
use Rattle.place.proofs.Stacking.{placed}
use Rattle.outlook.proofs.Seeing.{visit_small}
use Rattle.outlook.proofs.at_report.Goals as goal

pub of-visit-requires : goal.of-visit-requires
of-visit-requires c =
    let q = c.requires in
    leaf_held c.args.priced.now.code.row.now (leaf_room (placed q.least q.decoded) q.least)

pub ahead-requires : goal.ahead-requires
ahead-requires c = (omega (arith, c.of-visit.ensures, visit_small c.requires), (c.onward.ensures c.requires).low)

pub returns : goal.returns
returns c =
    λ q. let u = c.onward.ensures q in
    c.ahead.ensures ∙ (λ i. record { stretch = (ap (λ x. x + quiet_sum c.onward.result 0) c.of-visit.ensures ∙ u.stretch 0) i; last = u.last i; ends = u.ends i })
