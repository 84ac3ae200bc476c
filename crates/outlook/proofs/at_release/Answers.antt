-- `outlook::at_release` meets its contract. Assumes nothing.
use mathlib.Core.Path.{◌∙◌}
use native.Mathlib.Omega.{arith}
use Rattle.outlook.proofs.Quieting.{low_of}
use Rattle.outlook.proofs.Seeing.{main_priced, main_seen}
use Rattle.outlook.proofs.at_release.Goals as goal

pub scan-requires : goal.scan-requires
scan-requires c = main_priced c.requires c.main_function-main.ensures.0 c.main_function-main.ensures.1

pub ahead-requires : goal.ahead-requires
ahead-requires c =
    let h = main_priced c.requires c.main_function-main.ensures.0 c.main_function-main.ensures.1 in
    (omega arith, low_of (c.scan.ensures h) (omega (arith, h.small)))

pub returns : goal.returns
returns c =
    λ q. let (x, y, z) = main_seen q c.main_function-main.ensures.0 c.main_function-main.ensures.1 c.scan.ensures in
    c.ahead.ensures ∙ (λ i. record { stretch = x i; last = y i; ends = z i })
