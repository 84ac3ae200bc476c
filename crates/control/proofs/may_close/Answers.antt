-- `control::may_close` meets its contract. Assumes nothing.
use Prim.Native.Nat.{◌≤◌}
use native.Mathlib.Omega.{arith}
use Rattle.control.proofs.Lending.{release_asked, release_ahead}
use Rattle.control.proofs.Closing.{spot_asked, spot_ahead, first_closes, later_closes}
use Rattle.control.proofs.may_close.Goals as goal

pub at_release-requires : goal.at_release-requires
at_release-requires c = release_asked c.requires.whole c.at_max_load-code.ensures

pub returns-then-release-eq0 : goal.returns-then-release-eq0
returns-then-release-eq0 c =
    λ q ls k.
    first_closes q.costed.rowed c.args.release.now c.if-release-eq0.true (release_ahead q c.at_max_load-code.ensures c.at_release.ensures) ls k

pub at_report-requires : goal.at_report-requires
at_report-requires c =
    let (ls, k) = c.requires.stands in
    spot_asked c.requires.whole c.args.release.now (omega (arith, c.if-release-eq0.false)) ls k c.at_max_load-code.ensures

pub returns-else-release-eq0 : goal.returns-else-release-eq0
returns-else-release-eq0 c =
    λ q ls k.
    let one : 1 ≤ c.args.release.now.place.level = omega (arith, c.if-release-eq0.false) in
    later_closes q.costed.rowed c.args.release.now one ls k (spot_ahead q c.args.release.now one ls k c.at_max_load-code.ensures c.at_report.ensures)
