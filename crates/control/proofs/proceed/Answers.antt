-- `control::proceed` meets its contract. Assumes nothing.
use Rattle.control.proofs.Reporting.{spot_decoded}
use Rattle.control.proofs.proceed.Goals as goal

pub advance-requires-clause-decoded : goal.advance-requires-clause-decoded
advance-requires-clause-decoded c = spot_decoded c.requires.good_on_code c.if-release-eq0.false
