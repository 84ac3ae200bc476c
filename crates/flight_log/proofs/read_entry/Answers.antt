-- `flight_log::read_entry` meets its contract: a pattern that fits gives the call, and the patterns before it have missed. Assumes nothing.
use Rattle.std.proofs.Common.{rules}
use Rattle.flight_log.specs.Log.{entry_of}
use Rattle.flight_log.proofs.Patterns.{point_exact, end_exact, says_fit, says_miss, says_release, says_other}
use Rattle.flight_log.proofs.read_entry.Goals as goal

pub returns-then-is_some : goal.returns-then-is_some
unfolding entry_of
returns-then-is_some c = says_release _ _ _ _ _ c.matches.ensures c.if-is_some.ensures

pub returns-in-Some : goal.returns-in-Some
unfolding entry_of
returns-in-Some c =
    says_miss _ _ _ _ (says_other _ _ _ _ c.matches.ensures c.if-is_some.ensures)
    (says_fit _ _ _ _ c.in-Some.ensures (λ small. point_exact (search rules) small c.in-Some.ensures) c.then_some.ensures)

pub returns-in_err-f : goal.returns-in_err-f
unfolding entry_of
returns-in_err-f c =
    says_miss _ _ _ _ (says_other _ _ _ _ c.matches.ensures c.if-is_some.ensures)
    (says_miss _ _ _ _ c.in_default.ensures
    (says_miss _ _ _ _ c.in_err-f.ensures c.from_residual.ensures))

pub returns : goal.returns
unfolding entry_of
returns c =
    says_miss _ _ _ _ (says_other _ _ _ _ c.matches.ensures c.if-is_some.ensures)
    (says_miss _ _ _ _ c.in_default.ensures
    (says_fit _ _ _ _ c.in_ok-f.ensures (λ small. end_exact (search rules) small c.in_ok-f.ensures) c.then_some-2.ensures))
