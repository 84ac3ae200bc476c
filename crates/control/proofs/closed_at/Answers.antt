-- `control::closed_at` meets its contract. Assumes nothing.
use mathlib.Core.Path.{sym, ◌∙◌}
use Rattle.control.proofs.Closing.{too_early, no_end, closes}
use Rattle.control.proofs.closed_at.Goals as goal

pub returns-then-reading-release : goal.returns-then-reading-release
returns-then-reading-release c = λ q ls k. too_early q.costed.rowed c.args.release.now c.args.reading ls c.if-reading-release.true

pub may_close-requires : goal.may_close-requires
may_close-requires c = c.requires

pub returns-then-not-may_close : goal.returns-then-not-may_close
returns-then-not-may_close c =
    λ q ls k.
    no_end q.costed.rowed c.args.release.now c.args.reading ls c.if-reading-release.false (sym (c.may_close.ensures q ls k) ∙ c.if-not-may_close.true)

pub returns : goal.returns
returns c =
    λ q ls k.
    closes q.costed.rowed c.args.release.now c.args.reading ls c.if-reading-release.false (sym (c.may_close.ensures q ls k) ∙ c.if-not-may_close.false)
    c.from.result c.from.ensures
