-- `pages::digit_count` meets its contract: the digits are one more than the logarithm. Assumes nothing.
use Rattle.pages.proofs.Lines.{digits_counted}
use Rattle.pages.proofs.digit_count.Goals as goal

pub returns : goal.returns
returns c =
    let log = c.ilog10.ensures in
    rw c.from.ensures (digits_counted c.ilog10.result c.args.n (rw c.max.ensures at log.power_le) (rw c.max.ensures at log.next_power_gt))
