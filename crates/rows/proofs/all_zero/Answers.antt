use Rattle.std.proofs.Common.{◌≡◌, bit_or, fold, rules}
use Rattle.rows.proofs.Zeros.{or_says}
use Rattle.rows.proofs.all_zero.Goals as goal

pub returns : goal.returns
returns c =
    let e : c.fold.result ≡ fold bit_or 0 c.args.entries.now = search rules in
    or_says c.args.entries.now c.fold.result e
