-- `tail` meets its contract. Assumes nothing.
use mathlib.Core.Path.{sym}
use Rattle.rows.proofs.Leaves.{tail_of}
use Rattle.rows.proofs.tail.Goals as goal

pub returns : goal.returns
returns c = sym (tail_of c.args.row.now c.args.i)
