-- `turn` meets its contract. Assumes nothing.
use mathlib.Core.Path.{sym}
use Rattle.rows.proofs.Leaves.{turn_of}
use Rattle.rows.proofs.turn.Goals as goal

pub returns : goal.returns
returns c = sym (turn_of c.args.row.now c.args.i)
