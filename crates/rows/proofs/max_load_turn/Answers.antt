-- `max_load_turn` meets its contract. Assumes nothing.
use mathlib.Core.Path.{sym}
use Rattle.rows.proofs.Leaves.{max_load_turn_of}
use Rattle.rows.proofs.max_load_turn.Goals as goal

pub returns : goal.returns
returns c = sym (max_load_turn_of c.args.row.now c.args.i)
