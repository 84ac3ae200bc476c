-- `isolated` meets its contract. Assumes nothing.
use mathlib.Core.Path.{sym}
use native.Mathlib.Omega.{arith}
use Rattle.rows.proofs.Leaves.{field_of}
use Rattle.rows.proofs.isolated.Goals as goal

pub returns : goal.returns
returns c = sym (field_of c.args.row.now c.args.i 2 (omega arith))
