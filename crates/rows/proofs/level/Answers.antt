-- `level` meets its contract. Assumes nothing.
use mathlib.Core.Path.{sym}
use native.Mathlib.Omega.{arith}
use Rattle.rows.proofs.Leaves.{field_of}
use Rattle.rows.proofs.level.Goals as goal

pub returns : goal.returns
returns c = sym (field_of c.args.row.now c.args.i 7 (omega arith))
