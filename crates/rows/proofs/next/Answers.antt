-- `next` meets its contract. Assumes nothing.
use native.Mathlib.Omega.{arith}
use Rattle.rows.proofs.Leaves.{field_of}
use Rattle.rows.proofs.next.Goals as goal

pub returns-then-row-i : goal.returns-then-row-i
returns-then-row-i c = omega (arith, field_of c.args.row.now c.args.i 0 (omega arith), c.from.ensures, c.requires.1)
