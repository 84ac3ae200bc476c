-- `columns::if_fits` meets its contract. Assumes nothing.
use Prim.Native.Nat.{◌+◌}
use Rattle.rows.specs.Leaves.{lent_tails}
use native.Mathlib.Omega.{arith}
use Rattle.columns.proofs.Fitting.{says_above, begins_some}
use Rattle.columns.proofs.if_fits.Goals as goal

pub returns-else-c-t : goal.returns-else-c-t
returns-else-c-t c =
    let s = c.args in
    let u = lent_tails s.row.now in
    let a = begins_some u (s.i + 1) s.other s.x in
    let b = begins_some u s.other s.after s.x in
    says_above c.isolated-c.result s.t c.if-c-t.false (λ h. let q = h a.0 b.0 a.1 b.1 in omega (arith, q, c.isolated-c.ensures, c.if-c-t.false))
