-- `columns::callee` meets its contract. Assumes nothing.
use native.Mathlib.Omega.{arith}
use Rattle.columns.proofs.Inner.{as_call}
use Rattle.columns.proofs.callee.Goals as goal

pub returns : goal.returns
returns c = (c.target.ensures, omega (arith, (as_call c.requires.form c.requires.call).target, c.target.ensures))
