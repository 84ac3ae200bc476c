-- `kind_of` meets its contract. Assumes nothing.
use native.Mathlib.Omega.{arith}
use Rattle.std.specs.Prelude.{ℕ, Result, Ok, Err}
use Rattle.std.specs.Result.{result_ok}
use Rattle.rows.specs.declared.Kind.{Kind}
use Rattle.rows.specs.declared.UnknownKind.{UnknownKind}
use Rattle.rows.specs.Kinds.{IsKind, KindOfNumber}
use Rattle.rows.proofs.Leaves.{field_of}
use Rattle.rows.proofs.kind_of.Goals as goal

-- The kind, where there is one.
known : (n : ℕ) (r : Result Kind UnknownKind) → KindOfNumber n r → IsKind (result_ok r) n
known n (Ok kind) d = d
known n (Err e) d = d.1

pub returns : goal.returns
returns c = rw (c.ok.ensures.value, field_of c.args.row.now c.args.i 0 (omega arith)) (known _ _ c.try_from.ensures)
