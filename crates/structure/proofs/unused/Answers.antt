use Prim.Native.Nat.{◌+◌, ◌-◌}
use native.Mathlib.Omega.{arith}
use lib.ListN.{length}
use Rattle.rows.proofs.Answers.{same_answer}
use Rattle.rows.proofs.Zeros.{zeros_from}
use Rattle.structure.proofs.unused.Goals as goal

pub returns : goal.returns
returns c =
    let s = c.args.code.now.bounds.now in
    let n = c.args.code.now.functions in
    let r = c.all_zero.result in
    same_answer r (λ h f a b. h f (omega arith) (omega (arith, c.requires.all_bounds))) (λ h f a b. h f (omega arith) (omega (arith, c.requires.all_bounds)))
    (zeros_from r s (n + 1) (length s - (n + 1)) (omega (arith, c.requires.all_bounds, c.requires.few)) c.all_zero.ensures)
