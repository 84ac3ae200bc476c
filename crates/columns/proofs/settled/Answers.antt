-- `columns::settled` meets its contract. Assumes nothing.
use Prim.Native.Nat.{◌-◌}
use native.Mathlib.Omega.{arith}
use Rattle.rows.proofs.Answers.{same_answer}
use Rattle.rows.proofs.Zeros.{zeros_from}
use Rattle.columns.proofs.settled.Goals as goal

pub returns : goal.returns
returns c =
    let ts = c.args.sums.now in
    let n = c.args.n in
    let r = c.all_zero.result in
    same_answer r (λ h f a b. h f a (omega (arith, c.told-sums))) (λ h f a b. h f a (omega (arith, c.told-sums)))
    (zeros_from r ts n (16 - n) (omega (arith, c.told-sums, c.requires)) c.all_zero.ensures)
