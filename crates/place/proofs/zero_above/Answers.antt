use Rattle.std.proofs.Common.{◌+◌, ◌-◌, arith}
use native.Mathlib.Decide.{dec_le}
use Rattle.std.proofs.lemmas.List.{get_or_past}
use Rattle.rows.proofs.Answers.{same_answer}
use Rattle.rows.proofs.Zeros.{zeros_from}
use Rattle.place.proofs.zero_above.Goals as goal

pub returns : goal.returns
returns c =
    let a = c.args.a.now in
    let l = c.args.l in
    let r = c.all_zero.result in
    same_answer r
    (λ h k lt. elim (dec_le 33 k) [
      | yes g ↦ get_or_past a k 0 (omega (arith, c.told-a))
      | no g ↦ h k (omega arith) (omega (arith, c.told-a))
    ])
    (λ h k le lt. h k (omega arith)) (zeros_from r a (l + 1) (33 - (l + 1)) (omega (arith, c.told-a, c.requires)) c.all_zero.ensures)
