-- `text::digits_end` meets its contract: each digit passed makes of any value no smaller one. Assumes nothing.
use Rattle.std.proofs.Common.{arith, ◌≡◌, length, get_or}
use Rattle.text.proofs.Laws.{digit_some, digit_none, none_passed, one_passed, all_passed, digits_stop, digits_end}
use Rattle.text.proofs.digits_end.Goals as goal

pub loop-i-init : goal.loop-i-init
loop-i-init c = none_passed _ _ c.requires

pub returns-then-is_none : goal.returns-then-is_none
returns-then-is_none c =
    all_passed c.loop-i.invariant (λ v. digits_stop _ _ (omega arith) v (digit_none (get_or c.args.text.now c.loop-i.i 0) _ c.digit.ensures c.if-is_none.ensures))

pub loop-i-preserved : goal.loop-i-preserved
loop-i-preserved c =
    let r = digit_some (get_or c.args.text.now c.loop-i.i 0) _ c.digit.ensures c.if-is_none.ensures in
    one_passed c.loop-i.invariant (omega arith) r.0 r.1

pub returns : goal.returns
returns c =
    let ended : c.loop-i.i ≡ length c.args.text.now = omega arith in
    rw (← ended) (all_passed c.loop-i.invariant (λ v. digits_end _ v _ (omega arith)))
