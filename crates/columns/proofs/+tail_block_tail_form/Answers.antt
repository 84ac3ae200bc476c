-- `columns::tail_block` and `columns::tail_form`, which call each other, meet their contracts. Assumes nothing.
use Rattle.columns.proofs.Tailing.{weighed, loop_behind, if_tail, tail_on, tail_le, tail_close}
use Rattle.columns.proofs.Backing.{kept_all, kept_both, back_start, back_on, back_end, listed_before}
use Rattle.columns.proofs.Readiness.{body_sized, then_sized, else_sized, ready_zero, later_ready}
use Rattle.columns.proofs.Fronts.{plain_front, front_loop, if_front}
use Rattle.columns.proofs.Sizes.{not_loop, not_if}
use Rattle.columns.specs.Columns.{tail_rule}
use Prim.Native.Nat.{◌-◌}
use mathlib.Core.Path.{refl}
use native.Mathlib.Omega.{arith}
use Rattle.columns.proofs.Inner.{as_loop, as_if, kind_three, ends_at, if_ends}
use Rattle.columns.proofs.+tail_block_tail_form.Goals as goal

pub tail_block-loop-k-init : goal.tail_block-loop-k-init
tail_block-loop-k-init t c =
    let ts = c.args.walk.now.sums.now in
    let q = c.list-n.ensures.listed in (
      omega arith,
      kept_all _,
      λ p. back_start (tail_rule ts) c.args.out.now (tail_close ts c.args.e) q p.forms.part,
    )

pub tail_block-tail_form-t-requires : goal.tail_block-tail_form-t-requires
tail_block-tail_form-t-requires t c =
    let z = c.requires.sized in
    let a = c.loop-k in
    let s = listed_before c.list-n.ensures.listed c.loop-k-test.true a.invariant.0 a.invariant.1 in
    let low = tail_le c.args.walk.now.sums.now (a.k - 1) a.k z.forms.part.lines c.args.e s.one (a.invariant.2 z).stands in
    let r = later_ready z s.here (λ j h. s.below j (omega arith)) s.at low in
    (omega (arith, c.decreases, s.past, ends_at r.form refl), r)

pub tail_block-loop-k-preserved : goal.tail_block-loop-k-preserved
tail_block-loop-k-preserved t c =
    let ts = c.args.walk.now.sums.now in
    let a = c.loop-k in
    let m = a.k - 1 in
    let x = c.tail_form-t.ensures in
    let s = listed_before c.list-n.ensures.listed c.loop-k-test.true a.invariant.0 a.invariant.1 in (
      omega (arith, a.invariant.0),
      kept_both a.invariant.1 x.kept (omega arith) (omega (arith, s.past)),
      λ p. let b = a.invariant.2 p in
          let l = p.forms.part.lines in
          let r = later_ready p s.here (λ j h. s.below j (omega arith)) s.at (tail_le ts m a.k l c.args.e s.one b.stands) in
          back_on s.one p.forms.part s.below s.at b (tail_on ts m a.k l c.args.e s.one b.stands (x.value r)) (x.out_after r),
    )

pub tail_block-returns-clause-value : goal.tail_block-returns-clause-value
tail_block-returns-clause-value t c = λ p. (back_end (omega (arith, c.loop-k-test.false)) (c.loop-k.invariant.2 p)).0

pub tail_block-returns-clause-out_after : goal.tail_block-returns-clause-out_after
tail_block-returns-clause-out_after t c = λ p. (back_end (omega (arith, c.loop-k-test.false)) (c.loop-k.invariant.2 p)).1

pub tail_form-tail_block-a-requires : goal.tail_form-tail_block-a-requires
tail_form-tail_block-a-requires t c =
    let z = c.requires.ready in
    let hm = c.other-other.ensures in
    let he = c.after-after.ensures in
    let d = if_ends z.form c.in-If.ensures hm he in
    (omega (arith, c.decreases, d, he), then_sized z hm (as_if z.form c.in-If.ensures))

pub tail_form-tail_block-b-requires : goal.tail_form-tail_block-b-requires
tail_form-tail_block-b-requires t c =
    let z = c.requires.ready in
    let hm = c.other-other.ensures in
    let he = c.after-after.ensures in
    let d = if_ends z.form c.in-If.ensures hm he in
    (omega (arith, c.decreases, d, he), else_sized z hm he (as_if z.form c.in-If.ensures))

pub tail_form-overflow_add-t : goal.tail_form-overflow_add-t
tail_form-overflow_add-t t c =
    let z = c.requires.ready in
    let hm = c.other-other.ensures in
    let h = as_if z.form c.in-If.ensures in
    let a = c.tail_block-a.ensures.value (then_sized z hm h) in
    let b = c.tail_block-b.ensures.value (else_sized z hm c.after-after.ensures h) in
    omega (arith, if_tail c.args.walk.now.sums.now c.args.e h c.isolated.ensures a b c.max.ensures, z.small)

pub tail_form-returns-in-If : goal.tail_form-returns-in-If
tail_form-returns-in-If t c =
    let ts = c.args.walk.now.sums.now in
    let x = c.args.e in
    let hm = c.other-other.ensures in
    let he = c.after-after.ensures in
    let a = c.tail_block-a.ensures in
    let b = c.tail_block-b.ensures in
    let z = c.requires.ready in record {
      value = (λ p. let h = as_if p.form c.in-If.ensures in
          if_tail ts x h c.isolated.ensures (a.value (then_sized p hm h)) (b.value (else_sized p hm he h)) c.max.ensures);
      out_after = (λ p. let h = as_if p.form c.in-If.ensures in
          let f = then_sized p hm h in
          let g = else_sized p hm he h in
          if_front (tail_rule ts) c.args.out.now x h hm (if_tail ts x h c.isolated.ensures (a.value f) (b.value g) c.max.ensures) (a.out_after f) (b.out_after g));
      kept = kept_both a.kept b.kept (omega arith) (omega (arith, if_ends z.form c.in-If.ensures hm he));
    }

pub tail_form-weight-requires : goal.tail_form-weight-requires
tail_form-weight-requires t c =
    let z = c.requires.ready in
    let k = c.form_kind-kind in record {
      kind = omega (arith, kind_three z.form, not_if k.result k.ensures c.in_default.not-If);
      ready = ready_zero z;
    }

pub tail_form-overflow_add-t-2 : goal.tail_form-overflow_add-t-2
tail_form-overflow_add-t-2 t c =
    let z = c.requires.ready in
    omega (arith, weighed z c.weight.ensures, z.small)

pub tail_form-overflow_sub-t : goal.tail_form-overflow_sub-t
tail_form-overflow_sub-t t c =
    let z = c.requires.ready in
    (loop_behind z (as_loop z.form c.in-Loop.ensures) (weighed z c.weight.ensures)).2

pub tail_form-tail_block-requires : goal.tail_form-tail_block-requires
tail_form-tail_block-requires t c =
    let z = c.requires.ready in
    let h = as_loop z.form c.in-Loop.ensures in
    let he = c.after-after-in-Loop.ensures in
    let b = loop_behind z h (weighed z c.weight.ensures) in
    (omega (arith, c.decreases, ends_at z.form he), body_sized z he h b.1)

pub tail_form-returns-in-Loop : goal.tail_form-returns-in-Loop
tail_form-returns-in-Loop t c =
    let x = c.args.e in record {
      value = (λ p. weighed p c.weight.ensures);
      out_after = (λ p. let h = as_loop p.form c.in-Loop.ensures in
          let ht = weighed p c.weight.ensures in
          let b = loop_behind p h ht in
          front_loop (tail_rule c.args.walk.now.sums.now) c.args.out.now x h ht b.0 (c.tail_block.ensures.out_after (body_sized p c.after-after-in-Loop.ensures h b.1)));
      kept = c.tail_block.ensures.kept;
    }

pub tail_form-returns-in_default-kind : goal.tail_form-returns-in_default-kind
tail_form-returns-in_default-kind t c =
    let k = c.form_kind-kind in record {
      value = (λ p. weighed p c.weight.ensures);
      out_after = (λ p. plain_front (tail_rule c.args.walk.now.sums.now) c.args.out.now c.args.e p.form.some p.form.part
          (not_loop k.result k.ensures c.in_default-kind.not-Loop) (not_if k.result k.ensures c.in_default.not-If) (weighed p c.weight.ensures));
      kept = kept_all c.args.seq.now;
    }
