-- `stretches::stretch_block`, `stretches::stretch_form` and `stretches::stretch_if`, which call one another, meet their contracts. Assumes nothing.
use Rattle.stretches.proofs.Widening as wide
use Rattle.columns.proofs.Backing.{kept_all, kept_both, no_later, back_start, back_on, back_end, listed_before}
use Rattle.columns.proofs.Readiness.{body_sized, body_low, then_sized, else_sized, ready_zero, later_ready}
use Rattle.columns.proofs.Sizes.{not_if}
use Rattle.stretches.specs.Stretches.{stretch_rule}
use Rattle.columns.specs.Walks.{later}
use Rattle.outlook.specs.Quiets.{quiet_sum}
use Rattle.stretches.specs.Private.{head_at}
use Rattle.rows.specs.Costs.{cost_in}
use Rattle.columns.proofs.Capped.{cost_le}
use Rattle.rows.specs.Leaves.{numbers}
use Rattle.rows.specs.Rows.{block_at}
use Prim.Native.Nat.{ℕ, ◌-◌}
use mathlib.Core.Path.{refl}
use native.Mathlib.Omega.{arith}
use Rattle.columns.proofs.Inner.{as_loop, as_if, kind_three, ends_at, if_ends}
use Rattle.stretches.proofs.+stretch_block_stretch_form_stretch_if.Goals as goal

pub stretch_block-loop-k-init : goal.stretch_block-loop-k-init
stretch_block-loop-k-init t c =
    let k = cost_in c.args.priced.now.cost in
    let ms = c.args.priced.now.totals.now in
    let u = stretch_rule k ms (λ f y. quiet_sum (head_at c.args.heads.now f) y) in
    let q = c.list-n.ensures.listed in (
      omega arith,
      kept_all _,
      (λ p. back_start u c.args.out.now (wide.silence_close k ms c.args.s) q p.forms.part),
      λ p. wide.follow_close k ms (later c.list-n.result p.forms.part.lines) c.args.s c.args.follows.now (no_later q p.forms.part),
    )

pub stretch_block-stretch_form-t-requires : goal.stretch_block-stretch_form-t-requires
stretch_block-stretch_form-t-requires t c =
    let z = c.requires.sized in
    let a = c.loop-k in
    let s = listed_before c.list-n.ensures.listed c.loop-k-test.true a.invariant.0 a.invariant.1 in
    let low = wide.silence_low (cost_in c.args.priced.now.cost) c.args.priced.now.totals.now (a.k - 1) a.k z.forms.part.lines c.args.s s.one (a.invariant.2 z).stands in
    let r = later_ready z s.here (λ j h. s.below j (omega arith)) s.at low in
    (omega (arith, c.decreases, s.past, ends_at r.form refl), (c.requires.low, r))

pub stretch_block-loop-k-preserved : goal.stretch_block-loop-k-preserved
stretch_block-loop-k-preserved t c =
    let k = cost_in c.args.priced.now.cost in
    let ms = c.args.priced.now.totals.now in
    let a = c.loop-k in
    let m = a.k - 1 in
    let x = c.stretch_form-t.ensures in
    let s = listed_before c.list-n.ensures.listed c.loop-k-test.true a.invariant.0 a.invariant.1 in (
      omega (arith, a.invariant.0),
      kept_both a.invariant.1 x.kept (omega arith) (omega (arith, s.past)),
      (λ p. let b = a.invariant.2 p in
          let l = p.forms.part.lines in
          let r = later_ready p s.here (λ j h. s.below j (omega arith)) s.at (wide.silence_low k ms m a.k l c.args.s s.one b.stands) in
          back_on s.one p.forms.part s.below s.at b (wide.silence_on k ms m a.k l c.args.s s.one b.stands (x.value r)) (x.out_after r)),
      λ p. let b = a.invariant.2 p in
          let l = p.forms.part.lines in
          let r = later_ready p s.here (λ j h. s.below j (omega arith)) s.at (wide.silence_low k ms m a.k l c.args.s s.one b.stands) in
          wide.follow_on k ms m a.k l c.args.s s.one b.stands a.follows c.args.follows.now (a.invariant.3 p) (x.follows_after r),
    )

pub stretch_block-returns : goal.stretch_block-returns
stretch_block-returns t c =
    let a = c.loop-k in
    let h = c.loop-k-test.false in record {
      value = (λ p. (back_end (omega (arith, h)) (a.invariant.2 p)).0);
      out_after = (λ p. (back_end (omega (arith, h)) (a.invariant.2 p)).1);
      follows_after = (λ p. wide.follow_end (cost_in c.args.priced.now.cost) c.args.priced.now.totals.now a.k p.forms.part.lines c.args.s a.follows c.args.follows.now (omega (arith, h)) (a.invariant.3 p));
      kept = kept_both c.list-n.ensures.kept a.invariant.1 (omega arith) (omega arith);
    }

pub stretch_form-weight-requires : goal.stretch_form-weight-requires
stretch_form-weight-requires t c =
    let z = c.requires.ready in
    let k = c.form_kind-kind in record {
      kind = omega (arith, kind_three z.form, not_if k.result k.ensures c.in_default.not-If);
      ready = ready_zero z;
    }

pub stretch_form-overflow_add-weight : goal.stretch_form-overflow_add-weight
stretch_form-overflow_add-weight t c =
    let z = c.requires.ready in
    omega (arith, c.weight.ensures (ready_zero z), z.small)

pub stretch_form-stretch_block-b-requires : goal.stretch_form-stretch_block-b-requires
stretch_form-stretch_block-b-requires t c =
    let z = c.requires.ready in
    let h = as_loop z.form c.in-Loop.ensures in
    let he = c.after-after.ensures in
    (omega (arith, c.decreases, ends_at z.form he), (c.requires.low, body_sized z he h (body_low z h)))

pub stretch_form-put_stretch-requires : goal.stretch_form-put_stretch-requires
stretch_form-put_stretch-requires t c =
    let z = c.requires.ready in
    let h = as_loop z.form c.in-Loop.ensures in
    let b = c.stretch_block-b.ensures.value (body_sized z c.after-after.ensures h (body_low z h)) in (
      omega (arith, z.form.some, z.form.held),
      cost_le c.args.priced.now.cost (block_at (numbers c.args.priced.now.code.row.now) c.args.i) h.costs,
      omega (arith, c.max.ensures, b, wide.silence_le (cost_in c.args.priced.now.cost) c.args.priced.now.totals.now h.body.lines 0, body_low z h, z.small),
      omega (arith, z.form.some, z.form.few),
    )

pub stretch_form-returns-in-Loop : goal.stretch_form-returns-in-Loop
stretch_form-returns-in-Loop t c =
    let k = cost_in c.args.priced.now.cost in
    let ms = c.args.priced.now.totals.now in
    let x = c.args.s in
    let he = c.after-after.ensures in
    let b = c.stretch_block-b.ensures in
    let q : ℕ → ℕ → ℕ = λ f y. quiet_sum (head_at c.args.heads.now f) y in
    let z = c.form_kind-kind in record {
      value = (λ p. wide.plain_silence k ms x p.form.some p.form.part (not_if z.result z.ensures c.in_default.not-If) (c.weight.ensures (ready_zero p)) c.silent_before-t.ensures);
      out_after = (λ p. let h = as_loop p.form c.in-Loop.ensures in
          let d = body_sized p he h (body_low p h) in
          wide.put_loop k ms q x c.args.out.now h (b.value d) c.max.ensures (b.out_after d) c.put_stretch.ensures);
      follows_after = (λ p. let h = as_loop p.form c.in-Loop.ensures in
          wide.loop_follows k ms x c.args.follows.now h (b.follows_after (body_sized p he h (body_low p h))));
      kept = b.kept;
    }

pub stretch_form-returns : goal.stretch_form-returns
stretch_form-returns t c =
    let ms = c.args.priced.now.totals.now in
    let z = c.form_kind-kind in record {
      value = (λ p. wide.plain_silence (cost_in c.args.priced.now.cost) ms c.args.s p.form.some p.form.part (not_if z.result z.ensures c.in_default.not-If) (c.weight.ensures (ready_zero p)) c.silent_before-t.ensures);
      out_after = (λ p. c.stretch_flat.ensures.out_after p.form);
      follows_after = (λ p. c.stretch_flat.ensures.follows_after p.form);
      kept = kept_all c.args.seq.now;
    }

pub stretch_if-stretch_block-a-requires : goal.stretch_if-stretch_block-a-requires
stretch_if-stretch_block-a-requires t c =
    let z = c.requires.ready in
    let hm = c.other-other.ensures in
    let he = c.after-after.ensures in
    let d = if_ends z.form c.requires.kind hm he in
    (omega (arith, c.decreases, d, he), (c.requires.low, then_sized z hm (as_if z.form c.requires.kind)))

pub stretch_if-stretch_block-b-requires : goal.stretch_if-stretch_block-b-requires
stretch_if-stretch_block-b-requires t c =
    let z = c.requires.ready in
    let hm = c.other-other.ensures in
    let he = c.after-after.ensures in
    let d = if_ends z.form c.requires.kind hm he in
    (omega (arith, c.decreases, d, he), (c.requires.low, else_sized z hm he (as_if z.form c.requires.kind)))

pub stretch_if-put_stretch-requires : goal.stretch_if-put_stretch-requires
stretch_if-put_stretch-requires t c =
    let z = c.requires.ready in
    let hm = c.other-other.ensures in
    let h = as_if z.form c.requires.kind in
    let a = c.stretch_block-a.ensures.value (then_sized z hm h) in
    let b = c.stretch_block-b.ensures.value (else_sized z hm c.after-after.ensures h) in (
      omega (arith, z.form.some, z.form.held),
      cost_le c.args.priced.now.cost (block_at (numbers c.args.priced.now.code.row.now) c.args.i) h.costs,
      omega (arith, wide.parts_low (cost_in c.args.priced.now.cost) c.args.priced.now.totals.now c.args.s h a b c.max-x.ensures z.small),
      omega (arith, z.form.some, z.form.few),
    )

pub stretch_if-overflow_add-of : goal.stretch_if-overflow_add-of
stretch_if-overflow_add-of t c =
    let z = c.requires.ready in
    let hm = c.other-other.ensures in
    let h = as_if z.form c.requires.kind in
    let a = c.stretch_block-a.ensures.value (then_sized z hm h) in
    let b = c.stretch_block-b.ensures.value (else_sized z hm c.after-after.ensures h) in
    omega (arith, cost_le c.args.priced.now.cost (block_at (numbers c.args.priced.now.code.row.now) c.args.i) h.costs, c.of.ensures, wide.parts_low (cost_in c.args.priced.now.cost) c.args.priced.now.totals.now c.args.s h a b c.max-x.ensures z.small)

pub stretch_if-returns : goal.stretch_if-returns
stretch_if-returns t c =
    let k = cost_in c.args.priced.now.cost in
    let ms = c.args.priced.now.totals.now in
    let x = c.args.s in
    let q : ℕ → ℕ → ℕ = λ f y. quiet_sum (head_at c.args.heads.now f) y in
    let hm = c.other-other.ensures in
    let he = c.after-after.ensures in
    let a = c.stretch_block-a.ensures in
    let b = c.stretch_block-b.ensures in record {
      value = (λ p. let h = as_if p.form c.requires.kind in
          wide.if_silence k ms x h c.of.ensures (a.value (then_sized p hm h)) (b.value (else_sized p hm he h)) c.max-x.ensures c.silent_before.ensures);
      out_after = (λ p. let h = as_if p.form c.requires.kind in
          let f = then_sized p hm h in
          let g = else_sized p hm he h in
          wide.put_if k ms q x c.args.out.now h hm (a.value f) (b.value g) c.max-x.ensures (a.out_after f) (b.out_after g) c.put_stretch.ensures);
      follows_after = (λ p. let h = as_if p.form c.requires.kind in
          wide.if_follows k ms x c.args.follows.now h (a.follows_after (then_sized p hm h)) (b.follows_after (else_sized p hm he h)));
      kept = kept_both a.kept b.kept (omega arith) (omega (arith, if_ends c.requires.ready.form c.requires.kind hm he));
    }
