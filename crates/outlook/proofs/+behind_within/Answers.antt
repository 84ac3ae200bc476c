-- `outlook::behind` and `outlook::within`, which call each other, meet their contracts. Assumes nothing.
use native.Mathlib.Omega.{arith}
use borrow.Author.Rules.{rules}
use mathlib.Core.Path.{◌≡◌}
use Rattle.std.specs.Prelude.{None}
use Rattle.rows.specs.Leaves.{numbers}
use Rattle.rows.specs.Rows.{kind_at}
use Rattle.rows.proofs.Shape.{ends, flat_end}
use Rattle.outlook.proofs.Quieting.{low_of}
use Rattle.outlook.proofs.Walking.{priced_then, priced_else, priced_after}
use Rattle.outlook.proofs.Leaving.{within_here, within_flat, within_then, within_else, go_start, go_before, go_on, go_past, go_none, go_low, go_shut, go_rest}
use Rattle.outlook.proofs.+behind_within.Goals as goal

pub behind-returns-then-p-from : goal.behind-returns-then-p-from
behind-returns-then-p-from t c = λ h. go_before h c.if-p-from.true

pub behind-loop-i-init : goal.behind-loop-i-init
behind-loop-i-init t c = (omega (arith, c.if-p-from.false), omega arith, λ h. go_start c.args.p h)

pub behind-next-after-requires : goal.behind-next-after-requires
behind-next-after-requires t c =
    let q = (c.loop-i.invariant.2 c.requires).more in
    (omega (arith, c.loop-i-test.true, q.room), λ k. flat_end c.loop-i-test.true q.piece.part k)

pub behind-returns-in_err-form : goal.behind-returns-in_err-form
behind-returns-in_err-form t c =
    λ h. let q = c.loop-i.invariant.2 h in
    let z = go_none q c.loop-i-test.true c.next-after.ensures c.if-p-after.true c.in_err-form.was (c.within.ensures q.more) in
    rw c.from_residual.ensures z

pub behind-returns-then-is_none : goal.behind-returns-then-is_none
behind-returns-then-is_none t c =
    let z : c.in_ok-form.form.pass ≡ None = search rules in
    λ h. let q = c.loop-i.invariant.2 h in
    go_shut q c.loop-i-test.true c.next-after.ensures c.if-p-after.true c.in_ok-form.was z (c.within.ensures q.more)

pub behind-scan-rest-requires : goal.behind-scan-rest-requires
behind-scan-rest-requires t c = priced_after c.loop-i-test.true (c.loop-i.invariant.2 c.requires).more c.next-after.ensures

pub behind-then-requires : goal.behind-then-requires
behind-then-requires t c =
    let q = c.loop-i.invariant.2 c.requires in
    let m = priced_after c.loop-i-test.true q.more c.next-after.ensures in
    (go_low q c.loop-i-test.true c.next-after.ensures c.if-p-after.true c.in_ok-form.was (c.within.ensures q.more), low_of (c.scan-rest.ensures m) (omega (arith, m.small)))

pub behind-returns-then-p-after : goal.behind-returns-then-p-after
behind-returns-then-p-after t c =
    λ h. let q = c.loop-i.invariant.2 h in
    go_rest q c.loop-i-test.true c.next-after.ensures c.if-p-after.true c.in_ok-form.was (c.within.ensures q.more) c.scan-rest.ensures c.then.ensures

pub behind-loop-i-smaller : goal.behind-loop-i-smaller
behind-loop-i-smaller t c = omega (arith, ends c.loop-i-test.true (c.loop-i.invariant.2 c.requires).more.piece.part, c.next-after.ensures)

pub behind-loop-i-preserved : goal.behind-loop-i-preserved
behind-loop-i-preserved t c = (
  omega (arith, c.if-p-after.false),
  omega (arith, c.loop-i.invariant.1, ends c.loop-i-test.true (c.loop-i.invariant.2 c.requires).more.piece.part, c.next-after.ensures),
  λ h. go_on (c.loop-i.invariant.2 h) c.loop-i-test.true c.next-after.ensures (omega (arith, c.if-p-after.false)),
)

pub behind-returns : goal.behind-returns
behind-returns t c = λ h. go_past (c.loop-i.invariant.2 h) c.loop-i-test.false c.loop-i.invariant.0

pub within-returns-then-p-i : goal.within-returns-then-p-i
within-returns-then-p-i t c = λ h. within_here c.requires.i_lt_to.0 h c.args.p c.if-p-i.true (c.parts.ensures h)

pub within-returns-then-ne : goal.within-returns-then-ne
within-returns-then-ne t c =
    let k : kind_at (numbers c.args.priced.now.code.row.now) c.args.i ≡ 3 → ⊥ = search rules in
    λ h. within_flat c.requires.i_lt_to.0 h c.args.p c.if-p-i.false k

pub within-behind-requires : goal.within-behind-requires
within-behind-requires t c =
    let k : kind_at (numbers c.args.priced.now.code.row.now) c.args.i ≡ 3 = search rules in
    let h = priced_then c.requires.i_lt_to.0 c.requires.held k c.other-other.ensures in
    (omega (arith, h.1, h.2), h.0)

pub within-returns-then-p-other : goal.within-returns-then-p-other
within-returns-then-p-other t c =
    let k : kind_at (numbers c.args.priced.now.code.row.now) c.args.i ≡ 3 = search rules in
    λ h. within_then c.requires.i_lt_to.0 h c.args.p c.behind.result c.if-p-i.false k c.other-other.ensures c.if-p-other.true c.behind.ensures

pub within-behind-requires-2 : goal.within-behind-requires-2
within-behind-requires-2 t c =
    let k : kind_at (numbers c.args.priced.now.code.row.now) c.args.i ≡ 3 = search rules in
    let h = priced_else c.requires.i_lt_to.0 c.requires.held k c.other-other.ensures c.after-after.ensures in
    (omega (arith, h.1, h.2), h.0)

pub within-returns : goal.within-returns
within-returns t c =
    let k : kind_at (numbers c.args.priced.now.code.row.now) c.args.i ≡ 3 = search rules in
    λ h. within_else c.requires.i_lt_to.0 h c.args.p c.behind-2.result c.if-p-i.false k c.other-other.ensures c.after-after.ensures c.if-p-other.false c.behind-2.ensures
