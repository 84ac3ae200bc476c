-- `outlook::parts` and `outlook::scan`, which call each other, meet their contracts. Assumes nothing.
use native.Mathlib.Omega.{arith}
use borrow.Author.Rules.{rules}
use mathlib.Core.Path.{◌≡◌}
use Rattle.rows.specs.Leaves.{numbers}
use Rattle.rows.specs.Rows.{kind_at}
use Rattle.rows.proofs.Shape.{ends}
use Rattle.outlook.proofs.Quieting.{low_of}
use Rattle.outlook.proofs.Walking.{step_small, own_small, priced_then, priced_else, inside_flat, inside_if, scan_start, scan_low, scan_point, scan_next, scan_end}
use Rattle.outlook.proofs.+parts_scan.Goals as goal

pub parts-returns-then-ne : goal.parts-returns-then-ne
parts-returns-then-ne t c =
    let k : kind_at (numbers c.args.priced.now.code.row.now) c.args.i ≡ 3 → ⊥ = search rules in
    λ h. inside_flat c.requires.i_lt_to h k

pub parts-scan-first-requires : goal.parts-scan-first-requires
parts-scan-first-requires t c =
    let k : kind_at (numbers c.args.priced.now.code.row.now) c.args.i ≡ 3 = search rules in
    let h = priced_then c.requires.i_lt_to c.requires.held k c.other-other.ensures in
    (omega (arith, h.1, h.2), h.0)

pub parts-scan-second-requires : goal.parts-scan-second-requires
parts-scan-second-requires t c =
    let k : kind_at (numbers c.args.priced.now.code.row.now) c.args.i ≡ 3 = search rules in
    let h = priced_else c.requires.i_lt_to c.requires.held k c.other-other.ensures c.after-after.ensures in
    (omega (arith, h.1, h.2), h.0)

pub parts-returns : goal.parts-returns
parts-returns t c =
    let k : kind_at (numbers c.args.priced.now.code.row.now) c.args.i ≡ 3 = search rules in
    λ h. inside_if c.requires.i_lt_to h k c.other-other.ensures c.after-after.ensures c.scan-first.ensures c.scan-second.ensures c.or.ensures

pub scan-loop-i-init : goal.scan-loop-i-init
scan-loop-i-init t c = (omega arith, λ h. scan_start h)

pub scan-returns-then-point-eq1 : goal.scan-returns-then-point-eq1
scan-returns-then-point-eq1 t c = λ h. scan_point (c.loop-i.invariant.1 h) c.loop-i-test.true c.point.ensures c.if-point-eq1.true c.then.ensures

pub scan-then-form-requires : goal.scan-then-form-requires
scan-then-form-requires t c =
    let q = (c.loop-i.invariant.1 c.requires).more in
    let s = step_small c.loop-i-test.true q in
    (low_of c.visit-visit.ensures (omega (arith, s, own_small c.loop-i-test.true q, c.weight.ensures q)), low_of (c.parts.ensures q) (omega (arith, s)))

pub scan-then-passed-requires : goal.scan-then-passed-requires
scan-then-passed-requires t c =
    let h = c.loop-i.invariant.1 c.requires in
    let q = h.more in
    let form = c.then-form.ensures _ _ _ _ _ _ c.visit-visit.ensures (c.parts.ensures q) in
    (scan_low h c.requires.small, low_of form (omega (arith, step_small c.loop-i-test.true q, own_small c.loop-i-test.true q, c.weight.ensures q)))

pub scan-loop-i-smaller : goal.scan-loop-i-smaller
scan-loop-i-smaller t c = omega (arith, ends c.loop-i-test.true (c.loop-i.invariant.1 c.requires).more.piece.part, c.after-i.ensures)

pub scan-loop-i-preserved : goal.scan-loop-i-preserved
scan-loop-i-preserved t c = (
  omega (arith, c.loop-i.invariant.0, ends c.loop-i-test.true (c.loop-i.invariant.1 c.requires).more.piece.part, c.after-i.ensures),
  λ h. let q = c.loop-i.invariant.1 h in
      scan_next q c.loop-i-test.true c.point.ensures c.if-point-eq1.false c.after-i.ensures (c.weight.ensures q.more) c.visit-visit.ensures (c.parts.ensures q.more) c.then-form.ensures c.then-passed.ensures,
)

pub scan-returns-after-loop-i : goal.scan-returns-after-loop-i
scan-returns-after-loop-i t c = λ h. scan_end (c.loop-i.invariant.1 h) c.loop-i-test.false
