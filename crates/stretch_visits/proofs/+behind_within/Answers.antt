-- `stretch_visits::behind` and `stretch_visits::within`, which call each other, meet their contracts. Assumes nothing.
use native.Mathlib.Omega.{arith}
use borrow.Author.Rules.{rules}
use mathlib.Core.Bool.{true, false}
use mathlib.Core.Path.{◌≡◌}
use Rattle.rows.specs.Leaves.{numbers}
use Rattle.rows.specs.Costs.{cost_in}
use Rattle.rows.specs.Rows.{kind_at}
use Rattle.rows.proofs.Shape.{ends, flat_end}
use Rattle.outlook.specs.Quiets.{still}
use Rattle.outlook.proofs.Walking.{priced_then, priced_else, priced_after}
use Rattle.stretch_visits.specs.Private.{rest_of}
use Rattle.stretch_visits.proofs.Leaving.{leaf_there, left_start, left_on, left_stop, left_then, room_left, room_after}
use Rattle.stretch_visits.proofs.Scanned.{rest_low, rest_is, rest_small}
use Rattle.stretch_visits.proofs.Leaving.{within_flat, within_here, within_then, within_else, room_parts, room_then, room_else}
use Rattle.stretch_visits.proofs.+behind_within.Goals as goal

pub behind-next-after-requires : goal.behind-next-after-requires
behind-next-after-requires t c =
    let h = c.requires.held in
    let y = leaf_there h in
    (omega (arith, y), λ k. flat_end y.2 h.forms.held.piece.part k)

pub behind-loop-after-init : goal.behind-loop-after-init
behind-loop-after-init t c = (omega arith, (leaf_there c.requires.held).0, c.next-after.ensures, λ h. left_start c.args.p h)

pub behind-next-after-requires-in-loop-after : goal.behind-next-after-requires-in-loop-after
behind-next-after-requires-in-loop-after t c =
    let h = c.requires.held in
    let y = leaf_there h in
    let v = c.loop-after.invariant in
    let l = left_on (v.3 h.forms.held) (omega (arith, y, v.1)) v.2 c.loop-after-test.true in
    (omega (arith, y, c.loop-after-test.true), λ k. flat_end (omega (arith, y, c.loop-after-test.true)) l.more.piece.part k)

pub behind-loop-after-smaller : goal.behind-loop-after-smaller
behind-loop-after-smaller t c =
    let h = c.requires.held in
    let y = leaf_there h in
    let v = c.loop-after.invariant in
    omega (arith, y, v.1, v.2, c.loop-after-test.true, ends (omega (arith, y, v.1)) (v.3 h.forms.held).more.piece.part)

pub behind-loop-after-preserved : goal.behind-loop-after-preserved
behind-loop-after-preserved t c =
    let h = c.requires.held in
    let y = leaf_there h in
    let v = c.loop-after.invariant in (
      omega (arith, v.0, v.2, ends (omega (arith, y, v.1)) (v.3 h.forms.held).more.piece.part),
      c.loop-after-test.true,
      c.next-after-in-loop-after.ensures,
      λ x. left_on (v.3 x) (omega (arith, y, v.1)) v.2 c.loop-after-test.true,
    )

pub behind-within-requires : goal.behind-within-requires
behind-within-requires t c =
    let h = c.requires.held in
    let y = leaf_there h in
    let v = c.loop-after.invariant in
    (omega (arith, v.0, v.1, y), (omega (arith, v.2, c.loop-after-test.false), room_left h (v.3 h.forms.held)))

pub behind-note-requires : goal.behind-note-requires
behind-note-requires t c =
    let h = c.requires.held in
    let y = leaf_there h in
    let v = c.loop-after.invariant in
    record { held = room_after h (v.3 h.forms.held) (omega (arith, y, v.1)) v.2 (omega (arith, c.loop-after-test.false)) c.within.ensures }

pub behind-returns-then-within : goal.behind-returns-then-within
behind-returns-then-within t c =
    let y = leaf_there c.requires.held in
    let v = c.loop-after.invariant in
    let z : c.within.result ≡ true = search rules in
    λ h. left_then (v.3 h) c.args.e (omega (arith, y, v.1)) v.2 (omega (arith, c.loop-after-test.false)) (rw z at c.within.ensures) c.note.ensures

pub behind-returns-else-within : goal.behind-returns-else-within
behind-returns-else-within t c =
    let y = leaf_there c.requires.held in
    let v = c.loop-after.invariant in
    let z : c.within.result ≡ false = search rules in
    λ h s u. rw z (left_stop (v.3 h) c.args.e (omega (arith, y, v.1)) v.2 (omega (arith, c.loop-after-test.false)) (rw z at c.within.ensures) s u)

pub within-kind_of-requires : goal.within-kind_of-requires
within-kind_of-requires t c = let y = leaf_there c.requires.held in omega arith

pub within-returns-then-ne : goal.within-returns-then-ne
within-returns-then-ne t c =
    let k : kind_at (numbers c.args.priced.now.code.row.now) c.args.i ≡ 3 → ⊥ = search rules in
    let y = leaf_there c.requires.held in
    λ h. within_flat y.2 h c.args.p (still (cost_in c.args.priced.now.cost) (rest_of h) c.args.e) k

pub within-parts-requires-clause-i_lt_to : goal.within-parts-requires-clause-i_lt_to
within-parts-requires-clause-i_lt_to t c = (leaf_there c.requires.held).2

pub within-parts-requires-clause-held : goal.within-parts-requires-clause-held
within-parts-requires-clause-held t c = room_parts c.requires.held

pub within-returns-then-p-i : goal.within-returns-then-p-i
within-returns-then-p-i t c =
    let y = leaf_there c.requires.held in
    λ h. within_here y.2 h c.args.p (still (cost_in c.args.priced.now.cost) (rest_of h) c.args.e) c.if-p-i.true (c.parts.ensures h)

pub within-other-other-requires : goal.within-other-other-requires
within-other-other-requires t c = let y = leaf_there c.requires.held in omega arith

pub within-after-after-requires : goal.within-after-after-requires
within-after-after-requires t c = let y = leaf_there c.requires.held in omega arith

pub within-scan-requires : goal.within-scan-requires
within-scan-requires t c = let h = c.requires.held in priced_after (leaf_there h).2 h.forms.held c.after-after.ensures

pub within-sum-rest-requires : goal.within-sum-rest-requires
within-sum-rest-requires t c =
    let h = c.requires.held in
    (rest_low (leaf_there h).2 c.after-after.ensures c.scan.ensures h.forms.held, omega (arith, h.forms.sums))

pub within-overflow_add-i : goal.within-overflow_add-i
within-overflow_add-i t c = let y = (leaf_there c.requires.held).2 in omega (arith, y, c.ranges.to.fits)

pub within-behind-requires : goal.within-behind-requires
within-behind-requires t c =
    let k : kind_at (numbers c.args.priced.now.code.row.now) c.args.i ≡ 3 = search rules in
    let h = c.requires.held in
    let y = leaf_there h in
    let x = priced_then y.2 h.forms.held k c.other-other.ensures in
    let s = rest_small y.2 c.after-after.ensures c.scan.ensures h.forms.held c.args.e c.sum-rest.ensures in
    (omega (arith, x.1, x.2), room_then h c.if-p-i.false k c.other-other.ensures c.if-p-other.true c.requires.first s)

pub within-behind-requires-else-p-other : goal.within-behind-requires-else-p-other
within-behind-requires-else-p-other t c =
    let k : kind_at (numbers c.args.priced.now.code.row.now) c.args.i ≡ 3 = search rules in
    let h = c.requires.held in
    let y = leaf_there h in
    let x = priced_else y.2 h.forms.held k c.other-other.ensures c.after-after.ensures in
    let s = rest_small y.2 c.after-after.ensures c.scan.ensures h.forms.held c.args.e c.sum-rest.ensures in
    (omega (arith, x.1, x.2), room_else h c.if-p-i.false k c.other-other.ensures c.after-after.ensures c.if-p-other.false c.requires.first s)

pub within-returns-then-p-other : goal.within-returns-then-p-other
within-returns-then-p-other t c =
    let k : kind_at (numbers c.args.priced.now.code.row.now) c.args.i ≡ 3 = search rules in
    let y = leaf_there c.requires.held in
    λ h. let s = rest_is y.2 c.after-after.ensures c.scan.ensures h c.args.e c.sum-rest.ensures in
    within_then y.2 h c.args.p s c.if-p-i.false k c.other-other.ensures c.if-p-other.true c.behind.ensures

pub within-returns-else-p-other : goal.within-returns-else-p-other
within-returns-else-p-other t c =
    let k : kind_at (numbers c.args.priced.now.code.row.now) c.args.i ≡ 3 = search rules in
    let y = leaf_there c.requires.held in
    λ h. let s = rest_is y.2 c.after-after.ensures c.scan.ensures h c.args.e c.sum-rest.ensures in
    within_else y.2 h c.args.p s c.if-p-i.false k c.other-other.ensures c.after-after.ensures c.if-p-other.false c.behind-else-p-other.ensures
