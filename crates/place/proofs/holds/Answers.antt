use Rattle.place.proofs.Lent.{leaf_held, leaves_held}
use Rattle.rows.specs.Leaves.{numbers}
use Rattle.place.proofs.Holding.{held_none, held_below, held_next, held_enters, head_room, head_open, level_plan, says_level}
use Rattle.place.specs.Private.{Enters}
use mathlib.Core.Bool.{true, false}
use lib.ListN.{get_or}
use Prim.Native.Nat.{◌-◌, ◌≤◌}
use native.Mathlib.Omega.{arith}
use Rattle.place.proofs.holds.Goals.{else-l-gt1-via-then-l-gt1+else-not-enters, else-l-gt1-via-else-l-gt1}
use Rattle.place.proofs.holds.Goals as goal

pub loop-l-init : goal.loop-l-init
loop-l-init c = λ p k lt. held_none _ _ _ _ k (omega arith)

pub enters-requires : goal.enters-requires
enters-requires c =
    let p = c.requires.function_table in
    let l = c.loop-l.l in
    leaf_held c.args.code.now.row.now (head_room p (omega arith) (c.loop-l.invariant p (l - 1) (omega arith)))

pub returns-then-not-enters : goal.returns-then-not-enters
returns-then-not-enters c = λ p h.
    let l = c.loop-l.l in
    let k = c.args.place.now.level in
    c.if-not-enters.ensures (held_enters p (omega arith) (held_below p {l = l} (k - l) k (omega (arith, c.loop-l-test.true)) h))

pub span-level-requires : goal.span-level-requires
span-level-requires c =
    let p = c.requires.function_table in
    let l = c.loop-l.l in
    record {
      least = c.loop-l.auto.l;
      most = omega (arith, c.loop-l-test.true, c.requires.most);
      count = p.count;
      fits = p.fits;
      enterable = λ two. elim c.else-l-gt1.branch [
        | else-l-gt1-via-then-l-gt1+else-not-enters w ↦ head_open p two (c.loop-l.invariant p (l - 1) (omega arith)) w.if-not-enters.ensures
        | else-l-gt1-via-else-l-gt1 w ↦ absurd (omega (arith, two, w.if-l-gt1.false))
      ];
    }

pub settled-requires : goal.settled-requires
settled-requires c =
    let p = c.requires.function_table in
    let l = c.loop-l.l in
    let a = c.args.place.now in
    let en : 2 ≤ l → Enters (numbers c.args.code.now.row.now) (get_or a.leaves (l - 1) 0) (get_or a.earlier (l - 1) 0) =
    λ two.
    elim c.else-l-gt1.branch [
      | else-l-gt1-via-then-l-gt1+else-not-enters w ↦ w.if-not-enters.ensures
      | else-l-gt1-via-else-l-gt1 w ↦ absurd (omega (arith, two, w.if-l-gt1.false))
    ] in
    let h = level_plan p c.loop-l.auto.l (c.loop-l.invariant p (l - 1) (omega (arith, c.loop-l.auto.l))) en c.span-level.ensures.0 c.span-level.ensures.1 in
    record { room = leaves_held c.args.code.now.row.now h.0; left = 62; forms = h.1 }

pub returns-then-not-settled : goal.returns-then-not-settled
returns-then-not-settled c = λ p h.
    let l = c.loop-l.l in
    let a = c.args.place.now in
    let en : 2 ≤ l → Enters (numbers c.args.code.now.row.now) (get_or a.leaves (l - 1) 0) (get_or a.earlier (l - 1) 0) =
    λ two.
    elim c.else-l-gt1.branch [
      | else-l-gt1-via-then-l-gt1+else-not-enters w ↦ w.if-not-enters.ensures
      | else-l-gt1-via-else-l-gt1 w ↦ absurd (omega (arith, two, w.if-l-gt1.false))
    ] in
    says_level p c.loop-l.auto.l (c.loop-l.invariant p (l - 1) (omega (arith, c.loop-l.auto.l))) en c.span-level.ensures.0 c.span-level.ensures.1 false c.if-not-settled.ensures
    (held_below p {l = l} (a.level - l) a.level (omega (arith, c.loop-l-test.true)) h)

pub loop-l-preserved : goal.loop-l-preserved
loop-l-preserved c = λ p.
    let l = c.loop-l.l in
    let a = c.args.place.now in
    let en : 2 ≤ l → Enters (numbers c.args.code.now.row.now) (get_or a.leaves (l - 1) 0) (get_or a.earlier (l - 1) 0) =
    λ two.
    elim c.else-l-gt1.branch [
      | else-l-gt1-via-then-l-gt1+else-not-enters w ↦ w.if-not-enters.ensures
      | else-l-gt1-via-else-l-gt1 w ↦ absurd (omega (arith, two, w.if-l-gt1.false))
    ] in
    held_next p (c.loop-l.invariant p) (says_level p c.loop-l.auto.l (c.loop-l.invariant p (l - 1) (omega (arith, c.loop-l.auto.l))) en c.span-level.ensures.0 c.span-level.ensures.1 true c.if-not-settled.ensures)

pub returns : goal.returns
returns c = λ p. c.loop-l.invariant p c.args.place.now.level (omega (arith, c.loop-l-test.false))

pub returns-else-not-settled : goal.returns-else-not-settled
returns-else-not-settled c = λ p.
    let l = c.loop-l.l in
    let a = c.args.place.now in
    let en : 2 ≤ l → Enters (numbers c.args.code.now.row.now) (get_or a.leaves (l - 1) 0) (get_or a.earlier (l - 1) 0) =
    λ two.
    elim c.else-l-gt1.branch [
      | else-l-gt1-via-then-l-gt1+else-not-enters w ↦ w.if-not-enters.ensures
      | else-l-gt1-via-else-l-gt1 w ↦ absurd (omega (arith, two, w.if-l-gt1.false))
    ] in
    held_next p (c.loop-l.invariant p) (says_level p c.loop-l.auto.l (c.loop-l.invariant p (l - 1) (omega (arith, c.loop-l.auto.l))) en c.span-level.ensures.0 c.span-level.ensures.1 true c.if-not-settled.ensures)
    a.level (omega arith)
