use Rattle.rows.specs.Leaves.{numbers}
use Rattle.rows.specs.Rows.{kind_at}
use Rattle.rows.proofs.Shape.{ends, flat_end}
use Rattle.place.proofs.Shape.{then_plan, else_plan, piece_after}
use Rattle.place.proofs.Siblings.{leaf_outside, sought_past, sought_own, sought_flat, sought_then, sought_else}
use mathlib.Core.Path.{◌≡◌, refl}
use mathlib.Core.Logic.{inl, inr}
use Prim.Native.Nat.{◌-◌}
use native.Mathlib.Omega.{arith}
use borrow.Author.Rules.{rules}
use Rattle.place.proofs.on_level.Goals.{then-p-from-via-then-p-from, then-p-from-via-else-p-from+then-to-p}
use Rattle.place.proofs.on_level.Goals as goal

pub returns-then-p-from : goal.returns-then-p-from
returns-then-p-from c = λ left q G. leaf_outside q G c.args.p (elim c.then-p-from.branch [
  | then-p-from-via-then-p-from w ↦ inl w.if-p-from.true
  | then-p-from-via-else-p-from+then-to-p w ↦ inr w.if-to-p.true
])

pub loop-i-init : goal.loop-i-init
loop-i-init c = (c.args.to, c.if-p-from.false, c.if-to-p.false, c.requires, λ left q G. record { left = left; more = q; same = refl })

pub next-after-requires : goal.next-after-requires
next-after-requires c =
    let (stop, ge, lt, h, f) = c.loop-i.invariant in
    (omega (arith, h.room), λ k. flat_end (omega arith) h.forms.part k)

pub loop-i-smaller-then-after-p : goal.loop-i-smaller-then-after-p
loop-i-smaller-then-after-p c =
    let (stop, ge, lt, h, f) = c.loop-i.invariant in
    omega (arith, ends (omega arith) h.forms.part)

pub loop-i-preserved-then-after-p : goal.loop-i-preserved-then-after-p
loop-i-preserved-then-after-p c =
    let (stop, ge, lt, h, f) = c.loop-i.invariant in (
      stop,
      c.if-after-p.true,
      lt,
      record { room = h.room; left = h.left; forms = piece_after (omega arith) h.forms c.next-after.ensures },
      λ left q G. sought_past (omega arith) c.next-after.ensures c.if-after-p.true (f left q G),
    )

pub loop-i-preserved-then-p-other : goal.loop-i-preserved-then-p-other
loop-i-preserved-then-p-other c =
    let (stop, ge, lt, h, f) = c.loop-i.invariant in
    let k : kind_at (numbers c.args.row.now) c.loop-i.i ≡ 3 = search rules in
    let t = then_plan (omega arith) h.forms k c.other-other.ensures in
    let e = ends (omega arith) h.forms.part in (
      c.other-other.result,
      omega arith,
      c.if-p-other.true,
      record { room = omega (arith, t.2, e, h.room); left = h.left - 2; forms = t.0 },
      λ left q G. sought_then (omega arith) (omega (arith, c.next-after.ensures, c.if-after-p.false)) (λ z. omega arith) k c.other-other.ensures c.if-p-other.true (f left q G),
    )

pub loop-i-smaller : goal.loop-i-smaller
loop-i-smaller c =
    let (stop, ge, lt, h, f) = c.loop-i.invariant in
    let k : kind_at (numbers c.args.row.now) c.loop-i.i ≡ 3 = search rules in
    omega (arith, (then_plan (omega arith) h.forms k c.other-other.ensures).1)

pub loop-i-preserved : goal.loop-i-preserved
loop-i-preserved c =
    let (stop, ge, lt, h, f) = c.loop-i.invariant in
    let k : kind_at (numbers c.args.row.now) c.loop-i.i ≡ 3 = search rules in
    let t = else_plan (omega arith) h.forms k c.other-other.ensures refl in (
      _,
      c.if-p-other.false,
      omega (arith, c.next-after.ensures, c.if-after-p.false),
      record { room = omega (arith, t.2, h.room); left = h.left - 2; forms = t.0 },
      λ left q G. sought_else (omega arith) (omega (arith, c.next-after.ensures, c.if-after-p.false)) (λ z. omega arith) k c.other-other.ensures c.if-p-other.false (f left q G),
    )

pub returns-else-eq : goal.returns-else-eq
returns-else-eq c = λ left q G.
    let (stop, ge, lt, h, f) = c.loop-i.invariant in
    let k : kind_at (numbers c.args.row.now) c.loop-i.i ≡ 3 → ⊥ = search rules in
    sought_flat (omega arith) (omega (arith, c.next-after.ensures, c.if-after-p.false)) (λ z. omega arith) k (f left q G)

pub returns : goal.returns
returns c = λ left q G.
    let (stop, ge, lt, h, f) = c.loop-i.invariant in
    let z : c.args.p ≡ c.loop-i.i = omega (arith, c.loop-i-test.false) in
    sought_own (omega arith) (omega (arith, ends (omega arith) h.forms.part)) z (f left q G)
