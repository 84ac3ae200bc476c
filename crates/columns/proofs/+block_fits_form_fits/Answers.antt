-- `columns::block_fits` and `columns::form_fits`, which call each other, meet their contracts. Assumes nothing.
use native.Mathlib.Omega.{arith}
use borrow.Author.Tests.{ne_eqb}
use borrow.Author.Rules.{rules}
use mathlib.Core.Bool.{true≢false}
use mathlib.Core.Path.{◌≡◌, sym, ◌∙◌}
use Prim.Native.Nat.{◌+◌, ◌-◌}
use Rattle.rows.proofs.Answers.{said_true, said_false, same_answer}
use Rattle.rows.proofs.Shape.{ends, flat_end}
use lib.ListN.{get_or}
use Rattle.model.specs.Plan.{C}
use Rattle.columns.specs.Sums.{lead}
use Rattle.columns.specs.Private.{AsDerived, AsDerivedFirst, IfFits}
use Rattle.rows.specs.Leaves.{numbers, lent_turns, lent_tails}
use Rattle.columns.proofs.Sizes.{not_loop, not_if}
use Rattle.columns.proofs.+block_fits_form_fits.Goals.{form_fits-then-u-eq0, form_fits-else-u-eq0, form_fits-then-if_fits, form_fits-else-if_fits}
use Rattle.columns.proofs.Fitting.{says_no, says_same, walk_start, walk_refuse, walk_next, walk_end, first_within, first_round, flat_first, first_flat, loop_first, first_loop, first_body, if_first, first_if, first_then, first_else}
use Rattle.columns.proofs.Inner.{as_loop, as_if, ends_at, if_ends, body_forms, then_forms, else_forms, first_form}
use Rattle.columns.proofs.+block_fits_form_fits.Goals as goal

pub block_fits-loop-i-init : goal.block_fits-loop-i-init
block_fits-loop-i-init t c =
    let row = c.args.lent.now.code.row.now in
    (omega arith, λ p. walk_start c.args.lent.now.sums.now (lent_turns row) (lent_tails row) p)

pub block_fits-next-next-requires : goal.block_fits-next-next-requires
block_fits-next-next-requires t c =
    let lt = c.loop-i-test.true in
    let p = (c.loop-i.invariant.1 c.requires.forms).more in
    (omega (arith, lt, p.held), λ k. flat_end lt p.part k)

pub block_fits-form_fits-requires : goal.block_fits-form_fits-requires
block_fits-form_fits-requires t c =
    let lt = c.loop-i-test.true in
    let v = c.loop-i.invariant in
    let p = (v.1 c.requires.forms).more in
    (omega (arith, c.decreases, v.0, ends lt p.part), first_form lt p)

pub block_fits-returns-then-not-form_fits : goal.block_fits-returns-then-not-form_fits
block_fits-returns-then-not-form_fits t c =
    let ts = c.args.lent.now.sums.now in
    let o = lent_turns c.args.lent.now.code.row.now in
    let u = lent_tails c.args.lent.now.code.row.now in
    let a = c.loop-i in
    let lt = c.loop-i-test.true in
    λ p f. let q = a.invariant.1 p in
    walk_refuse ts o u lt c.next-next.ensures c.start-x.ensures q
    (said_false {A = AsDerivedFirst ts o u q.more.part.lines a.i c.start-x.result} c.form_fits.result c.if-not-form_fits.true (c.form_fits.ensures (first_form lt q.more))) f

pub block_fits-loop-i-smaller : goal.block_fits-loop-i-smaller
block_fits-loop-i-smaller t c = omega (arith, ends c.loop-i-test.true (c.loop-i.invariant.1 c.requires.forms).more.part, c.next-next.ensures)

pub block_fits-loop-i-preserved : goal.block_fits-loop-i-preserved
block_fits-loop-i-preserved t c =
    let ts = c.args.lent.now.sums.now in
    let o = lent_turns c.args.lent.now.code.row.now in
    let u = lent_tails c.args.lent.now.code.row.now in
    let a = c.loop-i in
    let lt = c.loop-i-test.true in (
      omega (arith, a.invariant.0, ends lt (a.invariant.1 c.requires.forms).more.part, c.next-next.ensures),
      λ p. let q = a.invariant.1 p in
          walk_next ts o u lt c.next-next.ensures c.start-x.ensures q
          (said_true {A = AsDerivedFirst ts o u q.more.part.lines a.i c.start-x.result} c.form_fits.result c.if-not-form_fits.false (c.form_fits.ensures (first_form lt q.more))),
    )

pub block_fits-returns : goal.block_fits-returns
block_fits-returns t c =
    let row = c.args.lent.now.code.row.now in
    λ p. walk_end c.args.lent.now.sums.now (lent_turns row) (lent_tails row) c.loop-i-test.false c.requires.low (c.loop-i.invariant.1 p)

pub form_fits-returns-else-t-le-LIMIT : goal.form_fits-returns-else-t-le-LIMIT
form_fits-returns-else-t-le-LIMIT t c =
    let row = c.args.lent.now.code.row.now in
    let e = c.if-t-le-LIMIT.either in
    let et = c.tail-t.ensures in
    λ p. let n : AsDerivedFirst c.args.lent.now.sums.now (lent_turns row) (lent_tails row) p.part.lines c.args.i c.args.x → ⊥ = λ f.
    omega (arith, first_within c.args.lent.now.sums.now (lent_turns row) (lent_tails row) p.some p.part f, et, e)
    in search rules

pub form_fits-loop_fits-requires-clause-i_in_bounds : goal.form_fits-loop_fits-requires-clause-i_in_bounds
form_fits-loop_fits-requires-clause-i_in_bounds t c =
    let z = c.requires in
    let h = as_loop z c.in-Loop.ensures in (
      omega (arith, z.some, z.held),
      omega (arith, h.costs.isolated_range),
      h.bound,
      omega (arith, ends_at z c.after-after.ensures, z.held),
    )

pub form_fits-block_fits-requires : goal.form_fits-block_fits-requires
form_fits-block_fits-requires t c =
    let z = c.requires in
    let he = c.after-after.ensures in (
      omega (arith, c.decreases, ends_at z he),
      (omega (arith), body_forms z he (as_loop z c.in-Loop.ensures)),
    )

pub form_fits-returns-then-loop_fits : goal.form_fits-returns-then-loop_fits
form_fits-returns-then-loop_fits t c =
    let ts = c.args.lent.now.sums.now in
    let o = lent_turns c.args.lent.now.code.row.now in
    let u = lent_tails c.args.lent.now.code.row.now in
    let i = c.args.i in
    let x = c.args.x in
    let et = c.tail-t.ensures in
    let eo = c.turn-u.ensures in
    let he = c.after-after.ensures in
    let d = rw (et, eo) at c.if-loop_fits.ensures in
    λ p. let h = as_loop p c.in-Loop.ensures in
    same_answer {A = AsDerived ts o u h.body.lines (i + 1) (get_or u i 0 - get_or o i 0)} {B = AsDerivedFirst ts o u p.part.lines i x} c.block_fits.result
    (λ f. loop_first ts o u h he (omega (arith, et), omega (arith, et)) d f) (λ f. first_body ts o u h he f)
    (rw (et, eo) at (c.block_fits.ensures (body_forms p he h)))

pub form_fits-returns-else-loop_fits : goal.form_fits-returns-else-loop_fits
form_fits-returns-else-loop_fits t c =
    let row = c.args.lent.now.code.row.now in
    λ p. let h = as_loop p c.in-Loop.ensures in
    says_no c.if-loop_fits.false (λ f. (rw (c.tail-t.ensures, c.turn-u.ensures) at c.if-loop_fits.ensures) (first_loop c.args.lent.now.sums.now (lent_turns row) (lent_tails row) h c.after-after.ensures f))

pub form_fits-if_fits-requires : goal.form_fits-if_fits-requires
form_fits-if_fits-requires t c =
    let z = c.requires in
    let d = if_ends z c.in-If.ensures c.other-other.ensures c.after-after.ensures in
    (omega (arith, z.some, z.held), omega (arith, d, z.held), omega (arith, d, z.held))

pub form_fits-block_fits-requires-then-if_fits : goal.form_fits-block_fits-requires-then-if_fits
form_fits-block_fits-requires-then-if_fits t c =
    let z = c.requires in
    let hm = c.other-other.ensures in
    let he = c.after-after.ensures in
    let d = if_ends z c.in-If.ensures hm he in (
      omega (arith, c.decreases, d, he),
      (omega (arith), then_forms z hm (as_if z c.in-If.ensures)),
    )

pub form_fits-block_fits-requires-then-block_fits : goal.form_fits-block_fits-requires-then-block_fits
form_fits-block_fits-requires-then-block_fits t c =
    let z = c.requires in
    let hm = c.other-other.ensures in
    let he = c.after-after.ensures in
    let d = if_ends z c.in-If.ensures hm he in (
      omega (arith, c.decreases, d, he),
      (omega (arith), else_forms z hm he (as_if z c.in-If.ensures)),
    )

pub form_fits-returns-then-block_fits : goal.form_fits-returns-then-block_fits
form_fits-returns-then-block_fits t c =
    let ts = c.args.lent.now.sums.now in
    let row = c.args.lent.now.code.row.now in
    let o = lent_turns row in
    let u = lent_tails row in
    let x = c.args.x in
    let et = c.tail-t.ensures in
    let hm = c.other-other.ensures in
    let he = c.after-after.ensures in
    λ p. let h = as_if p c.in-If.ensures in
    elim c.if-if_fits.branch [
      | form_fits-then-if_fits w ↦
          elim c.if-u-eq0.branch [
            | form_fits-then-u-eq0 v ↦
                let d : IfFits (numbers row) u c.args.i c.other-other.result c.after-after.result (get_or u c.args.i 0) x =
                rw et at (said_true {A = IfFits (numbers row) u c.args.i c.other-other.result c.after-after.result c.tail-t.result x} v.if_fits.result (sym v.value-is ∙ w.if-if_fits.true) v.if_fits.ensures)
                in
                let g = said_true {A = AsDerived ts o u h.then.lines (c.args.i + 1) x} w.block_fits-then-if_fits.result (sym w.value-is ∙ c.if-block_fits.true) (w.block_fits-then-if_fits.ensures (then_forms p hm h)) in
                same_answer {A = AsDerived ts o u h.else.lines c.other-other.result x} {B = AsDerivedFirst ts o u p.part.lines c.args.i x} c.block_fits-then-block_fits.result
                (λ k. if_first ts o u h hm he (sym c.turn-u.ensures ∙ v.if-u-eq0.true) (omega (arith, et)) d g k)
                (λ k. first_else ts o u h hm he k) (c.block_fits-then-block_fits.ensures (else_forms p hm he h))
            | form_fits-else-u-eq0 v ↦ absurd (true≢false (sym w.if-if_fits.true ∙ v.value-is ∙ ne_eqb _ _ v.if-u-eq0.false))
          ]
      | form_fits-else-if_fits w ↦ absurd (true≢false (sym c.if-block_fits.true ∙ w.value-is ∙ w.if-if_fits.false))
    ]

pub form_fits-returns-else-block_fits : goal.form_fits-returns-else-block_fits
form_fits-returns-else-block_fits t c =
    let ts = c.args.lent.now.sums.now in
    let row = c.args.lent.now.code.row.now in
    let o = lent_turns row in
    let u = lent_tails row in
    let x = c.args.x in
    let hm = c.other-other.ensures in
    let he = c.after-after.ensures in
    λ p. let h = as_if p c.in-If.ensures in
    says_no c.if-block_fits.false
    (λ f. elim c.if-if_fits.branch [
      | form_fits-then-if_fits w ↦
          said_false {A = AsDerived ts o u h.then.lines (c.args.i + 1) x} w.block_fits-then-if_fits.result (sym w.value-is ∙ c.if-block_fits.false) (w.block_fits-then-if_fits.ensures (then_forms p hm h))
          (first_then ts o u h hm he f)
      | form_fits-else-if_fits w ↦
          elim c.if-u-eq0.branch [
            | form_fits-then-u-eq0 v ↦
                said_false {A = IfFits (numbers row) u c.args.i c.other-other.result c.after-after.result c.tail-t.result x} v.if_fits.result (sym v.value-is ∙ w.if-if_fits.false) v.if_fits.ensures
                (rw c.tail-t.ensures (first_if ts o u p.some p.part h hm he f))
            | form_fits-else-u-eq0 v ↦
                v.if-u-eq0.false (c.turn-u.ensures ∙ first_round ts o u p.some p.part (λ k. omega (arith, k, c.in-If.ensures)) f)
          ]
    ])

pub form_fits-returns-then-u-eq0-2 : goal.form_fits-returns-then-u-eq0-2
form_fits-returns-then-u-eq0-2 t c =
    let ts = c.args.lent.now.sums.now in
    let o = lent_turns c.args.lent.now.code.row.now in
    let u = lent_tails c.args.lent.now.code.row.now in
    let i = c.args.i in
    let x = c.args.x in
    let et = c.tail-t.ensures in
    let k = c.form_kind in
    λ p. same_answer {A = get_or u i 0 - x ≡ lead C ts p.part.lines} {B = AsDerivedFirst ts o u p.part.lines i x} c.flat_fits.result
    (λ e. flat_first ts o u p.some p.part (not_loop k.result k.ensures c.in_default.not-Loop) (not_if k.result k.ensures c.in_default.not-If)
    (sym c.turn-u.ensures ∙ c.if-u-eq0-2.true) (omega (arith, et), omega (arith, et)) e)
    (λ f. first_flat ts o u p.some p.part f) (rw et at (c.flat_fits.ensures p))

pub form_fits-returns-else-u-eq0-2 : goal.form_fits-returns-else-u-eq0-2
form_fits-returns-else-u-eq0-2 t c =
    let row = c.args.lent.now.code.row.now in
    let k = c.form_kind in
    λ p. says_same c.turn-u.result 0 (λ e. absurd (c.if-u-eq0-2.false e))
    (λ f. c.turn-u.ensures ∙ first_round c.args.lent.now.sums.now (lent_turns row) (lent_tails row) p.some p.part (not_loop k.result k.ensures c.in_default.not-Loop) f)
