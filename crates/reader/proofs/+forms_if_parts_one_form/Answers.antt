-- `reader::forms` and `reader::if_parts` and `reader::one_form` meet their contracts: each way out is one law. Assumes nothing.
use lib.ListN.{length}
use Rattle.reader.proofs.Bodies.{line_means, sign_means, leads_found, refuses, going_start, going_halt, going_out, going_more, leaf_fits, form_leaf, form_call, form_loop_stopped, form_loop, parts_no_then, parts_deep, parts_then_refused, parts_no_else, parts_else_refused, parts_no_close, parts_done}
use Rattle.std.proofs.lemmas.List.{get_or-take, length-take}
use Rattle.reader.proofs.Allowed.{allowed}
use Rattle.reader.proofs.Stores.{same_length}
use Rattle.reader.specs.Private.{heights_before}
use Rattle.text.specs.declared.Form.TheVariants.{Then, Else, Close, Call, Loop, If}
use Rattle.text.specs.Grammar.{Found}
use Rattle.std.specs.Prelude.{Err}
use mathlib.Core.Path.{◌≡◌, refl, sym, ap, subst}
use native.Mathlib.Omega.{arith}
use Rattle.std.proofs.Common.{rules}
use Prim.Native.Nat.{◌+◌}
use Rattle.reader.proofs.+forms_if_parts_one_form.Goals.{one_form-in-Leaf, one_form-in-Call, one_form-in-Loop+in_ok-body-in-Loop, one_form-in-If+in_ok-other-in-If}
use Rattle.reader.proofs.+forms_if_parts_one_form.Goals as goal

pub forms-loop-form-init : goal.forms-loop-form-init
forms-loop-form-init t c = record { going = going_start _ _ _ _ (omega arith) (omega arith) (omega arith); kept = refl }

pub forms-returns-in_err-form-clause-reads : goal.forms-returns-in_err-form-clause-reads
forms-returns-in_err-form-clause-reads t c =
    let a = c.args in
    let e : c.from_residual.result ≡ Err c.in_err-form.field-0.0 = search rules in
    let halted = line_means (length c.loop-form.row) a.nesting (heights_before a.before.now) a.text.now c.loop-form.spot c.in_err-form.ensures in
    rw e (going_halt c.loop-form.invariant.going (rw (same_length _ _ c.loop-form.invariant.kept) at halted))

pub forms-returns-then-eq-clause-reads : goal.forms-returns-then-eq-clause-reads
forms-returns-then-eq-clause-reads t c =
    let a = c.args in
    let v = line_means (length c.loop-form.row) a.nesting (heights_before a.before.now) a.text.now c.loop-form.spot c.in_ok-form.ensures in
    let e : c.in_ok-form.form ≡ Close = search rules in
    rw c.behind-next.ensures (going_out c.loop-form.invariant.going (subst (λ f. Found a.text.now c.loop-form.spot.at f c.in_ok-form.end) e v.0))

pub forms-one_form-requires : goal.forms-one_form-requires
forms-one_form-requires t c =
    let a = c.args in
    let v = line_means (length c.loop-form.row) a.nesting (heights_before a.before.now) a.text.now c.loop-form.spot c.in_ok-form.ensures in
    let g = c.loop-form.invariant.going.came in
    (omega (arith, c.decreases), (omega arith, v.0.within, omega (arith, g.numbered, v.0.past), omega (arith, g.fits, same_length _ _ c.loop-form.invariant.kept), search rules, v.1))

pub forms-returns-in_err-read-clause-reads : goal.forms-returns-in_err-read-clause-reads
forms-returns-in_err-read-clause-reads t c =
    let a = c.args in
    let v = line_means (length c.loop-form.row) a.nesting (heights_before a.before.now) a.text.now c.loop-form.spot c.in_ok-form.ensures in
    let e : c.from_residual-in_err-read.result ≡ Err c.in_err-read.field-0.0 = search rules in
    let halted = c.in_err-read.ensures.reads _ (leads_found v.0) in
    rw e (going_halt c.loop-form.invariant.going (refuses (rw (same_length _ _ c.loop-form.invariant.kept) at halted)))

pub forms-loop-form-smaller : goal.forms-loop-form-smaller
forms-loop-form-smaller t c =
    let a = c.args in
    let v = line_means (length c.loop-form.row) a.nesting (heights_before a.before.now) a.text.now c.loop-form.spot c.in_ok-form.ensures in
    let w = c.in_ok-read.ensures.reads _ (leads_found v.0) in
    omega (arith, v.0.past, w.came.past, w.came.within)

pub forms-loop-form-preserved : goal.forms-loop-form-preserved
forms-loop-form-preserved t c =
    let a = c.args in
    let v = line_means (length c.loop-form.row) a.nesting (heights_before a.before.now) a.text.now c.loop-form.spot c.in_ok-form.ensures in
    let done = c.in_ok-read.ensures.reads _ (leads_found v.0) in
    record {
      going = going_more c.loop-form.invariant.going v.0 (rw (same_length _ _ c.loop-form.invariant.kept) at done) c.max-height.ensures;
      kept = search rules;
    }

pub if_parts-returns-in_err-first-clause-reads : goal.if_parts-returns-in_err-first-clause-reads
if_parts-returns-in_err-first-clause-reads t c =
    let a = c.args in
    let e : c.from_residual.result ≡ Err c.in_err-first.field-0.0 = search rules in
    rw e (parts_no_then a.text.now (length a.row.now) (heights_before a.before.now) a.nesting a.spot _ (sign_means a.text.now Then a.spot _ c.in_err-first.ensures))

pub if_parts-returns-then-nesting-ge-MAX_BRACKETS-clause-reads : goal.if_parts-returns-then-nesting-ge-MAX_BRACKETS-clause-reads
if_parts-returns-then-nesting-ge-MAX_BRACKETS-clause-reads t c =
    let a = c.args in
    let first = sign_means a.text.now Then a.spot _ c.in_ok-first.ensures in
    rw c.refused.ensures (parts_deep a.text.now (length a.row.now) (heights_before a.before.now) a.nesting a.spot first c.if-nesting-ge-MAX_BRACKETS.true)

pub if_parts-forms-requires : goal.if_parts-forms-requires
if_parts-forms-requires t c =
    let first = sign_means c.args.text.now Then c.args.spot _ c.in_ok-first.ensures in
    omega (arith, c.decreases, c.requires, first, first.0.past, first.0.within)

pub if_parts-returns-in_err-then-clause-reads : goal.if_parts-returns-in_err-then-clause-reads
if_parts-returns-in_err-then-clause-reads t c =
    let a = c.args in
    let first = sign_means a.text.now Then a.spot _ c.in_ok-first.ensures in
    let e : c.from_residual-in_err-then.result ≡ Err c.in_err-then.field-0.0 = search rules in
    rw e (parts_then_refused a.text.now (length a.row.now) (heights_before a.before.now) a.nesting a.spot first c.if-nesting-ge-MAX_BRACKETS.false c.in_err-then.ensures.reads)

pub if_parts-returns-in_err-second-clause-reads : goal.if_parts-returns-in_err-second-clause-reads
if_parts-returns-in_err-second-clause-reads t c =
    let a = c.args in
    let first = sign_means a.text.now Then a.spot _ c.in_ok-first.ensures in
    let e : c.from_residual-in_err-second.result ≡ Err c.in_err-second.field-0.0 = search rules in
    rw e
    (parts_no_else a.text.now (length a.row.now) (heights_before a.before.now) a.nesting a.spot first c.if-nesting-ge-MAX_BRACKETS.false c.in_ok-then.ensures.reads
    (sign_means a.text.now Else c.in_ok-then.then.next _ c.in_err-second.ensures))

pub if_parts-forms-requires-2 : goal.if_parts-forms-requires-2
if_parts-forms-requires-2 t c =
    let second = sign_means c.args.text.now Else c.in_ok-then.then.next _ c.in_ok-second.ensures in
    let came = c.in_ok-then.ensures.reads.came in
    omega (arith, c.decreases, c.requires, came.numbered, came.fits, second, second.0.past, second.0.within, same_length _ _ c.in_ok-then.ensures.keeps)

pub if_parts-returns-in_err-last-clause-reads : goal.if_parts-returns-in_err-last-clause-reads
if_parts-returns-in_err-last-clause-reads t c =
    let a = c.args in
    let first = sign_means a.text.now Then a.spot _ c.in_ok-first.ensures in
    let second = sign_means a.text.now Else c.in_ok-then.then.next _ c.in_ok-second.ensures in
    let e : c.from_residual-in_err-last.result ≡ Err c.in_err-last.field-0.0 = search rules in
    rw e
    (parts_else_refused a.text.now (length a.row.now) (heights_before a.before.now) a.nesting a.spot first c.if-nesting-ge-MAX_BRACKETS.false c.in_ok-then.ensures.reads second
    (rw (same_length _ _ c.in_ok-then.ensures.keeps) at c.in_err-last.ensures.reads))

pub if_parts-returns-in_err-next-clause-reads : goal.if_parts-returns-in_err-next-clause-reads
if_parts-returns-in_err-next-clause-reads t c =
    let a = c.args in
    let first = sign_means a.text.now Then a.spot _ c.in_ok-first.ensures in
    let second = sign_means a.text.now Else c.in_ok-then.then.next _ c.in_ok-second.ensures in
    let e : c.from_residual-in_err-next.result ≡ Err c.in_err-next.field-0.0 = search rules in
    rw e
    (parts_no_close a.text.now (length a.row.now) (heights_before a.before.now) a.nesting a.spot first c.if-nesting-ge-MAX_BRACKETS.false c.in_ok-then.ensures.reads second
    (rw (same_length _ _ c.in_ok-then.ensures.keeps) at c.in_ok-last.ensures.reads) (sign_means a.text.now Close c.in_ok-last.last.next _ c.in_err-next.ensures))

pub if_parts-returns-clause-reads : goal.if_parts-returns-clause-reads
if_parts-returns-clause-reads t c =
    let a = c.args in
    let first = sign_means a.text.now Then a.spot _ c.in_ok-first.ensures in
    let second = sign_means a.text.now Else c.in_ok-then.then.next _ c.in_ok-second.ensures in
    let next = sign_means a.text.now Close c.in_ok-last.last.next _ c.in_ok-next.ensures in
    parts_done a.text.now (length a.row.now) (heights_before a.before.now) a.nesting a.spot first c.if-nesting-ge-MAX_BRACKETS.false c.in_ok-then.ensures.reads second
    (rw (same_length _ _ c.in_ok-then.ensures.keeps) at c.in_ok-last.ensures.reads) next (omega (arith, c.max.ensures, c.max-height.ensures))

pub one_form-put-requires : goal.one_form-put-requires
one_form-put-requires t c =
    let a = c.args in
    omega (arith, c.requires, leaf_fits (length a.row.now) a.nesting.brackets a.nesting.level a.spot.leaves (heights_before a.before.now) a.form c.requires.4 c.requires.5)

pub one_form-offset_bounds-before-target : goal.one_form-offset_bounds-before-target
one_form-offset_bounds-before-target t c =
    let a = c.args in
    let i = c.in-Call in
    let ok = allowed (length a.row.now) a.nesting.brackets a.nesting.level a.spot.leaves (heights_before a.before.now) (Call i.field-0 i.target i.field-2 i.field-3) (rw i.is at c.requires.5) in
    omega (arith, ok)

pub one_form-bounds-before-target : goal.one_form-bounds-before-target
one_form-bounds-before-target t c =
    let a = c.args in
    let i = c.in-Call in
    let ok = allowed (length a.row.now) a.nesting.brackets a.nesting.level a.spot.leaves (heights_before a.before.now) (Call i.field-0 i.target i.field-2 i.field-3) (rw i.is at c.requires.5) in
    omega (arith, ok)

pub one_form-overflow_add-inside : goal.one_form-overflow_add-inside
one_form-overflow_add-inside t c =
    let a = c.args in
    let i = c.in-Loop in
    let ok = allowed (length a.row.now) a.nesting.brackets a.nesting.level a.spot.leaves (heights_before a.before.now) (Loop i.field-0 i.field-1 i.field-2 i.field-3) (rw i.is at c.requires.5) in
    omega (arith, ok)

pub one_form-overflow_add-inside-in-Loop : goal.one_form-overflow_add-inside-in-Loop
one_form-overflow_add-inside-in-Loop t c =
    let a = c.args in
    let i = c.in-Loop in
    let ok = allowed (length a.row.now) a.nesting.brackets a.nesting.level a.spot.leaves (heights_before a.before.now) (Loop i.field-0 i.field-1 i.field-2 i.field-3) (rw i.is at c.requires.5) in
    omega (arith, ok)

pub one_form-forms-requires : goal.one_form-forms-requires
one_form-forms-requires t c =
    let a = c.args in
    let i = c.in-Loop in
    let ok = allowed (length a.row.now) a.nesting.brackets a.nesting.level a.spot.leaves (heights_before a.before.now) (Loop i.field-0 i.field-1 i.field-2 i.field-3) (rw i.is at c.requires.5) in
    omega (arith, c.decreases, c.requires, ok)

pub one_form-if_parts-requires : goal.one_form-if_parts-requires
one_form-if_parts-requires t c =
    let a = c.args in
    let i = c.in-If in
    let ok = allowed (length a.row.now) a.nesting.brackets a.nesting.level a.spot.leaves (heights_before a.before.now) (If i.field-0 i.field-1 i.field-2) (rw i.is at c.requires.5) in
    omega (arith, c.decreases, c.requires, ok)

pub one_form-returns-in_err-body-in-Loop-clause-reads : goal.one_form-returns-in_err-body-in-Loop-clause-reads
one_form-returns-in_err-body-in-Loop-clause-reads t c =
    let i = c.in-Loop in
    let e : c.from_residual.result ≡ Err c.in_err-body-in-Loop.field-0.0 = search rules in
    rw (e, i.is) (form_loop_stopped _ _ _ _ (rw i.is at c.requires.5) c.in_err-body-in-Loop.ensures.reads)

pub one_form-overflow_add-other : goal.one_form-overflow_add-other
one_form-overflow_add-other t c =
    let a = c.args in
    let i = c.in-Call in
    let ok = allowed (length a.row.now) a.nesting.brackets a.nesting.level a.spot.leaves (heights_before a.before.now) (Call i.field-0 i.target i.field-2 i.field-3) (rw i.is at c.requires.5) in
    let called = get_or-take a.before.now.functions a.before.now.heights i.target 0 (omega (arith, ok, length-take a.before.now.functions a.before.now.heights)) in
    omega (arith, ok, called)

pub one_form-returns-clause-reads : goal.one_form-returns-clause-reads
one_form-returns-clause-reads t c =
    let a = c.args in
    elim c.match-form.branch [
      | one_form-in-Leaf w ↦
          let i = w.in-Leaf in
          rw (w.other-is, i.is) (form_leaf _ _ _ c.requires.1 c.requires.2 (rw i.is at c.requires.5) (rw (w.row-is, w.other-is, w.form-is, i.is) at c.put.ensures.writes))
      | one_form-in-Call w ↦
          let i = w.in-Call in
          let fine = rw i.is at c.requires.5 in
          let ok = allowed (length a.row.now) a.nesting.brackets a.nesting.level a.spot.leaves (heights_before a.before.now) (Call i.field-0 i.target i.field-2 i.field-3) fine in
          let called = get_or-take a.before.now.functions a.before.now.heights i.target 0 (omega (arith, ok, length-take a.before.now.functions a.before.now.heights)) in
          rw (w.other-is, i.is)
          (form_call _ _ _ _ c.requires.1 c.requires.2 fine (ap (λ x. 1 + x) (sym called)) (rw (w.row-is, w.other-is, w.form-is) at c.put.ensures.writes))
      | one_form-in-Loop+in_ok-body-in-Loop w ↦
          let i = w.in-Loop in
          rw (w.other-is, i.is)
          (form_loop _ _ _ _ (rw i.is at c.requires.5) w.in_ok-body-in-Loop.ensures.reads (rw (w.row-is, w.other-is, w.form-is, i.is) at c.put.ensures.writes))
      | one_form-in-If+in_ok-other-in-If w ↦
          let i = w.in-If in
          rw (w.other-is, i.is)
          (w.in_ok-other-in-If.ensures.reads _ _ _ _ _ _ refl refl (rw i.is at c.requires.5) (rw (w.row-is, w.other-is, w.form-is, i.is) at c.put.ensures.writes))
    ]
