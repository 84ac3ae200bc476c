-- `reader::functions` meets its contract: the loop holds the plan so far, and each way out is one law. Assumes nothing.
use Rattle.reader.proofs.Tasks.{member_means, strays_means, holding_start, holding_neither, holding_ended, holding_full, holding_stopped, holding_fun}
use Rattle.reader.proofs.Stores.{same_length}
use Rattle.std.proofs.Common.{rules}
use Rattle.std.specs.Prelude.{Err}
use Rattle.text.specs.declared.Form.TheVariants.{Fun, Close}
use Rattle.text.specs.Grammar.{Found}
use mathlib.Core.Path.{◌≡◌, refl}
use native.Mathlib.Omega.{arith}
use Rattle.reader.proofs.functions.Goals as goal

pub loop-end-init : goal.loop-end-init
loop-end-init c = record { held = holding_start _ c.requires.0 c.requires.1; counted = refl; kept = refl }

pub returns-in-Some-Close-default-clause-reads : goal.returns-in-Some-Close-default-clause-reads
returns-in-Some-Close-default-clause-reads c =
    let end_at : Found c.args.text.now c.loop-end.spot.at Close c.in-Some-Close-default.end = member_means c.args.text.now c.loop-end.spot.at (search rules) in
    holding_ended c.loop-end.invariant.held end_at (rw (← c.loop-end.invariant.counted) c.ended.ensures)

pub returns-then-raw-eq-MAX_FUNCTIONS-clause-reads : goal.returns-then-raw-eq-MAX_FUNCTIONS-clause-reads
returns-then-raw-eq-MAX_FUNCTIONS-clause-reads c =
    let fun_at : Found c.args.text.now c.loop-end.spot.at Fun c.in-Some-Fun-default.end = member_means c.args.text.now c.loop-end.spot.at (search rules) in
    rw c.refused.ensures (holding_full c.loop-end.invariant.held fun_at c.if-raw-eq-MAX_FUNCTIONS.true)

pub forms-requires : goal.forms-requires
forms-requires c =
    let fun_at : Found c.args.text.now c.loop-end.spot.at Fun c.in-Some-Fun-default.end = member_means c.args.text.now c.loop-end.spot.at (search rules) in
    let held = c.loop-end.invariant.held in
    rw c.behind.ensures (omega (arith, held.few, held.numbered, held.fits, same_length _ _ c.loop-end.invariant.kept, fun_at.past, fun_at.within))

pub returns-in_err-body-in-Some-Fun-default-clause-reads : goal.returns-in_err-body-in-Some-Fun-default-clause-reads
returns-in_err-body-in-Some-Fun-default-clause-reads c =
    let fun_at : Found c.args.text.now c.loop-end.spot.at Fun c.in-Some-Fun-default.end = member_means c.args.text.now c.loop-end.spot.at (search rules) in
    let e : c.from_residual.result ≡ Err c.in_err-body-in-Some-Fun-default.field-0.0 = search rules in
    rw e (holding_stopped c.loop-end.invariant.held fun_at c.if-raw-eq-MAX_FUNCTIONS.false (rw (c.behind.ensures, same_length _ _ c.loop-end.invariant.kept) at c.in_err-body-in-Some-Fun-default.ensures.reads))

pub loop-end-smaller : goal.loop-end-smaller
loop-end-smaller c =
    let fun_at : Found c.args.text.now c.loop-end.spot.at Fun c.in-Some-Fun-default.end = member_means c.args.text.now c.loop-end.spot.at (search rules) in
    let came = (rw c.behind.ensures at c.in_ok-body-in-Some-Fun-default.ensures.reads).came in
    omega (arith, fun_at.past, came.past, came.within)

pub loop-end-preserved : goal.loop-end-preserved
loop-end-preserved c =
    let fun_at : Found c.args.text.now c.loop-end.spot.at Fun c.in-Some-Fun-default.end = member_means c.args.text.now c.loop-end.spot.at (search rules) in
    rw c.add.ensures
    (record {
      held = holding_fun c.loop-end.invariant.held fun_at c.if-raw-eq-MAX_FUNCTIONS.false
          (rw (c.behind.ensures, same_length _ _ c.loop-end.invariant.kept) at c.in_ok-body-in-Some-Fun-default.ensures.reads);
      counted = refl;
      kept = search rules;
    })

pub returns-in_default-clause-reads : goal.returns-in_default-clause-reads
returns-in_default-clause-reads c = rw c.refused-in_default.ensures (holding_neither c.loop-end.invariant.held (strays_means c.args.text.now c.loop-end.spot.at c.line.ensures (search rules)))
