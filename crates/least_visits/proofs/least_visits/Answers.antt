-- `least_visits::least_visits` meets its contract. Assumes nothing.
use native.Mathlib.Omega.{arith}
use mathlib.Core.Path.{refl}
use Rattle.least_visits.proofs.Functions.{done_none, linked_function, done_more}
use Rattle.least_visits.proofs.least_visits.Goals as goal

pub loop-f-init : goal.loop-f-init
loop-f-init c = λ h. done_none h refl

pub function-lines-requires : goal.function-lines-requires
function-lines-requires c = omega (arith, c.requires.table.fits)

pub note-requires : goal.note-requires
note-requires c =
    rw (c.function-lines.ensures.0, c.function-lines.ensures.1)
    (linked_function c.args.code.now c.requires.table c.requires.within (c.loop-f.invariant c.requires.table) c.loop-f-test.true)

pub loop-f-preserved : goal.loop-f-preserved
loop-f-preserved c = λ h.
    let n = rw (c.function-lines.ensures.0, c.function-lines.ensures.1) at c.note.ensures in
    done_more c.args.code.now h c.requires.within (c.loop-f.invariant h) c.loop-f-test.true c.requires.few n

pub returns : goal.returns
returns c = λ h f l. (c.loop-f.invariant h).noted f l (omega arith)
