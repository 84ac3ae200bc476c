-- `stretch_visits::run_calls` meets its contract. Assumes nothing.
use native.Mathlib.Omega.{arith}
use Rattle.stretch_visits.proofs.Running.{run_start, run_end, run_skip, run_there, run_room, run_next}
use Rattle.stretch_visits.proofs.run_calls.Goals as goal

pub loop-f-init : goal.loop-f-init
loop-f-init c = λ h. run_start h (omega arith)

pub function-lines-requires : goal.function-lines-requires
function-lines-requires c = omega (arith, run_there (c.loop-f.invariant c.requires) c.loop-f-test.true c.if-times-gt0.true, c.requires.table.fits)

pub note-requires : goal.note-requires
note-requires c =
    record { held = run_room (c.loop-f.invariant c.requires) c.loop-f-test.true c.if-times-gt0.true c.function-lines.ensures.0 c.function-lines.ensures.1 }

pub loop-f-preserved-then-times-gt0 : goal.loop-f-preserved-then-times-gt0
loop-f-preserved-then-times-gt0 c = λ h.
    run_next (c.loop-f.invariant h) c.loop-f-test.true c.if-times-gt0.true c.function-lines.ensures.0 c.function-lines.ensures.1 c.note.ensures

pub loop-f-preserved : goal.loop-f-preserved
loop-f-preserved c = λ h. run_skip (c.loop-f.invariant h) c.loop-f-test.true c.if-times-gt0.false

pub returns : goal.returns
returns c = λ h. run_end (c.loop-f.invariant h) c.loop-f-test.false
