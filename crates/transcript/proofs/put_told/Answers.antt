-- `transcript::put_told` meets its contract after an end: the answer, and the ticks behind it. Assumes nothing.
use native.Mathlib.Omega.{arith}
use Rattle.print.proofs.Laws.{joined, wider}
use Rattle.transcript.proofs.put_told.Goals as goal

pub returns-in-Closed : goal.returns-in-Closed
returns-in-Closed c =
    let told = c.in-Closed.is in
    rw told (wider (omega arith) (joined (rw told at c.answer_line-next.ensures) c.put_ticks.ensures))
