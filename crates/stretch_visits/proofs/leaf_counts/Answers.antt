-- `stretch_visits::leaf_counts` meets its contract. Assumes nothing.
use native.Mathlib.Omega.{arith}
use lib.ListN.{get_or}
use Rattle.place.proofs.Lent.{leaf_held}
use Rattle.place.proofs.Finding.{leaf_room}
use Rattle.place.proofs.Stacking.{placed}
use Rattle.stretch_visits.proofs.Counting.{blank_call, here_low, room_first, calls_held, counts_of}
use Rattle.stretch_visits.proofs.leaf_counts.Goals as goal

pub visit-requires-clause-inside : goal.visit-requires-clause-inside
visit-requires-clause-inside c =
    let q = c.requires.priced in
    (leaf_held c.args.priced.now.code.row.now (leaf_room (placed q.least q.decoded) q.least), here_low c.requires)

pub visit-requires-clause-room : goal.visit-requires-clause-room
visit-requires-clause-room c = λ h. omega (arith, blank_call 512 (get_or c.args.place.now.leaves c.args.place.now.level 0))

pub onward-requires : goal.onward-requires
onward-requires c = room_first c.requires c.visit.ensures.grown c.visit.ensures.calls

pub run_calls-requires : goal.run_calls-requires
run_calls-requires c = let q = c.requires in calls_held q c.visit.ensures.grown c.visit.ensures.calls (c.onward.ensures q.priced)

pub returns : goal.returns
returns c =
    λ q. counts_of q c.visit.ensures.grown c.visit.ensures.calls (c.onward.ensures q.priced) c.run_calls.new.notes.leaves
    (c.run_calls.ensures (calls_held q c.visit.ensures.grown c.visit.ensures.calls (c.onward.ensures q.priced)))
