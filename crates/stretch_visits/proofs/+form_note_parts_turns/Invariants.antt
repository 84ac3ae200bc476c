-- `stretch_visits::form`, `note`, `parts` and `turns`, which call each other, meet their contracts. Assumes nothing.
use Prim.Native.Nat.{◌+◌, ◌-◌, ◌*◌, ◌≤◌}
use lib.ListN.{length}
use Rattle.rows.specs.Costs.{cost_in}
use Rattle.model.specs.Total.{total}
use Rattle.outlook.specs.Quiets.{PricedForms, priced_forms}
use Rattle.stretch_visits.specs.Private.{Room}
use Rattle.stretch_visits.specs.Worth.{worth}
use Rattle.stretch_visits.proofs.Walking.{Noting}
use Rattle.stretch_visits.proofs.+form_note_parts_turns.Given as goal

abbrev pub decreases-form : goal.decreases-form
decreases-form l = 3 * (l.to - l.i) + 1

abbrev pub decreases-note : goal.decreases-note
decreases-note l = 3 * (l.to - l.from) + 2

abbrev pub decreases-parts : goal.decreases-parts
decreases-parts l = 3 * (l.to - l.i)

abbrev pub decreases-turns : goal.decreases-turns
decreases-turns l = 3 * (l.to - l.i)

abbrev pub invariant-note-loop-i : goal.invariant-note-loop-i
invariant-note-loop-i l =
    (l.from ≤ l.i) × Room l.priced l.i l.to l.e l.times l.notes ×
    ((h : PricedForms l.priced l.from l.to) →
    Noting l.priced l.i l.to l.e l.times h.functions (λ m x. worth (cost_in l.priced.cost) m (priced_forms h) l.e x)
    (total (cost_in l.priced.cost) (priced_forms h)) (length h.piece.heights) l.initial.notes l.notes)

abbrev pub decreases-note-loop-i : goal.decreases-note-loop-i
decreases-note-loop-i l = l.to - l.i
