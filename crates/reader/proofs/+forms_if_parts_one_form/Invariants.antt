-- `reader::forms` and `reader::if_parts` and `reader::one_form` end, since the open brackets rise to 64; the loop holds what was read so far. Assumes nothing.
use Rattle.reader.proofs.Bodies.{Going}
use Rattle.reader.specs.Private.{heights_before}
use Rattle.reader.specs.Raw.{derived}
use Rattle.rows.specs.Leaves.{numbers}
use mathlib.Core.Path.{◌≡◌}
use lib.ListN.{length}
use Prim.Native.Nat.{◌+◌, ◌-◌, ◌*◌}
use Rattle.reader.proofs.+forms_if_parts_one_form.Given as goal

abbrev pub decreases-forms : goal.decreases-forms
decreases-forms l = 3 * (64 - l.nesting.brackets) + 2

abbrev pub decreases-if_parts : goal.decreases-if_parts
decreases-if_parts l = 3 * (64 - l.nesting.brackets)

abbrev pub decreases-one_form : goal.decreases-one_form
decreases-one_form l = 3 * (64 - l.nesting.brackets) + 1

abbrev pub invariant-forms-loop-form : goal.invariant-forms-loop-form
invariant-forms-loop-form l = record {
  going : Going l.text (length l.initial.row) (heights_before l.before) l.nesting.brackets l.nesting.level l.fn.from.at l.fn.from.line l.fn.from.leaves (numbers l.initial.row) l.spot.at l.spot.line l.spot.leaves l.height (numbers l.row);
  kept : derived l.row ≡ derived l.initial.row;
}

abbrev pub decreases-forms-loop-form : goal.decreases-forms-loop-form
decreases-forms-loop-form l = length l.text - l.spot.at
