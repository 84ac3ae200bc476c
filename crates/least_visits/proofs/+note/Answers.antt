-- `least_visits::note` meets its contract. Assumes nothing.
use native.Mathlib.Omega.{arith}
use borrow.Author.Rules.{rules}
use mathlib.Core.Path.{◌≡◌, refl, ◌∙◌}
use Prim.Native.Nat.{◌<◌}
use Rattle.rows.specs.Leaves.{numbers}
use Rattle.rows.specs.Rows.{kind_at}
use Rattle.least_visits.proofs.Walking.{few_here, call_here, call_few, after_ends, part_ends, linked_after, linked_body, linked_then, linked_else}
use Rattle.least_visits.proofs.Walking.{part_none, Within, within_leaf, within_call, within_loop, within_if, part_here}
use Rattle.least_visits.proofs.+note.Goals as goal
use Rattle.least_visits.proofs.+note.Goals.{in-Some-Call, in-Some-Loop, in-Some-If, in_default, in_default-2}

pub returns-then-from-to : goal.returns-then-from-to
returns-then-from-to t c = part_none c.if-from-to.true

pub note-rest-requires : goal.note-rest-requires
note-rest-requires t c =
    let lt = c.if-from-to.false in
    let he = c.after-after.ensures in
    (omega (arith, after_ends lt c.requires he), linked_after lt c.requires refl he)

pub offset_bounds-notes-target : goal.offset_bounds-notes-target
offset_bounds-notes-target t c =
    let one : kind_at (numbers c.args.code.now.row.now) c.args.from ≡ 1 = search rules in
    omega (arith, (call_here c.if-from-to.false c.requires one).target)

pub bounds-notes-target : goal.bounds-notes-target
bounds-notes-target t c =
    let one : kind_at (numbers c.args.code.now.row.now) c.args.from ≡ 1 = search rules in
    omega (arith, (call_here c.if-from-to.false c.requires one).target)

pub note-requires : goal.note-requires
note-requires t c =
    let lt = c.if-from-to.false in
    let he = c.after-after.ensures in
    let two : kind_at (numbers c.args.code.now.row.now) c.args.from ≡ 2 = search rules in
    (omega (arith, after_ends lt c.requires he), linked_body lt c.requires c.note-rest.ensures.functions he two)

pub note-first-requires : goal.note-first-requires
note-first-requires t c =
    let lt = c.if-from-to.false in
    let he = c.after-after.ensures in
    let hm = c.other-other.ensures in
    let three : kind_at (numbers c.args.code.now.row.now) c.args.from ≡ 3 = search rules in
    (omega (arith, part_ends lt c.requires three hm he, after_ends lt c.requires he), linked_then lt c.requires c.note-rest.ensures.functions he three hm)

pub note-second-requires : goal.note-second-requires
note-second-requires t c =
    let lt = c.if-from-to.false in
    let he = c.after-after.ensures in
    let hm = c.other-other.ensures in
    let three : kind_at (numbers c.args.code.now.row.now) c.args.from ≡ 3 = search rules in (
      omega (arith, part_ends lt c.requires three hm he, after_ends lt c.requires he),
      linked_else lt c.requires (c.note-first.ensures.functions ∙ c.note-rest.ensures.functions) he three hm,
    )

pub overflow_add-inner-2 : goal.overflow_add-inner-2
overflow_add-inner-2 t c =
    let rest = c.note-rest.ensures.few in
    elim c.match-kind_of.branch [
      | in-Some-Call w ↦
          let one : kind_at (numbers c.args.code.now.row.now) c.args.from ≡ 1 = search rules in
          omega (arith, call_few c.if-from-to.false c.requires c.note-rest.ensures.functions one w.target.ensures)
      | in-Some-Loop w ↦ omega arith
      | in-Some-If w ↦ omega (arith, w.note-first.ensures.few)
      | in_default w ↦ omega arith
      | in_default-2 w ↦ omega arith
    ]

pub overflow_add-inner : goal.overflow_add-inner
overflow_add-inner t c = let more = overflow_add-inner-2 t c in omega arith

pub returns : goal.returns
returns t c =
    let lt = c.if-from-to.false in
    let rest = c.note-rest.ensures in
    let within : Within c.args.code.now c.args.notes.now c.match-kind_of.notes c.args.from c.args.to c.match-kind_of.inner c.note-rest.result =
    elim c.match-kind_of.branch [
      | in-Some-Call w ↦
          let one : kind_at (numbers c.args.code.now.row.now) c.args.from ≡ 1 = search rules in
          rw (w.notes-is, w.inner-is) (within_call lt c.requires c.after-after.ensures rest one w.target.ensures refl)
      | in-Some-Loop w ↦
          let two : kind_at (numbers c.args.code.now.row.now) c.args.from ≡ 2 = search rules in
          rw (w.notes-is, w.inner-is) (within_loop lt c.requires c.after-after.ensures rest two w.note.ensures)
      | in-Some-If w ↦
          let three : kind_at (numbers c.args.code.now.row.now) c.args.from ≡ 3 = search rules in
          rw (w.notes-is, w.inner-is, w.min-inner.ensures)
          (within_if lt c.requires c.after-after.ensures rest three w.other-other.ensures w.note-first.ensures w.note-second.ensures)
      | in_default w ↦
          let zero : kind_at (numbers c.args.code.now.row.now) c.args.from ≡ 0 = search rules in
          rw (w.notes-is, w.inner-is) (within_leaf lt c.requires c.after-after.ensures rest zero)
      | in_default-2 w ↦
          let none : 3 < kind_at (numbers c.args.code.now.row.now) c.args.from = search rules in
          absurd (omega (arith, few_here lt c.requires))
    ] in
    part_here lt (omega arith) within c.min-least.ensures
