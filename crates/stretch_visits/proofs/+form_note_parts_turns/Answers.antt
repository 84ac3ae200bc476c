-- `stretch_visits::form`, `note`, `parts` and `turns`, which call each other, meet their contracts. Assumes nothing.
use native.Mathlib.Omega.{arith}
use borrow.Author.Rules.{rules}
use mathlib.Core.Path.{◌≡◌, ap}
use Prim.Native.Nat.{◌*◌}
use Rattle.rows.specs.Leaves.{numbers}
use Rattle.rows.specs.Rows.{kind_at}
use Rattle.rows.proofs.Shape.{ends}
use Rattle.outlook.proofs.Quieting.{low_of}
use Rattle.outlook.proofs.Walking.{priced_then, priced_else, priced_after}
use Rattle.stretch_visits.proofs.Scanned.{rest_low, rest_is, rest_small}
use Rattle.stretch_visits.proofs.Walking.{call_here, first_point, first_flat, first_call, first_loop, first_if, rounds_none, rounds_all, parts_then, parts_else}
use Rattle.stretch_visits.proofs.Walking.{priced_body, room_visit, room_enter, room_inner, room_next, room_turns, rounds_room, rounds_visit, room_body}
use Rattle.stretch_visits.proofs.Walking.{rest_roof, room_then, room_else}
use Rattle.stretch_visits.proofs.Walking.{noting_start, noting_out, noting_next, noting_end}
use Rattle.stretch_visits.proofs.+form_note_parts_turns.Goals as goal

pub form-returns-then-point-eq1 : goal.form-returns-then-point-eq1
form-returns-then-point-eq1 t c = λ h. first_point c.requires.i_lt_to h _ c.point.ensures c.if-point-eq1.true

pub form-visit-requires-clause-room : goal.form-visit-requires-clause-room
form-visit-requires-clause-room t c = room_visit c.requires.i_lt_to c.requires.held

pub form-enter-requires-clause-inside : goal.form-enter-requires-clause-inside
form-enter-requires-clause-inside t c =
    let one : kind_at (numbers c.args.priced.now.code.row.now) c.args.i ≡ 1 = search rules in
    (omega (arith, c.requires.held.held.room), omega (arith, (call_here c.requires.i_lt_to c.requires.held.held one).target))

pub form-enter-requires-clause-room : goal.form-enter-requires-clause-room
form-enter-requires-clause-room t c =
    let one : kind_at (numbers c.args.priced.now.code.row.now) c.args.i ≡ 1 = search rules in
    room_enter c.requires.i_lt_to c.requires.held _ c.visit.ensures.calls one

pub form-turns-requires : goal.form-turns-requires
form-turns-requires t c =
    let two : kind_at (numbers c.args.priced.now.code.row.now) c.args.i ≡ 2 = search rules in
    (omega arith, (c.requires.i_lt_to, (two, room_turns c.requires.i_lt_to (room_inner c.requires.i_lt_to c.requires.held c.visit.ensures.grown c.visit.ensures.calls))))

pub form-parts-requires : goal.form-parts-requires
form-parts-requires t c =
    let three : kind_at (numbers c.args.priced.now.code.row.now) c.args.i ≡ 3 = search rules in
    (omega arith, (c.requires.i_lt_to, (three, room_inner c.requires.i_lt_to c.requires.held c.visit.ensures.grown c.visit.ensures.calls)))

pub form-returns-in-Some-If : goal.form-returns-in-Some-If
form-returns-in-Some-If t c =
    let three : kind_at (numbers c.args.priced.now.code.row.now) c.args.i ≡ 3 = search rules in
    λ h. first_if c.requires.i_lt_to h c.visit.ensures.grown c.visit.ensures.calls c.point.ensures c.if-point-eq1.false _ three (c.parts.ensures h)

pub form-returns-in-Some-Call : goal.form-returns-in-Some-Call
form-returns-in-Some-Call t c =
    let one : kind_at (numbers c.args.priced.now.code.row.now) c.args.i ≡ 1 = search rules in
    λ h. first_call c.requires.i_lt_to h c.visit.ensures.grown c.visit.ensures.calls c.point.ensures c.if-point-eq1.false _ one c.enter.ensures.grown c.enter.ensures.leaves

pub form-returns-in-Some-Loop : goal.form-returns-in-Some-Loop
form-returns-in-Some-Loop t c =
    let two : kind_at (numbers c.args.priced.now.code.row.now) c.args.i ≡ 2 = search rules in
    λ h. first_loop c.requires.i_lt_to h c.visit.ensures.grown c.visit.ensures.calls c.point.ensures c.if-point-eq1.false _ two (c.turns.ensures h)

pub form-returns-else-point-eq1 : goal.form-returns-else-point-eq1
form-returns-else-point-eq1 t c =
    let one : kind_at (numbers c.args.priced.now.code.row.now) c.args.i ≡ 1 → ⊥ = search rules in
    let two : kind_at (numbers c.args.priced.now.code.row.now) c.args.i ≡ 2 → ⊥ = search rules in
    let three : kind_at (numbers c.args.priced.now.code.row.now) c.args.i ≡ 3 → ⊥ = search rules in
    λ h. first_flat c.requires.i_lt_to h c.visit.ensures.grown c.visit.ensures.calls c.point.ensures c.if-point-eq1.false _ one two three

pub form-returns-else-point-eq1-2 : goal.form-returns-else-point-eq1-2
form-returns-else-point-eq1-2 t c =
    let one : kind_at (numbers c.args.priced.now.code.row.now) c.args.i ≡ 1 → ⊥ = search rules in
    let two : kind_at (numbers c.args.priced.now.code.row.now) c.args.i ≡ 2 → ⊥ = search rules in
    let three : kind_at (numbers c.args.priced.now.code.row.now) c.args.i ≡ 3 → ⊥ = search rules in
    λ h. first_flat c.requires.i_lt_to h c.visit.ensures.grown c.visit.ensures.calls c.point.ensures c.if-point-eq1.false _ one two three

pub note-loop-i-init : goal.note-loop-i-init
note-loop-i-init t c = (omega arith, c.requires.held, λ h. noting_start _ h)

pub note-returns-then-not-form : goal.note-returns-then-not-form
note-returns-then-not-form t c = λ h. noting_out (c.loop-i.invariant.2 h) c.loop-i-test.true (λ x. rw c.if-not-form.true at (c.form.ensures x))

pub note-loop-i-smaller : goal.note-loop-i-smaller
note-loop-i-smaller t c = omega (arith, ends c.loop-i-test.true c.loop-i.invariant.1.held.piece.part, c.after-i.ensures)

pub note-loop-i-preserved : goal.note-loop-i-preserved
note-loop-i-preserved t c =
    let e = ends c.loop-i-test.true c.loop-i.invariant.1.held.piece.part in (
      omega (arith, c.loop-i.invariant.0, e, c.after-i.ensures),
      room_next c.loop-i-test.true c.loop-i.invariant.1 c.after-i.ensures c.form.ensures,
      λ h. noting_next (c.loop-i.invariant.2 h) c.loop-i-test.true c.after-i.ensures (λ x. rw c.if-not-form.false at (c.form.ensures x)),
    )

pub note-returns : goal.note-returns
note-returns t c = λ h. noting_end (c.loop-i.invariant.2 h) c.loop-i-test.false

pub parts-scan-requires : goal.parts-scan-requires
parts-scan-requires t c = priced_after c.requires.i_lt_to c.requires.held.held c.after-after.ensures

pub parts-sum-rest-requires : goal.parts-sum-rest-requires
parts-sum-rest-requires t c =
    (rest_low c.requires.i_lt_to c.after-after.ensures c.scan.ensures c.requires.held.held, omega (arith, c.requires.held.sums))

pub parts-scan-requires-2 : goal.parts-scan-requires-2
parts-scan-requires-2 t c = (priced_then c.requires.i_lt_to c.requires.held.held c.requires.an_if c.other-other.ensures).0

pub parts-sum-first-requires : goal.parts-sum-first-requires
parts-sum-first-requires t c =
    let q = (priced_then c.requires.i_lt_to c.requires.held.held c.requires.an_if c.other-other.ensures).0 in
    let less = rest_small c.requires.i_lt_to c.after-after.ensures c.scan.ensures c.requires.held.held _ c.sum-rest.ensures in
    (low_of (c.scan-2.ensures q) (omega (arith, q.small)), omega (arith, rest_roof c.requires.i_lt_to c.requires.held less))

pub parts-scan-requires-3 : goal.parts-scan-requires-3
parts-scan-requires-3 t c = (priced_else c.requires.i_lt_to c.requires.held.held c.requires.an_if c.other-other.ensures c.after-after.ensures).0

pub parts-sum-second-requires : goal.parts-sum-second-requires
parts-sum-second-requires t c =
    let q = (priced_else c.requires.i_lt_to c.requires.held.held c.requires.an_if c.other-other.ensures c.after-after.ensures).0 in
    let less = rest_small c.requires.i_lt_to c.after-after.ensures c.scan.ensures c.requires.held.held _ c.sum-rest.ensures in
    (low_of (c.scan-3.ensures q) (omega (arith, q.small)), omega (arith, rest_roof c.requires.i_lt_to c.requires.held less))

pub parts-note-requires : goal.parts-note-requires
parts-note-requires t c =
    let h = priced_else c.requires.i_lt_to c.requires.held.held c.requires.an_if c.other-other.ensures c.after-after.ensures in
    let less = rest_small c.requires.i_lt_to c.after-after.ensures c.scan.ensures c.requires.held.held _ c.sum-rest.ensures in
    (omega (arith, h.1, h.2), room_else c.requires.i_lt_to c.requires.held c.requires.an_if c.other-other.ensures less c.after-after.ensures)

pub parts-note-requires-else-first-second : goal.parts-note-requires-else-first-second
parts-note-requires-else-first-second t c =
    let h = priced_then c.requires.i_lt_to c.requires.held.held c.requires.an_if c.other-other.ensures in
    let less = rest_small c.requires.i_lt_to c.after-after.ensures c.scan.ensures c.requires.held.held _ c.sum-rest.ensures in
    (omega (arith, h.1, h.2), room_then c.requires.i_lt_to c.requires.held c.requires.an_if c.other-other.ensures less)

pub parts-returns-then-first-second : goal.parts-returns-then-first-second
parts-returns-then-first-second t c =
    λ h.
    let n = parts_else c.requires.i_lt_to h _ c.requires.an_if c.other-other.ensures c.after-after.ensures c.scan-2.ensures c.scan-3.ensures
    c.sum-first.ensures c.sum-second.ensures c.if-first-second.true c.note.ensures in
    rw (rest_is c.requires.i_lt_to c.after-after.ensures c.scan.ensures h _ c.sum-rest.ensures) at n

pub parts-returns-else-first-second : goal.parts-returns-else-first-second
parts-returns-else-first-second t c =
    λ h.
    let n = parts_then c.requires.i_lt_to h _ c.requires.an_if c.other-other.ensures c.after-after.ensures c.scan-2.ensures c.scan-3.ensures
    c.sum-first.ensures c.sum-second.ensures c.if-first-second.false c.note-else-first-second.ensures in
    rw (rest_is c.requires.i_lt_to c.after-after.ensures c.scan.ensures h _ c.sum-rest.ensures) at n

pub turns-overflow_mul-rounds : goal.turns-overflow_mul-rounds
turns-overflow_mul-rounds t c = omega (arith, rounds_room c.requires.i_lt_to c.requires.held c.requires.a_loop c.turn.ensures c.if-turn-gt0.true, (ap (λ a. c.args.times * a) c.detail.ensures))

pub turns-visit-requires-clause-room : goal.turns-visit-requires-clause-room
turns-visit-requires-clause-room t c = rounds_visit c.requires.i_lt_to c.requires.held c.requires.a_loop (ap (λ a. c.args.times * a) c.detail.ensures)

pub turns-note-requires : goal.turns-note-requires
turns-note-requires t c =
    let h = priced_body c.requires.i_lt_to c.requires.held.held c.requires.a_loop c.after.ensures in
    (omega (arith, h.1, h.2), room_body c.requires.i_lt_to c.requires.held c.requires.a_loop (ap (λ a. c.args.times * a) c.detail.ensures) c.after.ensures c.visit.ensures.grown c.visit.ensures.calls)

pub turns-returns-then-turn-gt0 : goal.turns-returns-then-turn-gt0
turns-returns-then-turn-gt0 t c =
    λ h.
    rounds_all c.requires.i_lt_to h c.requires.a_loop c.after.ensures (ap (λ a. c.args.times * a) c.detail.ensures) c.visit.ensures.grown c.visit.ensures.calls c.note.ensures

pub turns-returns-else-turn-gt0 : goal.turns-returns-else-turn-gt0
turns-returns-else-turn-gt0 t c = λ h. rounds_none c.requires.i_lt_to h c.requires.a_loop c.turn.ensures c.if-turn-gt0.false
