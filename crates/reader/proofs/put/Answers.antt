-- `reader::put` meets its contract: the eight numbers of the leaf are stored, and what is derived of it stays. Assumes nothing.
use mathlib.Core.Bool.{Bool, true, false}
use mathlib.Core.Path.{◌≡◌, refl, ap₂, ◌∙◌}
use mir.Val.{bool_byte}
use Rattle.std.proofs.Common.{◌*◌, get_or, arith}
use Rattle.std.proofs.lemmas.List.Edits.{sets}
use Rattle.std.proofs.Math.Seq.{map-set_same}
use Rattle.model.specs.Places.{bit}
use Rattle.rows.specs.declared.Leaf.{Leaf}
use Rattle.rows.specs.Leaves.{fields, numbers, blank_leaf}
use Rattle.rows.proofs.Leaves.{numbers_set}
use Rattle.reader.specs.Private.{record_of}
use Rattle.reader.proofs.put.Goals.{in-Leaf, in-Call, in-Loop, in-If}
use Rattle.reader.proofs.put.Goals as goal

bool_is : (b : Bool) → bool_byte b ≡ bit b
bool_is true = refl
bool_is false = refl

-- The leaf that is stored.
abbrev stored : goal.After-from-2 → Leaf
stored c =
    let a = c.args in
    let t = c.match-form.kind in
    let l = get_or a.row.now a.number blank_leaf in
    record {
      kind = c.from.result;
      point = bit t.1;
      isolated = t.2;
      max_load = t.3;
      detail = t.4;
      other = a.other;
      after = a.after;
      level = a.level;
      turn = l.turn;
      tail = l.tail;
      max_load_turn = l.max_load_turn;
    }

pub returns-clause-writes : goal.returns-clause-writes
returns-clause-writes c =
    let a = c.args in
    let same : fields (stored c) ≡ record_of a.number a.form a.other a.after a.level =
    elim c.match-form.branch [
      | in-Leaf w ↦ rw (w.in-Leaf.is, w.kind-is, (rw w.kind-is at c.from.ensures)) refl
      | in-Call w ↦ rw (w.in-Call.is, w.kind-is, (rw w.kind-is at c.from.ensures)) refl
      | in-Loop w ↦ rw (w.in-Loop.is, w.kind-is, (rw w.kind-is at c.from.ensures)) refl
      | in-If w ↦ rw (w.in-If.is, w.kind-is, (rw w.kind-is at c.from.ensures)) refl
    ] in
    let place : a.number * 8 ≡ 8 * a.number = omega arith in
    rw (c.from-2.ensures, bool_is c.match-form.kind.1) (numbers_set a.row.now a.number (stored c) (omega arith) ∙ ap₂ (sets (numbers a.row.now)) place same)

pub returns-clause-keeps : goal.returns-clause-keeps
returns-clause-keeps c =
    let row = c.args.row.now in
    let i = c.args.number in
    rw (c.from-2.ensures, bool_is c.match-form.kind.1) (λ j. (
      map-set_same (λ (l : Leaf). l.turn) row i (stored c) blank_leaf refl j,
      map-set_same (λ (l : Leaf). l.tail) row i (stored c) blank_leaf refl j,
      map-set_same (λ (l : Leaf). l.max_load_turn) row i (stored c) blank_leaf refl j,
    ))
