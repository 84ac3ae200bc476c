-- `table::read` meets its contract. Assumes nothing.
use Rattle.std.specs.Prelude.{Err}
use mathlib.Core.Path.{◌≡◌, sym, ap, ◌∙◌}
use lib.ListN.{length}
use native.Mathlib.Omega.{arith}
use Rattle.reader.specs.Machine.{outcome}
use lib.Seq.{length-take-le}
use Rattle.std.proofs.lemmas.Result.{err_from_is_err_and}
use Rattle.table.specs.Table.{table_of, zero_head}
use Rattle.table.specs.Reading.{verdict, result_of}
use Rattle.table.proofs.Lent.{length_leaves}
use Rattle.table.proofs.Writing as writing
use Rattle.table.proofs.read.Goals as goal

pub judge-requires : goal.judge-requires
judge-requires c =
    let k = writing.lines_came (length c.args.row.now) c.args.text.now c.default-own.result c.min-room.result c.read_lines-lines.new.row c.min-room.ensures c.read_lines-lines.ensures.answers c.read_lines-lines.ensures.writes in
    (outcome (length c.args.row.now) c.args.text.now, k)

pub returns-in_err-head : goal.returns-in_err-head
returns-in_err-head c =
    let k = writing.lines_came (length c.args.row.now) c.args.text.now c.default-own.result c.min-room.result c.read_lines-lines.new.row c.min-room.ensures c.read_lines-lines.ensures.answers c.read_lines-lines.ensures.writes in
    let said : Err c.in_err-head.field-0.0 ≡ result_of (verdict (length c.args.row.now) c.args.text.now) = c.in_err-head.ensures.value (outcome (length c.args.row.now) c.args.text.now) k in
    let e = err_from_is_err_and c.from_residual.result c.from_residual.ensures.1 in
    record { answers = rw (e.1, e.2) said; row = sym (writing.kept (verdict (length c.args.row.now) c.args.text.now) said c.args.row.now zero_head).0 }

pub slice_bounds-own-end-2 : goal.slice_bounds-own-end-2
slice_bounds-own-end-2 c =
    let k = writing.lines_came (length c.args.row.now) c.args.text.now c.default-own.result c.min-room.result c.read_lines-lines.new.row c.min-room.ensures c.read_lines-lines.ensures.answers c.read_lines-lines.ensures.writes in
    let a = writing.accepted (length c.args.row.now) c.args.text.now _ k (c.in_ok-head.ensures.value (outcome (length c.args.row.now) c.args.text.now) k) in
    a.room

pub slice_bounds-leaves-end : goal.slice_bounds-leaves-end
slice_bounds-leaves-end c =
    let k = writing.lines_came (length c.args.row.now) c.args.text.now c.default-own.result c.min-room.result c.read_lines-lines.new.row c.min-room.ensures c.read_lines-lines.ensures.answers c.read_lines-lines.ensures.writes in
    let a = writing.accepted (length c.args.row.now) c.args.text.now _ k (c.in_ok-head.ensures.value (outcome (length c.args.row.now) c.args.text.now) k) in
    sym (length-take-le c.in_ok-head.head.leaves _ a.room)

pub fill-requires : goal.fill-requires
fill-requires c =
    let k = writing.lines_came (length c.args.row.now) c.args.text.now c.default-own.result c.min-room.result c.read_lines-lines.new.row c.min-room.ensures c.read_lines-lines.ensures.answers c.read_lines-lines.ensures.writes in
    let a = writing.accepted (length c.args.row.now) c.args.text.now _ k (c.in_ok-head.ensures.value (outcome (length c.args.row.now) c.args.text.now) k) in
    omega (arith, a.few, length-take-le c.in_ok-head.head.leaves _ a.room)

pub slice_bounds-copy_from_slice-end : goal.slice_bounds-copy_from_slice-end
slice_bounds-copy_from_slice-end c =
    let k = writing.lines_came (length c.args.row.now) c.args.text.now c.default-own.result c.min-room.result c.read_lines-lines.new.row c.min-room.ensures c.read_lines-lines.ensures.answers c.read_lines-lines.ensures.writes in
    let a = writing.accepted (length c.args.row.now) c.args.text.now _ k (c.in_ok-head.ensures.value (outcome (length c.args.row.now) c.args.text.now) k) in
    a.lent

pub slice_bounds-copy_from_slice-end-2 : goal.slice_bounds-copy_from_slice-end-2
slice_bounds-copy_from_slice-end-2 c =
    let k = writing.lines_came (length c.args.row.now) c.args.text.now c.default-own.result c.min-room.result c.read_lines-lines.new.row c.min-room.ensures c.read_lines-lines.ensures.answers c.read_lines-lines.ensures.writes in
    let a = writing.accepted (length c.args.row.now) c.args.text.now _ k (c.in_ok-head.ensures.value (outcome (length c.args.row.now) c.args.text.now) k) in
    sym (length-take-le c.in_ok-head.head.leaves c.args.row.now a.lent)

pub copy_from_slice-requires : goal.copy_from_slice-requires
copy_from_slice-requires c =
    let k = writing.lines_came (length c.args.row.now) c.args.text.now c.default-own.result c.min-room.result c.read_lines-lines.new.row c.min-room.ensures c.read_lines-lines.ensures.answers c.read_lines-lines.ensures.writes in
    let a = writing.accepted (length c.args.row.now) c.args.text.now _ k (c.in_ok-head.ensures.value (outcome (length c.args.row.now) c.args.text.now) k) in
    let filled = c.in_ok-head.ensures.columns_written (outcome (length c.args.row.now) c.args.text.now) k in
    length-take-le c.in_ok-head.head.leaves c.args.row.now a.lent ∙
    sym (ap length (c.fill.ensures ∙ writing.leaves_read _ a filled) ∙ length_leaves (table_of a.of) 0 c.in_ok-head.head.leaves)

pub returns : goal.returns
returns c =
    let k = writing.lines_came (length c.args.row.now) c.args.text.now c.default-own.result c.min-room.result c.read_lines-lines.new.row c.min-room.ensures c.read_lines-lines.ensures.answers c.read_lines-lines.ensures.writes in
    let a = writing.accepted (length c.args.row.now) c.args.text.now _ k (c.in_ok-head.ensures.value (outcome (length c.args.row.now) c.args.text.now) k) in
    let filled = c.in_ok-head.ensures.columns_written (outcome (length c.args.row.now) c.args.text.now) k in
    record {
      answers = c.in_ok-head.ensures.value (outcome (length c.args.row.now) c.args.text.now) k;
      row = writing.row_read _ a filled c.args.row.now c.copy_from_slice.new.self (c.copy_from_slice.ensures.after ∙ (c.fill.ensures ∙ writing.leaves_read _ a filled));
    }
