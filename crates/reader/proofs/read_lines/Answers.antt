-- `reader::read_lines` meets its contract: oversize, or what the lines say. Assumes nothing.
use mathlib.Core.Path.{refl}
use native.Mathlib.Omega.{arith}
use lib.ListN.{length, take}
use lib.Seq.{length-take-le}
use Rattle.rows.specs.Leaves.{numbers}
use Rattle.reader.proofs.Tasks.{raw_oversize, raw_lines}
use Rattle.reader.proofs.Parts.{derived_behind, read_behind}
use Rattle.reader.proofs.read_lines.Goals as goal

pub returns-then-text-gt-MAX_TEXT : goal.returns-then-text-gt-MAX_TEXT
returns-then-text-gt-MAX_TEXT c =
    let ls = c.args.row.now in
    let both = raw_oversize (length ls) c.args.text.now (numbers ls) (numbers ls) c.if-text-gt-MAX_TEXT.true in
    record { answers = both.0; writes = both.1; keeps = refl }

pub returns : goal.returns
returns c =
    let ls = c.args.row.now in
    let n = c.min-n.result in
    let ms = c.whole_task.new.row in
    let wide = length-take-le n ls (omega (arith, c.min-n.ensures)) in
    let both = raw_lines (length (take n ls)) c.args.text.now (numbers (take n ls)) (numbers ms) c.if-text-gt-MAX_TEXT.false (omega (arith, wide, c.min-n.ensures)) c.whole_task.ensures.reads in
    let said = read_behind c.args.text.now (length ls) n ls ms c.min-n.ensures (omega (arith, c.min-n.ensures)) both.0 both.1 in
    record { answers = said.0; writes = said.1; keeps = derived_behind n ls ms c.whole_task.ensures.keeps }
