-- `pages::put_line` meets its contract: each width goes with its number. Assumes nothing.
use Rattle.std.proofs.Common.{arith, rules}
use Rattle.std.proofs.lemmas.List.{length_push}
use Rattle.std.proofs.lemmas.Slice.Zip.{zip_turn, zip_end}
use Rattle.pages.proofs.Lines.{begun_more, line_ended}
use Rattle.pages.proofs.put_line.Goals as goal

pub loop-width-preserved : goal.loop-width-preserved
loop-width-preserved c =
    let turn = zip_turn c.args.widths.now c.args.numbers.now c.loop-width.yielded c.into_iter-width-iterator.result c.loop-width.width-iterator c.next.new.self
    c.next.result (search rules) (search rules) c.loop-width.yielded_by (c.in-Some.width, c.in-Some.n) c.in-Some.is c.next.ensures.steps in
    rw (length_push c.loop-width.yielded (c.in-Some.width, c.in-Some.n), c.saturating_sub-left.ensures, turn.2 0)
    (begun_more turn.0 turn.1 c.loop-width.invariant (rw (turn.2 0, turn.3 0) at c.put_aligned-end.ensures))

pub returns : goal.returns
returns c =
    let all = zip_end c.args.widths.now c.args.numbers.now c.loop-width.yielded c.into_iter-width-iterator.result c.loop-width.width-iterator c.next.new.self
    c.next.result (search rules) (search rules) c.loop-width.yielded_by c.in-None.is c.next.ensures.steps in
    line_ended (omega (arith, all)) c.loop-width.invariant c.put_blanks-last.ensures c.put_bytes.ensures
