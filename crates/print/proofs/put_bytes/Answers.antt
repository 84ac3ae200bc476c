-- `print::put_bytes` meets its contract: a short text byte by byte, of a longer one as many bytes as there is room for. Assumes nothing.
use Rattle.std.proofs.Common.{arith}
use Rattle.print.proofs.Laws.{nothing_written, byte_more, copied}
use Rattle.print.proofs.put_bytes.Goals as goal

pub loop-b-init : goal.loop-b-init
loop-b-init c = nothing_written c.args.out.now c.args.at

pub loop-b-preserved : goal.loop-b-preserved
loop-b-preserved c = byte_more c.args.text.now c.loop-b.b-index (omega arith) c.loop-b.invariant c.put_byte-end.ensures

pub returns : goal.returns
returns c = copied _ _ _ _ _ _ c.min-start.ensures c.min-count.ensures c.copy_from_slice.ensures.after
