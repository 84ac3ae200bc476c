-- `print::put_fields` meets its contract. Assumes nothing.
use Rattle.std.proofs.Common.{arith}
use Rattle.print.specs.Lines.{number_field, number_fields}
use Rattle.print.proofs.Laws.{none_written, one_written}
use Rattle.print.proofs.put_fields.Goals as goal

pub loop-n-init : goal.loop-n-init
unfolding number_fields
loop-n-init c = none_written number_field c.args.numbers.now 21 c.args.out.now c.args.at

pub loop-n-preserved : goal.loop-n-preserved
unfolding number_fields
loop-n-preserved c = one_written number_field 0 c.args.numbers.now 21 c.loop-n.n-index (omega arith) c.loop-n.invariant c.put_field-end.ensures
