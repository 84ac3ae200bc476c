-- `print::put_field` meets its contract: a space, and a number of at most 20 digits behind it. Assumes nothing.
use native.Mathlib.Omega.{arith}
use Rattle.print.specs.Lines.{number_field}
use Rattle.print.proofs.Laws.{behind, digits_most}
use Rattle.print.proofs.put_field.Goals as goal

pub returns : goal.returns
unfolding number_field
returns c =
    record {
      printed = behind c.put_byte-first.ensures c.put_number.ensures;
      short = omega (arith, digits_most c.args.n c.ranges.n.fits);
    }
