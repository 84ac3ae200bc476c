-- `enumeration::put_run` meets its contract. Assumes nothing.
use borrow.Author.Rules.{rules}
use Rattle.enumeration.proofs.Lining.{lined}
use Rattle.enumeration.proofs.put_run.Goals as goal

pub returns : goal.returns
returns c = lined c.args.trail.now c.requires.few (search rules) c.fields-fields.ensures c.plain_line.ensures
