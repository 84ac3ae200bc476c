use Rattle.rows.specs.Leaves.{numbers}
use Rattle.place.proofs.Lent.{standing}
use Rattle.place.proofs.Stacking.{next_some}
use mathlib.Core.Path.{refl}
use Rattle.place.proofs.advance.Goals as goal

pub find-requires : goal.find-requires
find-requires c = standing c.requires.decoded

pub returns-in_default : goal.returns-in_default
returns-in_default c = λ q. (c.in_default.ensures (standing q), refl)

pub put-requires : goal.put-requires
put-requires c = (c.in-Some.ensures (standing c.requires.decoded)).1.0

pub put-requires-2 : goal.put-requires-2
put-requires-2 c = (c.in-Some.ensures (standing c.requires.decoded)).1.0

pub returns : goal.returns
returns c = λ q. next_some (numbers c.args.code.now.row.now) c.args.place.now.level (c.in-Some.ensures (standing q)) q.decoded.marked c.requires.x_value c.put.ensures c.put-2.ensures
