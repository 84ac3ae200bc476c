-- `stretch_visits::beneath` meets its contract. Assumes nothing.
use Prim.Native.Nat.{◌-◌}
use lib.ListN.{get_or}
use mathlib.Core.Path.{◌≡◌}
use native.Mathlib.Omega.{arith}
use borrow.Author.Rules.{rules}
use Rattle.rows.specs.Leaves.{numbers}
use Rattle.rows.specs.Rows.{kind_at}
use Rattle.place.proofs.Lent.{leaf_held}
use Rattle.place.proofs.Falling.{head_of}
use Rattle.outlook.proofs.Quieting.{low_of}
use Rattle.outlook.proofs.Levels.{priced_lower}
use Rattle.stretch_visits.proofs.Scanned.{quiet_small}
use Rattle.stretch_visits.proofs.Descending.{beneath_out, beneath_loop, beneath_call}
use Rattle.stretch_visits.proofs.beneath.Goals as goal

pub returns-then-l-eq1-clause-sum : goal.returns-then-l-eq1-clause-sum
returns-then-l-eq1-clause-sum c = λ q. beneath_out q c.if-l-eq1.true

pub kind_of-requires : goal.kind_of-requires
kind_of-requires c =
    leaf_held c.args.priced.now.code.row.now (head_of c.requires.running (omega (arith, c.requires.least, c.if-l-eq1.false))).room

pub returns-then-eq-clause-sum : goal.returns-then-eq-clause-sum
returns-then-eq-clause-sum c =
    let k : kind_at (numbers c.args.priced.now.code.row.now) (get_or c.args.leaves.now (c.args.l - 1) 0) ≡ 2 = search rules in
    λ q. beneath_loop q (omega (arith, q.least, c.if-l-eq1.false)) k

pub downward-requires : goal.downward-requires
downward-requires c = priced_lower c.requires (omega (arith, c.requires.least, c.if-l-eq1.false))

pub sum-requires : goal.sum-requires
sum-requires c =
    let q = c.requires in
    (low_of (c.downward.ensures (priced_lower q (omega (arith, q.least, c.if-l-eq1.false)))) (omega (arith, q.most)), omega arith)

pub returns-clause-small : goal.returns-clause-small
returns-clause-small c =
    let q = c.requires in
    omega (arith, c.sum.ensures, quiet_small (c.downward.ensures (priced_lower q (omega (arith, q.least, c.if-l-eq1.false)))) 0)

pub returns-clause-sum : goal.returns-clause-sum
returns-clause-sum c =
    let k : kind_at (numbers c.args.priced.now.code.row.now) (get_or c.args.leaves.now (c.args.l - 1) 0) ≡ 2 → ⊥ = search rules in
    λ q. beneath_call q (omega (arith, q.least, c.if-l-eq1.false)) k c.downward.ensures c.sum.ensures
