-- `columns::list` meets its contract. Assumes nothing.
use Rattle.columns.proofs.Listing.{list_start, list_next, later_part}
use Rattle.rows.proofs.Shape.{rep_le, flat_end}
use Rattle.rows.specs.Leaves.{numbers}
use native.Mathlib.Omega.{arith}
use Rattle.columns.proofs.list.Goals as goal

pub loop-i-init : goal.loop-i-init
loop-i-init c =
    let z = c.requires in
    list_start c.args.seq.now (rep_le (numbers c.args.row.now) z.level c.args.from c.args.to z.part.lines z.part.rep)

pub next-i-requires : goal.next-i-requires
next-i-requires c =
    let q = c.loop-i.invariant in
    (omega (arith, c.requires.held), λ k. flat_end c.loop-i-test.true (later_part _ q.inside q.at c.requires.part) k)

pub loop-i-smaller : goal.loop-i-smaller
loop-i-smaller c = omega (arith, (list_next c.loop-i-test.true c.requires.few c.told-seq c.next-i.ensures c.requires.part c.loop-i.invariant).0)

pub loop-i-preserved : goal.loop-i-preserved
loop-i-preserved c = (list_next c.loop-i-test.true c.requires.few c.told-seq c.next-i.ensures c.requires.part c.loop-i.invariant).1
