-- `control::reported_at` meets its contract. Assumes nothing.
use Rattle.control.proofs.Lending.{coded}
use Rattle.control.proofs.Reporting.{point_right, point_wrong, stranger, backward, astray, onwards, arriving}
use Rattle.control.proofs.reported_at.Goals as goal

pub returns-then-not-is_point : goal.returns-then-not-is_point
returns-then-not-is_point c =
    λ q ls k.
    let o = c.is_point in
    stranger q c.args.release.now c.args.point c.args.reading ls (point_wrong (coded q.costed.rowed) c.args.point o.result c.if-not-is_point.true o.ensures)

pub returns-then-reading-release : goal.returns-then-reading-release
returns-then-reading-release c =
    λ q ls k.
    let o = c.is_point in
    backward q c.args.release.now c.args.point c.args.reading ls (point_right (coded q.costed.rowed) c.args.point o.result c.if-not-is_point.false o.ensures)
    c.if-reading-release.true

pub proceed-requires-clause-good_on_code : goal.proceed-requires-clause-good_on_code
proceed-requires-clause-good_on_code c = record { coded = coded c.requires.whole.costed.rowed; stands = c.requires.stands }

pub returns-then-not-proceed : goal.returns-then-not-proceed
returns-then-not-proceed c =
    λ q ls k.
    let o = c.is_point in
    let e = point_right (coded q.costed.rowed) c.args.point o.result c.if-not-is_point.false o.ensures in
    let (i, same) = rw c.if-not-proceed.true at (c.proceed.ensures.next (coded q.costed.rowed) ls k) in
    rw (c.proceed.ensures.rest, same) (astray q c.args.release.now c.args.point c.args.reading ls e c.if-reading-release.false i)

pub arrive-requires : goal.arrive-requires
arrive-requires c =
    let q = c.requires.whole in
    let (ls, k) = c.requires.stands in
    arriving q c.args.release.now c.args.point ls c.proceed.ensures.rest (rw c.if-not-proceed.false at (c.proceed.ensures.next (coded q.costed.rowed) ls k)) k

pub returns : goal.returns
returns c =
    λ q ls k.
    let o = c.is_point in
    let e = point_right (coded q.costed.rowed) c.args.point o.result c.if-not-is_point.false o.ensures in
    let a = arriving q c.args.release.now c.args.point ls c.proceed.ensures.rest (rw c.if-not-proceed.false at (c.proceed.ensures.next (coded q.costed.rowed) ls k)) k in
    onwards q c.args.release.now c.args.point c.args.reading ls e c.if-reading-release.false a.new.levels a.new.found (c.arrive.ensures a)
