-- `control::arrive` meets its contract. Assumes nothing.
use Rattle.control.proofs.Lending.{report_asked, report_ahead}
use Rattle.control.proofs.Reporting.{new_points, clocked_here, new_times, arrived_here}
use lib.ListN.{length}
use mathlib.Core.Path.{◌≡◌}
use borrow.Author.Rules.{rules}
use Rattle.control.proofs.arrive.Goals as goal

pub keep_time-requires : goal.keep_time-requires
keep_time-requires c = clocked_here c.requires

pub at_report-ahead-requires : goal.at_report-ahead-requires
at_report-ahead-requires c =
    let k = c.requires in
    report_asked k.whole c.at_max_load.ensures c.args.release.now.place k.new.levels k.new.least k.new.most k.new.decodes (new_points k)

pub returns : goal.returns
returns c =
    let times_33 : length c.keep_time.new.times ≡ 33 = search rules in
    let t = c.keep_time in
    λ k. arrived_here k t.new.times c.args.reading (new_times k t.new.times times_33 t.ensures.times_at t.ensures.zeros)
    (report_ahead k.whole c.at_max_load.ensures c.args.release.now.place k.new.levels k.new.least k.new.most k.new.decodes (new_points k) c.at_report-ahead.ensures)
    c.weigh-weighing.result (c.weigh-weighing.ensures k.whole.costed.rowed.head)
