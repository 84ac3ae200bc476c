use Rattle.place.proofs.Timing.{level_fits, put_times, fares, lower_times}
use Rattle.place.proofs.keep_time.Goals as goal

pub level_time-time-requires : goal.level_time-time-requires
level_time-time-requires c =
    let h = c.requires.least in
    let q = c.requires.clocked in
    record { least = h; most = c.requires.most; fits = level_fits (fares h q.costed) h _ (lower_times h q) }

pub returns-clause-times_at : goal.returns-clause-times_at
returns-clause-times_at c = let h = c.requires.least in λ s. let q = s.clocked in put_times (fares h q.costed) h _ (lower_times h q) c.level_time-time.ensures c.put.ensures
