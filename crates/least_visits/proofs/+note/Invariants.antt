-- `least_visits::note` meets its contract: from `from` up to `to` there are fewer records with each call. Assumes nothing.
use Prim.Native.Nat.{◌-◌}
use Rattle.least_visits.proofs.+note.Given as goal

abbrev pub decreases-note : goal.decreases-note
decreases-note l = l.to - l.from
