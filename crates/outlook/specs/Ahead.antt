-- What lies ahead of a run, at any cost k of a visit. Assumes nothing: these are definitions.
use Rattle.std.specs.Prelude.{ℕ}
use Rattle.model.specs.Plan.{Block}
use Rattle.model.specs.Forms.{Forms}
use Rattle.model.specs.Places.{passes, can_end, no_more, no_further}
use Rattle.model.specs.Stretch.{silence, visit_stretch}
use Rattle.outlook.specs.declared.Ahead.{Ahead}

-- At the release, where the forms are to run: the release's stretch, whether no run meets a point, and whether the run can end without a report.
abbrev pub ahead_of : (Block → ℕ) → Forms → Ahead
ahead_of k fs = record { stretch = silence k fs 0; last = no_more fs; ends = passes fs }

-- At a report, where the forms from its visit on are left to run: the stretch of this visit, whether no run meets a further point, and whether the run
-- can end without another report.
abbrev pub ahead_at : (Block → ℕ) → Forms → Ahead
ahead_at k fs = record { stretch = visit_stretch k fs 0; last = no_further fs; ends = can_end fs }
