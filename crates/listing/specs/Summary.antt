-- The numbers that are listed of a text, in memory.
-- Assumes nothing: these are definitions.
use Rattle.std.specs.Prelude.{length, Result, Ok, Err}
use Rattle.reader.specs.declared.RefusedAt.{RefusedAt}
use Rattle.reader.specs.Outcome.{Outcome, plan, refused}
use Rattle.reader.specs.Raw.{padded}
use Rattle.listing.specs.declared.Summary.{Summary}
use Rattle.listing.specs.PlanListing.{task_numbers, points}

-- What is listed beside the points, in five places for the numbers of the task, an unused one of which is 0; of a refused text nothing, but the refusal and
-- its line.
abbrev pub summary_of : Outcome → Result Summary RefusedAt
summary_of (plan p) = Ok (record { task = padded 5 (task_numbers p); task_count = length (task_numbers p); count = length (points p) })
summary_of (refused k j) = Err (record { refusal = k; line = j })
