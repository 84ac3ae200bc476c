-- What good releases mean, over runs of the plan (01: refusal 11).
-- Assumes nothing: these are definitions.
use Rattle.std.specs.Prelude.{List, [], ◌≡◌, ℕ, ◌≤◌, length, get_or}
use Rattle.model.specs.Plan.{Plan}
use Rattle.model.specs.Forms.{main}
use Rattle.model.specs.Total.{Total}
use Rattle.model.specs.Levels.{Standing, so_far, history, Times, stack}
use Rattle.control.specs.declared.OpenRelease.{OpenRelease}
use Rattle.control.specs.State.{stack_of}

-- Where an open release stands: at the release, with its times; or where a run of the plan stands, with that run's times.
pub data StandsSomewhere (p : Plan) (o : OpenRelease) : Type 0 where
  at_the_release : o.place.level ≡ 0 → Total (main p) (get_or o.times 0 0) → length o.times ≡ 33 → ((j : ℕ) → 1 ≤ j → get_or o.times j 0 ≡ 0) → StandsSomewhere p o
  at_a_report : (x : Standing (main p)) → stack [] (so_far x) ≡ stack_of o → Times x o.times → StandsSomewhere p o

-- A run with this history stands at the release's stack, and the release's remaining times are that run's 33.
pub record HistoryState (p : Plan) (o : OpenRelease) (h : List ℕ) : Type 0 where
  pub run : Standing (main p)
  pub history_is : history run ≡ h
  pub stack_is : stack [] (so_far run) ≡ stack_of o
  pub times_are : Times run o.times
