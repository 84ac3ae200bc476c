-- The listing of a plan (01, 'Plans worked through'; 02, L7), from the plan alone: the numbers are those of the model's definitions, and no memory is named.
-- Assumes nothing: these are definitions.
use mathlib.Core.List.{List, [], ◌∷◌, ◌++◌, flat_map}
use Rattle.std.specs.Prelude.{ℕ}
use Rattle.text.specs.Text.{bytes}
use Rattle.model.specs.Plan.{C, M, Lines, Plan}
use Rattle.model.specs.declared.Edition.{Edition}
use Rattle.model.specs.declared.Edition.TheVariants.{First, Second}
use Rattle.model.specs.Forms.{main}
use Rattle.model.specs.Total.{total, tallies}
use Rattle.model.specs.Stretch.{stretch}
use Rattle.model.specs.Tail.{tail}
use Rattle.model.specs.Levels.{Leveled, own_levels}
use Rattle.model.specs.Places.{pick}
use Rattle.model.specs.Refusals.{number_of}
use Rattle.reader.specs.Outcome.{Outcome, plan, refused}
use Rattle.print.specs.Lines.{task_line, point_line, refused_plan_line}

-- THE NUMBERS

-- Of what resuming may take (02, L7): U in edition 2, and nothing in edition 1.
abbrev pub resume_numbers : Edition → List ℕ
resume_numbers First = []
resume_numbers (Second u) = u ∷ []

-- Of the task: total, max-load total, D, T, and in edition 2 U.
abbrev pub task_numbers : Plan → List ℕ
task_numbers p = total C (main p) ∷ total M (main p) ∷ p.deadline ∷ p.switch ∷ resume_numbers p.edition

-- Of a leaf of the function l: number, level in its own function, largest isolated sum from a first visit of it to the end of its own function, stretch.
abbrev pub point_numbers : Plan → Lines → Leveled → List ℕ
point_numbers p l v =
    v.block.number ∷ v.level ∷ tail (tallies C [] p.functions) v.block.number l 0 ∷ stretch M v.block.number (main p) 0 ∷ []

-- The points among these leaves of the function l, in order. A silent leaf is not listed.
unfoldable pub points_of : Plan → Lines → List Leveled → List (List ℕ)
points_of p l [] = []
points_of p l (v ∷ vs) = pick v.block.point (point_numbers p l v ∷ points_of p l vs) (points_of p l vs)

-- Each point in order: function by function, the leaves of each in text order.
unfoldable pub all_points : Plan → List Lines → List (List ℕ)
all_points p [] = []
all_points p (l ∷ ls) = points_of p l (own_levels 1 l) ++ all_points p ls

-- Those of the plan.
abbrev pub points : Plan → List (List ℕ)
points p = all_points p p.functions

-- A refused text has none.
abbrev pub outcome_points : Outcome → List (List ℕ)
outcome_points (plan p) = points p
outcome_points (refused k j) = []

-- THE LINES

-- The pattern of the first line (text/specs/Patterns), by which its numbers are read back: each capital stands for one of them.
abbrev pub task_pattern : Edition → List ℕ
task_pattern First = bytes "task A B D T"
task_pattern (Second u) = bytes "task A B D T U"

-- First line: total, max-load total, D, T, and in edition 2 U. Then each point in order.
abbrev pub plan_listing : Plan → List ℕ
plan_listing p = task_line (task_numbers p) ++ flat_map point_line (points p)

-- What is printed of a text: the listing of the plan that was read; a refused plan prints `refused`, number, line.
abbrev pub outcome_listing : Outcome → List ℕ
outcome_listing (plan p) = plan_listing p
outcome_listing (refused k j) = refused_plan_line (number_of k) j
