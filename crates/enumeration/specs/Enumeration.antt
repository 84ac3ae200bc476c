-- What is printed of a plan's short runs (02, L10), from the plan's text alone: line by line. Assumes nothing: these are definitions.
use Rattle.std.specs.Prelude.{ℕ, List, [], ◌∷◌, ◌++◌, map}
use Rattle.model.specs.Refusals.{number_of}
use Rattle.model.specs.Plan.{Block, C, M, Plan}
use Rattle.model.specs.Forms.{main}
use Rattle.model.specs.Runs.{sum}
use Rattle.text.specs.Text.{bytes}
use Rattle.reader.specs.Outcome.{Outcome, plan, refused}
use Rattle.table.specs.Reading.{verdict}
use Rattle.print.specs.Lines.{plain_line, refused_plan_line}
use Rattle.short_runs.specs.ShortRuns.{leaf_numbers, most_visits}
use Rattle.short_runs.specs.Listing.{short_runs}

-- A line of numbers, one space between.
unfoldable pub fields_line : List ℕ → List ℕ
fields_line [] = bytes "\n"
fields_line (n ∷ ns) = plain_line n ns

-- The line of a run with these visits: its leaf numbers, then its sums of C and of M.
abbrev pub run_line : List Block → List ℕ
run_line w = fields_line (leaf_numbers w ++ (sum C w ∷ sum M w ∷ []))

-- The lines of a plan: one for each of its short runs, in order.
abbrev pub plan_lines : Plan → List (List ℕ)
plan_lines p = map run_line (short_runs most_visits (main p))

-- The lines of a text: those of the plan that it is read as, in a row of 512 records; or its refusal.
abbrev pub outcome_lines : Outcome → List (List ℕ)
outcome_lines (plan p) = plan_lines p
outcome_lines (refused k j) = refused_plan_line (number_of k) j ∷ []

abbrev pub enumeration : List ℕ → List (List ℕ)
enumeration text = outcome_lines (verdict 512 text)
