-- Plan A's lines, byte by byte. Assumes nothing.
use mathlib.Core.List.{[], ◌∷◌}
use mathlib.Core.Path.{◌≡◌, refl, ap, ◌∙◌}
use Rattle.text.specs.Spelling.{numerals, decimal}
use Rattle.text.specs.Text.{bytes}
use Rattle.model.specs.Forms.{linked, last, forms, ◌⊕◌}
use Rattle.model.specs.Runs.{sum}
use Rattle.model.specs.Worked.{plan_A}
use Rattle.model.proofs.Worked.{plan_A_accepted}
use Rattle.reader.specs.Print.{print}
use Rattle.table.proofs.Theorems.{read_as_plan}
use Rattle.print.specs.Lines.{numbers_line, number_fields, number_field}
use Rattle.short_runs.specs.ShortRuns.{leaf_numbers}
use Rattle.short_runs.specs.Listing.{short_runs, ways, next_leaf, in_front}
use Rattle.enumeration.specs.Enumeration.{fields_line, plan_lines, outcome_lines, enumeration}

plan_lines_A : plan_lines plan_A ≡
    bytes "0 1 2 1 2 1 2 1 3 49 93\n" ∷ bytes "0 1 2 1 2 1 3 37 69\n" ∷ bytes "0 1 2 1 3 25 45\n" ∷ bytes "0 1 3 13 21\n" ∷ []
unfolding short_runs ways next_leaf in_front leaf_numbers ◌⊕◌ linked last forms sum fields_line numbers_line plan_A decimal numerals
    number_fields number_field mathlib.Core.List.flat_map
plan_lines_A = refl

pub plan_A_enumerated : enumeration (print plan_A) ≡
    bytes "0 1 2 1 2 1 2 1 3 49 93\n" ∷ bytes "0 1 2 1 2 1 3 37 69\n" ∷ bytes "0 1 2 1 3 25 45\n" ∷ bytes "0 1 3 13 21\n" ∷ []
plan_A_enumerated =
    ap outcome_lines ((read_as_plan 512 (print plan_A) plan_A).1 (refl, plan_A_accepted, plan_A_accepted.formed.few_leaves)) ∙ plan_lines_A
