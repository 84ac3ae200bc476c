-- The theorems on what is printed of a plan's short runs (02, L10), to be read; each is proved in a file beside this one. The definitions to believe are in
-- specs/ShortRuns of crate `short_runs` (the list), in specs/Enumeration (the line of a run) and in specs/Showing (lines that are shown one after the other):
-- `enumerate` promises that the lines of the text, `enumeration`, are shown so.
-- Assumes nothing.
use Prim.Native.Nat.{ℕ}
use mathlib.Core.Bool.{Bool}
use mathlib.Core.List.{List, [], ◌∷◌, map}
use mathlib.Core.Path.{◌≡◌, ap, subst}
use Rattle.model.specs.Plan.{Block, Plan}
use Rattle.model.specs.Refusals.{number_of}
use Rattle.model.specs.declared.Refusal.{Refusal}
use Rattle.model.specs.Worked.{plan_A}
use Rattle.text.specs.Text.{bytes}
use Rattle.reader.specs.Outcome.{plan, refused}
use Rattle.reader.specs.Print.{print}
use Rattle.table.specs.Reading.{verdict}
use Rattle.print.specs.Lines.{refused_plan_line}
use Rattle.short_runs.specs.ShortRuns.{AllShortRuns}
use Rattle.enumeration.specs.Enumeration.{run_line, outcome_lines, enumeration}
use Rattle.enumeration.specs.Showing.{ShownInTurn}
use Rattle.enumeration.proofs.Reading as reading
use Rattle.enumeration.proofs.Examples as examples

-- Consider a text that is read as a plan, and the list of all short runs of the plan. The lines of the text are those of these runs, one for each.
pub lines_are_all_runs : (text : List ℕ) (p : Plan) → verdict 512 text ≡ plan p → (ws : List (List Block)) → AllShortRuns p ws →
    enumeration text ≡ map run_line ws
lines_are_all_runs = reading.lines_are_all_runs

-- So what `enumerate` promises of the text, in whatever way lines are shown, is that the lines of these runs are shown one after the other.
pub runs_shown_in_turn : (text : List ℕ) (p : Plan) → verdict 512 text ≡ plan p → (ws : List (List Block)) → AllShortRuns p ws →
    {F : Type 0} (step : F → List ℕ → Bool → F → Type 0) (f g : F) → ShownInTurn step f (enumeration text) g → ShownInTurn step f (map run_line ws) g
runs_shown_in_turn text p e ws all step f g = subst (λ l. ShownInTurn step f l g) (lines_are_all_runs text p e ws all)

-- The one line of a refused text is that of its refusal.
pub refused_plan_enumerated : (text : List ℕ) (k : Refusal) (j : ℕ) → verdict 512 text ≡ refused k j → enumeration text ≡ refused_plan_line (number_of k) j ∷ []
refused_plan_enumerated text k j e = ap outcome_lines e

-- Plan A: its loop goes round at most three times.
pub plan_A_enumerated : enumeration (print plan_A) ≡
    bytes "0 1 2 1 2 1 2 1 3 49 93\n" ∷ bytes "0 1 2 1 2 1 3 37 69\n" ∷ bytes "0 1 2 1 3 25 45\n" ∷ bytes "0 1 3 13 21\n" ∷ []
plan_A_enumerated = examples.plan_A_enumerated
