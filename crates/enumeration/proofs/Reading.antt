-- The lines of a text, by what `read` answers. Assumes nothing.
use mathlib.Core.List.{List, [], ◌∷◌, map}
use mathlib.Core.Path.{◌≡◌, refl, ap, sym, ◌∙◌}
use Prim.Native.Nat.{ℕ}
use Rattle.std.specs.Prelude.{Err}
use Rattle.model.specs.Plan.{Block, Plan}
use Rattle.model.specs.Forms.{main}
use Rattle.model.specs.Refusals.{number_of}
use Rattle.reader.specs.Outcome.{Outcome, plan, refused}
use Rattle.reader.specs.declared.RefusedAt.{RefusedAt}
use Rattle.table.specs.declared.Head.{Head}
use Rattle.table.specs.Reading.{verdict, result_of}
use Rattle.table.proofs.Heads.{Read}
use Rattle.table.proofs.Theorems.{read_as_plan}
use Rattle.short_runs.specs.ShortRuns.{AllShortRuns, most_visits}
use Rattle.short_runs.specs.Listing.{short_runs}
use Rattle.short_runs.proofs.Theorems.{short_runs_one, short_runs_listed}
use Rattle.print.specs.Lines.{refused_plan_line}
use Rattle.enumeration.specs.Enumeration.{run_line, plan_lines, outcome_lines, enumeration}

pub lines_read : {text : List ℕ} {h : Head} (r : Read text h) → plan_lines r.of ≡ enumeration text
lines_read r = ap outcome_lines (sym r.is)

pub lines_refused : (text : List ℕ) {e : RefusedAt} → Err e ≡ result_of (verdict 512 text) →
    (refused_plan_line (number_of e.refusal) e.line ∷ []) ≡ enumeration text
lines_refused text {e} h = by (verdict 512 text) refl h
  where
    by : (o : Outcome) → verdict 512 text ≡ o → Err e ≡ result_of o → (refused_plan_line (number_of e.refusal) e.line ∷ []) ≡ enumeration text
    by (plan p) v i = cc
    by (refused k j) v i =
        let z : e ≡ record { refusal = k; line = j } = cc in
        ap (λ (x : RefusedAt). refused_plan_line (number_of x.refusal) x.line ∷ []) z ∙ sym (ap outcome_lines v)

-- The lines of a plan's text are those of the list of its short runs.
pub lines_are_all_runs : (text : List ℕ) (p : Plan) → verdict 512 text ≡ plan p → (ws : List (List Block)) → AllShortRuns p ws →
    enumeration text ≡ map run_line ws
lines_are_all_runs text p e ws all =
    let a = ((read_as_plan 512 text p).0 e).1 in
    ap outcome_lines e ∙ ap (map run_line) (short_runs_one p (short_runs most_visits (main p)) ws (short_runs_listed p a) all)
