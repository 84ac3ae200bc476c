-- Reports of plan A explained, and of plan A with U 3, from the plan's one text and a log. Logs and texts are worked out by hand. Assumes nothing.
use mathlib.Core.List.{List, [], ◌∷◌, ◌++◌, map}
use mathlib.Core.Path.{◌≡◌, refl, ap, ◌∙◌}
use Prim.Native.Nat.{ℕ}
use Rattle.std.specs.Prelude.{Some}
use Rattle.text.specs.Text.{bytes, lines}
use Rattle.text.specs.Patterns.{digits, number, item, matched}
use Rattle.text.specs.Spelling.{numerals, decimal}
use Rattle.model.specs.declared.Call.{Call}
use Rattle.model.specs.declared.Call.TheVariants.{Release, Report}
use Rattle.model.specs.Plan as plans
use Rattle.model.specs.Plan.{Plan, all_leaves}
use Rattle.model.specs.Forms.{linked, last, forms, ◌⊕◌}
use Rattle.model.specs.Acceptance.{Accepted}
use Rattle.model.specs.Total.{total}
use Rattle.model.specs.Stretch.{silence, rounds_silence, visit_stretch, stretch, rounds_stretch}
use Rattle.model.specs.Places.{passes, seek, onward, can_end, no_more, no_further}
use Rattle.model.specs.Stack.{behind, below, whole, kept, seek_at, onward_at, suffix}
use Rattle.model.specs.Cause.{listed, way, rounds_way, visit_way}
use Rattle.model.specs.Runs.{sum}
use Rattle.model.specs.Controller as places
use Rattle.model.specs.Controller.{idle, is_point, respond}
use Rattle.model.specs.Worked.{plan_A, returning_A}
use Rattle.model.proofs.Worked.{plan_A_accepted}
use Rattle.reader.specs.Print.{print}
use Rattle.table.specs.Table.{table_of}
use Rattle.table.proofs.Theorems.{read_as_plan}
use Rattle.control.proofs.Alike.{Tied}
use Rattle.control.proofs.Cases.{returning_A_accepted}
use Rattle.control.proofs.Theorems.{calls_alike}
use Rattle.print.specs.Lines.{number_field, number_fields, numbers_line}
use Rattle.flight_log.specs.Log.{entry_of, entries}
use Rattle.transcript.specs.Transcript.{Progress, next_progress, progress_after, at_first}
use Rattle.explanation.specs.Explanation.{NoReport, report_told, explanation_on, explanation}
use Rattle.explanation.proofs.Explaining.{told_by_places}
use Rattle.explanation.proofs.Printing.{last_report_explained}

-- The state that calls lead the controller over places to.
unfoldable behind_calls : Plan → places.State → List Call → places.State
behind_calls p x [] = x
behind_calls p x (c ∷ cs) = behind_calls p (respond p x c).state cs

tied_behind : (p : Plan) (a : Accepted p) (cs : List Call) (y : Progress) (x : places.State) → Tied p a y.state x →
    Tied p a (progress_after (table_of p) y (map Some cs)).state (behind_calls p x cs)
unfolding progress_after behind_calls
tied_behind p a [] y x k = k
tied_behind p a (c ∷ cs) y x k = tied_behind p a cs (next_progress (table_of p) y (Some c)) (respond p x c).state (calls_alike p a y.state x c k).1

-- Consider an accepted plan, and a log that says calls and then a report. Of the plan's one text and the log is printed what the controller over places says of
-- the report behind the calls.
report_explained : (p : Plan) → Accepted p → (log : List ℕ) (cs : List Call) (n e : ℕ) → entries log ≡ map Some cs ++ (Some (Report n e) ∷ []) →
    explanation (print p) log ≡ report_told p (behind_calls p idle cs) n e
unfolding NoReport
report_explained p a log cs n e says =
    let t = table_of p in
    ap (λ o. explanation_on o log) ((read_as_plan 512 (print p) p).1 (refl, a, a.formed.few_leaves)) ∙
    (last_report_explained t log (map Some cs) [] n e says tt at_first refl ∙
    told_by_places p a (progress_after t at_first (map Some cs)).state (behind_calls p idle cs) n e (tied_behind p a cs at_first idle refl))

-- Plan A at the first visit of its loop, at 28: behind it the body, 20, is dearer than what follows the loop, 8 up to the end. The loop's condition and the
-- body make up the stretch, 4 + 20, and the margin is 100 − 28 − 44 − 4 − 24 = 0.
says_go : entries (bytes "release\npoint 0 0\npoint 1 28\n") ≡ Some Release ∷ Some (Report 0 0) ∷ Some (Report 1 28) ∷ []
unfolding entries lines entry_of matched item number digits
says_go = refl

told_go : report_told plan_A (behind_calls plan_A idle (Release ∷ Report 0 0 ∷ [])) 1 28 ≡ bytes "1 1\n2 1\n100 28 44 4\n"
unfolding behind_calls returning_A plan_A plans.leaves all_leaves forms linked last total silence rounds_silence visit_stretch stretch rounds_stretch passes seek onward can_end no_more no_further behind below whole kept seek_at onward_at suffix is_point respond ◌⊕◌ listed way rounds_way visit_way sum numbers_line number_fields mathlib.Core.List.flat_map number_field decimal numerals
told_go = refl

pub go_explained : explanation (print plan_A) (bytes "release\npoint 0 0\npoint 1 28\n") ≡ bytes "1 1\n2 1\n100 28 44 4\n"
go_explained = report_explained plan_A plan_A_accepted _ (Release ∷ Report 0 0 ∷ []) 1 28 says_go ∙ told_go

-- With U 3 (02, L7), at the second visit of the loop, at 38, after a suspend at the first, at 29: the same visits, and T and U are taken off. The margin is
-- 100 − 38 − 32 − (4 + 3) − 24 = −1, and the others stay suspended.
says_stay : entries (bytes "release\npoint 0 0\npoint 1 29\npoint 1 38\n") ≡ Some Release ∷ Some (Report 0 0) ∷ Some (Report 1 29) ∷ Some (Report 1 38) ∷ []
unfolding entries lines entry_of matched item number digits
says_stay = refl

told_stay : report_told returning_A (behind_calls returning_A idle (Release ∷ Report 0 0 ∷ Report 1 29 ∷ [])) 1 38 ≡ bytes "1 1\n2 1\n100 38 32 7\n"
unfolding behind_calls returning_A plan_A plans.leaves all_leaves forms linked last total silence rounds_silence visit_stretch stretch rounds_stretch passes seek onward can_end no_more no_further behind below whole kept seek_at onward_at suffix is_point respond ◌⊕◌ listed way rounds_way visit_way sum numbers_line number_fields mathlib.Core.List.flat_map number_field decimal numerals
told_stay = refl

pub stay_explained : explanation (print returning_A) (bytes "release\npoint 0 0\npoint 1 29\npoint 1 38\n") ≡ bytes "1 1\n2 1\n100 38 32 7\n"
stay_explained = report_explained returning_A returning_A_accepted _ (Release ∷ Report 0 0 ∷ Report 1 29 ∷ []) 1 38 says_stay ∙ told_stay
