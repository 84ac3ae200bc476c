-- The sheet of a text, from the numbers that were collected of it. Assumes nothing.
use Prim.Native.Nat.{ℕ, ◌≤◌}
use mathlib.Core.Path.{◌≡◌, sym, subst}
use mathlib.Core.List.{List, flatten}
use native.Mathlib.Omega.{arith}
use lib.ListN.{length, take}
use Rattle.reader.specs.Outcome.{Outcome}
use Rattle.table.specs.Reading.{verdict}
use Rattle.table.proofs.Theorems.{read_as_plan}
use Rattle.print.specs.Printed.{Printed}
use Rattle.print.proofs.Laws.{Whole, all_of}
use Rattle.listing.specs.declared.Summary.{Summary}
use Rattle.listing.specs.PlanListing.{points}
use Rattle.listing.proofs.Lines.{Listed}
use Rattle.pages.specs.Sheet.{pages_to, page_count, plan_sheet, outcome_sheet}
use Rattle.pages.proofs.Lines.{nine}
use Rattle.pages.proofs.Sheets.{sheet_size}

-- The pages of what was collected of a text that was read as a plan are the sheet of the plan, and the buffer has room for them.
pub sheet_accepted : (text : List ℕ) {v : Summary} {g : List (List ℕ)} {r : ℕ} {l m : List ℕ} → length l ≡ 39420 → Listed text v g →
    Printed l 0 (flatten (pages_to (take v.task_count v.task) (take v.count g) (page_count (length (take v.count g))))) m r → Whole 39420 l (outcome_sheet (verdict 512 text)) m r
sheet_accepted text {v} {g} {r} {l} {m} long k q =
    let x = k.of in
    let few : length (points x) ≤ 512 = omega (arith, k.count, k.few) in
    let size = sheet_size x ((read_as_plan 512 text x).0 k.is).1 in
    let whole : Printed l 0 (plan_sheet x) m r = rw (k.task, k.all) at q in
    subst (λ (o : Outcome). Whole 39420 l (outcome_sheet o) m r) (sym k.is)
    (all_of {most = 39420} (omega arith) long (record { printed = whole; short = omega (arith, size, nine (length (points x)) few) }))
