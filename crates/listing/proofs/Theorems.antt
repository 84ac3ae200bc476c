-- The theorems about the listing, to be read. The definitions to believe are in specs/PlanListing (the listing of a plan, from the plan alone), print's
-- specs/Lines (what a line looks like) and the model's specs; the model's theorems, cited below, say what the numbers mean over runs.
use mathlib.Core.Bool.{true}
use mathlib.Core.List.{List, [], ◌∷◌}
use mathlib.Core.Logic.{◌↔◌}
use mathlib.Core.Path.{◌≡◌, refl}
use Prim.Native.Nat.{ℕ, ◌≤◌, ◌<◌}
use native.Mathlib.Omega.{arith}
use lib.ListN.{length, get_or, take, drop}
use lib.Seq.{sets}
use Rattle.model.specs.Plan.{Block, C, M, close, Plan, leaves}
use Rattle.model.specs.declared.Edition.{Edition}
use Rattle.model.specs.declared.Edition.TheVariants.{First, Second}
use Rattle.model.specs.Forms.{done, linked, main}
use Rattle.model.specs.Runs.{Largest, Among}
use Rattle.model.specs.Total.{Total, MaxLoadTotal, total, tallies}
use Rattle.model.specs.Stretch.{Stretch, OwnStretch, stretch}
use Rattle.model.specs.Tail.{Tail, tail}
use Rattle.model.specs.Acceptance.{Accepted}
use Rattle.model.proofs.Theorems as model
use Rattle.print.proofs.Theorems.{begins}
use Rattle.table.specs.Reading.{verdict}
use Rattle.listing.specs.PlanListing.{resume_numbers, task_numbers, outcome_listing}
use Rattle.listing.proofs.Points.{among_all}

-- The bytes that a program hands over to standard output are the listing: consider a buffer of 65,664 bytes, and m and n as `list_text` leaves the buffer
-- and gives the length by its contract. The first n bytes of m are the listing of the plan that the text is read as, or the line of the refusal.
pub bytes_are_of_text : (text buffer m : List ℕ) (n : ℕ) → length buffer ≡ 65664 → m ≡ sets buffer 0 (outcome_listing (verdict 512 text)) →
    n ≡ length (outcome_listing (verdict 512 text)) → n ≤ 65664 → take n m ≡ outcome_listing (verdict 512 text)
bytes_are_of_text text buffer m n long e k h = rw (e, k) (begins (outcome_listing (verdict 512 text)) buffer (omega arith))

-- THE NUMBERS, OVER RUNS

-- First line: the first number is the largest sum of C over all runs, the second the largest sum of M.
pub task_line_means : (p : Plan) → Total (main p) (total C (main p)) × MaxLoadTotal (main p) (total M (main p))
task_line_means = model.total_is_largest

-- Behind the first four, of which the others are D and T, it has U alone exactly in edition 2, and nothing exactly in edition 1 (02, L7).
pub fifth_number_means : (p : Plan) → ((u : ℕ) → (drop 4 (task_numbers p) ≡ u ∷ []) ↔ (p.edition ≡ Second u)) × ((drop 4 (task_numbers p) ≡ []) ↔ (p.edition ≡ First))
fifth_number_means p = by p.edition
  where
    by : (e : Edition) → ((u : ℕ) → (resume_numbers e ≡ u ∷ []) ↔ (e ≡ Second u)) × ((resume_numbers e ≡ []) ↔ (e ≡ First))
    by First = (λ u. (λ h. cc, λ h. cc), (λ h. refl, λ h. refl))
    by (Second u) = (λ v. (λ h. cc, λ h. cc), (λ h. cc, λ h. cc))

-- The line of a point of an accepted plan: the third number is the largest isolated sum from a first visit of it to the end of its own function, the fourth
-- the largest sum of M from a visit of it up to the next point or the end, and so the largest of its visits' own stretches.
pub point_line_means : (p : Plan) → Accepted p → (f : ℕ) → f < length p.functions → (b : Block) → Among b (leaves (get_or p.functions f close)) →
    b.point ≡ true →
    Tail (get_or (linked [] p.functions) f done) b.number (tail (tallies C [] p.functions) b.number (get_or p.functions f close) 0) ×
    Stretch M (main p) b.number (stretch M b.number (main p) 0) ×
    Largest (λ (v : OwnStretch M (main p) b.number). v.stretch) (stretch M b.number (main p) 0)
point_line_means p a f h b m k =
    let i = among_all p.functions f h b m in
    (model.tail_is_largest p a f h b m, model.stretch_is_largest p a b i k, model.stretch_is_largest_visit p a b i k)
