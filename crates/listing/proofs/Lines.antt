-- The listing of a text, from what was collected of it. Assumes nothing.
use Prim.Native.Nat.{ℕ, ◌+◌, ◌*◌, ◌≤◌}
use mathlib.Core.Path.{◌≡◌, refl, ap, subst, ◌∙◌}
use mathlib.Core.List.{List, ◌++◌, flat_map}
use native.Mathlib.Omega.{arith}
use lib.ListN.{length, take, replicate, length-replicate}
use lib.Seq.{sets, length-sets}
use Rattle.std.specs.Prelude.{Ok}
use Rattle.model.specs.Plan.{Plan}
use Rattle.model.specs.declared.Edition.{Edition}
use Rattle.model.specs.declared.Edition.TheVariants.{First, Second}
use Rattle.reader.specs.Outcome.{Outcome, plan, refused}
use Rattle.reader.specs.Raw.{padded}
use Rattle.reader.proofs.Tasks.{take_padded, length_padded}
use Rattle.table.specs.Reading.{verdict}
use Rattle.print.specs.Lines.{task_line, point_line}
use Rattle.print.specs.Printed.{PrintedWithin}
use Rattle.print.proofs.Laws.{joined, Whole, all_of}
use Rattle.listing.specs.declared.Summary.{Summary}
use Rattle.listing.specs.PlanListing.{resume_numbers, task_numbers, points, outcome_points, outcome_listing}
use Rattle.listing.specs.Summary.{summary_of}
use Rattle.listing.proofs.Numbers.{stored_back}
use Rattle.listing.proofs.Points.{few_of_text}

-- WHAT THE ANSWER TELLS

-- U is one number at most,
resume_most : (e : Edition) → length (resume_numbers e) ≤ 1
resume_most First = omega arith
resume_most (Second u) = omega arith

-- so the task has at most five.
task_most : (p : Plan) → length (task_numbers p) ≤ 5
task_most p = omega (arith, resume_most p.edition)

-- A summary is that of the plan that a text was read as.
pub record Listed (text : List ℕ) (v : Summary) (g : List (List ℕ)) : Type 0 where
  pub of : Plan
  pub is : verdict 512 text ≡ plan of
  pub task_few : v.task_count ≤ 5
  pub task_long : length v.task ≡ 5
  pub task : take v.task_count v.task ≡ task_numbers of
  pub count : v.count ≡ length (points of)
  pub few : v.count ≤ 512
  pub long : length g ≡ 512
  pub all : take v.count g ≡ points of

pub listed : (text : List ℕ) (x : List ℕ) {v : Summary} {g : List (List ℕ)} → Ok v ≡ summary_of (verdict 512 text) →
    g ≡ sets (replicate 512 x) 0 (outcome_points (verdict 512 text)) → Listed text v g
listed text x {v} {g} e h = by (verdict 512 text) e refl (few_of_text text).0 h
  where
    by : (o : Outcome) → Ok v ≡ summary_of o → verdict 512 text ≡ o → length (outcome_points o) ≤ 512 → g ≡ sets (replicate 512 x) 0 (outcome_points o) → Listed text v g
    by (plan p) e is few h =
        let told : v ≡ record { task = padded 5 (task_numbers p); task_count = length (task_numbers p); count = length (points p) } = cc in
        let places : v.task ≡ padded 5 (task_numbers p) = ap (λ (u : Summary). u.task) told in
        let tasks : v.task_count ≡ length (task_numbers p) = ap (λ (u : Summary). u.task_count) told in
        let n = ap (λ (u : Summary). u.count) told in
        let r : length (replicate {A = List ℕ} 512 x) ≡ 512 = length-replicate {A = List ℕ} 512 x in
        record {
          of = p;
          is = is;
          task_few = omega (arith, tasks, task_most p);
          task_long = ap length places ∙ length_padded 5 (task_numbers p);
          task = rw (tasks, places) (take_padded 5 (task_numbers p) (task_most p));
          count = n;
          few = omega (arith, n, few);
          long = ap length h ∙ (length-sets (replicate 512 x) 0 (points p) ∙ r);
          all = rw (n, h) (stored_back (points p) (replicate 512 x) (omega (arith, few, r)));
        }
    by (refused k j) e is few h = cc

-- THE LISTING

-- The listing of a plan is its line, and those of its points behind it.
pub list_accepted : (text : List ℕ) {v : Summary} {g : List (List ℕ)} {f r : ℕ} {l m o : List ℕ} → length l ≡ 65664 → Listed text v g →
    PrintedWithin (4 + (length (take v.task_count v.task) * 21 + 1)) l 0 (task_line (take v.task_count v.task)) m f →
    PrintedWithin (length (take v.count g) * 90) m f (flat_map point_line (take v.count g)) o r → Whole 65664 l (outcome_listing (verdict 512 text)) o r
list_accepted text {v} {g} {f} {r} {l} {m} {o} long k p q =
    let few : length (take v.task_count v.task) ≤ 5 = omega (arith, ap length k.task, task_most k.of) in
    let room : length (take v.count g) ≤ 512 = omega (arith, k.count, k.few, ap length k.all) in
    let whole : task_line (take v.task_count v.task) ++ flat_map point_line (take v.count g) ≡ outcome_listing (verdict 512 text) = rw (k.is, k.task, k.all) refl in
    subst (λ (t : List ℕ). Whole 65664 l t o r) whole (all_of (omega (arith, few, room)) long (joined p q))
