-- The listing of a plan, read back: its lines are that of the task and one for each point, and from each of them its numbers are read. Assumes nothing.
use mathlib.Core.Bool.{true, false}
use mathlib.Core.List.{List, [], ◌∷◌, ◌++◌, map, flat_map, append_assoc}
use mathlib.Core.Path.{◌≡◌, refl, ap, ◌∙◌}
use Prim.Native.Nat.{ℕ, zero, suc, ◌+◌, ◌<◌}
use native.Mathlib.Numerals.{add-one}
use native.Mathlib.Omega.{arith}
use lib.Dec.{eqb}
use lib.ListN.{length, get_or}
use Rattle.model.specs.Plan.{C, M, Plan}
use Rattle.model.specs.declared.Edition.{Edition}
use Rattle.model.specs.declared.Edition.TheVariants.{First, Second}
use Rattle.model.specs.Forms.{main}
use Rattle.model.specs.Total.{total}
use Rattle.text.specs.Text.{bytes, lines}
use Rattle.text.specs.Patterns.{is_upper, item, match, matched}
use Rattle.text.specs.Spelling.{decimal}
use Rattle.text.proofs.Decimal.{Apart}
use Rattle.text.proofs.Spell.{nothing, ends, lines_one, ends_decimal, item_decimal}
use Rattle.print.specs.Lines.{number_field, number_fields, numbers_line, task_line, point_line}
use Rattle.listing.specs.PlanListing.{resume_numbers, task_numbers, task_pattern, points, plan_listing}
use Rattle.listing.proofs.Each.{Each}
use Rattle.listing.proofs.Numbers.{Four}
use Rattle.listing.proofs.Points.{few_all}

-- THE LINES

-- Numbers as further fields have no line feed, so the one behind them ends the line.
ends_fields : (ns : List ℕ) → ends (number_fields ns ++ bytes "\n") ≡ true
unfolding number_fields number_field flat_map ends nothing
ends_fields [] = refl
ends_fields (n ∷ ns) = rw (append_assoc (decimal n) (number_fields ns) (10 ∷ []), ends_decimal, ends_fields ns)

-- The lines of points, one behind the other, are the lines of that text.
lines_of_points : (xs : List (List ℕ)) → lines (flat_map point_line xs) ≡ map point_line xs
unfolding flat_map lines
lines_of_points [] = refl
lines_of_points (x ∷ xs) =
    lines_one (point_line x) (flat_map point_line xs) (unfold numbers_line ends in ends_fields x) ∙
    ap (λ (ls : List (List ℕ)). point_line x ∷ ls) (lines_of_points xs)

-- The lines of a plan's listing: that of the task, and one for each point.
pub lines_of_listing : (p : Plan) → lines (plan_listing p) ≡ task_line (task_numbers p) ∷ map point_line (points p)
lines_of_listing p =
    lines_one (task_line (task_numbers p)) (flat_map point_line (points p)) (unfold numbers_line ends in ends_fields (task_numbers p)) ∙
    ap (λ (ls : List (List ℕ)). task_line (task_numbers p) ∷ ls) (lines_of_points (points p))

-- THE NUMBERS

-- The part of a pattern that is made of some signs: each behind a space.
unfoldable spaced : List ℕ → List ℕ
spaced [] = []
spaced (t ∷ ts) = 32 ∷ t ∷ spaced ts

-- Each of these signs stands for a number.
unfoldable Capitals : List ℕ → Type 0
Capitals [] = Unit
Capitals (t ∷ ts) = (eqb t 75 ≡ false) × (is_upper t ≡ true) × Capitals ts

-- What follows a number in a line begins with a space, or is the line feed.
fields_apart : (ns : List ℕ) → Apart (number_fields ns ++ bytes "\n")
unfolding number_fields number_field flat_map
fields_apart [] = refl
fields_apart (n ∷ ns) = refl

-- Numbers are read back by as many signs, each behind a space.
fields_read : (ts ns : List ℕ) → Capitals ts → length ts ≡ length ns → matched (spaced ts) false (number_fields ns ++ bytes "\n") ≡ match false ns
unfolding spaced Capitals matched item number_fields number_field flat_map
fields_read [] [] c e = refl
fields_read [] (n ∷ ns) c e = absurd (omega arith)
fields_read (t ∷ ts) [] c e = absurd (omega arith)
fields_read (t ∷ ts) (n ∷ ns) (k, u, c) e =
    rw (
      append_assoc (decimal n) (number_fields ns) (10 ∷ []),
      item_decimal t n (number_fields ns ++ (10 ∷ [])) k u (fields_apart ns),
      fields_read ts ns c (omega arith),
    )

-- Those of a point are read back from its line, where each point has four.
each_read : (xs : List (List ℕ)) (i : ℕ) → Each Four xs → i < length xs →
    matched (bytes "point N L C S") false (get_or (map point_line xs) i []) ≡ match false (get_or xs i [])
unfolding Each
each_read [] i f h = absurd (omega arith)
each_read (x ∷ xs) zero f h =
    unfold numbers_line matched item spaced Capitals in
    fields_read (bytes "NLCS") x (refl, refl, (refl, refl, (refl, refl, (refl, refl, tt)))) (omega (arith, f.0))
each_read (x ∷ xs) (suc i) f h = each_read xs i f.1 (omega arith)

-- Those of a task by the pattern of its edition.
of_task : (e : Edition) (a b d t : ℕ) →
    matched (task_pattern e) false (task_line (a ∷ b ∷ d ∷ t ∷ resume_numbers e)) ≡ match false (a ∷ b ∷ d ∷ t ∷ resume_numbers e)
unfolding numbers_line matched item spaced Capitals
of_task First a b d t = fields_read (bytes "ABDT") (a ∷ b ∷ d ∷ t ∷ []) (refl, refl, (refl, refl, (refl, refl, (refl, refl, tt)))) refl
of_task (Second u) a b d t =
    fields_read (bytes "ABDTU") (a ∷ b ∷ d ∷ t ∷ u ∷ []) (refl, refl, (refl, refl, (refl, refl, (refl, refl, (refl, refl, tt))))) refl

-- The numbers of the first line are read back from its text,
pub task_read : (p : Plan) → matched (task_pattern p.edition) false (get_or (lines (plan_listing p)) 0 []) ≡ match false (task_numbers p)
task_read p = rw (lines_of_listing p) (of_task p.edition (total C (main p)) (total M (main p)) p.deadline p.switch)

-- and those of each point from its line.
pub point_read : (p : Plan) (i : ℕ) → i < length (points p) →
    matched (bytes "point N L C S") false (get_or (lines (plan_listing p)) (i + 1) []) ≡ match false (get_or (points p) i [])
point_read p i h = rw (lines_of_listing p, add-one i) (each_read (points p) i (few_all p p.functions).1 h)
