-- A sheet read back: page by page, and as a whole. Assumes nothing.
use Prim.Native.Nat.{ℕ, zero, suc, ◌+◌, ◌-◌, ◌*◌, ◌%◌, ◌≤◌, ◌<◌}
use mathlib.Core.Path.{◌≡◌, refl, sym, ap, subst, ◌∙◌}
use mathlib.Core.List.{List, [], ◌∷◌, ◌++◌, append_assoc, append-nil}
use native.Mathlib.Omega.{arith}
use native.Mathlib.Decide.{dec_le}
use lib.ListN.{length, get_or, take, drop, replicate, length-drop, get_or-append, get_or-eq_default}
use lib.Seq.{take_all, take-suc, take-add, get_or-drop, get_or_at, get_or-append-add}
use borrow.Author.Tests.{le-leb, lt-leb}
use Rattle.text.specs.Text.{bytes}
use Rattle.model.specs.Plan.{Plan}
use Rattle.model.specs.declared.Edition.{Edition}
use Rattle.model.specs.declared.Edition.TheVariants.{First, Second}
use Rattle.model.specs.Acceptance.{Accepted}
use Rattle.listing.specs.PlanListing.{resume_numbers, task_numbers, points}
use Rattle.listing.proofs.Each.{Each, each_at}
use Rattle.listing.proofs.Limits.{PointSmall, points_small}
use Rattle.pages.specs.Sheet.{in_fields, sheet_line, heading_widths, point_widths, point_lines, page, pages_to, page_count, sheet_lines}
use Rattle.pages.specs.ReadBack.{NoWider, in_columns, point_on, points_on}
use Rattle.pages.proofs.Columns.{read_line, taken, blanks_behind}
use Rattle.pages.proofs.Sheets.{pages_needed, point_count, pages_size, points_fit, no_wider}

-- BY PLACE

-- A line of points, by its place.
point_line_at : (all : List (List ℕ)) (first n j : ℕ) → j < n → get_or (point_lines all first n) j [] ≡ sheet_line point_widths (get_or all (first + j) [])
unfolding point_lines
point_line_at all first zero j h = absurd (omega arith)
point_line_at all first (suc n) j h =
    let ls = point_lines all first n in
    let size = point_count all first n in
    elim (dec_le (suc j) n) [
      | yes l ↦ get_or-append ls (_ ∷ []) [] j (omega arith) ∙ point_line_at all first n j l
      | no l ↦
          let e : j ≡ n = omega arith in
          rw e (get_or_at ls _ [] [] n size)
    ]

-- A line of pages, by its page and its place there.
page_line_at : (task : List ℕ) (all : List (List ℕ)) (n k j : ℕ) → k < n → j < 60 → get_or (pages_to task all n) (k * 60 + j) [] ≡ get_or (page task all k) j []
unfolding pages_to
page_line_at task all zero k j h l = absurd (omega arith)
page_line_at task all (suc n) k j h l =
    let ls = pages_to task all n in
    let size = pages_size task all n in
    elim (dec_le (suc k) n) [
      | yes m ↦ get_or-append ls (page task all n) [] (k * 60 + j) (omega arith) ∙ page_line_at task all n k j m l
      | no m ↦
          let e : k ≡ n = omega arith in
          let place : n * 60 + j ≡ length ls + j = omega arith in
          rw (e, place) (get_or-append-add ls (page task all n) j [])
    ]

-- Behind the four numbers of a small point.
point_blanks : (xs : List (List ℕ)) → Each PointSmall xs → (i : ℕ) → i < length xs → NoWider point_widths (get_or xs i []) →
    drop 38 (sheet_line point_widths (get_or xs i [])) ≡ replicate 34 32 ++ bytes "\n"
point_blanks xs f i h w =
    let s = each_at PointSmall [] xs f i h in
    let four : taken point_widths (get_or xs i []) ≡ 38 = ap (taken point_widths) s.is in
    subst (λ (n : ℕ). drop n (sheet_line point_widths (get_or xs i [])) ≡ replicate (72 - n) 32 ++ bytes "\n") four
    (blanks_behind point_widths (get_or xs i []) w)

-- U takes 14 columns where it is a number of the task,
resume_taken : (e : Edition) → taken (14 ∷ []) (resume_numbers e) ≡ 14 * length (resume_numbers e)
resume_taken First = refl
resume_taken (Second u) = refl

-- as each of the others does, and behind them are blanks.
task_blanks : (p : Plan) → NoWider heading_widths (task_numbers p) → drop (14 * length (task_numbers p)) (sheet_line heading_widths (task_numbers p)) ≡
    replicate (72 - 14 * length (task_numbers p)) 32 ++ bytes "\n"
task_blanks p w =
    let columns : taken heading_widths (task_numbers p) ≡ 14 * length (task_numbers p) = omega (arith, resume_taken p.edition) in
    subst (λ (n : ℕ). drop n (sheet_line heading_widths (task_numbers p)) ≡ replicate (72 - n) 32 ++ bytes "\n") columns
    (blanks_behind heading_widths (task_numbers p) w)

-- Past the last point a line is blank.
past : (xs : List (List ℕ)) (i : ℕ) → length xs ≤ i → sheet_line point_widths (get_or xs i []) ≡ replicate 72 32 ++ bytes "\n"
unfolding sheet_line in_fields
past xs i h = rw (get_or-eq_default xs [] {n = i} h)

-- Read back, page by page.
pub page_read : (p : Plan) → Accepted p → (k : ℕ) → k < page_count (length (points p)) →
    (in_columns heading_widths (get_or (sheet_lines p) (k * 60) []) ≡ task_numbers p) ×
    (in_columns heading_widths (get_or (sheet_lines p) (k * 60 + 1) []) ≡ (k + 1) ∷ []) ×
    (get_or (sheet_lines p) (k * 60 + 2) [] ≡ replicate 72 32 ++ bytes "\n") ×
    ((j : ℕ) → j < 57 → in_columns point_widths (get_or (sheet_lines p) (k * 60 + 3 + j) []) ≡ get_or (points p) (k * 57 + j) [])
unfolding page sheet_line in_fields
page_read p a k h =
    let (of_task, of_point, of_page) = no_wider p a in
    let at = page_line_at (task_numbers p) (points p) (page_count (length (points p))) k in
    let z : k * 60 + 0 ≡ k * 60 = omega arith in (
      rw (rw z at (at 0 h (omega arith))) (read_line heading_widths (task_numbers p) (omega arith) of_task),
      rw (at 1 h (omega arith)) (read_line heading_widths ((k + 1) ∷ []) (omega arith) (of_page k h)),
      at 2 h (omega arith),
      λ j l.
          let e : k * 60 + 3 + j ≡ k * 60 + suc (suc (suc j)) = omega arith in
          rw (e, at (suc (suc (suc j))) h (omega arith), point_line_at (points p) (k * 57) 57 j l)
          (read_line point_widths (get_or (points p) (k * 57 + j) []) (omega arith) (of_point (k * 57 + j))),
    )

-- What is behind the numbers of a page's lines: blanks to the end; past the last point the line is blank.
pub page_blanks : (p : Plan) → Accepted p → (k : ℕ) → k < page_count (length (points p)) →
    (drop (14 * length (task_numbers p)) (get_or (sheet_lines p) (k * 60) []) ≡ replicate (72 - 14 * length (task_numbers p)) 32 ++ bytes "\n") ×
    (drop 14 (get_or (sheet_lines p) (k * 60 + 1) []) ≡ replicate 58 32 ++ bytes "\n") ×
    ((j : ℕ) → j < 57 → k * 57 + j < length (points p) → drop 38 (get_or (sheet_lines p) (k * 60 + 3 + j) []) ≡ replicate 34 32 ++ bytes "\n") ×
    ((j : ℕ) → j < 57 → length (points p) ≤ k * 57 + j → get_or (sheet_lines p) (k * 60 + 3 + j) [] ≡ replicate 72 32 ++ bytes "\n")
unfolding page
page_blanks p a k h =
    let (of_task, of_point, of_page) = no_wider p a in
    let at = page_line_at (task_numbers p) (points p) (page_count (length (points p))) k in
    let z : k * 60 + 0 ≡ k * 60 = omega arith in
    let place : (j : ℕ) → j < 57 → get_or (sheet_lines p) (k * 60 + 3 + j) [] ≡ sheet_line point_widths (get_or (points p) (k * 57 + j) []) =
    λ j l.
    let e : k * 60 + 3 + j ≡ k * 60 + suc (suc (suc j)) = omega arith in
    rw (e, at (suc (suc (suc j))) h (omega arith), point_line_at (points p) (k * 57) 57 j l) in (
      rw (rw z at (at 0 h (omega arith))) (task_blanks p of_task),
      rw (at 1 h (omega arith)) (blanks_behind heading_widths ((k + 1) ∷ []) (of_page k h)),
      λ j l m. rw (place j l) (point_blanks (points p) (points_small p a) (k * 57 + j) m (of_point (k * 57 + j))),
      λ j l m. place j l ∙ past (points p) (k * 57 + j) m,
    )

-- AS A WHOLE

-- The points on two lists of lines are those on the first, and those on the second behind it.
points_append : (before : ℕ) (ls ms : List (List ℕ)) → points_on before (ls ++ ms) ≡ points_on before ls ++ points_on (before + length ls) ms
unfolding points_on
points_append before [] ms =
    let e : before + 0 ≡ before = omega arith in
    rw e
points_append before (l ∷ ls) ms =
    let e : before + suc (length ls) ≡ suc before + length ls = omega arith in
    rw (e, points_append (suc before) ls ms, append_assoc)

-- The first three lines of a page are passed over.
passed : (before : ℕ) (l : List ℕ) (ls : List (List ℕ)) → before % 60 < 3 → points_on before (l ∷ ls) ≡ points_on (suc before) ls
unfolding points_on
passed before l ls h = rw (lt-leb 3 (before % 60) h)

-- A small point has numbers.
point_there : (xs : List (List ℕ)) → Each PointSmall xs → (i : ℕ) → i < length xs → point_on (get_or xs i []) ≡ get_or xs i [] ∷ []
unfolding Each
point_there [] s i h = absurd (omega arith)
point_there (x ∷ xs) s zero h = rw s.0.is
point_there (x ∷ xs) s (suc i) h = point_there xs s.1 i (omega arith)

-- Consider small points.
module _ (task : List ℕ) (all : List (List ℕ)) (small : Each PointSmall all) where
  -- The first points and one more, if there is one.
  take_more : (first n : ℕ) → take (suc n) (drop first all) ≡ take n (drop first all) ++ point_on (get_or all (first + n) [])
  take_more first n =
      let xs = drop first all in
      let size = length-drop first all in
      elim (dec_le (suc n) (length xs)) [
        | yes l ↦ take-suc xs n [] l ∙ rw (get_or-drop first all n [], point_there all small (first + n) (omega arith))
        | no l ↦
            rw (
              take_all (suc n) xs (omega arith),
              take_all n xs (omega arith),
              get_or-eq_default all [] {n = first + n} (omega arith),
              append-nil xs,
            )
      ]

  -- The points on the lines of points of a page.
  lines_read : (k n : ℕ) → n ≤ 57 → points_on (k * 60 + 3) (point_lines all (k * 57) n) ≡ take n (drop (k * 57) all)
  unfolding points_on point_lines
  lines_read k zero h = refl
  lines_read k (suc n) h =
      let ls = point_lines all (k * 57) n in
      let x = get_or all (k * 57 + n) [] in
      points_append (k * 60 + 3) ls (sheet_line point_widths x ∷ []) ∙ rw (
        lines_read k n (omega arith),
        point_count all (k * 57) n,
        le-leb 3 ((k * 60 + 3 + n) % 60) (omega arith),
        read_line point_widths x (omega arith) (points_fit all small (k * 57 + n)),
        append-nil (point_on x),
      ) (sym (take_more (k * 57) n))

  -- The points on a page.
  points_of_page : (k : ℕ) → points_on (k * 60) (page task all k) ≡ take 57 (drop (k * 57) all)
  unfolding page
  points_of_page k =
      let e : suc (suc (suc (k * 60))) ≡ k * 60 + 3 = omega arith in
      passed (k * 60) _ _ (omega arith) ∙ (passed (suc (k * 60)) _ _ (omega arith) ∙ (passed (suc (suc (k * 60))) _ _ (omega arith) ∙
      rw e (lines_read k 57 (omega arith))))

  -- The points on the first pages.
  pages_read : (k : ℕ) → points_on 0 (pages_to task all k) ≡ take (k * 57) all
  unfolding points_on pages_to
  pages_read zero = refl
  pages_read (suc k) =
      let e : suc k * 57 ≡ k * 57 + 57 = omega arith in
      let place : 0 + length (pages_to task all k) ≡ k * 60 = omega (arith, pages_size task all k) in
      points_append 0 (pages_to task all k) (page task all k) ∙
      rw (pages_read k, place, points_of_page k, e) (sym (take-add (k * 57) 57 all))

-- Read back as a whole: the points on the sheet are those of the plain listing, in the same order.
pub points_read : (p : Plan) → Accepted p → points_on 0 (sheet_lines p) ≡ points p
points_read p a =
    let count = page_count (length (points p)) in
    pages_read (task_numbers p) (points p) (points_small p a) count ∙
    take_all (count * 57) (points p) (omega (arith, (pages_needed (length (points p))).1))
