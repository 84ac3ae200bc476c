-- The numbers that are listed from the leaves that `read` leaves in memory are those of the plan that it read: leaf number i of the plan is at place i of the
-- row, and the points among the leaves, one after the other, are those of the functions, where a column has the stretches of the plan's leaves.
-- Assumes nothing.
use mathlib.Core.Bool.{Bool, true, false}
use mathlib.Core.List.{List, [], ◌∷◌, ◌++◌, map, map-append}
use mathlib.Core.Path.{◌≡◌, refl, sym, ap, ◌∙◌, subst}
use Prim.Native.Nat.{ℕ, zero, suc, ◌+◌, ◌≤◌, ◌<◌}
use native.Mathlib.Omega.{arith}
use lib.Dec.{eqb}
use lib.ListN.{length, get_or, take, drop, length-append, length-map, get_or-append, get_or-map}
use lib.Seq.{sets, take_at, get_or-take, get_or-append-add}
use Rattle.model.specs.Plan.{Block, C, M, Lines, close, leaf_line, call_line, loop_line, if_line, resume_cost, Plan, leaves, all_leaves}
use Rattle.model.specs.declared.Edition.{Edition}
use Rattle.model.specs.declared.Edition.TheVariants.{First, Second}
use Rattle.model.specs.Forms.{main}
use Rattle.model.specs.Runs.{Among}
use Rattle.model.specs.Total.{total, tallies}
use Rattle.model.specs.Stretch.{stretch_of}
use Rattle.model.specs.Tail.{tail}
use Rattle.model.specs.Levels.{Leveled, own_levels, blocks}
use Rattle.model.specs.Acceptance.{size, sizes, Formed}
use Rattle.model.specs.Places.{pick, bit}
use Rattle.model.proofs.Among.{among_left, among_right}
use Rattle.reader.specs.Outcome.{Outcome, plan, refused}
use Rattle.reader.specs.Raw.{padded}
use Rattle.rows.specs.declared.Leaf.{Leaf}
use Rattle.reader.specs.Records.{leveled_leaves, no_leaf}
use Rattle.reader.proofs.Theorems.{row_leaf}
use Rattle.table.specs.declared.Head.{Head}
use Rattle.table.specs.Table.{Table, table_of, edition_of, all_tails}
use Rattle.table.specs.Reading.{verdict}
use Rattle.table.specs.Lent.{leaf_of, leaves_from, row_after}
use Rattle.table.proofs.Holding.{leaves_size}
use Rattle.table.proofs.Lent.{length_leaves}
use Rattle.table.proofs.Plans.{edition_said}
use Rattle.std.specs.Prelude.{Ok}
use Rattle.table.proofs.Heads.{Read}
use Rattle.table.proofs.Theorems.{read_as_plan}
use Rattle.listing.specs.PlanListing.{resume_numbers, task_numbers, point_numbers, points_of, all_points, points, outcome_points}
use Rattle.listing.specs.Summary.{summary_of}
use Rattle.listing.specs.Private.{leaf_points, leaves_points, Collected}
use Rattle.listing.proofs.Each.{Each, each_append}
use Rattle.listing.proofs.Numbers.{Four, points_append}

-- LEAVES AND THEIR LEVELS

-- The leaves with their levels are the leaves, in the same order.
own_leaves : (L : ℕ) (l : Lines) → blocks (own_levels L l) ≡ leaves l
unfolding own_levels leaves
own_leaves L close = refl
own_leaves L (leaf_line b rest) = ap (λ (u : List Block). b ∷ u) (own_leaves L rest)
own_leaves L (call_line b f rest) = ap (λ (u : List Block). b ∷ u) (own_leaves L rest)
own_leaves L (loop_line b n body rest) =
    rw (map-append (λ (v : Leveled). v.block) (own_levels (suc L) body) (own_levels L rest), own_leaves (suc L) body, own_leaves L rest)
own_leaves L (if_line b then else rest) =
    rw (
      map-append (λ (v : Leveled). v.block) (own_levels L then) (own_levels L else ++ own_levels L rest),
      map-append (λ (v : Leveled). v.block) (own_levels L else) (own_levels L rest),
      own_leaves L then,
      own_leaves L else,
      own_leaves L rest,
    )

own_size : (l : Lines) → length (own_levels 1 l) ≡ size l
own_size l = sym (length-map (own_levels 1 l) (λ (v : Leveled). v.block)) ∙ (ap length (own_leaves 1 l) ∙ leaves_size l)

-- A number made of each leaf, at the place of one of them.
mapped : (g : Block → ℕ) (bs : List Block) (j : ℕ) → j < length bs → get_or (map g bs) j 0 ≡ g (get_or bs j no_leaf.block)
mapped g [] j h = absurd (omega arith)
mapped g (b ∷ bs) zero h = refl
mapped g (b ∷ bs) (suc j) h = mapped g bs j (omega arith)

own_number : (g : Block → ℕ) (l : Lines) (j : ℕ) → j < size l → get_or (map g (leaves l)) j 0 ≡ g (get_or (own_levels 1 l) j no_leaf).block
own_number g l j h =
    mapped g (leaves l) j (omega (arith, leaves_size l)) ∙
    ap g (ap (λ (u : List Block). get_or u j no_leaf.block) (sym (own_leaves 1 l)) ∙ get_or-map (λ (v : Leveled). v.block) (own_levels 1 l) j no_leaf)

-- A leaf of one of the functions is a leaf of the plan.
pub among_all : (ls : List Lines) (f : ℕ) → f < length ls → (b : Block) → Among b (leaves (get_or ls f close)) → Among b (all_leaves ls)
unfolding all_leaves
among_all [] f h b m = absurd (omega arith)
among_all (l ∷ ls) zero h b m = among_left b (leaves l) (all_leaves ls) m
among_all (l ∷ ls) (suc f) h b m = among_right b (leaves l) (all_leaves ls) (among_all ls f (omega arith) b m)

-- A POINT

-- What is listed of a leaf with its tail and its stretch, where it is a point.
abbrev shown : Leveled → ℕ → ℕ → List (List ℕ)
shown v t s = pick v.block.point ((v.block.number ∷ v.level ∷ t ∷ s ∷ []) ∷ []) []

abbrev point_of : Plan → Lines → Leveled → List (List ℕ)
point_of p l v = pick v.block.point (point_numbers p l v ∷ []) []

-- Among no leaves there is none.
none : (p : Plan) (l : Lines) → points_of p l [] ≡ []
unfolding points_of
none p l = refl

-- The first of some leaves, and those after it.
first_point : (p : Plan) (l : Lines) (v : Leveled) (vs : List Leveled) → points_of p l (v ∷ vs) ≡ point_of p l v ++ points_of p l vs
unfolding points_of
first_point p l v vs = by v.block.point (point_numbers p l v) (points_of p l vs)
  where
    by : (b : Bool) (x : List ℕ) (xs : List (List ℕ)) → pick b (x ∷ xs) xs ≡ pick b (x ∷ []) [] ++ xs
    by true x xs = refl
    by false x xs = refl

-- The mark in a record says whether its leaf is a point.
marked : (b : Bool) (x : List (List ℕ)) → pick (eqb (bit b) 1) x [] ≡ pick b x []
marked true x = refl
marked false x = refl

-- THE POINTS, ONE AFTER THE OTHER

-- What stands behind so many.
behind : {A : Type 0} (xs ys : List A) (d : A) (n j : ℕ) → length xs ≡ n → get_or (xs ++ ys) (n + j) d ≡ get_or ys j d
behind xs ys d n j e = subst (λ (m : ℕ). get_or (xs ++ ys) (m + j) d ≡ get_or ys j d) e (get_or-append-add xs ys j d)

-- Some leaves of a table, and those after them.
leaves_join : (t : Table) (k m n : ℕ) → leaves_from t k (m + n) ≡ leaves_from t k m ++ leaves_from t (k + m) n
leaves_join t k zero n = let z : k + 0 ≡ k = omega arith in let y : 0 + n ≡ n = omega arith in rw (z, y) refl
leaves_join t k (suc m) n =
    let z : suc m + n ≡ suc (m + n) = omega arith in
    let y : k + suc m ≡ k + 1 + m = omega arith in
    rw (z, y) (ap (λ (u : List Leaf). leaf_of t k ∷ u) (leaves_join t (k + 1) m n))

-- Consider a plan, and a column.
module _ (p : Plan) (c : List ℕ) where
  -- The points among leaves of the plan's table that are a function's.
  points_from : (l : Lines) (vs : List Leveled) (k : ℕ) →
      ((j : ℕ) → j < length vs → leaf_points (k + j) (leaf_of (table_of p) (k + j)) (get_or c (k + j) 0) ≡ point_of p l (get_or vs j no_leaf)) →
      leaves_points c k (leaves_from (table_of p) k (length vs)) ≡ points_of p l vs
  unfolding leaves_points
  points_from l [] k h = sym (none p l)
  points_from l (v ∷ vs) k h =
      let z : k + 0 ≡ k = omega arith in
      let first : leaf_points k (leaf_of (table_of p) k) (get_or c k 0) ≡ point_of p l v = rw z at (h 0 (omega arith)) in
      rw (
        first,
        points_from l vs (k + 1) (λ j lt. let z : k + 1 + j ≡ k + suc j = omega arith in rw z (h (suc j) (omega arith))),
        first_point p l v vs,
      )

  -- From leaf number k on the leaves of the table are those of the functions, with their stretches in the column.
  abbrev Shown : ℕ → List Lines → Type 0
  Shown k ls =
      (j : ℕ) → j < sizes ls → leaf_points (k + j) (leaf_of (table_of p) (k + j)) (get_or c (k + j) 0) ≡
      shown (get_or (leveled_leaves ls) j no_leaf) (get_or (all_tails (tallies C [] p.functions) ls) j 0) (get_or (map (stretch_of p) (all_leaves ls)) j 0)

  -- So those of the first function are its own, and behind them are those of the others.
  shown_first : (l : Lines) (ls : List Lines) (k : ℕ) → Shown k (l ∷ ls) →
      (j : ℕ) → j < size l → leaf_points (k + j) (leaf_of (table_of p) (k + j)) (get_or c (k + j) 0) ≡ point_of p l (get_or (own_levels 1 l) j no_leaf)
  unfolding sizes leveled_leaves all_tails all_leaves
  shown_first l ls k h j lt =
      let g : Block → ℕ = λ b. tail (tallies C [] p.functions) b.number l 0 in
      h j (omega arith) ∙ (rw (
        get_or-append (own_levels 1 l) (leveled_leaves ls) no_leaf j (omega (arith, own_size l)),
        get_or-append (map g (leaves l)) (all_tails (tallies C [] p.functions) ls) 0 j (omega (arith, length-map (leaves l) g, leaves_size l)),
        map-append (stretch_of p) (leaves l) (all_leaves ls),
        get_or-append (map (stretch_of p) (leaves l)) (map (stretch_of p) (all_leaves ls)) 0 j
            (omega (arith, length-map (leaves l) (stretch_of p), leaves_size l)),
        own_number g l j lt,
        own_number (stretch_of p) l j lt,
      ) refl)

  shown_later : (l : Lines) (ls : List Lines) (k : ℕ) → Shown k (l ∷ ls) → Shown (k + size l) ls
  unfolding sizes leveled_leaves all_tails all_leaves
  shown_later l ls k h j lt =
      let g : Block → ℕ = λ b. tail (tallies C [] p.functions) b.number l 0 in
      let e : k + size l + j ≡ k + (size l + j) = omega arith in
      rw e (h (size l + j) (omega arith) ∙ rw (
        map-append (stretch_of p) (leaves l) (all_leaves ls),
        behind (own_levels 1 l) (leveled_leaves ls) no_leaf (size l) j (own_size l),
        behind (map g (leaves l)) (all_tails (tallies C [] p.functions) ls) 0 (size l) j (length-map (leaves l) g ∙ leaves_size l),
        behind (map (stretch_of p) (leaves l)) (map (stretch_of p) (all_leaves ls)) 0 (size l) j (length-map (leaves l) (stretch_of p) ∙ leaves_size l),
      ))

  -- The points of all functions.
  all_from : (ls : List Lines) (k : ℕ) → Shown k ls → leaves_points c k (leaves_from (table_of p) k (sizes ls)) ≡ all_points p ls
  unfolding sizes all_points leaves_points
  all_from [] k h = refl
  all_from (l ∷ ls) k h =
      let us = leaves_from (table_of p) k (size l) in
      let e : k + length us ≡ k + size l = omega (arith, length_leaves (table_of p) k (size l)) in
      let first : leaves_points c k us ≡ points_of p l (own_levels 1 l) =
      rw (own_size l) at (points_from l (own_levels 1 l) k (λ j lt. shown_first l ls k h j (omega (arith, own_size l)))) in
      rw (
        leaves_join (table_of p) k (size l) (sizes ls),
        points_append c k us (leaves_from (table_of p) (k + size l) (sizes ls)),
        first,
        e,
        all_from ls (k + size l) (shown_later l ls k h),
      )

-- HOW MANY, AND HOW MANY NUMBERS OF EACH

-- At most one for each leaf, each with four numbers.
few_of : (p : Plan) (l : Lines) (vs : List Leveled) → (length (points_of p l vs) ≤ length vs) × Each Four (points_of p l vs)
unfolding points_of Each
few_of p l [] = (omega arith, tt)
few_of p l (v ∷ vs) = by v.block.point (points_of p l vs) (few_of p l vs)
  where
    by : (b : Bool) (xs : List (List ℕ)) → (length xs ≤ length vs) × Each Four xs →
        (length (pick b (point_numbers p l v ∷ xs) xs) ≤ suc (length vs)) × Each Four (pick b (point_numbers p l v ∷ xs) xs)
    by true xs (h, f) = (omega arith, (refl, f))
    by false xs (h, f) = (omega arith, f)

pub few_all : (p : Plan) (ls : List Lines) → (length (all_points p ls) ≤ sizes ls) × Each Four (all_points p ls)
unfolding all_points sizes
few_all p [] = (omega arith, unfold Each in tt)
few_all p (l ∷ ls) =
    let xs = points_of p l (own_levels 1 l) in
    let (h, f) = few_of p l (own_levels 1 l) in
    let (k, g) = few_all p ls in
    (omega (arith, h, k, own_size l, length-append xs (all_points p ls)), each_append Four xs (all_points p ls) f g)

-- So a text has at most 512; a refused one has none.
pub few_of_text : (text : List ℕ) → (length (outcome_points (verdict 512 text)) ≤ 512) × Each Four (outcome_points (verdict 512 text))
few_of_text text = by (verdict 512 text) (λ p e. ((read_as_plan 512 text p).0 e).1.formed)
  where
    by : (o : Outcome) → ((p : Plan) → o ≡ plan p → Formed p) → (length (outcome_points o) ≤ 512) × Each Four (outcome_points o)
    by (plan p) f = let (h, g) = few_all p p.functions in (omega (arith, h, (f p refl).few_leaves), g)
    by (refused k j) f = (omega arith, unfold Each in tt)

-- FROM THE LENT MEMORY

-- The numbers of the task in five places: U is 0 in edition 1.
task_stored : (p : Plan) → padded 5 (task_numbers p) ≡ total C (main p) ∷ total M (main p) ∷ p.deadline ∷ p.switch ∷ resume_cost p.edition ∷ []
task_stored p = by p.edition
  where
    by : (e : Edition) → padded 5 (total C (main p) ∷ total M (main p) ∷ p.deadline ∷ p.switch ∷ resume_numbers e) ≡
        total C (main p) ∷ total M (main p) ∷ p.deadline ∷ p.switch ∷ resume_cost e ∷ []
    by First = refl
    by (Second u) = refl

-- The leaves of the table of a plan are the plan's, with their stretches in a column that begins with them.
module _ (p : Plan) (f : Formed p) (c : List ℕ) (stretched : take (sizes p.functions) c ≡ map (stretch_of p) (all_leaves p.functions)) where
  plan_shown : Shown p c 0 p.functions
  plan_shown j lt =
      let (number, shows) = row_leaf p f j lt in
      let z : 0 + j ≡ j = omega arith in
      let own : get_or c j 0 ≡ get_or (map (stretch_of p) (all_leaves p.functions)) j 0 =
      sym (get_or-take (sizes p.functions) c j 0 lt) ∙ ap (λ (u : List ℕ). get_or u j 0) stretched in
      rw (z, own, shows.point, shows.level, number) (marked (get_or (leveled_leaves p.functions) j no_leaf).block.point _)

  plan_collected : (row : List Leaf) → leaves_points c 0 (take (sizes p.functions) (row_after (plan p) row)) ≡ points p
  plan_collected row =
      let n = sizes p.functions in
      ap (leaves_points c 0) (take_at (leaves_from (table_of p) 0 n) (drop n row) n (length_leaves (table_of p) 0 n)) ∙ all_from p c p.functions 0 plan_shown

-- Consider the row as `read` leaves it.
module _ {text : List ℕ} {h : Head} (r : Read text h) (row : List Leaf) {read : List Leaf} (left : read ≡ row_after (verdict 512 text) row) where
  -- The numbers that were collected there, with a column that begins with the stretches of the plan's leaves, are those of the plan.
  module _ (c : List ℕ) (stretched : take (sizes r.of.functions) c ≡ map (stretch_of r.of) (all_leaves r.of.functions)) {l m : List (List ℕ)} {count : ℕ}
      (g : Collected l (leaves_points c 0 (take h.leaves read)) m count)
    where
      all : leaves_points c 0 (take h.leaves read) ≡ points r.of
      all = rw (left, r.is, r.head) (plan_collected r.of r.accepted.formed c stretched row)

      pub collected_summary : {n : ℕ} {e : Edition} → e ≡ edition_of h.edition h.resume → n ≡ 4 + length (resume_numbers e) →
          Ok (record { task = h.total ∷ h.max_load_total ∷ h.deadline ∷ h.switch ∷ h.resume ∷ []; task_count = n; count = count }) ≡ summary_of (verdict 512 text)
      collected_summary {n} s t =
          let many : n ≡ length (task_numbers r.of) = omega (arith, t, ap (λ (x : Edition). length (resume_numbers x)) (s ∙ edition_said h r.of r.head)) in
          rw (r.is, many, g.counted, all, r.head, task_stored r.of) refl

      pub collected_points : m ≡ sets l 0 (outcome_points (verdict 512 text))
      collected_points = g.stored ∙ rw (all, r.is) refl
