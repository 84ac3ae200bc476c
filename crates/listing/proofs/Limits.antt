-- The numbers that are listed of an accepted plan are small: a leaf number is below 512, a level at most 32, T and U at most 2^20, and any other at
-- most 2^40.
-- Assumes nothing.
use mathlib.Core.Bool.{Bool, true, false}
use mathlib.Core.List.{List, [], ◌∷◌, ◌++◌}
use mathlib.Core.Path.{◌≡◌, refl, ap}
use Prim.Native.Nat.{ℕ, suc, ◌+◌, ◌-◌, ◌^◌, ◌≤◌, ◌<◌}
use native.Mathlib.Omega.{arith}
use lib.ListN.{length, get_or, take, length-map}
use Rattle.model.specs.Plan.{Block, C, M, Lines, close, leaf_line, call_line, loop_line, if_line, resume_cost, Plan, leaves, all_leaves}
use Rattle.model.specs.declared.Edition.{Edition}
use Rattle.model.specs.Forms.{Forms, done, linked, main}
use Rattle.model.specs.Runs.{sum, cut, silent, Among, Visit}
use Rattle.model.specs.Total.{total, tallies}
use Rattle.model.specs.Stretch.{stretch}
use Rattle.model.specs.Tail.{tail}
use Rattle.model.specs.Levels.{Leveled, own_levels, height, heights}
use Rattle.model.specs.Acceptance.{Accepted}
use Rattle.model.specs.Places.{pick}
use Rattle.model.proofs.Total.{sum_append, at_most}
use Rattle.model.proofs.Limits.{short_total}
use Rattle.model.proofs.Among.{among_first, among_later, among_left, among_right}
use Rattle.model.proofs.Links.{plan_spans}
use Rattle.model.proofs.Leaves.{row_range, spans_all_row}
use Rattle.model.proofs.Statics.{plan_totals, main_last}
use Rattle.model.proofs.Theorems.{stretch_is_largest, tail_is_largest}
use Rattle.rows.specs.Plans.{lines_of}
use Rattle.rows.proofs.Plans.{function_kept}
use Rattle.columns.proofs.Known.{known_tallies, main_most}
use Rattle.table.proofs.Holding.{joined_size}
use Rattle.table.proofs.Bridge.{formed_plan}
use Rattle.listing.specs.PlanListing.{resume_numbers, task_numbers, point_numbers, points_of, all_points, points}
use Rattle.listing.proofs.Each.{Each, each_append}
use Rattle.listing.proofs.Points.{among_all}
use Rattle.listing.proofs.Stretches.{leaves_join}

-- WHAT IS SMALL

-- What is listed of a point: a leaf number below 512, a level of at most 32, a tail and a stretch of at most 2^40.
pub record PointSmall (x : List ℕ) : Type 0 where
  pub number : ℕ
  pub level : ℕ
  pub tail : ℕ
  pub stretch : ℕ
  pub is : x ≡ number ∷ level ∷ tail ∷ stretch ∷ []
  pub number_low : number < 512
  pub level_low : level ≤ 32
  pub tail_low : tail ≤ 2 ^ 40
  pub stretch_low : stretch ≤ 2 ^ 40

-- What is listed of the task: a total, a max-load total and a D of at most 2^40, a T of at most 2^20, and in edition 2 a U of at most 2^20.
pub record TaskSmall (x : List ℕ) : Type 0 where
  pub total : ℕ
  pub max_total : ℕ
  pub deadline : ℕ
  pub switch : ℕ
  pub edition : Edition
  pub is : x ≡ total ∷ max_total ∷ deadline ∷ switch ∷ resume_numbers edition
  pub total_low : total ≤ 2 ^ 40
  pub max_total_low : max_total ≤ 2 ^ 40
  pub deadline_low : deadline ≤ 2 ^ 40
  pub switch_low : switch ≤ 2 ^ 20
  pub resume_low : resume_cost edition ≤ 2 ^ 20

-- THE LEAVES OF A FUNCTION

-- Consider any P, the heights hs of the functions before one, and a greatest level m.
module _ (P : Leveled → Type 0) (hs : List ℕ) (m : ℕ) where
  -- P holds of each of these leaves at every level up to m.
  abbrev Holds : List Block → Type 0
  Holds w = (v : Leveled) → v.level ≤ m → Among v.block w → P v

  -- Then it holds of the leaves of lines that are no higher, each with its own level.
  own_each : (L : ℕ) (l : Lines) → L + height hs l ≤ suc m → Holds (leaves l) → Each P (own_levels L l)
  unfolding Each height leaves own_levels
  own_each L close h q = tt
  own_each L (leaf_line b rest) h q =
      (q _ (omega arith) (among_first b b (leaves rest) refl), own_each L rest (omega arith) (λ v k a. q v k (among_later v.block b (leaves rest) a)))
  own_each L (call_line b f rest) h q =
      (q _ (omega arith) (among_first b b (leaves rest) refl), own_each L rest (omega arith) (λ v k a. q v k (among_later v.block b (leaves rest) a)))
  own_each L (loop_line b n body rest) h q =
      let w = leaves body ++ leaves rest in
      let later : Holds w = λ v k a. q v k (among_later v.block b w a) in (
        q _ (omega arith) (among_first b b w refl),
        each_append P (own_levels (suc L) body) (own_levels L rest)
            (own_each (suc L) body (omega arith) (λ v k a. later v k (among_left v.block (leaves body) (leaves rest) a)))
            (own_each L rest (omega arith) (λ v k a. later v k (among_right v.block (leaves body) (leaves rest) a))),
      )
  own_each L (if_line b then else rest) h q =
      let u = leaves else ++ leaves rest in
      let w = leaves then ++ u in
      let later : Holds w = λ v k a. q v k (among_later v.block b w a) in
      let last : Holds u = λ v k a. later v k (among_right v.block (leaves then) u a) in (
        q _ (omega arith) (among_first b b w refl),
        each_append P (own_levels L then) (own_levels L else ++ own_levels L rest)
            (own_each L then (omega arith) (λ v k a. later v k (among_left v.block (leaves then) u a)))
            (each_append P (own_levels L else) (own_levels L rest)
            (own_each L else (omega arith) (λ v k a. last v k (among_left v.block (leaves else) (leaves rest) a)))
            (own_each L rest (omega arith) (λ v k a. last v k (among_right v.block (leaves else) (leaves rest) a)))),
      )

-- THE POINTS AMONG THEM

-- Where what is listed of each point among some leaves is small, the points among them are.
small_of : (p : Plan) (l : Lines) (vs : List Leveled) → Each (λ v. v.block.point ≡ true → PointSmall (point_numbers p l v)) vs →
    Each PointSmall (points_of p l vs)
unfolding Each points_of
small_of p l [] h = tt
small_of p l (v ∷ vs) h = by v.block.point h.0 (points_of p l vs) (small_of p l vs h.1)
  where
    by : (b : Bool) → (b ≡ true → PointSmall (point_numbers p l v)) → (xs : List (List ℕ)) → Each PointSmall xs →
        Each PointSmall (pick b (point_numbers p l v ∷ xs) xs)
    by true s xs f = (s refl, f)
    by false s xs f = f

-- Where those of each function are, all are.
small_all : (p : Plan) (ls : List Lines) →
    ((f : ℕ) → f < length ls → Each PointSmall (points_of p (get_or ls f close) (own_levels 1 (get_or ls f close)))) → Each PointSmall (all_points p ls)
unfolding all_points
small_all p [] h = unfold Each in tt
small_all p (l ∷ ls) h =
    each_append PointSmall (points_of p l (own_levels 1 l)) (all_points p ls) (h 0 (omega arith)) (small_all p ls (λ f lt. h (suc f) (omega arith)))

-- SUMS OVER A PART OF A RUN

-- The visits up to the next point cost no more than all.
silent_less : (k : Block → ℕ) (w : List Block) → sum k (silent w) ≤ sum k w
unfolding sum silent
silent_less k [] = omega arith
silent_less k (b ∷ w) = by b.point (silent_less k w)
  where
    by : (c : Bool) → sum k (silent w) ≤ sum k w → sum k (cut c (b ∷ silent w)) ≤ k b + sum k w
    by true h = omega arith
    by false h = omega arith

-- The visits of a run from one of them on cost no more than the total.
from_less : (k : Block → ℕ) {fs : Forms} (v : Visit fs) → sum k (v.block ∷ v.behind) ≤ total k fs
from_less k v = omega (arith, at_most k v.run, ap (sum k) v.split, sum_append k v.before (v.block ∷ v.behind))

-- THE NUMBERS OF A POINT

module _ (p : Plan) (a : Accepted p) where
  -- The total of a function is at most 2^40: since each is called, none has a larger total than the main one.
  function_low : (f : ℕ) → f < length p.functions → total C (get_or (linked [] p.functions) f done) ≤ 2 ^ 40
  function_low f lt =
      let q = (formed_plan p a.formed).0 in
      let last = length p.functions - 1 in
      let e = known_tallies C (lines_of q) p.functions (λ g i. refl) in
      omega (
        arith,
        main_most C q a.called (length p.functions) f (omega arith) lt,
        ap (λ (ts : List ℕ). get_or ts f 0) e,
        ap (λ (ts : List ℕ). get_or ts last 0) e,
        plan_totals C p f lt,
        plan_totals C p last (omega arith),
        ap (total C) (main_last p),
        (short_total C (main p) (2 ^ 40)).0 a.short,
      )

  -- So is a tail, a sum over a part of a run of its function.
  tail_small : (f : ℕ) → f < length p.functions → (b : Block) → Among b (leaves (get_or p.functions f close)) →
      tail (tallies C [] p.functions) b.number (get_or p.functions f close) 0 ≤ 2 ^ 40
  tail_small f lt b m = let (v, e) = (tail_is_largest p a f lt b m).met in omega (arith, e, from_less C v.at, function_low f lt)

  -- So is a stretch of a point, a sum over a part of a run of the plan.
  stretch_small : (b : Block) → Among b (all_leaves p.functions) → b.point ≡ true → stretch M b.number (main p) 0 ≤ 2 ^ 40
  unfolding sum
  stretch_small b m k =
      let (v, e) = (stretch_is_largest p a b m k).met in
      omega (arith, e, silent_less M v.at.behind, from_less M v.at, (short_total M (main p) (2 ^ 40)).0 a.short_loaded)

  -- A leaf number is below the number of leaves, of which there are at most 512.
  number_small : (b : Block) → Among b (all_leaves p.functions) → b.number < 512
  number_small b m =
      omega (
        arith,
        row_range 0 (all_leaves p.functions) (spans_all_row p.functions 0 (plan_spans p a.formed)) b m,
        length-map (all_leaves p.functions) M,
        joined_size (leaves_join M) p.functions,
        a.formed.few_leaves,
      )

  -- What is listed of the points of a function is small.
  function_small : (f : ℕ) → f < length p.functions →
      Each PointSmall (points_of p (get_or p.functions f close) (own_levels 1 (get_or p.functions f close)))
  function_small f lt =
      let l = get_or p.functions f close in
      let kept = function_kept p.functions [] 0 f a.formed.each lt in
      small_of p l (own_levels 1 l)
      (own_each (λ v. v.block.point ≡ true → PointSmall (point_numbers p l v)) (heights [] (take f p.functions)) 32 1 l (omega (arith, kept.levels))
      (λ v low m k.
      let among = among_all p.functions f lt v.block m in
      record {
        number = v.block.number;
        level = v.level;
        tail = tail (tallies C [] p.functions) v.block.number l 0;
        stretch = stretch M v.block.number (main p) 0;
        is = refl;
        number_low = number_small v.block among;
        level_low = low;
        tail_low = tail_small f lt v.block m;
        stretch_low = stretch_small v.block among k;
      }))

-- THE NUMBERS OF A PLAN

-- The points of an accepted plan are so.
pub points_small : (p : Plan) → Accepted p → Each PointSmall (points p)
points_small p a = small_all p p.functions (function_small p a)

-- Its total, its max-load total and D are at most 2^40, T and U at most 2^20.
pub task_small : (p : Plan) → Accepted p → TaskSmall (task_numbers p)
task_small p a =
    record {
      total = total C (main p);
      max_total = total M (main p);
      deadline = p.deadline;
      switch = p.switch;
      edition = p.edition;
      is = refl;
      total_low = (short_total C (main p) (2 ^ 40)).0 a.short;
      max_total_low = (short_total M (main p) (2 ^ 40)).0 a.short_loaded;
      deadline_low = a.formed.deadline_high;
      switch_low = a.formed.switch_range;
      resume_low = a.formed.resume_range;
    }
