-- Whether an open release is good, by the tests that the code makes: its place, the zeros above its level, and its remaining times. Assumes nothing.
use mathlib.Core.Bool.{Bool, true, false}
use mathlib.Core.List.{List, [], ◌∷◌}
use mathlib.Core.Option.{some}
use mathlib.Core.Path.{◌≡◌, ap, sym, ◌∙◌}
use Prim.Native.Nat.{ℕ, ◌-◌, ◌≤◌, ◌<◌}
use native.Mathlib.Omega.{arith}
use lib.ListN.{length, get_or}
use Rattle.model.specs.Plan.{C, Plan}
use Rattle.model.specs.Forms.{done, main}
use Rattle.model.specs.Total.{total}
use Rattle.model.specs.Levels.{Frame}
use Rattle.model.specs.Acceptance.{Accepted}
use Rattle.model.specs.Stack.{Levels, decode, times}
use Rattle.model.proofs.OneStack.{decode_length}
use Rattle.model.proofs.Heights.{levels_low}
use Rattle.model.proofs.Decoded.{known_plan}
use Rattle.model.proofs.Points.{AllPoints}
use Rattle.model.proofs.Reachable.{stack_stands}
use Rattle.model.proofs.Statics.{main_last}
use Rattle.rows.specs.Answers.{Says}
use Rattle.place.specs.Stack.{FunctionTable, Decodes}
use Rattle.place.specs.Times.{TimesAt, CostedStack}
use Rattle.rows.specs.Plans.{PlanIn}
use Rattle.place.specs.Plans.{PlanColumns}
use Rattle.place.proofs.Tables.{table_of}
use Rattle.place.proofs.Entries.{all_times, times_above}
use Rattle.place.proofs.Meaning.{by_table, marks, points, costed, times_ok_is}
use Rattle.control.specs.declared.OpenRelease.{OpenRelease}
use Rattle.control.specs.State.{stack_of, levels_of, timed, standing}
use Rattle.control.specs.Private.{GoodState}
use Rattle.control.proofs.Arrays.{length_frames}
use Rattle.control.proofs.Places.{points_all, all_points}
use Rattle.control.proofs.Alike.{timed_some, timed_same, levels_inner, levels_some}
use Rattle.control.proofs.Good.{stands_times, release_stands}

module _ (p : Plan) (a : Accepted p) (o : OpenRelease) where
  -- A good release stands as deep as its level, at no more than 32 levels.
  levels_depth : (ss : List Frame) (ls : Levels) → levels_of p ss ≡ some ls → length ls ≡ length ss
  levels_depth [] ls e = let z : [] ≡ ls = cc in ap length (sym z)
  levels_depth (f ∷ fs) ls e = omega (arith, decode_length (main p) [] (f ∷ fs) ls (levels_inner p a f fs ls e).1)

  levels_few : (ss : List Frame) (ls : Levels) → levels_of p ss ≡ some ls → length ls ≤ 32
  levels_few [] ls e = let z : [] ≡ ls = cc in omega (arith, ap length (sym z))
  levels_few (f ∷ fs) ls e =
      let (x, d) = levels_inner p a f fs ls e in
      let (r, i) = stack_stands p a (f ∷ fs) ls d (points_all p (f ∷ fs) x) in
      let k = known_plan p a r in
      let z : some k.ls ≡ some ls = sym k.decoded ∙ (ap (decode (main p) []) i ∙ d) in
      let y : k.ls ≡ ls = cc in
      omega (arith, ap length y, k.depth, levels_low p a.formed r.run r.last (r.before, r.behind, r.split))

  at_levels : (ls : Levels) → standing p o ≡ some ls → levels_of p (stack_of o) ≡ some ls
  at_levels ls e = timed_some p a o (levels_of p (stack_of o)) ls e

  pub stands_depth : (ls : Levels) → standing p o ≡ some ls → length ls ≡ o.place.level
  stands_depth ls e = levels_depth (stack_of o) ls (at_levels ls e) ∙ length_frames o.place.leaves o.place.earlier 1 o.place.level

  pub stands_few : (ls : Levels) → standing p o ≡ some ls → o.place.level ≤ 32
  stands_few ls e = omega (arith, stands_depth ls e, levels_few (stack_of o) ls (at_levels ls e))

  -- Where it was not released only, its stack decodes and its leaves are points.
  levels_decode : (ss : List Frame) (ls : Levels) → 1 ≤ length ss → levels_of p ss ≡ some ls → (decode (main p) [] ss ≡ some ls) × AllPoints p ss
  levels_decode [] ls h e = absurd (omega arith)
  levels_decode (f ∷ fs) ls h e = let (x, d) = levels_inner p a f fs ls e in (d, points_all p (f ∷ fs) x)

  pub stands_decode : (ls : Levels) → 1 ≤ o.place.level → standing p o ≡ some ls → (decode (main p) [] (stack_of o) ≡ some ls) × AllPoints p (stack_of o)
  stands_decode ls h e = levels_decode (stack_of o) ls (omega (arith, length_frames o.place.leaves o.place.earlier 1 o.place.level)) (at_levels ls e)

  -- AT THE RELEASE

  pub release_wrong : (get_or o.times 0 0 ≡ total C (main p) → ⊥) → GoodState p o → ⊥
  release_wrong h (ls, e) = h (ap (λ ts. get_or ts 0 0) (stands_times p a o ls e))

  pub release_right : o.place.level ≡ 0 → length o.times ≡ 33 → get_or o.times 0 0 ≡ total C (main p) → ((k : ℕ) → 0 < k → get_or o.times k 0 ≡ 0) → GoodState p o
  unfolding TimesAt
  release_right z n t h = ([], release_stands p a o z (all_times (main p) o.times [] n (omega arith) t h))

  -- Numbers above the level.
  pub above_wrong : {l : ℕ} → l ≡ o.place.level → (((k : ℕ) → l < k → get_or o.times k 0 ≡ 0) → ⊥) → GoodState p o → ⊥
  above_wrong z h (ls, e) =
      h (λ k lt. ap (λ ts. get_or ts k 0) (stands_times p a o ls e) ∙ times_above (main p) ls k (omega (arith, stands_depth ls e)))

-- AT A REPORT

-- The release's place is one of the plan.
pub record Located (p : Plan) (o : OpenRelease) : Type 0 where
  pub levels : Levels
  pub least : 1 ≤ o.place.level
  pub most : o.place.level ≤ 32
  pub decodes : decode (main p) [] (stack_of o) ≡ some levels
  leaves_are : AllPoints p (stack_of o)
  pub stands_at : levels_of p (stack_of o) ≡ some levels

module _ {w starts : List ℕ} (p : Plan) (a : Accepted p) (d : PlanIn w starts p) (o : OpenRelease) where
  abbrev Judges : Bool → Type 0
  Judges r = (t : FunctionTable w starts (length p.functions)) → Says r (Decodes w (get_or t.funs (length p.functions - 1) done) o.place.leaves o.place.earlier o.place.level)

  pub place_right : Judges true → Located p o
  place_right e =
      let q = e (table_of p a d) in
      let h : decode (main p) [] (stack_of o) ≡ some q.levels = ap (λ f. decode f [] (stack_of o)) (main_last p) ∙ q.decodes in
      let u = points p a d o.place.leaves o.place.earlier o.place.level q.levels q.least h q.marked in
      record {
        levels = q.levels;
        least = q.least;
        most = q.most;
        decodes = h;
        leaves_are = u;
        stands_at = levels_some p a (stack_of o) q.levels (all_points p (stack_of o) u) h;
      }

  pub place_wrong : 1 ≤ o.place.level → Judges false → GoodState p o → ⊥
  place_wrong one e (ls, z) =
      let (h, u) = stands_decode p a o ls one z in
      e (table_of p a d) (record {
        least = one;
        most = stands_few p a o ls z;
        levels = ls;
        decodes = by_table p a d o.place.leaves o.place.earlier o.place.level ls one h;
        marked = marks p a d o.place.leaves o.place.earlier o.place.level ls one h u;
      })

  module _ {tails turns totals : List ℕ} (c : PlanColumns p tails turns totals) (k : Located p o) where
    pub costed_at : CostedStack w tails turns totals o.place.leaves o.place.earlier (length p.functions) o.place.level
    costed_at = costed p a d o.place.leaves o.place.earlier o.place.level k.levels k.least k.decodes k.leaves_are c

    -- Its times, where those above its level are 0.
    pub times_judged : length o.times ≡ 33 → ((j : ℕ) → o.place.level < j → get_or o.times j 0 ≡ 0) → (r : Bool) →
        ((q : CostedStack w tails turns totals o.place.leaves o.place.earlier (length p.functions) o.place.level) →
        Says r (TimesAt (get_or q.decoded.table.funs (length p.functions - 1) done) o.times q.decoded.levels)) → Says r (GoodState p o)
    times_judged n above r e = by r (times_ok_is p a d o.place.leaves o.place.earlier o.place.level k.levels k.least k.decodes k.leaves_are c k.most o.times n above r e)
      where
        by : (r : Bool) → Says r (o.times ≡ times (main p) k.levels) → Says r (GoodState p o)
        by true t = (k.levels, ap (timed p o) k.stands_at ∙ timed_same p a o k.levels t)
        by false t = λ (ls, z).
            let y : some ls ≡ some k.levels = sym (at_levels p a o ls z) ∙ k.stands_at in
            let x : ls ≡ k.levels = cc in
            t (stands_times p a o ls z ∙ ap (times (main p)) x)
