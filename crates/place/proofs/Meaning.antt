-- What the contracts mean for an accepted plan, in the model's words: for any accepted plan p whose functions lie in the row w, with bounds in starts.
-- Each statement takes what a function ensures (its contract, at results named r, moved and new), and says what that is for p.
-- Assumes nothing.
use mathlib.Core.Bool.{Bool, true, false}
use mathlib.Core.List.{List, []}
use mathlib.Core.Option.{some}
use mathlib.Core.Path.{◌≡◌, sym, ap, ◌∙◌, subst}
use Prim.Native.Nat.{ℕ, ◌-◌, ◌≤◌, ◌<◌}
use native.Mathlib.Omega.{arith}
use lib.ListN.{length, get_or}
use Rattle.model.specs.Plan.{Plan}
use Rattle.model.specs.Forms.{Forms, done, linked, main}
use Rattle.model.specs.Levels.{Standing, so_far, stack}
use Rattle.model.specs.Acceptance.{Accepted}
use Rattle.model.specs.Places.{seek}
use Rattle.model.specs.Stack.{Levels, onto, seek_at, onward_at, decode, times}
use Rattle.model.proofs.Points.{AllPoints}
use Rattle.model.proofs.Statics.{main_last}
use Rattle.model.proofs.Theorems.{standing_has_stack, stack_is_of_points, stack_has_run}
use Rattle.rows.specs.Rows.{point_at}
use Rattle.rows.specs.Answers.{Says}
use Rattle.rows.specs.Plans.{PlanIn}
use Rattle.rows.proofs.Plans.{bound_in}
use Rattle.place.specs.declared.Place.{Place}
use Rattle.place.specs.Stack.{FunctionTable, Decoded, Decodes, NextStack, frames}
use Rattle.place.specs.Times.{TimesAt, CostedStack, Clocked, outer_levels}
use Rattle.place.specs.Plans.{PlanColumns}
use Rattle.place.proofs.Views.{leaf_low}
use Rattle.place.proofs.Decode.{levels_stand}
use Rattle.place.proofs.Tables.{table_of, columns_of}
use Rattle.place.proofs.Points.{mark_point, point_mark, all_points, each_point}
use Rattle.place.proofs.Entries.{all_times, times_are}
use Rattle.place.proofs.Carrying.{seek_times, onward_times}

-- Where the old times are the model's, they are right up to the level below the new place's: at a first report, and behind a report.
pub first_times : (p : Plan) (x : ℕ) (ls : Levels) (old : List ℕ) → seek_at (main p) [] x ≡ some ls → old ≡ times (main p) [] → TimesAt (main p) old (outer_levels ls)
first_times p x ls old e z = seek_times (main p) old (main p) [] x ls e (times_are (main p) old [] z)

pub later_times : (p : Plan) (x : ℕ) (ks ls : Levels) (old : List ℕ) → onward_at ks x ≡ some ls → old ≡ times (main p) ks → TimesAt (main p) old (outer_levels ls)
later_times p x ks ls old e z = onward_times (main p) old ks x ls e (times_are (main p) old ks z)

module _ {w starts : List ℕ} (p : Plan) (a : Accepted p) (d : PlanIn w starts p) where
  abbrev pub count : ℕ
  count = length p.functions

  -- Where the stack of l levels decodes to ls, its leaves are marked as points exactly when they are points of the plan.
  module _ (leaves counts : List ℕ) (l : ℕ) (ls : Levels) (one : 1 ≤ l) (h : decode (main p) [] (frames leaves counts 1 l) ≡ some ls) where
    pub by_table : decode (get_or (linked [] p.functions) (count - 1) done) [] (frames leaves counts 1 l) ≡ some ls
    by_table = ap (λ (f : Forms). decode f [] (frames leaves counts 1 l)) (sym (main_last p)) ∙ h

    leaf_in : (k : ℕ) → 1 ≤ k → k ≤ l → get_or leaves k 0 < get_or starts count 0
    leaf_in k lo hi =
        let (st, e) = levels_stand (get_or (linked [] p.functions) (count - 1) done) leaves counts l ls one by_table in
        leaf_low (table_of p a d) (get_or starts count 0) (bound_in d) leaves counts ls st k lo (omega (arith, e))

    pub depth_is : length ls ≡ l
    depth_is = (levels_stand (get_or (linked [] p.functions) (count - 1) done) leaves counts l ls one by_table).1

    pub marks : AllPoints p (frames leaves counts 1 l) → (k : ℕ) → 1 ≤ k → k ≤ l → point_at w (get_or leaves k 0) ≡ 1
    marks u k lo hi = point_mark p a d (get_or leaves k 0) (leaf_in k lo hi) (each_point p leaves counts 1 l u k lo (omega arith))

    pub points : ((k : ℕ) → 1 ≤ k → k ≤ l → point_at w (get_or leaves k 0) ≡ 1) → AllPoints p (frames leaves counts 1 l)
    points m = all_points p leaves counts 1 l (λ j lo hi. mark_point p a d (get_or leaves j 0) (leaf_in j lo (omega arith)) (m j lo (omega arith)))

    -- Such a stack is what the functions ask for.
    module _ (u : AllPoints p (frames leaves counts 1 l)) where
      abbrev pub decoded : Decoded w starts count leaves counts l
      decoded = record { table = table_of p a d; levels = ls; decodes = by_table; marked = marks u }

      -- `advance`: the new stack decodes to the model's next place, `onward_at ls x`; or there is none, and the place is as it was.
      pub next_place_is : (old : Place) (x : ℕ) (moved : Bool) (new : Place) →
          ((q : Decoded w starts count leaves counts l) → NextStack w (get_or q.table.funs (count - 1) done) (onward_at q.levels x) old x moved new) →
          NextStack w (main p) (onward_at ls x) old x moved new
      next_place_is old x moved new e = rw (main_last p) (e decoded)

      module _ {tails turns totals : List ℕ} (c : PlanColumns p tails turns totals) where
        abbrev pub costed : CostedStack w tails turns totals leaves counts count l
        costed = record { starts = starts; decoded = decoded; columns = columns_of p a d c }

        abbrev pub clocked : {old : List ℕ} → TimesAt (main p) old (outer_levels ls) → Clocked w tails turns totals leaves counts l old
        clocked {old} t = record { n = count; costed = costed; lower = rw (sym (main_last p)) t }

        -- `keep_time`, where the old times are right up to the level below: all 33 are the model's.
        pub next_times_are : l ≤ 32 → (old new : List ℕ) → TimesAt (main p) old (outer_levels ls) → length new ≡ 33 →
            ((q : Clocked w tails turns totals leaves counts l old) → TimesAt (get_or q.costed.decoded.table.funs (q.n - 1) done) new q.costed.decoded.levels) →
            ((k : ℕ) → l < k → get_or new k 0 ≡ 0) → new ≡ times (main p) ls
        next_times_are most old new t e h z =
            all_times (main p) new ls e (omega (arith, depth_is)) (rw (main_last p) (h (clocked {old = old} t))) (λ k lt. z k (omega (arith, depth_is)))

        -- `times_ok`, where the times above the place's level are 0: all 33 are the model's, or not.
        pub times_ok_is : l ≤ 32 → (ts : List ℕ) → length ts ≡ 33 → ((k : ℕ) → l < k → get_or ts k 0 ≡ 0) → (r : Bool) →
            ((q : CostedStack w tails turns totals leaves counts count l) → Says r (TimesAt (get_or q.decoded.table.funs (count - 1) done) ts q.decoded.levels)) →
            Says r (ts ≡ times (main p) ls)
        times_ok_is most ts e above true h = all_times (main p) ts ls e (omega (arith, depth_is)) (rw (main_last p) (h costed)) (λ k lt. above k (omega (arith, depth_is)))
        times_ok_is most ts e above false h = λ z. h costed (rw (sym (main_last p)) (times_are (main p) ts ls z))

  -- `begin`: the new stack decodes to the model's first place, `seek_at (main p) [] x`; or there is none, and the place is as it was.
  pub first_place_is : (old : Place) (x : ℕ) (moved : Bool) (new : Place) →
      ((t : FunctionTable w starts count) → NextStack w (get_or t.funs (count - 1) done) (onto [] (seek (get_or t.funs (count - 1) done) x)) old x moved new) →
      NextStack w (main p) (seek_at (main p) [] x) old x moved new
  unfolding seek_at
  first_place_is old x moved new e = rw (main_last p) (e (table_of p a d))

  -- `place_ok`: whether some run of the plan stands at exactly this stack.
  pub place_ok_is : (leaves counts : List ℕ) (l : ℕ) (r : Bool) → ((t : FunctionTable w starts count) → Says r (Decodes w (get_or t.funs (count - 1) done) leaves counts l)) →
      Says r ((1 ≤ l) × (l ≤ 32) × ((s : Standing (main p)) × (stack [] (so_far s) ≡ frames leaves counts 1 l)))
  place_ok_is leaves counts l true e =
      let q = e (table_of p a d) in
      let h : decode (main p) [] (frames leaves counts 1 l) ≡ some q.levels = ap (λ (f : Forms). decode f [] (frames leaves counts 1 l)) (main_last p) ∙ q.decodes in
      (q.least, q.most, stack_has_run p a (frames leaves counts 1 l) q.levels h (points leaves counts l q.levels q.least h q.marked))
  place_ok_is leaves counts l false e = λ (lo, hi, (s, z)).
      let k = standing_has_stack p a s in
      let h : decode (main p) [] (frames leaves counts 1 l) ≡ some k.ls = ap (decode (main p) []) (sym z) ∙ k.decoded in
      let u : AllPoints p (frames leaves counts 1 l) = subst (AllPoints p) z (stack_is_of_points p s) in
      e (table_of p a d) (record {
        least = lo;
        most = hi;
        levels = k.ls;
        decodes = by_table leaves counts l k.ls lo h;
        marked = marks leaves counts l k.ls lo h u;
      })
