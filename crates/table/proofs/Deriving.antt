-- The numbers that `measure` and `tails` compute from a row are those of the plan's table, by one law over the cost.
-- Assumes nothing.
use Rattle.std.specs.Prelude.{Some}
use mathlib.Core.Bool.{Bool, true, false, ◌&&◌}
use mathlib.Core.List.{List, [], ◌∷◌, ◌++◌, map}
use mathlib.Core.Path.{◌≡◌, refl, sym, ap, ◌∙◌, subst}
use Prim.Native.Nat.{ℕ, ◌+◌, ◌-◌, ◌^◌, ◌≤◌, ◌<◌}
use native.Mathlib.Decide.{dec_lt}
use native.Mathlib.Omega.{arith}
use lib.Dec.{leb}
use lib.ListN.{length, get_or, take, length-append, length-map, get_or-eq_default}
use lib.Seq.{ext_get_or}
use borrow.Author.Tests.{le-leb, lt-leb}
use Rattle.model.specs.declared.Edition.TheVariants.{First}
use Rattle.model.specs.Plan.{Block, C, M, Lines, close, leaf_line, call_line, loop_line, if_line, Plan, leaves}
use Rattle.model.specs.Forms.{main}
use Rattle.model.specs.Total.{total, tally, tallies}
use Rattle.model.specs.Tail.{tail}
use Rattle.model.specs.Acceptance.{size, sizes, Formed}
use Rattle.model.proofs.Statics.{plan_totals, main_last}
use Rattle.model.proofs.Targets.{Turning, plan_turning}
use Rattle.reader.specs.Raw.{padded}
use Rattle.reader.proofs.Tasks.{length_padded, padded_same}
use Rattle.rows.specs.Plans.{PlanOf, lines_of}
use Rattle.structure.specs.Plans.{Structured}
use Rattle.rows.specs.Turns.{turns_in}
use Rattle.rows.proofs.Plans.{plan_rep, plan_own}
use Rattle.rows.specs.Costs.{limit}
use Rattle.columns.specs.Sums.{cap}
use Rattle.columns.specs.Columns.{column_of, held_turn, turns, Contains}
use Rattle.columns.specs.Whole.{Measured, Summed, tails_written}
use Rattle.columns.proofs.Capped.{cap_low}
use Rattle.columns.proofs.Sizes.{round_le}
use Rattle.columns.proofs.Functions.{tally_same, turns_same}
use Rattle.columns.proofs.Known.{Agree}
use Rattle.columns.proofs.Reading.{length_tails}
use Rattle.columns.proofs.Meaning.{measured_totals, totals_summed, sums_known, plan_below, tail_entry}
use Rattle.table.specs.declared.Derived.{Derived}
use Rattle.table.specs.Table.{all_turns, all_tails}
use Rattle.table.specs.Accepting.{short?}
use Rattle.table.specs.Private.{Derives}
use Rattle.table.proofs.Holding.{leaves_size, leaves_hold, Joins, joined_take}

-- TURNS

-- One number for each leaf.
turns_size : (k : Block → ℕ) (ts : List ℕ) (l : Lines) → length (turns_in k ts l) ≡ size l
unfolding turns_in size
turns_size k ts close = refl
turns_size k ts (leaf_line b r) = omega (arith, turns_size k ts r)
turns_size k ts (call_line b f r) = omega (arith, turns_size k ts r)
turns_size k ts (loop_line b n body r) = omega (arith, length-append (turns_in k ts body) (turns_in k ts r), turns_size k ts body, turns_size k ts r)
turns_size k ts (if_line b t e r) =
    omega (arith, length-append (turns_in k ts t) (turns_in k ts e ++ turns_in k ts r), length-append (turns_in k ts e) (turns_in k ts r), turns_size k ts t, turns_size k ts e, turns_size k ts r)

-- Where no total is over the limit, none of the rounds' sums is held.
pub turns_exact : (k : Block → ℕ) (ts : List ℕ) (l : Lines) → Turning l → tally k ts l ≤ limit → turns k ts l ≡ turns_in k ts l
unfolding column_of held_turn turns_in tally Turning
turns_exact k ts close t h = refl
turns_exact k ts (leaf_line b r) t h = ap (λ (z : List ℕ). 0 ∷ z) (turns_exact k ts r t (omega arith))
turns_exact k ts (call_line b f r) t h = ap (λ (z : List ℕ). 0 ∷ z) (turns_exact k ts r t (omega arith))
turns_exact k ts (loop_line b n body r) t h =
    let y = round_le n (tally k ts body) (k b) t.0 in
    let e : cap (tally k ts body) ≡ tally k ts body = omega arith in
    rw (e, turns_exact k ts body t.1 (omega arith), turns_exact k ts r t.2 (omega arith))
turns_exact k ts (if_line b u s r) t h =
    rw (turns_exact k ts u t.0 (omega arith), turns_exact k ts s t.1 (omega arith), turns_exact k ts r t.2 (omega arith))

-- Each column is put together from the columns of the functions.
pub turns_join : (k : Block → ℕ) (ts : List ℕ) → Joins (turns_in k ts) (all_turns k ts)
unfolding all_turns
turns_join k ts = record { none = refl; more = λ l ls. refl; each = turns_size k ts }

pub tails_join : (ts : List ℕ) → Joins (λ l. map (λ b. tail ts b.number l 0) (leaves l)) (all_tails ts)
unfolding all_tails
tails_join ts = record { none = refl; more = λ l ls. refl; each = λ l. length-map (leaves l) (λ b. tail ts b.number l 0) ∙ leaves_size l }

-- A PLAN IN ITS ROW

-- The totals of functions are as many as these.
pub tallies_length : (k : Block → ℕ) (ts : List ℕ) (ls : List Lines) → length (tallies k ts ls) ≡ length ts + length ls
unfolding tallies
tallies_length k ts [] = omega arith
tallies_length k ts (l ∷ ls) = omega (arith, tallies_length k (ts ++ (tally k ts l ∷ [])) ls, length-append ts (tally k ts l ∷ []))

-- The numbers at the cost k are those of the plan, whose total is not over the limit: the functions' totals, and a column of turns.
pub record SumsOf (k : Block → ℕ) (p : Plan) (ts o : List ℕ) : Type 0 where
  pub short : total k (main p) ≤ limit
  pub totals : ts ≡ padded 16 (tallies k [] p.functions)
  pub last_total : get_or ts (length p.functions - 1) 0 ≡ total k (main p)
  pub turns_are : take (sizes p.functions) o ≡ all_turns k (tallies k [] p.functions) p.functions

-- The totals have 16 places, with 0 behind the last of n functions, and the column has a place for each of m leaves.
pub record Room (n m : ℕ) (ts o : List ℕ) : Type 0 where
  pub long : length ts ≡ 16
  pub behind : (f : ℕ) → n ≤ f → get_or ts f 0 ≡ 0
  pub wide : m ≤ length o

-- Consider a row that keeps rules 3 to 9 and 19.
module _ {w s : List ℕ} {n : ℕ} (q : Structured w s n) where
  -- Its functions.
  abbrev pub ls : List Lines
  ls = q.plan.functions

  -- A plan of the row's functions; its numbers depend on these alone.
  abbrev pub plain : Plan
  plain = record { deadline = 1; switch = 0; edition = First; functions = ls }

  -- The lines of one of them.
  abbrev pub line : ℕ → Lines
  line f = get_or ls f close

  -- All functions of the row.
  abbrev pub own : PlanOf w s (length ls)
  own = plan_own q.plan

  -- Rules 3 to 7 and 19.
  pub formed : Formed plain
  formed =
      let c = q.plan.count in
      record {
        deadline_low = omega arith;
        deadline_high = omega arith;
        switch_range = omega arith;
        resume_range = omega arith;
        some_function = omega (arith, q.plan.bounds.some);
        few_functions = omega (arith, q.plan.bounds.few);
        few_leaves = q.plan.small;
        each = q.plan.kept;
      }

  -- The total of the last function is the plan's.
  pub main_total : (k : Block → ℕ) → get_or (tallies k [] ls) (length ls - 1) 0 ≡ total k (main plain)
  main_total k = plan_totals k plain (length ls - 1) (omega (arith, formed.some_function)) ∙ sym (ap (total k) (main_last plain))

  -- Consider what is measured at some cost.
  module _ {k : Block → ℕ} {ts o : List ℕ} (m : Measured k line s (length ls) ts o) where
    -- The held total is the plan's, held; so one over the limit is the plan's.
    held_total : get_or ts (length ls - 1) 0 ≡ cap (total k (main plain))
    held_total = measured_totals plain (λ f. refl) m (length ls - 1) (omega (arith, formed.some_function)) ∙ ap (λ (x : ℕ). cap x) (main_total k)

    pub over : limit < get_or ts (length ls - 1) 0 → limit < total k (main plain)
    over h = omega (arith, held_total)

    -- Consider a held total that is not over the limit.
    module _ (h : get_or ts (length ls - 1) 0 ≤ limit) where
      -- It is the total, and the totals of all functions are exact.
      exact : get_or ts (length ls - 1) 0 ≡ total k (main plain)
      exact = let e = held_total in e ∙ cap_low (total k (main plain)) (omega arith)

      abbrev pub summed : Summed k w s (length ls) ts o
      summed = totals_summed own q.called m h

      totals_known : Agree ts (tallies k [] ls) (length ls)
      totals_known = sums_known plain summed (λ f. refl)

      -- The functions' totals, with 0 behind the last.
      totals_are : length ts ≡ 16 → ((f : ℕ) → length ls ≤ f → get_or ts f 0 ≡ 0) → ts ≡ padded 16 (tallies k [] ls)
      totals_are long behind =
          let us = tallies k [] ls in
          let count : length us ≡ length ls = tallies_length k [] ls ∙ omega arith in
          let few = formed.few_functions in
          ext_get_or 0 ts (padded 16 us) (long ∙ sym (length_padded 16 us)) (λ j lt.
          (elim (dec_lt j (length ls)) [
            | yes i ↦ totals_known j i
            | no i ↦ behind j (omega arith) ∙ sym (get_or-eq_default us 0 (omega arith))
          ]) ∙ sym (padded_same 16 us j (omega arith)))

      -- The column of turns, at each function's bound.
      turns_hold : (f : ℕ) → f < length ls → Contains o (get_or s f 0) (turns_in k (tallies k [] ls) (line f))
      turns_hold f lt =
          let v = summed in
          let us = tallies k [] ls in
          let below = plan_below plain v (λ f. refl) f lt in
          let e = turns_same k ts us (length ls) totals_known (line f) below in
          let t = tally_same k ts us (length ls) totals_known (line f) below in
          let x = turns_exact k us (line f) (plan_turning plain formed f lt) (omega (arith, v.exact.total f lt, v.exact.small f lt)) in
          rw (e ∙ x) at (m.rounds f lt)

      -- So the totals and the column are the plan's.
      pub sums_of : Room (length ls) (sizes ls) ts o → SumsOf k plain ts o
      sums_of r =
          record {
            short = omega (arith, exact);
            totals = totals_are r.long r.behind;
            last_total = exact;
            turns_are = joined_take (turns_join k (tallies k [] ls)) w s o ls q.plan.lie q.plan.bounds.first r.wide turns_hold;
          }

  -- The column of tails, by isolated totals within the limit.
  tails_taken : {cs o : List ℕ} (m : Measured C line s (length ls) cs o) (h : get_or cs (length ls - 1) 0 ≤ limit) (c : List ℕ) → length c ≡ 512
      → take (sizes ls) (tails_written cs line s (length ls) c) ≡ all_tails (tallies C [] ls) ls
  tails_taken {cs} m h c wide =
      let ts = tallies C [] ls in
      let d = tails_written cs line s (length ls) c in
      joined_take (tails_join ts) w s d ls q.plan.lie q.plan.bounds.first (omega (arith, q.plan.small, length_tails cs line s (length ls) c))
      (λ f lt.
      leaves_hold (λ b. tail ts b.number (line f) 0) d w (line f) 1 (get_or s f 0) (get_or s (f + 1) 0) (plan_rep q.plan (omega (arith, q.plan.count)))
      (λ b i. tail_entry plain (summed m h) (λ f. refl) c wide f lt b i))

-- RULE 10

-- It is kept exactly when neither total is over the limit.
pub short_both : (p : Plan) → total C (main p) ≤ limit → total M (main p) ≤ limit → short? p ≡ true
short_both p c m = rw (le-leb (total C (main p)) (2 ^ 40) (omega arith), le-leb (total M (main p)) (2 ^ 40) (omega arith))

pub long_isolated : (p : Plan) → limit < total C (main p) → short? p ≡ false
long_isolated p h = rw (lt-leb (total C (main p)) (2 ^ 40) (omega arith))

pub long_loaded : (p : Plan) → limit < total M (main p) → short? p ≡ false
long_loaded p h = go (leb (total C (main p)) (2 ^ 40)) (lt-leb (total M (main p)) (2 ^ 40) (omega arith))
  where
    go : (x : Bool) {y : Bool} → y ≡ false → (x && y) ≡ false
    go true e = e
    go false e = refl

-- WHAT `measure` AND `tails` GIVE

-- The totals at one cost, and the sums of the rounds.
abbrev pub Gives : (Block → ℕ) → List ℕ → List ℕ → ℕ → List ℕ → List ℕ → Type 0
Gives k w s n ts o = (v : PlanOf w s n) → Measured k (lines_of v) s n ts o

-- The column t of tails, over what it was.
abbrev pub Gave : List ℕ → List ℕ → ℕ → List ℕ → List ℕ → List ℕ → List ℕ → Type 0
Gave w s n cs o t₀ t = (v : Summed C w s n cs o) → t ≡ tails_written cs (lines_of v.plan) s n t₀

-- The derived numbers of n functions whose totals are cs and ms.
abbrev pub derived : List ℕ → List ℕ → ℕ → Derived
derived cs ms n = record { total = get_or cs (n - 1) 0; max_load_total = get_or ms (n - 1) 0; totals = cs; max_load_totals = ms }

-- Consider a row that keeps rules 3 to 9 and 19, and what `measure` and `tails` give for it.
module _ {w s : List ℕ} {n : ℕ} (q : Structured w s n) where
  -- What holds of the number of the functions holds of n.
  pub counted : (K : ℕ → Type 0) → K (length (ls q)) → K n
  counted K x = subst K q.plan.count x

  module _ {k : Block → ℕ} {ts o : List ℕ} where
    -- What `tails` asks.
    pub row_summed : Gives k w s n ts o → get_or ts (n - 1) 0 ≤ limit → Summed k w s n ts o
    row_summed = counted (λ m. Gives k w s m ts o → get_or ts (m - 1) 0 ≤ limit → Summed k w s m ts o) (λ x h. summed q (x (own q)) h)

    module _ (p : Plan) (same : p.functions ≡ ls q) where
      -- A held total over the limit is the plan's.
      pub row_over : Gives k w s n ts o → limit < get_or ts (n - 1) 0 → limit < total k (main p)
      row_over = counted (λ m. Gives k w s m ts o → limit < get_or ts (m - 1) 0 → limit < total k (main p)) (λ x h. rw same (over q (x (own q)) h))

      -- And totals within it are the plan's, with their turns.
      pub row_sums : Gives k w s n ts o → get_or ts (n - 1) 0 ≤ limit → Room n (sizes (ls q)) ts o → SumsOf k p ts o
      row_sums =
          counted (λ m. Gives k w s m ts o → get_or ts (m - 1) 0 ≤ limit → Room m (sizes (ls q)) ts o → SumsOf k p ts o)
          (λ x h r. let z = sums_of q (x (own q)) h r in rw same (record { short = z.short; totals = z.totals; last_total = z.last_total; turns_are = z.turns_are }))

  -- The tails are the plan's.
  pub row_tails : {cs o t : List ℕ} (t₀ : List ℕ) (p : Plan) → p.functions ≡ ls q → Gives C w s n cs o → get_or cs (n - 1) 0 ≤ limit → length t₀ ≡ 512
      → Gave w s n cs o t₀ t → take (sizes p.functions) t ≡ all_tails (tallies C [] p.functions) p.functions
  row_tails {cs} {o} {t} t₀ p same x h wide g =
      counted (λ m. Gives C w s m cs o → get_or cs (m - 1) 0 ≤ limit → Gave w s m cs o t₀ t → take (sizes p.functions) t ≡ all_tails (tallies C [] p.functions) p.functions)
      (λ x h g. rw same (rw (g (summed q (x (own q)) h)) (tails_taken q (x (own q)) h t₀ wide))) x h g

-- Totals within the limit keep rule 10, and the numbers are those of the plan's table.
pub derives : (p : Plan) {cs o ms b t : List ℕ} → SumsOf C p cs o → SumsOf M p ms b
    → take (sizes p.functions) t ≡ all_tails (tallies C [] p.functions) p.functions → {n : ℕ} → length p.functions ≡ n → Derives p (Some (derived cs ms n)) o t b
derives p x y t {n} e = (
  short_both p x.short y.short,
  record {
    total = rw e at x.last_total;
    max_load_total = rw e at y.last_total;
    totals = x.totals;
    max_load_totals = y.totals;
    turns_are = x.turns_are;
    tails_are = t;
    max_load_turns_are = y.turns_are;
  },
)
