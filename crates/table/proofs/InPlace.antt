-- Lent numbers that fit where they stand are those of the plan's table, and those of the plan's table fit: totals and turns at any cost, and tails.
-- Assumes nothing.
use mathlib.Core.List.{List, [], map}
use mathlib.Core.Path.{◌≡◌, refl, sym, ap, ◌∙◌}
use Prim.Native.Nat.{ℕ, ◌+◌, ◌-◌, ◌^◌, ◌≤◌, ◌<◌}
use native.Mathlib.Decide.{dec_lt}
use native.Mathlib.Omega.{arith}
use lib.ListN.{length, get_or, take, replicate, length-map, length-replicate, get_or-eq_default}
use lib.Seq.{sets}
use Rattle.model.specs.Plan.{Block, C, M, Lines, Plan, leaves}
use Rattle.model.specs.Forms.{main}
use Rattle.model.specs.Total.{total, tally, tallies}
use Rattle.model.specs.Tail.{tail}
use Rattle.model.specs.Acceptance.{sizes}
use Rattle.model.proofs.Leaves.{leaf_range}
use Rattle.model.proofs.Statics.{plan_totals, main_last}
use Rattle.model.proofs.Targets.{plan_turning}
use Rattle.reader.specs.Raw.{padded}
use Rattle.reader.proofs.Tasks.{padded_same}
use Rattle.rows.specs.declared.Leaf.{Leaf}
use Rattle.rows.specs.Leaves.{lent_turns, lent_tails, lent_max_load_turns}
use Rattle.rows.specs.Rows.{Rep}
use Rattle.structure.specs.Plans.{Structured}
use Rattle.rows.proofs.Measures.{rep_size}
use Rattle.rows.proofs.Plans.{plan_leaves, plan_rep}
use Rattle.rows.specs.Costs.{limit}
use Rattle.columns.specs.Columns.{column_of, tail_rule, Contains}
use Rattle.columns.specs.Whole.{known}
use Rattle.columns.specs.Local.{AllSummed, AllDerived}
use Rattle.columns.proofs.Stores.{contains_sets}
use Rattle.columns.proofs.Functions.{tally_same, turns_same, known_at, fun_below, below_more}
use Rattle.columns.proofs.Known.{Agree, tail_same, exact_measured, known_tallies, main_most}
use Rattle.columns.proofs.Meaning.{sums_known}
use Rattle.columns.proofs.Looking.{fill_of, contains_look, tail_look}
use Rattle.columns.proofs.Reading.{rep_spans}
use Rattle.table.specs.declared.Head.{Head}
use Rattle.table.specs.Table.{all_turns, all_tails}
use Rattle.table.specs.Private.{Agrees}
use Rattle.table.proofs.Tests.{leb_exactly, both}
use Rattle.table.proofs.Holding.{leaves_size, Marks, leaves_hold, holds_one, joined_take, joined_part, joined_long}
use Rattle.table.proofs.Deriving.{turns_exact, turns_join, tails_join, tallies_length, SumsOf, ls, plain, line, own, formed, main_total, sums_of, short_both, counted}

-- A column of tails has the tail of each leaf, in text order.
tails_listed : (ts w : List ℕ) (v i e : ℕ) (l : Lines) → Rep w v i e l → column_of (tail_rule ts) l 0 ≡ map (λ b. tail ts b.number l 0) (leaves l)
tails_listed ts w v i e l r =
    let g : Block → ℕ = λ b. tail ts b.number l 0 in
    let xs = column_of (tail_rule ts) l 0 in
    let fill = fill_of (tail_rule ts) w v i e l 0 r in
    let o = sets (replicate e 0) i xs in
    let there : Contains o i xs = contains_sets xs (replicate e 0) i (omega (arith, fill, length-replicate {A = ℕ} e 0)) in
    let marks : Marks g o (leaves l) = λ b m.
    let k = leaf_range l i e (rep_spans w v i e l r) b m in
    contains_look xs o i b.number there k.0 (omega (arith, k.1, fill)) ∙ sym (tail_look ts b.number w v i e l 0 r) in
    holds_one xs (map g (leaves l)) o i there (leaves_hold g o w l v i e r marks) (omega (arith, fill, rep_size w l v i e r, length-map (leaves l) g, leaves_size l))

-- Consider a row that keeps rules 3 to 9 and 19.
module _ {w s : List ℕ} {n : ℕ} (q : Structured w s n) where
  count : (k : Block → ℕ) → length (tallies k [] (ls q)) ≡ length (ls q)
  count k = tallies_length k [] (ls q) ∙ omega arith

  ends : get_or s (length (ls q)) 0 ≡ sizes (ls q)
  ends = ap (λ (m : ℕ). get_or s m 0) q.plan.count ∙ plan_leaves q.plan

  -- The tails by totals that agree with the plan's.
  tails_agreed : (cs : List ℕ) → Agree cs (tallies C [] (ls q)) (length (ls q)) → (f : ℕ) → f < length (ls q)
      → column_of (tail_rule cs) (line q f) 0 ≡ map (λ b. tail (tallies C [] (ls q)) b.number (line q f) 0) (leaves (line q f))
  tails_agreed cs a f lt =
      let l = line q f in
      let below = below_more f (length (ls q)) l (omega arith) (fun_below (own q) f lt) in
      tails_listed cs w 1 (get_or s f 0) (get_or s (f + 1) 0) l (plan_rep {k = f} (own q) lt) ∙
      ap (λ (g : Block → ℕ). map g (leaves l)) (λ i b. tail_same cs (tallies C [] (ls q)) (length (ls q)) b.number a l 0 below i)

  -- LENT NUMBERS THAT FIT

  -- The totals and turns are the plan's.
  summed_sums : {k : Block → ℕ} {ts o : List ℕ} → AllSummed k (line q) s (length (ls q)) ts o → length ts ≡ 16 → SumsOf k (plain q) ts o
  summed_sums {k} {ts} {o} x long =
      let some : length (ls q) - 1 < length (ls q) = omega (arith, q.plan.count, q.plan.bounds.some) in
      sums_of q (exact_measured (own q) x.exact) (x.exact.small (length (ls q) - 1) some)
      (record {
        long = long;
        behind = λ f le. elim (dec_lt f 16) [ yes lt ↦ x.behind f le lt | no ge ↦ get_or-eq_default ts 0 (omega arith) ];
        wide = omega (arith, x.turns_long, ends);
      })

  -- And so are the tails.
  derived_tails : {cs o t : List ℕ} → AllDerived (line q) s (length (ls q)) cs o t → take (sizes (ls q)) t ≡ all_tails (tallies C [] (ls q)) (ls q)
  derived_tails {cs} {o} {t} x =
      let agreed : Agree cs (tallies C [] (ls q)) (length (ls q)) = sums_known (plain q) (record { plan = own q; exact = x.summed.exact }) (λ f. refl) in
      joined_take (tails_join (tallies C [] (ls q))) w s t (ls q) q.plan.lie q.plan.bounds.first (omega (arith, x.tails_long, ends))
      (λ f lt. rw (tails_agreed cs agreed f lt) at (x.tails f lt))

  -- LENT NUMBERS OF THE PLAN'S TABLE

  module _ (k : Block → ℕ) {cs o : List ℕ} (x : SumsOf k (plain q) cs o) where
    abbrev ts : List ℕ
    ts = tallies k [] (ls q)

    agree : Agree cs ts (length (ls q))
    agree j lt = ap (λ (l : List ℕ). get_or l j 0) x.totals ∙ padded_same 16 ts j (omega (arith, count k, q.plan.count, q.plan.bounds.few))

    -- The totals are those of the functions, one after the other.
    as_known : (f : ℕ) → f < length (ls q) → get_or cs f 0 ≡ tally k (known k (line q) f) (line q f)
    as_known f lt =
        agree f lt ∙ (ap (λ (l : List ℕ). get_or l f 0) (known_tallies k (line q) (ls q) (λ g i. refl)) ∙ known_at k (line q) (length (ls q)) f lt)

    exact_total : (f : ℕ) → f < length (ls q) → get_or cs f 0 ≡ tally k cs (line q f)
    exact_total f lt =
        as_known f lt ∙
        tally_same k (known k (line q) f) cs f (λ j i. known_at k (line q) f j i ∙ sym (as_known j (omega arith))) (line q f) (fun_below (own q) f lt)

    -- None is over the limit.
    all_small : (f : ℕ) → f < length (ls q) → get_or cs f 0 ≤ limit
    all_small f lt =
        let z = ap (λ (l : List ℕ). get_or l (length (ls q) - 1) 0) (known_tallies k (line q) (ls q) (λ g i. refl)) in
        omega (
          arith,
          main_most k (own q) q.called (length (ls q)) f (omega arith) lt,
          known_at k (line q) (length (ls q)) f lt,
          as_known f lt,
          z,
          main_total q k,
          x.short,
        )

    pub sums_fit : AllSummed k (line q) s (length (ls q)) cs o
    sums_fit =
        record {
          exact =
              record {
                total = exact_total;
                small = all_small;
                rounds = λ f lt.
                    let below = below_more f (length (ls q)) (line q f) (omega arith) (fun_below (own q) f lt) in
                    let a = turns_same k cs ts (length (ls q)) agree (line q f) below in
                    let c = tally_same k cs ts (length (ls q)) agree (line q f) below in
                    let b = turns_exact k ts (line q f) (plan_turning (plain q) (formed q) f lt) (omega (arith, c, exact_total f lt, all_small f lt)) in
                    rw (a ∙ b) (joined_part (turns_join k ts) w s o (ls q) q.plan.lie q.plan.bounds.first x.turns_are f lt);
              };
          behind = λ f le lt.
              ap (λ (l : List ℕ). get_or l f 0) x.totals ∙
              (padded_same 16 ts f (omega (arith, count k, q.plan.count, q.plan.bounds.few)) ∙ get_or-eq_default ts 0 (omega (arith, count k)));
          turns_long = omega (arith, ends, joined_long (turns_join k ts) o (ls q) x.turns_are);
        }

  tails_fit : {cs o : List ℕ} (t : List ℕ) → SumsOf C (plain q) cs o → take (sizes (ls q)) t ≡ all_tails (tallies C [] (ls q)) (ls q) → AllDerived (line q) s (length (ls q)) cs o t
  tails_fit {cs} t x e =
      record {
        summed = sums_fit C x;
        tails = λ f lt.
            rw (tails_agreed cs (agree C x) f lt) (joined_part (tails_join (tallies C [] (ls q))) w s t (ls q) q.plan.lie q.plan.bounds.first e f lt);
        tails_long = omega (arith, ends, joined_long (tails_join (tallies C [] (ls q))) t (ls q) e);
      }

-- WHAT THE CHECKS GIVE

module _ {w s : List ℕ} {n : ℕ} (q : Structured w s n) (p : Plan) (same : p.functions ≡ ls q) where
  -- Lent numbers that fit are those of the plan.
  fit_sums : {k : Block → ℕ} {ts o : List ℕ} → AllSummed k (line q) s n ts o → length ts ≡ 16 → SumsOf k p ts o
  fit_sums {k} {ts} {o} x long =
      let z = counted q (λ m. AllSummed k (line q) s m ts o → SumsOf k (plain q) ts o) (λ x. summed_sums q x long) x in
      rw same (record { short = z.short; totals = z.totals; last_total = z.last_total; turns_are = z.turns_are })

  fit_tails : {cs o t : List ℕ} → AllDerived (line q) s n cs o t → take (sizes p.functions) t ≡ all_tails (tallies C [] p.functions) p.functions
  fit_tails {cs} {o} {t} x =
      counted q (λ m. AllDerived (line q) s m cs o t → take (sizes p.functions) t ≡ all_tails (tallies C [] p.functions) p.functions) (λ x. rw same (derived_tails q x)) x

  -- And those of the plan fit.
  plain_sums : {k : Block → ℕ} {ts o : List ℕ} → SumsOf k p ts o → SumsOf k (plain q) ts o
  plain_sums z = record { short = rw same at z.short; totals = rw same at z.totals; last_total = rw same at z.last_total; turns_are = rw same at z.turns_are }

  sums_fitting : (k : Block → ℕ) {ts o : List ℕ} → SumsOf k p ts o → AllSummed k (line q) s n ts o
  sums_fitting k {ts} {o} x = counted q (λ m. AllSummed k (line q) s m ts o) (sums_fit q k (plain_sums x))

  tails_fitting : {cs o : List ℕ} (t : List ℕ) → SumsOf C p cs o → take (sizes p.functions) t ≡ all_tails (tallies C [] p.functions) p.functions
      → AllDerived (line q) s n cs o t
  tails_fitting {cs} {o} t x h = counted q (λ m. AllDerived (line q) s m cs o t) (tails_fit q t (plain_sums x) (rw same at h))

  -- LEAVES AND A HEAD THAT AGREE WITH THE PLAN'S TABLE

  module _ (us : List Leaf) (h : Head) (few : sizes p.functions ≡ h.leaves) where
    cut : (l : List ℕ) → take (sizes p.functions) l ≡ take h.leaves l
    cut l = ap (λ (m : ℕ). take m l) few

    -- The number of the last function.
    last_number : (ts : List ℕ) → get_or ts (length p.functions - 1) 0 ≡ get_or ts (n - 1) 0
    last_number ts = ap (λ (m : ℕ). get_or ts (m - 1) 0) (ap length same ∙ q.plan.count)

    -- The numbers at one cost.
    sums_at : (k : Block → ℕ) {ts c : List ℕ} → total k (main p) ≤ limit → ts ≡ padded 16 (tallies k [] p.functions)
        → take h.leaves c ≡ all_turns k (tallies k [] p.functions) p.functions → SumsOf k p ts c
    sums_at k {ts} {c} short totals turned =
        let m = length p.functions - 1 in
        let vs = tallies k [] p.functions in
        let some : 1 ≤ length p.functions = omega (arith, ap length same, q.plan.count, q.plan.bounds.some) in
        let most : length p.functions ≤ 16 = omega (arith, ap length same, q.plan.count, q.plan.bounds.few) in
        record {
          short = short;
          totals = totals;
          last_total = ap (λ (l : List ℕ). get_or l m 0) totals ∙
              (padded_same 16 vs m (omega (arith, tallies_length k [] p.functions)) ∙ (plan_totals k p m (omega arith) ∙ sym (ap (total k) (main_last p))));
          turns_are = cut c ∙ turned;
        }

    -- Where all agree, they are the plan's at both costs, so they fit,
    module _ (g : Agrees p us h) where
      lows : (total C (main p) ≤ limit) × (total M (main p) ≤ limit)
      lows = let (c, m) = (both _ _ (leb_exactly (total C (main p)) (2 ^ 40)) (leb_exactly (total M (main p)) (2 ^ 40))).0 g.fits in (omega arith, omega arith)

      isolated : SumsOf C p h.totals (lent_turns us)
      isolated = sums_at C lows.0 g.totals g.turns_are

      loaded : SumsOf M p h.max_load_totals (lent_max_load_turns us)
      loaded = sums_at M lows.1 g.max_load_totals g.max_load_turns_are

      pub agree_tails : AllDerived (line q) s n h.totals (lent_turns us) (lent_tails us)
      agree_tails = tails_fitting (lent_tails us) isolated (cut (lent_tails us) ∙ g.tails_are)

      pub agree_sums : AllSummed M (line q) s n h.max_load_totals (lent_max_load_turns us)
      agree_sums = sums_fitting M loaded

      pub agree_totals : (h.total ≡ get_or h.totals (n - 1) 0) × (h.max_load_total ≡ get_or h.max_load_totals (n - 1) 0)
      agree_totals = (
        g.total ∙ (sym isolated.last_total ∙ last_number h.totals),
        g.max_load_total ∙ (sym loaded.last_total ∙ last_number h.max_load_totals),
      )

    -- and where they fit, all agree.
    pub agreement : length h.totals ≡ 16 → length h.max_load_totals ≡ 16 → AllDerived (line q) s n h.totals (lent_turns us) (lent_tails us)
        → AllSummed M (line q) s n h.max_load_totals (lent_max_load_turns us)
        → (h.total ≡ get_or h.totals (n - 1) 0) × (h.max_load_total ≡ get_or h.max_load_totals (n - 1) 0) → Agrees p us h
    agreement totals_long loads_long x y e =
        let c = fit_sums x.summed totals_long in
        let m = fit_sums y loads_long in
        record {
          fits = short_both p c.short m.short;
          total = e.0 ∙ (sym (last_number h.totals) ∙ c.last_total);
          max_load_total = e.1 ∙ (sym (last_number h.max_load_totals) ∙ m.last_total);
          totals = c.totals;
          max_load_totals = m.totals;
          turns_are = sym (cut (lent_turns us)) ∙ c.turns_are;
          tails_are = sym (cut (lent_tails us)) ∙ fit_tails x;
          max_load_turns_are = sym (cut (lent_max_load_turns us)) ∙ m.turns_are;
        }
