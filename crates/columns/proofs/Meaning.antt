-- What the columns mean: the theorems, to be read. Assumes nothing.
use mathlib.Core.Path.{◌≡◌, sym, ap, ◌∙◌}
use mathlib.Core.Logic.{◌↔◌}
use mathlib.Core.List.{List, []}
use Prim.Native.Nat.{ℕ, ◌+◌, ◌-◌, ◌≤◌, ◌<◌}
use native.Mathlib.Omega.{arith}
use lib.ListN.{length, get_or}
use Rattle.model.specs.Plan.{Block, C, Lines, close, Plan, leaves}
use Rattle.model.specs.Forms.{done, linked}
use Rattle.model.specs.Runs.{Among}
use Rattle.model.specs.Total.{tallies}
use Rattle.model.specs.Tail.{Tail, tail}
use Rattle.model.specs.Acceptance.{Accepted}
use Rattle.model.proofs.Targets.{Below}
use Rattle.model.proofs.Leaves.{leaf_range}
use Rattle.model.proofs.Theorems.{tail_is_largest}
use Rattle.rows.specs.Plans.{PlanOf, lines_of}
use Rattle.rows.proofs.Plans.{plan_rep}
use Rattle.rows.specs.Costs.{limit}
use Rattle.columns.specs.Sums.{cap}
use Rattle.columns.specs.Whole.{Measured, Summed, tails_written}
use Rattle.columns.proofs.Functions.{below_more, fun_below, measured_exact}
use Rattle.columns.proofs.Known.{Agree, Named, all_low, tail_same, exact_known, known_tallies}
use Rattle.columns.proofs.Reading.{rep_spans, tail_at}

-- A row that holds the functions of a plan.
abbrev pub Of : (ℕ → Lines) → Plan → Type 0
Of F p = (f : ℕ) → F f ≡ get_or p.functions f close

-- TOTALS

-- The totals that `measure` gives are the totals of the plan's functions, held at the ceiling.
pub measured_totals : {k : Block → ℕ} {starts ts o : List ℕ} {F : ℕ → Lines} (p : Plan) → Of F p → Measured k F starts (length p.functions) ts o
    → (f : ℕ) → f < length p.functions → get_or ts f 0 ≡ cap (get_or (tallies k [] p.functions) f 0)
measured_totals {k} {starts} {ts} {o} {F} p same q f h =
    q.totals f h ∙ ap (λ (y : List ℕ). cap (get_or y f 0)) (sym (known_tallies k F p.functions (λ g i. same g)))

-- A total is over the limit exactly when it is over it as held.
pub over_limit : (n : ℕ) → (cap n ≤ limit) ↔ (n ≤ limit)
over_limit n = ((λ h. omega arith), λ h. omega arith)

-- So where every function but the last is called (rule 9: `Called` of the plan), and the main function's total is not over the limit, all totals are exact.
abbrev pub totals_summed : {k : Block → ℕ} {w starts ts o : List ℕ} {n : ℕ} (v : PlanOf w starts n) → Named (lines_of v) n
    → Measured k (lines_of v) starts n ts o → get_or ts (n - 1) 0 ≤ limit → Summed k w starts n ts o
totals_summed v c q h = record { plan = v; exact = measured_exact v q (all_low v c q h) }

-- A PLAN: consider a plan whose functions a row holds, with their exact totals at one cost.
module _ {k : Block → ℕ} (p : Plan) {w starts ts o : List ℕ} (v : Summed k w starts (length p.functions) ts o) (same : Of (lines_of v.plan) p) where
  abbrev n : ℕ
  n = length p.functions

  -- The totals are those of the plan's functions.
  pub sums_known : Agree ts (tallies k [] p.functions) n
  sums_known = rw (known_tallies k (lines_of v.plan) p.functions (λ f i. same f)) (exact_known v.plan v.exact)

  -- They call functions of the plan.
  pub plan_below : (f : ℕ) → f < n → Below n (lines_of v.plan f)
  plan_below f h = below_more f n (lines_of v.plan f) (omega arith) (fun_below v.plan f h)

  -- A leaf of the function f lies among the function's records.
  pub leaf_place : (f : ℕ) → f < n → (b : Block) → Among b (leaves (get_or p.functions f close))
      → (get_or starts f 0 ≤ b.number) × (b.number < get_or starts (f + 1) 0)
  leaf_place f h b m =
      let i = get_or starts f 0 in
      let e = get_or starts (f + 1) 0 in
      leaf_range (lines_of v.plan f) i e (rep_spans w 1 i e (lines_of v.plan f) (plan_rep {k = f} v.plan h)) b (rw (same f) m)

-- TAILS: consider a plan whose functions a row holds, with their exact isolated totals.
module _ (p : Plan) {w starts cs o : List ℕ} (v : Summed C w starts (length p.functions) cs o) (same : Of (lines_of v.plan) p) where
  abbrev line : ℕ → Lines
  line f = get_or p.functions f close

  -- The entry of a leaf in the column of tails is its tail by computation,
  pub tail_entry : (c : List ℕ) → length c ≡ 512 → (f : ℕ) → f < length p.functions → (b : Block) → Among b (leaves (line f)) →
      get_or (tails_written cs (lines_of v.plan) starts (length p.functions) c) b.number 0 ≡ tail (tallies C [] p.functions) b.number (line f) 0
  tail_entry c wide f h b m =
      let i = leaf_place p v same f h b m in
      tail_at v.plan c wide f b.number h i.0 i.1 cs ∙
      tail_same cs (tallies C [] p.functions) (length p.functions) b.number (sums_known p v same) (lines_of v.plan f) 0 (plan_below p v same f h) ∙
      ap (λ (l : Lines). tail (tallies C [] p.functions) b.number l 0) (same f)

  -- so in an accepted plan it is the largest isolated sum from a first visit of it to the end of its own function.
  pub tail_means : Accepted p → (c : List ℕ) → length c ≡ 512 → (f : ℕ) → f < length p.functions → (b : Block) → Among b (leaves (line f)) →
      Tail (get_or (linked [] p.functions) f done) b.number (get_or (tails_written cs (lines_of v.plan) starts (length p.functions) c) b.number 0)
  tail_means a c wide f h b m = rw (tail_entry c wide f h b m) (tail_is_largest p a f h b m)
