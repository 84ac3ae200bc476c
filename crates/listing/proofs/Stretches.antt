-- The column that `stretches` writes from the table of an accepted plan has the stretch of each of the plan's leaves. Assumes nothing.
use mathlib.Core.List.{List, [], map, map-append}
use mathlib.Core.Option.{some}
use mathlib.Core.Path.{◌≡◌, refl, sym, ap, ◌∙◌, subst}
use Prim.Native.Nat.{ℕ, ◌+◌, ◌-◌, ◌*◌, ◌^◌, ◌≤◌, ◌<◌}
use native.Mathlib.Omega.{arith}
use lib.ListN.{length, get_or, take, length-map}
use lib.Seq.{take_all}
use Rattle.std.proofs.lemmas.List.{take-map}
use Rattle.model.specs.Plan.{Block, M, Lines, close, Plan, leaves, all_leaves}
use Rattle.model.specs.Forms.{main}
use Rattle.model.specs.Total.{total, tallies}
use Rattle.model.specs.Stretch.{stretch_of}
use Rattle.model.specs.Acceptance.{sizes, Accepted}
use Rattle.model.specs.Static.{line_silence}
use Rattle.model.proofs.Limits.{short_total}
use Rattle.model.proofs.Statics.{plan_totals, main_last}
use Rattle.model.proofs.Theorems.{static_stretches}
use Rattle.reader.specs.Raw.{padded}
use Rattle.reader.proofs.Tasks.{length_padded, padded_same}
use Rattle.rows.specs.declared.Leaf.{Leaf}
use Rattle.rows.specs.Leaves.{numbers, lent_max_load_turns}
use Rattle.rows.specs.Plans.{lines_of}
use Rattle.rows.specs.Records.{row_of, bounds_of}
use Rattle.rows.proofs.Leaves.{numbers_take}
use Rattle.rows.proofs.Plans.{plan_rep}
use Rattle.structure.specs.Plans.{Structured}
use Rattle.columns.specs.Whole.{Summed}
use Rattle.stretches.specs.Stretches.{stretches_written}
use Rattle.stretches.proofs.Reading.{length_stretches}
use Rattle.stretches.proofs.Meaning.{stretch_entry}
use Rattle.table.specs.declared.Head.{Head}
use Rattle.table.specs.Table.{Table, table_of, plan_of}
use Rattle.table.specs.Lent.{table_with}
use Rattle.table.proofs.Holding.{leaves_size, Marks, leaves_hold, Joins, joined_take}
use Rattle.table.proofs.Deriving.{tallies_length, SumsOf, plain}
use Rattle.table.proofs.InPlace.{sums_fit}
use Rattle.table.proofs.Written.{max_load_turns_size}
use Rattle.table.proofs.Bridge.{accepted_structured}
use Rattle.table.proofs.Checking.{plan_ranged}
use Rattle.table.proofs.Theorems.{plan_of_table}
use Rattle.listing.proofs.Points.{among_all}

-- A number for each leaf, function by function.
pub leaves_join : (g : Block → ℕ) → Joins (λ l. map g (leaves l)) (λ ls. map g (all_leaves ls))
unfolding all_leaves
leaves_join g = record { none = refl; more = λ l ls. map-append g (leaves l) (all_leaves ls); each = λ l. length-map (leaves l) g ∙ leaves_size l }

-- FROM A TABLE

-- A column that `stretches` writes over 512 numbers, from a row with the functions' bounds s, their totals ms and the max-load turns o, begins with the
-- stretches of the plan's leaves.
abbrev pub Takes : Plan → List ℕ → List ℕ → ℕ → List ℕ → List ℕ → Type 0
Takes p w s n ms o =
    (c d : List ℕ) → length c ≡ 512
    → ((v : Summed M w s n ms o) → d ≡ stretches_written M ms (λ f x. line_silence M ms (lines_of v.plan f) x) (lines_of v.plan) s n n c)
    → take (sizes p.functions) d ≡ map (stretch_of p) (all_leaves p.functions)

-- Consider an accepted plan.
module _ (p : Plan) (a : Accepted p) where
  abbrev n : ℕ
  n = length p.functions

  abbrev s : List ℕ
  s = padded 17 (bounds_of p)

  abbrev ms : List ℕ
  ms = padded 16 (tallies M [] p.functions)

  abbrev turns : List ℕ
  turns = (table_of p).max_load_turns

  abbrev q : Structured (row_of p) s n
  q = (accepted_structured p a).0

  abbrev line : ℕ → Lines
  line f = get_or p.functions f close

  -- The numbers at the max-load cost in its table are those of its functions.
  sums : SumsOf M (plain q) ms turns
  sums =
      let m = n - 1 in
      record {
        short = omega (arith, (short_total M (main p) (2 ^ 40)).0 a.short_loaded);
        totals = refl;
        last_total =
            padded_same 16 (tallies M [] p.functions) m (omega (arith, tallies_length M [] p.functions, a.formed.some_function, a.formed.few_functions)) ∙
            (plan_totals M p m (omega (arith, a.formed.some_function)) ∙ sym (ap (total M) (main_last p)));
        turns_are = take_all (sizes p.functions) turns (omega (arith, max_load_turns_size p));
      }

  -- So its row has the functions with their exact totals.
  abbrev summed : Summed M (row_of p) s n ms turns
  summed = record { plan = q.plan; exact = (sums_fit q M sums).exact }

  -- And the column has the stretch of each leaf.
  stretches_taken : Takes p (row_of p) s n ms turns
  stretches_taken c d wide w =
      let g = stretch_of p in
      let e = w summed in
      let long = ap length e ∙ length_stretches M ms (λ f x. line_silence M ms (line f) x) line s n n c in
      let marks : Marks g d (all_leaves p.functions) = λ b m.
      ap (λ (l : List ℕ). get_or l b.number 0) e ∙ (stretch_entry p a summed (λ f. refl) c wide b m ∙ sym (static_stretches p a b.number)) in
      joined_take (leaves_join g) (row_of p) s d p.functions q.plan.lie q.plan.bounds.first (omega (arith, q.plan.small, long))
      (λ f lt.
      leaves_hold g d (row_of p) (line f) 1 (get_or s f 0) (get_or s (f + 1) 0) (plan_rep {k = f} q.plan lt) (λ b m. marks b (among_all p.functions f lt b m)))

-- Consider leaves and a head that hold the table of a plan.
module _ {p : Plan} (ls : List Leaf) (h : Head) (e : plan_of (table_with ls h) ≡ some p) where
  of_plan : Accepted p × (table_with ls h ≡ table_of p)
  of_plan = (plan_of_table (table_with ls h) p).0 e

  -- There are as many leaves as the head says.
  pub held : h.leaves ≤ length ls
  held = (plan_ranged ls h (p, of_plan.0, of_plan.1)).held

  -- Consider the code in them: its row, its bounds, and how many functions it has.
  module _ {us : List Leaf} {s : List ℕ} {n : ℕ} (row : us ≡ take h.leaves ls) (bounds : s ≡ h.bounds) (functions : n ≡ h.functions) where
    rows : numbers us ≡ take (h.leaves * 8) (numbers ls)
    rows = ap (λ (u : List Leaf). numbers u) row ∙ numbers_take h.leaves ls

    turned : lent_max_load_turns us ≡ take h.leaves (lent_max_load_turns ls)
    turned = ap (λ (u : List Leaf). lent_max_load_turns u) row ∙ sym (take-map (λ (l : Leaf). l.max_load_turn) h.leaves ls)

    -- Each function has a bound, and there is one more.
    pub code_bounded : n < length s
    code_bounded =
        rw (bounds, functions, ap (λ (t : Table). t.head) of_plan.1) (omega (arith, length_padded 17 (bounds_of p), of_plan.0.formed.few_functions))

    -- What `stretches` asks of that code, and what it gives.
    pub code_summed : Summed M (numbers us) s n h.max_load_totals (lent_max_load_turns us)
    code_summed =
        rw (rows, turned, bounds, functions)
        (subst (λ (t : Table). Summed M t.row t.head.bounds t.head.functions t.head.max_load_totals t.max_load_turns) (sym of_plan.1) (summed p of_plan.0))

    pub code_taken : Takes p (numbers us) s n h.max_load_totals (lent_max_load_turns us)
    code_taken =
        let ms = h.max_load_totals in
        subst (λ (w : List ℕ). Takes p w s n ms (lent_max_load_turns us)) (sym rows)
        (subst (λ (o : List ℕ). Takes p (take (h.leaves * 8) (numbers ls)) s n ms o) (sym turned)
        (subst (λ (b : List ℕ). Takes p (take (h.leaves * 8) (numbers ls)) b n ms (take h.leaves (lent_max_load_turns ls))) (sym bounds)
        (subst (λ (m : ℕ). Takes p (take (h.leaves * 8) (numbers ls)) h.bounds m ms (take h.leaves (lent_max_load_turns ls))) (sym functions)
        (subst (λ (t : Table). Takes p t.row t.head.bounds t.head.functions t.head.max_load_totals t.max_load_turns) (sym of_plan.1)
        (stretches_taken p of_plan.0)))))
