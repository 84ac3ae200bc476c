-- What the contracts mean for an accepted plan, in the model's words: for any accepted plan p and any code that is p's, with the totals and turns of p at the
-- code's cost.
-- Each statement takes what a function ensures (its contract, at a result named r), and says what that is for p.
-- Assumes nothing.
use mathlib.Core.Path.{◌≡◌, sym, ap, ◌∙◌, refl}
use mathlib.Core.List.{List, []}
use mathlib.Core.Option.{some}
use Prim.Native.Nat.{ℕ, zero, suc, ◌+◌, ◌-◌, ◌^◌, ◌≤◌, ◌<◌}
use native.Mathlib.Omega.{arith}
use native.Mathlib.Decide.{dec_le}
use lib.ListN.{length, get_or}
use Rattle.model.specs.Plan.{Block, Plan, Lines, close, leaf_line, call_line, loop_line, if_line}
use Rattle.model.specs.Forms.{Forms, done, forms, linked, main}
use Rattle.model.specs.Runs.{Run, visits, sum}
use Rattle.model.specs.Total.{total, tally}
use Rattle.model.specs.Acceptance.{size, Accepted}
use Rattle.model.specs.Stack.{Levels, decode, whole}
use Rattle.model.proofs.Total.{total_largest}
use Rattle.model.proofs.Statics.{plan_totals, main_last}
use Rattle.model.proofs.Targets.{Below}
use Rattle.model.proofs.Ways.{tally_is}
use Rattle.model.proofs.Points.{AllPoints}
use Rattle.rows.specs.declared.Cost.{Cost}
use Rattle.rows.specs.declared.Cost.TheVariants.{Isolated, MaxLoad}
use Rattle.rows.specs.declared.PricedCode.{PricedCode}
use Rattle.rows.specs.Costs.{limit, cost_in, lent_turns_in}
use Rattle.rows.specs.Leaves.{numbers}
use Rattle.rows.specs.Rows.{kind_at, detail_at, other_at, after_at, block_at, Rep, Piece}
use Rattle.rows.proofs.Reading.{rep_lines}
use Rattle.rows.proofs.Plans.{function_in, bound_in}
use Rattle.place.specs.declared.Place.{Place}
use Rattle.place.specs.Stack.{FunctionTable, frames}
use Rattle.place.specs.Lent.{CodeTable, main_forms}
use Rattle.place.proofs.Suffixes.{number_of}
use Rattle.place.proofs.Pricing.{rules_below}
use Rattle.place.proofs.Tables.{table_of}
use Rattle.place.proofs.Meaning.{marks}
use Rattle.outlook.specs.declared.Ahead.{Ahead}
use Rattle.outlook.specs.Loads.{Loads, CostColumns, CodePriced, PlacePriced}
use Rattle.outlook.specs.Ahead.{ahead_of, ahead_at}
use Rattle.outlook.specs.Plans.{Rounds, PlanPriced}

-- A row's records stand for one sequence of lines.
rep_one : (w : List ℕ) (a b i e : ℕ) (l m : Lines) → Rep w a i e l → Rep w b i e m → l ≡ m
rep_one w a b i e l m x y = sym (rep_lines l (suc (size l + size m)) w a i e (omega arith) x) ∙ rep_lines m (suc (size l + size m)) w b i e (omega arith) y

-- What is known of the record j.
record Known (k : Block → ℕ) (ts turns w : List ℕ) (n j : ℕ) : Type 0 where
  target : kind_at w j ≡ 1 → detail_at w j < n
  level : ℕ
  body : kind_at w j ≡ 2 → (l : Lines) × Rep w level (j + 1) (after_at w j) l × (get_or turns j 0 ≡ k (block_at w j) + tally k ts l) × Below n l

module _ (k : Block → ℕ) (ts turns w : List ℕ) (n j : ℕ) where
  known : (l : Lines) (lv i e : ℕ) → Rep w lv i e l → Rounds k ts turns l → Below n l → i ≤ j → j < e → Known k ts turns w n j
  unfolding Rep Rounds Below
  known close lv i e h r b ge lt = absurd (omega arith)
  known (leaf_line x rest) lv i e h r b ge lt =
      elim (dec_le (after_at w i) j) [
        | yes q ↦ known rest lv (after_at w i) e h.4 r b q lt
        | no q ↦ let z : i ≡ j = omega (arith, h.3) in
            record { target = λ y. absurd (omega (arith, h.0.0, ap (λ (p : ℕ). kind_at w p) z)); level = 0; body = λ y. absurd (omega (arith, h.0.0, ap (λ (p : ℕ). kind_at w p) z)) }
      ]
  known (call_line x f rest) lv i e h r b ge lt =
      elim (dec_le (after_at w i) j) [
        | yes q ↦ known rest lv (after_at w i) e h.4 r b.1 q lt
        | no q ↦ let z : i ≡ j = omega (arith, h.3) in
            record { target = λ y. omega (arith, h.1, b.0, ap (λ (p : ℕ). detail_at w p) z); level = 0; body = λ y. absurd (omega (arith, h.0.0, ap (λ (p : ℕ). kind_at w p) z)) }
      ]
  known (loop_line x m body rest) lv i e h r b ge lt =
      elim (dec_le (after_at w i) j) [
        | yes q ↦ known rest lv (after_at w i) e h.4 r.2 b.1 q lt
        | no q ↦ elim (dec_le (i + 1) j) [
          | yes u ↦ known body (suc lv) (i + 1) (after_at w i) h.3 r.1 b.0 u (omega arith)
          | no u ↦ let z : i ≡ j = omega arith in
              rw (sym z) (record {
                target = λ y. absurd (omega (arith, h.0.0, y));
                level = suc lv;
                body = λ y. (
                  body,
                  h.3,
                  ap (λ (p : ℕ). get_or turns p 0) (sym (number_of h.0.1)) ∙ r.0 ∙ ap (λ (b : Block). k b + tally k ts body) h.0.1,
                  b.0,
                );
              })
        ]
      ]
  known (if_line x t s rest) lv i e h r b ge lt =
      elim (dec_le (after_at w i) j) [
        | yes q ↦ known rest lv (after_at w i) e h.4 r.2 b.2 q lt
        | no q ↦ elim (dec_le (other_at w i) j) [
          | yes u ↦ known s lv (other_at w i) (after_at w i) h.3 r.1 b.1 u (omega arith)
          | no u ↦ elim (dec_le (i + 1) j) [
            | yes v ↦ known t lv (i + 1) (other_at w i) h.2 r.0 b.0 v (omega arith)
            | no v ↦ let z : i ≡ j = omega arith in
                record { target = λ y. absurd (omega (arith, h.0.0, ap (λ (p : ℕ). kind_at w p) z)); level = 0; body = λ y. absurd (omega (arith, h.0.0, ap (λ (p : ℕ). kind_at w p) z)) }
          ]
        ]
      ]

-- The function that a record is of.
in_function : (starts : List ℕ) (j m : ℕ) → get_or starts 0 0 ≡ 0 → j < get_or starts m 0 → (f : ℕ) × (f < m) × (get_or starts f 0 ≤ j) × (j < get_or starts (f + 1) 0)
in_function starts j zero z h = absurd (omega arith)
in_function starts j (suc m) z h =
    elim (dec_le (get_or starts m 0) j) [
      | yes q ↦ let y : suc m ≡ m + 1 = omega arith in (m, omega arith, q, rw y at h)
      | no q ↦ let (f, a, b, c) = in_function starts j m z (omega arith) in (f, omega (arith, a), b, c)
    ]

-- Of functions whose lines lie in the records, the columns hold what their totals and turns say.
module _ (c : PricedCode) (n : ℕ) (G : List Forms) (F : ℕ → Lines) (first : get_or c.code.bounds.now 0 0 ≡ 0)
    (lie : (f : ℕ) → f < n → Rep (numbers c.code.row.now) 1 (get_or c.code.bounds.now f 0) (get_or c.code.bounds.now (f + 1) 0) (F f))
    (rounds : (f : ℕ) → f < n → Rounds (cost_in c.cost) c.totals.now (lent_turns_in c.cost c.code.row.now) (F f)) (below : (f : ℕ) → f < n → Below n (F f))
    (totals : (f : ℕ) → f < n → get_or c.totals.now f 0 ≡ total (cost_in c.cost) (get_or G f done)) where
  abbrev cost : Block → ℕ
  cost = cost_in c.cost

  abbrev row : List ℕ
  row = numbers c.code.row.now

  abbrev lent : List ℕ
  lent = lent_turns_in c.cost c.code.row.now

  at_record : (j : ℕ) → j < get_or c.code.bounds.now n 0 → Known cost c.totals.now lent row n j
  at_record j lt =
      let (f, h, lo, hi) = in_function c.code.bounds.now j n first lt in
      known cost c.totals.now lent row n j (F f) 1 (get_or c.code.bounds.now f 0) (get_or c.code.bounds.now (f + 1) 0) (lie f h) (rounds f h) (below f h) lo hi

  round_at : (j : ℕ) → j < get_or c.code.bounds.now n 0 → kind_at row j ≡ 2 → (left : ℕ) (r : Piece row left (j + 1) (after_at row j)) →
      get_or lent j 0 ≡ cost (block_at row j) + total cost (forms G r.part.lines)
  round_at j lt two left r =
      let u = at_record j lt in
      let (l, x, e, b) = u.body two in
      let z : l ≡ r.part.lines = rep_one row u.level r.level (j + 1) (after_at row j) l r.part.lines x r.part.rep in
      let t = tally_is cost c.totals.now G n totals l b in
      omega (arith, e, t, ap (λ (l : Lines). total cost (forms G l)) z)

  pub loads_of : Loads c G (get_or c.code.bounds.now n 0)
  loads_of = record { called = λ j lt one. totals (detail_at row j) ((at_record j lt).target one); looped = round_at }

-- No run's sum is over the limit, at either cost.
short_at : (cost : Cost) (p : Plan) → Accepted p → (r : Run (main p)) → sum (cost_in cost) (visits r) ≤ 2 ^ 40
short_at Isolated p a = a.short
short_at MaxLoad p a = a.short_loaded

module _ {c : PricedCode} {p : Plan} (a : Accepted p) (q : PlanPriced c p) where
  abbrev k : Block → ℕ
  k = cost_in c.cost

  abbrev w : List ℕ
  w = numbers c.code.row.now

  abbrev starts : List ℕ
  starts = c.code.bounds.now

  abbrev turns : List ℕ
  turns = lent_turns_in c.cost c.code.row.now

  abbrev funs : List Forms
  funs = linked [] p.functions

  abbrev count : ℕ
  count = length p.functions

  abbrev table : FunctionTable w starts count
  table = table_of p a q.lies

  totals : (f : ℕ) → f < count → get_or c.totals.now f 0 ≡ total k (get_or funs f done)
  totals f h = q.loads.totals_are f h ∙ plan_totals k p f h

  rounds_here : (f : ℕ) → f < count → Rounds k c.totals.now turns (get_or p.functions f close)
  rounds_here f h = q.loads.rounds f h

  below_here : (f : ℕ) → f < count → Below count (get_or p.functions f close)
  below_here f h = let s = table.each f h in rules_below s.piece.heights 62 1 count (get_or p.functions f close) (omega (arith, s.few)) s.piece.part.rules

  loads_here : Loads c funs (get_or starts count 0)
  loads_here = loads_of c count funs (λ f. get_or p.functions f close) q.lies.first (λ f h. function_in q.lies f h) rounds_here below_here totals

  -- The table of the plan, by the number of functions that the code says.
  abbrev table_here : CodeTable c.code
  table_here =
      record {
        count = omega (arith, q.functions_are, table.count);
        fits = omega (arith, q.functions_are, table.fits);
        funs = funs;
        each = λ f h. let s = table.each f (omega (arith, q.functions_are)) in record { piece = s.piece; few = s.few; same = s.same; room = s.room };
        low = rw q.functions_are table.low;
        traceable = rw q.functions_are table.traceable;
      }

  main_is : main_forms table_here ≡ main p
  main_is = ap (λ (n : ℕ). get_or funs (n - 1) done) q.functions_are ∙ sym (main_last p)

  columns_here : CostColumns c table_here
  columns_here =
      record {
        records = get_or starts count 0;
        inside = λ j h. bound_in q.lies j (omega (arith, q.functions_are));
        loads = loads_here;
        small =
            let (r, e) = (total_largest k (main p)).met in
            let z : 2 ^ 40 ≡ limit = refl in
            omega (arith, short_at c.cost p a r, e, z, ap (total k) main_is);
      }

  -- What `at_release` asks for.
  pub code_priced : CodePriced c
  code_priced = record { table = table_here; columns = columns_here }

  -- `at_release`: what lies ahead of the main function.
  pub at_release_is : (r : Ahead) → ((s : CodePriced c) → r ≡ ahead_of (cost_in c.cost) (main_forms s.table)) → r ≡ ahead_of (cost_in c.cost) (main p)
  unfolding code_priced
  at_release_is r e = e code_priced ∙ ap (ahead_of k) main_is

  -- Where the stack of the place decodes to ls, at one of the 32 levels, and its leaves are points of the plan:
  module _ (x : Place) (ls : Levels) (least : 1 ≤ x.level) (most : x.level ≤ 32) (h : decode (main p) [] (frames x.leaves x.earlier 1 x.level) ≡ some ls)
      (u : AllPoints p (frames x.leaves x.earlier 1 x.level)) where
    -- What `at_report` asks for.
    pub place_priced : PlacePriced c x
    place_priced =
        record {
          least = least;
          most = most;
          decoded = record {
            table = table_here;
            levels = ls;
            decodes = ap (λ (f : Forms). decode f [] (frames x.leaves x.earlier 1 x.level)) main_is ∙ h;
            marked = marks p a q.lies x.leaves x.earlier x.level ls least h u;
          };
          columns = columns_here;
        }

    -- Its levels are these, and its records those of the plan.
    pub place_levels : place_priced.decoded.levels ≡ ls
    unfolding place_priced
    place_levels = refl

    pub place_records : place_priced.columns.records ≡ get_or starts count 0
    unfolding place_priced columns_here
    place_records = refl

    -- `at_report`: what lies ahead of what is left to run.
    pub at_report_is : (r : Ahead) → ((s : PlacePriced c x) → r ≡ ahead_at (cost_in c.cost) (whole s.decoded.levels)) → r ≡ ahead_at (cost_in c.cost) (whole ls)
    unfolding place_priced
    at_report_is r e = e place_priced
