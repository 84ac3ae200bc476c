-- A walk that adds up totals and compares the lent turns on the way: what it comes to, form by form. Plain mathematics: no code is named here.
-- Assumes nothing.
use mathlib.Core.Path.{◌≡◌, refl, sym, ap, ◌∙◌, subst}
use mathlib.Core.List.{List}
use Prim.Native.Nat.{ℕ, ◌+◌, ◌*◌, ◌≤◌, ◌<◌, max}
use native.Mathlib.Omega.{arith}
use lib.ListN.{length, get_or}
use lib.Dec.{eqb, leb}
use mathlib.Core.Bool.{Bool, true, false, ◌&&◌}
use Rattle.std.specs.Bool.{then_some}
use Rattle.std.specs.Prelude.{Option, Some, None, MatchOption}
use Rattle.std.proofs.lemmas.Bool.{false≢true, eqb-true, eq-eqb, leb-true, leb-false}
use Rattle.model.specs.Plan.{Block, Lines, close, leaf_line, call_line, loop_line, if_line}
use Rattle.model.specs.Total.{tally}
use Rattle.rows.specs.declared.Leaf.{Leaf}
use Rattle.rows.specs.Leaves.{numbers}
use Rattle.rows.specs.Rows.{field, other_at, after_at, block_at, Rep, Part}
use Rattle.rows.specs.Answers.{Says}
use Rattle.rows.specs.First.{rest}
use Rattle.rows.proofs.Shape.{LoopAt, IfAt, no_lines}
use Rattle.rows.specs.Costs.{limit, lent_turns_in}
use Rattle.rows.specs.Plans.{PlanOf}
use Rattle.rows.specs.declared.Cost.{Cost}
use Rattle.rows.specs.declared.Cost.TheVariants.{Isolated, MaxLoad}
use Rattle.rows.proofs.Leaves.{numbers_length}
use Rattle.std.proofs.lemmas.List.{length-map}
use Rattle.columns.specs.Sums.{ceiling, cap, lead}
use Rattle.columns.specs.Walks.{front, FormsHeld}
use Rattle.columns.specs.Private.{Totals, SumFits}
use Rattle.columns.specs.Columns.{column_of, held_turn, turn_rule, turns, Contains}
use Rattle.columns.specs.Local.{AllSummed}
use Rattle.columns.proofs.Sizes.{tally_split}
use Rattle.columns.proofs.Inner.{after_forms}
use Rattle.columns.proofs.Stores.{contains_both}
use Rattle.columns.proofs.Fronts.{column_split, front_fill, contains_rest, contains_loop, contains_if, loop_holds, if_holds}
use Rattle.columns.proofs.Summing.{if_turn, loop_sum, if_sum, loop_note}

-- The lines from i on are all that is left to add up of the lines l, which begin at `from`.
pub record Adding (k : Block → ℕ) (ts o : List ℕ) (row : List Leaf) (from i e acc : ℕ) (l : Lines) : Type 0 where
  pub more : FormsHeld row i e
  pub sum : cap (tally k ts l) ≡ cap (acc + tally k ts more.part.lines)
  pub on : Contains o from (turns k ts l) → Contains o i (turns k ts more.part.lines)
  pub back : Contains o i (turns k ts more.part.lines) → Contains o from (turns k ts l)

-- A total that is answered where two numbers are the same.
pub where_same : {A : Type 0} {a b n : ℕ} {r : Option ℕ} (t : ℕ) → r ≡ then_some (eqb a b) n → (a ≡ b → Totals (Some n) A t) → (A → a ≡ b) → Totals r A t
where_same {A} {a} {b} {n} t h f g = rw h (go (eqb a b) (λ e. f (eqb-true a b e)) (λ e x. false≢true (sym e ∙ eq-eqb a b (g x))))
  where
    go : (y : Bool) → (y ≡ true → Totals (Some n) A t) → (y ≡ false → A → ⊥) → Totals (then_some y n) A t
    go true f g = f refl
    go false f g = g refl

module _ (k : Block → ℕ) (ts o : List ℕ) where
  -- A form that is no loop has the turn 0,
  no_round : (w : List ℕ) (v i e : ℕ) (l : Lines) → Rep w v i e l → i < e → (field w i 0 ≡ 2 → ⊥) → Contains o i (front (turn_rule k ts) l 0) → get_or o i 0 ≡ 0
  unfolding Rep front Contains held_turn
  no_round w v i e close r lt n h = absurd (omega arith)
  no_round w v i e (leaf_line b m) r lt n h = h.0
  no_round w v i e (call_line b g m) r lt n h = h.0
  no_round w v i e (loop_line b z body m) r lt n h = absurd (n r.0.0)
  no_round w v i e (if_line b t g m) r lt n h = h.0

  -- and that is all that a leaf or a call has.
  flat_round : (w : List ℕ) (v i e : ℕ) (l : Lines) → Rep w v i e l → i < e → (field w i 0 ≡ 2 → ⊥) → (field w i 0 ≡ 3 → ⊥) → get_or o i 0 ≡ 0
      → Contains o i (front (turn_rule k ts) l 0)
  unfolding Rep front Contains held_turn
  flat_round w v i e close r lt n m h = absurd (omega arith)
  flat_round w v i e (leaf_line b s) r lt n m h = (h, tt)
  flat_round w v i e (call_line b g s) r lt n m h = (h, tt)
  flat_round w v i e (loop_line b z body s) r lt n m h = absurd (n r.0.0)
  flat_round w v i e (if_line b t g s) r lt n m h = absurd (m r.0.0)

  module _ {w hs : List ℕ} {left v i e : ℕ} (lt : i < e) (p : Part w hs left v i e) where
    pub first_turn : (field w i 0 ≡ 2 → ⊥) → Contains o i (front (turn_rule k ts) p.lines 0) → get_or o i 0 ≡ 0
    first_turn n h = no_round w v i e p.lines p.rep lt n h

    pub flat_turn : (field w i 0 ≡ 2 → ⊥) → (field w i 0 ≡ 3 → ⊥) → get_or o i 0 ≡ 0 → Contains o i (front (turn_rule k ts) p.lines 0)
    flat_turn n m h = flat_round w v i e p.lines p.rep lt n m h

  -- The answer for a leaf or a call,
  pub flat_total : {w hs : List ℕ} {left v i e u n : ℕ} {r : Option ℕ} (lt : i < e) (p : Part w hs left v i e) → field w i 0 < 2 → u ≡ get_or o i 0
      → n ≡ cap (lead k ts p.lines) → r ≡ then_some (eqb u 0) n → Totals r (Contains o i (front (turn_rule k ts) p.lines 0)) (lead k ts p.lines)
  flat_total lt p kind hu hn hr =
      where_same (lead k ts p.lines) hr (λ e. (flat_turn lt p (λ z. omega arith) (λ z. omega arith) (sym hu ∙ e), hn)) (λ a. hu ∙ first_turn lt p (λ z. omega arith) a)

  -- for a loop, from that for its body,
  module _ {w hs : List ℕ} {left v i : ℕ} {l : Lines} (h : LoopAt w hs left v i l) where
    pub loop_refuse : (Contains o (i + 1) (turns k ts h.body.lines) → ⊥) → Contains o i (front (turn_rule k ts) l 0) → ⊥
    loop_refuse n a = n (contains_loop (turn_rule k ts) o 0 h a).1

    pub loop_total : {b c u x n : ℕ} {r : Option ℕ} → c ≡ k (block_at w i) → b ≡ field w i 4
        → Totals (Some x) (Contains o (i + 1) (turns k ts h.body.lines)) (tally k ts h.body.lines) → u ≡ get_or o i 0 → n ≡ cap (c + b * (x + c))
        → r ≡ then_some (eqb u (c + x)) n → Totals r (Contains o i (front (turn_rule k ts) l 0)) (lead k ts l)
    loop_total hc hb t hu hn hr =
        let d = loop_note k ts h hc t.1 in
        where_same (lead k ts l) hr (λ e. (loop_holds (turn_rule k ts) o 0 h (sym hu ∙ e ∙ d) t.0, loop_sum k ts h hc hb t.1 hn))
        (λ a. hu ∙ (contains_loop (turn_rule k ts) o 0 h a).0 ∙ sym d)

  -- and for an if, from those for its parts.
  module _ {w hs : List ℕ} {left v i e mid : ℕ} (lt : i < e) (p : Part w hs left v i e) (h : IfAt w hs left v i p.lines) (hm : mid ≡ other_at w i) where
    pub then_refuse : (Contains o (i + 1) (turns k ts h.then.lines) → ⊥) → Contains o i (front (turn_rule k ts) p.lines 0) → ⊥
    then_refuse n a = n (contains_if (turn_rule k ts) o 0 h hm a).0

    pub else_refuse : (Contains o mid (turns k ts h.else.lines) → ⊥) → Contains o i (front (turn_rule k ts) p.lines 0) → ⊥
    else_refuse n a = n (contains_if (turn_rule k ts) o 0 h hm a).1

    pub if_total : {c u x y z n : ℕ} {r : Option ℕ} → field w i 0 ≡ 3 → c ≡ k (block_at w i)
        → Totals (Some x) (Contains o (i + 1) (turns k ts h.then.lines)) (tally k ts h.then.lines)
        → Totals (Some y) (Contains o mid (turns k ts h.else.lines)) (tally k ts h.else.lines) → z ≡ max x y → u ≡ get_or o i 0 → n ≡ cap (c + z)
        → r ≡ then_some (eqb u 0) n → Totals r (Contains o i (front (turn_rule k ts) p.lines 0)) (lead k ts p.lines)
    if_total kind hc t s hz hu hn hr =
        where_same (lead k ts p.lines) hr (λ e. (if_holds (turn_rule k ts) o 0 h hm (sym hu ∙ e ∙ if_turn k ts h) t.0 s.0, if_sum k ts h hc t.1 s.1 hz hn))
        (λ a. hu ∙ first_turn lt p (λ z. omega arith) a)

  -- The walk over the forms.
  pub add_start : {row : List Leaf} {i e : ℕ} (p : FormsHeld row i e) → Adding k ts o row i i e 0 p.part.lines
  add_start p = record { more = p; sum = omega arith; on = λ a. a; back = λ a. a }

  module _ {row : List Leaf} {from i e acc : ℕ} {l : Lines} (q : Adding k ts o row from i e acc l) where
    -- A form that is refused refuses all,
    pub add_refuse : i < e → (Contains o i (front (turn_rule k ts) q.more.part.lines 0) → ⊥) → Contains o from (turns k ts l) → ⊥
    add_refuse lt n a = n (contains_rest (turn_rule k ts) o 0 lt q.more.part refl (q.on a)).0

    -- one that fits is added,
    pub add_next : {en x a : ℕ} → i < e → Totals (Some x) (Contains o i (front (turn_rule k ts) q.more.part.lines 0)) (lead k ts q.more.part.lines)
        → a ≡ cap (acc + x) → en ≡ after_at (numbers row) i → Adding k ts o row from en e a l
    add_next {en} {x} {a} lt t ha he =
        let u = turn_rule k ts in
        let m = q.more.part.lines in
        record {
          more = after_forms lt q.more he;
          sum = omega (arith, q.sum, t.1, tally_split k ts m, ha);
          on = λ z. (contains_rest u o 0 lt q.more.part he (q.on z)).1;
          back = λ z. q.back (rw (column_split u m 0) (contains_both (front u m 0) (turns k ts (rest m)) o i en (front_fill u lt q.more.part 0 he) t.0 z));
        }

    -- and at the end all are.
    pub add_end : e ≤ i → acc ≤ ceiling → Totals (Some acc) (Contains o from (turns k ts l)) (tally k ts l)
    unfolding column_of Contains tally
    add_end le hold =
        let n = no_lines le q.more.part in
        (q.back (subst (λ (m : Lines). Contains o i (turns k ts m)) (sym n) tt), omega (arith, q.sum, ap (tally k ts) n, hold))

-- THE FUNCTIONS

-- The answer for a function, from that of the walk over its forms: its total is not over the limit, and the lent one.
pub fits_says : (A : Type 0) (t m : ℕ) (r : Option ℕ) (b : Bool) → Totals r A t → MatchOption r (b ≡ false) (λ n. b ≡ (leb n limit && eqb n m))
    → Says b (A × (t ≤ limit) × (m ≡ t))
fits_says A t m None b q h = rw h (λ z. q z.0)
fits_says A t m (Some n) b q h = rw h (go (leb n limit) (eqb n m) refl refl)
  where
    go : (x y : Bool) → leb n limit ≡ x → eqb n m ≡ y → Says (x && y) (A × (t ≤ limit) × (m ≡ t))
    go true true le e = (q.0, omega (arith, q.1, leb-true n limit le), omega (arith, q.1, leb-true n limit le, eqb-true n m e))
    go true false le e = λ z. false≢true (sym e ∙ eq-eqb n m (omega (arith, q.1, z.1, z.2)))
    go false y le e = λ z. omega (arith, q.1, z.1, leb-false n limit le)

-- The lent turns reach as far as the functions do.
pub lent_long : (c : Cost) (row : List Leaf) {starts : List ℕ} {n : ℕ} → PlanOf (numbers row) starts n → get_or starts n 0 ≤ length (lent_turns_in c row)
lent_long Isolated row v = omega (arith, v.bounds.held, numbers_length row, length-map row (λ (l : Leaf). l.turn))
lent_long MaxLoad row v = omega (arith, v.bounds.held, numbers_length row, length-map row (λ (l : Leaf). l.max_load_turn))

-- All functions fit exactly when the lent numbers are theirs.
module _ (k : Block → ℕ) (ts o starts : List ℕ) (F : ℕ → Lines) where
  pub summed_fits : {n : ℕ} → AllSummed k F starts n ts o → (f : ℕ) → f < n → SumFits k ts o starts F f
  summed_fits q f lt = let e = q.exact in (e.rounds f lt, omega (arith, e.total f lt, e.small f lt), e.total f lt)

  pub fits_summed : {n : ℕ} → get_or starts n 0 ≤ length o → ((f : ℕ) → f < n → SumFits k ts o starts F f) → ((f : ℕ) → n ≤ f → f < 16 → get_or ts f 0 ≡ 0)
      → AllSummed k F starts n ts o
  fits_summed held a b =
      record {
        exact =
            record {
              total = λ f lt. (a f lt).2;
              small = λ f lt. omega (arith, (a f lt).1, (a f lt).2);
              rounds = λ f lt. (a f lt).0;
            };
        behind = b;
        turns_long = held;
      }
