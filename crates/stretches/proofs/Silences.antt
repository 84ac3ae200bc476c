-- The silences of the functions, from the walk that `outlook` makes of their forms. Assumes nothing.
use mathlib.Core.Path.{◌≡◌, refl, sym, ap, ◌∙◌, subst}
use mathlib.Core.List.{List, [], ◌++◌}
use Prim.Native.Nat.{ℕ, suc, ◌+◌, ◌-◌, ◌≤◌, ◌<◌}
use native.Mathlib.Omega.{arith}
use lib.ListN.{get_or, get_or-map}
use Rattle.model.specs.Plan.{Block, Lines, close, leaf_line, call_line, loop_line, if_line}
use Rattle.model.specs.Forms.{Forms, done, forms, linked}
use Rattle.model.specs.Total.{total, tally}
use Rattle.model.specs.Static.{line_silence}
use Rattle.model.proofs.Targets.{Below}
use Rattle.model.proofs.Ways.{tally_is}
use Rattle.model.proofs.Links.{tallies_totals}
use Rattle.rows.specs.declared.PricedCode.{PricedCode}
use Rattle.rows.specs.Costs.{limit, cost_in, lent_turns_in}
use Rattle.rows.specs.Plans.{lines_of}
use Rattle.rows.specs.Rows.{after_at, other_at, Rep, Rules, Part}
use Rattle.rows.proofs.Plans.{plan_rep, plan_rules, bound_le}
use Rattle.columns.specs.Columns.{column_of, held_turn, turn_rule, turns, Contains}
use Rattle.columns.specs.Whole.{known}
use Rattle.columns.proofs.Sizes.{round_le}
use Rattle.columns.proofs.Fronts.{part_fill}
use Rattle.columns.proofs.Stores.{contains_append}
use Rattle.columns.proofs.Functions.{fun_forms, fun_below, below_more}
use Rattle.columns.proofs.Known.{exact_known, known_tallies}
use Rattle.place.proofs.Suffixes.{number_of}
use Rattle.outlook.specs.declared.Quiet.{Quiet}
use Rattle.outlook.specs.Plans.{Rounds}
use Rattle.outlook.specs.Quiets.{quiet_sum, still, QuietForms, PricedForms, priced_forms}
use Rattle.outlook.proofs.Meaning.{loads_of}
use Rattle.stretches.specs.Stretches.{PricedSummed}
use Rattle.stretches.specs.Private.{WithinLimit}

-- Sums of rounds that stand in a column, none of them held at the ceiling, are the turns of the lines' loops.
module _ (k : Block → ℕ) (ts o w hs : List ℕ) where
  rounds_of : (left v i e : ℕ) (l : Lines) → Rep w v i e l → Rules hs left v l → tally k ts l ≤ limit → Contains o i (turns k ts l) → Rounds k ts o l
  unfolding Rep Rules Rounds tally column_of held_turn Contains
  rounds_of left v i e close h q le c = tt
  rounds_of left v i e (leaf_line b r) h q le c =
      rounds_of left v (after_at w i) e r h.4 q.2 (omega arith) (subst (λ x. Contains o x (turns k ts r)) (omega (arith, h.3)) c.1)
  rounds_of left v i e (call_line b f r) h q le c =
      rounds_of left v (after_at w i) e r h.4 q.4 (omega arith) (subst (λ x. Contains o x (turns k ts r)) (omega (arith, h.3)) c.1)
  rounds_of left v i e (loop_line b n body r) h q le c =
      let z = round_le n (tally k ts body) (k b) q.1 in
      let inside : Part w hs (left - 1) (suc v) (i + 1) (after_at w i) = record { lines = body; rep = h.3; rules = q.5 } in
      let (x, y) = contains_append (turns k ts body) (turns k ts r) o (suc i) (after_at w i) c.1 (omega (arith, part_fill (turn_rule k ts) inside 0)) in (
        ap (λ (p : ℕ). get_or o p 0) (number_of h.0.1) ∙ omega (arith, c.0, z, le),
        rounds_of (left - 1) (suc v) (i + 1) (after_at w i) body h.3 q.5 (omega (arith, z, le)) (subst (λ x. Contains o x (turns k ts body)) (omega arith) x),
        rounds_of left v (after_at w i) e r h.4 q.6 (omega (arith, z, le)) y,
      )
  rounds_of left v i e (if_line b t s r) h q le c =
      let first : Part w hs (left - 2) v (i + 1) (other_at w i) = record { lines = t; rep = h.2; rules = q.3 } in
      let second : Part w hs (left - 2) v (other_at w i) (after_at w i) = record { lines = s; rep = h.3; rules = q.4 } in
      let (x, d) = contains_append (turns k ts t) (turns k ts s ++ turns k ts r) o (suc i) (other_at w i) c.1 (omega (arith, part_fill (turn_rule k ts) first 0)) in
      let (y, z) = contains_append (turns k ts s) (turns k ts r) o (other_at w i) (after_at w i) d (part_fill (turn_rule k ts) second 0) in (
        rounds_of (left - 2) v (i + 1) (other_at w i) t h.2 q.3 (omega arith) (subst (λ x. Contains o x (turns k ts t)) (omega arith) x),
        rounds_of (left - 2) v (other_at w i) (after_at w i) s h.3 q.4 (omega arith) y,
        rounds_of left v (after_at w i) e r h.4 q.5 (omega arith) z,
      )

-- The silence of lines is that of their forms.
module _ (k : Block → ℕ) (ts : List ℕ) (G : List Forms) (n : ℕ) (totals : (f : ℕ) → f < n → get_or ts f 0 ≡ total k (get_or G f done)) where
  still_lines : (l : Lines) (s : ℕ) → Below n l → still k (forms G l) s ≡ line_silence k ts l s
  unfolding still line_silence forms Below
  still_lines close s b = refl
  still_lines (leaf_line y r) s b = rw (still_lines r s b) refl
  still_lines (call_line y f r) s b = rw (still_lines r s b.1, totals f b.0) refl
  still_lines (loop_line y m body r) s b = rw (still_lines r s b.1, tally_is k ts G n totals body b.0) refl
  still_lines (if_line y t e r) s b = rw (still_lines r s b.2, still_lines t (line_silence k ts r s) b.0, still_lines e (line_silence k ts r s) b.1) refl

-- The forms of a code whose totals and sums of rounds are exact.
module _ (c : PricedCode) (v : PricedSummed c) where
  abbrev k : Block → ℕ
  k = cost_in c.cost

  abbrev ts : List ℕ
  ts = c.totals.now

  abbrev n : ℕ
  n = c.code.functions

  abbrev F : ℕ → Lines
  F = lines_of v.plan

  abbrev G : List Forms
  G = linked [] v.plan.functions

  totals : (f : ℕ) → f < n → get_or ts f 0 ≡ total k (get_or G f done)
  unfolding total
  totals f h =
      exact_known v.plan v.exact f h ∙
      ap (λ (m : ℕ). get_or (known k F m) f 0) (sym v.plan.count) ∙
      ap (λ (t : List ℕ). get_or t f 0) (sym (known_tallies k F v.plan.functions (λ f i. refl)) ∙ tallies_totals k [] v.plan.functions) ∙
      get_or-map (total k) G f done

  below : (f : ℕ) → f < n → Below n (F f)
  below f h = below_more f n (F f) (omega arith) (fun_below v.plan f h)

  rounds : (f : ℕ) → f < n → Rounds k ts (lent_turns_in c.cost c.code.row.now) (F f)
  rounds f h =
      rounds_of k ts (lent_turns_in c.cost c.code.row.now) _ _ 62 1 (get_or c.code.bounds.now f 0) (get_or c.code.bounds.now (f + 1) 0) (F f)
      (plan_rep v.plan h) (plan_rules v.plan f h) (omega (arith, v.exact.total f h, v.exact.small f h)) (v.exact.rounds f h)

  pub fun_priced : (f : ℕ) → f < n → PricedForms c (get_or c.code.bounds.now f 0) (get_or c.code.bounds.now (f + 1) 0)
  fun_priced f h =
      let p = fun_forms v.plan f h in
      record {
        room = p.held;
        left = p.left;
        functions = G;
        piece = record { heights = p.heights; level = p.level; part = p.part };
        records = get_or c.code.bounds.now n 0;
        within = bound_le v.plan h;
        loads = loads_of c n G F v.plan.bounds.first (λ f h. plan_rep v.plan h) rounds below totals;
        small = omega (arith, v.exact.total f h, v.exact.small f h, tally_is k ts G n totals (F f) (below f h));
      }

  -- What the walk finds of a function is its silence, and within the limit.
  module _ (f : ℕ) (h : f < n) {q : Quiet}
      (u : (z : PricedForms c (get_or c.code.bounds.now f 0) (get_or c.code.bounds.now (f + 1) 0)) → QuietForms q k (priced_forms z)) where
    pub silence_is : (s : ℕ) → quiet_sum q s ≡ line_silence k ts (F f) s
    unfolding fun_priced
    silence_is s = (u (fun_priced f h)).says s ∙ still_lines k ts G n totals (F f) s (below f h)

    pub silence_within : WithinLimit q
    silence_within =
        let p = fun_priced f h in
        record { hit = omega (arith, (u p).hit, p.small); pass = λ x e. omega (arith, (u p).pass x e, p.small) }
