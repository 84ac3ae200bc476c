-- Functions one after the other: where they lie, and their totals. Plain mathematics: no code is named here. Assumes nothing.
use mathlib.Core.Path.{◌≡◌, refl, sym, ap, ◌∙◌}
use mathlib.Core.List.{List, [], ◌∷◌}
use Prim.Native.Nat.{ℕ, zero, suc, ◌+◌, ◌-◌, ◌≤◌, ◌<◌}
use native.Mathlib.Nat.{not-suc-le-zero}
use native.Mathlib.Decide.{dec_lt}
use native.Mathlib.Omega.{arith}
use lib.ListN.{length, get_or, set, replicate, length-set, length-append, get_or-append}
use lib.Seq.{sets, length-sets, get_or-set_same, get_or-set_other, get_or-append_seam}
use Rattle.model.specs.Plan.{Block, Lines, close, leaf_line, call_line, loop_line, if_line}
use Rattle.model.specs.Total.{tally}
use Rattle.model.proofs.Targets.{Below}
use Rattle.rows.specs.declared.Leaf.{Leaf}
use Rattle.rows.specs.Leaves.{numbers}
use Rattle.rows.proofs.Leaves.{numbers_length}
use Rattle.rows.specs.Rows.{Rules, Part}
use Rattle.rows.proofs.Shape.{rep_le}
use Rattle.rows.specs.Plans.{PlanOf, lines_of}
use Rattle.rows.proofs.Plans.{plan_rep, plan_rules, heights_before, heights_count, plan_inside}
use Rattle.rows.specs.Costs.{limit}
use Rattle.columns.specs.Sums.{ceiling, cap}
use Rattle.columns.specs.Walks.{FormsHeld}
use Rattle.columns.specs.Private.{Under}
use Rattle.columns.specs.Columns.{column_of, held_turn, turn_rule, turns, Contains}
use Rattle.columns.specs.Whole.{known, Measured, Exact}
use Rattle.columns.proofs.Capped.{cap_low, cap_both, cap_more, cap_rounds}
use Rattle.columns.proofs.Stores.{sets_below, contains_sets, contains_same}
use Rattle.columns.proofs.Fronts.{part_fill}

-- Lines that keep the rules call only functions before their own.
pub rules_below : (hs : List ℕ) (left v : ℕ) (l : Lines) → Rules hs left v l → Below (length hs) l
unfolding Rules Below
rules_below hs left v close h = tt
rules_below hs left v (leaf_line b r) h = rules_below hs left v r h.2
rules_below hs left v (call_line b f r) h = (h.2, rules_below hs left v r h.4)
rules_below hs left v (loop_line b n body r) h = (rules_below hs (left - 1) (suc v) body h.5, rules_below hs left v r h.6)
rules_below hs left v (if_line b t e r) h = (rules_below hs (left - 2) v t h.3, rules_below hs (left - 2) v e h.4, rules_below hs left v r h.5)

-- So do lines that call only functions before an earlier one.
pub below_more : (n m : ℕ) (l : Lines) → n ≤ m → Below n l → Below m l
unfolding Below
below_more n m close h b = tt
below_more n m (leaf_line y r) h b = below_more n m r h b
below_more n m (call_line y f r) h b = (omega (arith, b.0), below_more n m r h b.1)
below_more n m (loop_line y j body r) h b = (below_more n m body h b.0, below_more n m r h b.1)
below_more n m (if_line y t e r) h b = (below_more n m t h b.0, below_more n m e h b.1, below_more n m r h b.2)

-- Only the totals of functions that may be called count.
module _ (k : Block → ℕ) (ts us : List ℕ) (n : ℕ) where
  pub tally_same : ((j : ℕ) → j < n → get_or ts j 0 ≡ get_or us j 0) → (l : Lines) → Below n l → tally k ts l ≡ tally k us l
  unfolding tally Below
  tally_same e close b = refl
  tally_same e (leaf_line y r) b = let x = tally_same e r b in cc
  tally_same e (call_line y f r) b = let d = e f b.0 in let x = tally_same e r b.1 in cc
  tally_same e (loop_line y m body r) b = let d = tally_same e body b.0 in let x = tally_same e r b.1 in cc
  tally_same e (if_line y t s r) b = let d = tally_same e t b.0 in let c = tally_same e s b.1 in let x = tally_same e r b.2 in cc

  pub turns_same : ((j : ℕ) → j < n → get_or ts j 0 ≡ get_or us j 0) → (l : Lines) → Below n l → turns k ts l ≡ turns k us l
  unfolding column_of held_turn Below
  turns_same e close b = refl
  turns_same e (leaf_line y r) b = ap (λ (z : List ℕ). 0 ∷ z) (turns_same e r b)
  turns_same e (call_line y f r) b = ap (λ (z : List ℕ). 0 ∷ z) (turns_same e r b.1)
  turns_same e (loop_line y m body r) b = rw (tally_same e body b.0, turns_same e body b.0, turns_same e r b.1)
  turns_same e (if_line y t s r) b = rw (turns_same e t b.0, turns_same e s b.1, turns_same e r b.2)

  -- Held totals of what is called give the held total.
  pub tally_held : ((j : ℕ) → j < n → cap (get_or ts j 0) ≡ cap (get_or us j 0)) → (l : Lines) → Below n l → cap (tally k ts l) ≡ cap (tally k us l)
  unfolding tally Below
  tally_held e close b = refl
  tally_held e (leaf_line y r) b = cap_both _ _ _ _ refl (tally_held e r b)
  tally_held e (call_line y f r) b = cap_both _ _ _ _ (cap_both (k y) (k y) (get_or ts f 0) (get_or us f 0) refl (e f b.0)) (tally_held e r b.1)
  tally_held e (loop_line y m body r) b = cap_both _ _ _ _ (cap_rounds (k y) m _ _ (tally_held e body b.0)) (tally_held e r b.1)
  tally_held e (if_line y t s r) b = cap_both _ _ _ _ (cap_more (k y) _ _ _ _ (tally_held e t b.0) (tally_held e s b.1)) (tally_held e r b.2)

length_known : (k : Block → ℕ) (F : ℕ → Lines) (n : ℕ) → length (known k F n) ≡ n
unfolding known
length_known k F zero = refl
length_known k F (suc n) = length-append (known k F n) (tally k (known k F n) (F n) ∷ []) ∙ (let e = length_known k F n in omega arith)

pub known_at : (k : Block → ℕ) (F : ℕ → Lines) (n f : ℕ) → f < n → get_or (known k F n) f 0 ≡ tally k (known k F f) (F f)
unfolding known
known_at k F zero f h = absurd (not-suc-le-zero h)
known_at k F (suc n) f h =
    let e = length_known k F n in
    let t = tally k (known k F n) (F n) in
    elim (dec_lt f n) [
      | yes l ↦ get_or-append (known k F n) (t ∷ []) 0 f (omega arith) ∙ known_at k F n f l
      | no l ↦
          let i : f ≡ n = omega arith in
          let j : length (known k F n) ≡ f = omega arith in
          rw i (rw (j ∙ i) at (get_or-append_seam (known k F n) t [] 0))
    ]

module _ {w starts : List ℕ} {n : ℕ} (v : PlanOf w starts n) where
  abbrev start : ℕ → ℕ
  start f = get_or starts f 0

  abbrev pub fun_part : (f : ℕ) → f < n → Part w (heights_before v f) 62 1 (get_or starts f 0) (get_or starts (f + 1) 0)
  fun_part f lt = record { lines = lines_of v f; rep = plan_rep {k = f} v lt; rules = plan_rules v f lt }

  pub fun_below : (f : ℕ) → f < n → Below f (lines_of v f)
  fun_below f lt = rw (heights_count v f lt) at (rules_below (heights_before v f) 62 1 (lines_of v f) (plan_rules v f lt))

  in_order : (d f g : ℕ) → f + d ≡ g → f < g → g ≤ n → start (f + 1) ≤ start g
  in_order zero f g e h l = absurd (omega arith)
  in_order (suc d) f g e h l =
      elim (dec_lt (f + 1) g) [
        | yes lt ↦
            let a : start (f + 1 + 1) ≤ start g = in_order d (f + 1) g (omega arith) lt l in
            omega (arith, a, rep_le w 1 (start (f + 1)) (start (f + 1 + 1)) (lines_of v (f + 1)) (plan_rep {k = f + 1} v (omega arith)))
        | no ge ↦ let i : f + 1 ≡ g = omega arith in rw i (omega arith)
      ]

  -- A function ends before a later one begins.
  pub fun_order : (f g : ℕ) → f < g → g ≤ n → start (f + 1) ≤ start g
  fun_order f g h l = in_order (g - f) f g (omega arith) h l

-- The forms of a function.
abbrev pub fun_forms : {row : List Leaf} {starts : List ℕ} {n : ℕ} → PlanOf (numbers row) starts n → (f : ℕ) → f < n → FormsHeld row (get_or starts f 0) (get_or starts (f + 1) 0)
fun_forms {row} v f lt =
    record {
      left = 62;
      heights = heights_before v f;
      level = 1;
      part = fun_part v f lt;
      held = omega (arith, (plan_inside v f lt).0, numbers_length row);
      few = (plan_inside v f lt).1;
    }

-- The first f functions are measured, and the totals behind them are 0.
pub record Measuring (k : Block → ℕ) (row : List Leaf) (starts : List ℕ) (n f : ℕ) (ts o : List ℕ) : Type 0 where
  pub under : Under ceiling ts
  pub long : length ts ≡ 16
  pub wide : length o ≡ 512
  pub behind : (g : ℕ) → f ≤ g → get_or ts g 0 ≡ 0
  pub right : (v : PlanOf (numbers row) starts n) (g : ℕ) → g < f → get_or ts g 0 ≡ cap (tally k (known k (lines_of v) g) (lines_of v g))
  pub rounds : (v : PlanOf (numbers row) starts n) (g : ℕ) → g < f → Contains o (get_or starts g 0) (turns k ts (lines_of v g))

pub zeros_at : (k g : ℕ) → ◌≡◌ {A = ℕ} (get_or (replicate k 0) g 0) 0
zeros_at zero g = refl
zeros_at (suc k) zero = refl
zeros_at (suc k) (suc g) = zeros_at k g

pub under_set : (m : ℕ) (a : List ℕ) (f v : ℕ) → v ≤ m → Under m a → Under m (set a f v)
under_set m [] f v h k j = k j
under_set m (x ∷ a) zero v h k zero = h
under_set m (x ∷ a) zero v h k (suc j) = k (suc j)
under_set m (x ∷ a) (suc f) v h k zero = k 0
under_set m (x ∷ a) (suc f) v h k (suc j) = under_set m a f v h (λ i. k (suc i)) j

pub measure_next : {k : Block → ℕ} {row : List Leaf} {starts : List ℕ} {n f t : ℕ} {ts o o' : List ℕ} → f < n → n ≤ 16 → PlanOf (numbers row) starts n → t ≤ ceiling
    → ((p : FormsHeld row (get_or starts f 0) (get_or starts (f + 1) 0)) → t ≡ cap (tally k ts p.part.lines))
    → ((p : FormsHeld row (get_or starts f 0) (get_or starts (f + 1) 0)) → o' ≡ sets o (get_or starts f 0) (turns k ts p.part.lines))
    → Measuring k row starts n f ts o → Measuring k row starts n (f + 1) (set ts f t) o'
measure_next {k} {row} {starts} {n} {f} {t} {ts} {o} {o'} lt few v₀ le ht ho q =
    let s = get_or starts f 0 in
    let same : (g j : ℕ) → g ≤ f → j < g → get_or ts j 0 ≡ get_or (set ts f t) j 0 = λ g j a b. sym (get_or-set_other ts f j t 0 (omega arith)) in
    record {
      under = under_set ceiling ts f t le q.under;
      long = length-set ts f t ∙ q.long;
      wide = ap length (ho (fun_forms v₀ f lt)) ∙ length-sets o s (turns k ts (lines_of v₀ f)) ∙ q.wide;
      behind = λ g i. get_or-set_other ts f g t 0 (omega arith) ∙ q.behind g (omega arith);
      right = λ v g i. elim (dec_lt g f) [
        | yes h ↦ get_or-set_other ts f g t 0 (omega arith) ∙ q.right v g h
        | no h ↦
            let e : g ≡ f = omega arith in
            let F = lines_of v in
            rw e (get_or-set_same ts f t 0 (omega (arith, q.long)) ∙ ht (fun_forms v f lt) ∙
            tally_held k ts (known k F f) f (λ j m. ap (λ (y : ℕ). cap y) (q.right v j m) ∙ held (tally k (known k F j) (F j)) ∙ ap (λ (y : ℕ). cap y) (sym (known_at k F f j m)))
            (F f) (fun_below v f lt))
      ];
      rounds = λ v g i. elim (dec_lt g f) [
        | yes h ↦
            let x = turns_same k ts (set ts f t) g (λ j m. same g j (omega arith) m) (lines_of v g) (fun_below v g (omega arith)) in
            rw x at (contains_same (turns k ts (lines_of v g)) o o' (get_or starts g 0)
            (λ j m. ap (λ (y : List ℕ). get_or y j 0) (ho (fun_forms v f lt)) ∙
            sets_below (turns k ts (lines_of v f)) o s j (omega (arith, part_fill (turn_rule k ts) (fun_part v g (omega arith)) 0, fun_order v g f h (omega arith))))
            (q.rounds v g h))
        | no h ↦
            let e : g ≡ f = omega arith in
            let x = turns_same k ts (set ts f t) f (λ j m. same f j (omega arith) m) (lines_of v f) (fun_below v f lt) in
            let y = contains_sets (turns k ts (lines_of v f)) o s (omega (arith, part_fill (turn_rule k ts) (fun_part v f lt) 0, (plan_inside v f lt).1, q.wide)) in
            let z : Contains o' s (turns k ts (lines_of v f)) = rw (ho (fun_forms v f lt)) y in
            rw e (rw x at z)
      ];
    }
  where
    held : (x : ℕ) → cap (cap x) ≡ cap x
    held x = omega arith

pub measured : {k : Block → ℕ} {row : List Leaf} {starts : List ℕ} {n f : ℕ} {ts o : List ℕ} → n ≤ f → Measuring k row starts n f ts o → (v : PlanOf (numbers row) starts n) → Measured k (lines_of v) starts n ts o
measured {k} {n = n} le q v =
    record {
      totals = λ g h. q.right v g (omega arith) ∙ ap (λ (y : ℕ). cap y) (sym (known_at k (lines_of v) n g h));
      rounds = λ g h. q.rounds v g (omega arith);
    }

-- Totals that are not over the limit are exact.
pub measured_exact : {k : Block → ℕ} {w starts : List ℕ} {n : ℕ} {ts o : List ℕ} (v : PlanOf w starts n) → Measured k (lines_of v) starts n ts o
    → ((f : ℕ) → f < n → get_or ts f 0 ≤ limit) → Exact k (lines_of v) starts n ts o
measured_exact {k} {w} {starts} {n} {ts} {o} v q low =
    let F = lines_of v in
    let total : (f : ℕ) → f < n → get_or ts f 0 ≡ tally k (known k F f) (F f) = λ f h.
    q.totals f h ∙ cap_low (get_or (known k F n) f 0) (omega (arith, q.totals f h, low f h)) ∙ known_at k F n f h in
    record {
      total = λ f h.
          total f h ∙ tally_same k (known k F f) ts f (λ j m. known_at k F f j m ∙ sym (total j (omega arith))) (F f) (fun_below v f h);
      small = low;
      rounds = q.rounds;
    }
