-- Functions in a row, one after the other: their bounds, their leaves, and how they are read back. Assumes nothing.
use mathlib.Core.Path.{◌≡◌, refl, sym, ap, ◌∙◌, subst}
use mathlib.Core.List.{List, [], ◌∷◌, ◌++◌}
use Prim.Native.Nat.{ℕ, zero, suc, ◌+◌, ◌*◌, ◌^◌, ◌≤◌, ◌<◌}
use native.Mathlib.Omega.{arith}
use native.Mathlib.Nat.{not-suc-le-zero, le_of_suc-le-suc}
use native.Mathlib.Numerals.{add-one}
use lib.ListN.{length, get_or, take, length-append}
use lib.Seq.{length-take-le}
use Rattle.model.specs.Plan.{Lines, close, resume_cost, Plan}
use Rattle.model.specs.Levels.{height, heights}
use Rattle.model.specs.Acceptance.{size, sizes, Function, Functions, Formed}
use Rattle.rows.specs.Rows.{Rep, Rules}
use Rattle.rows.specs.Plans.{Lies, Bounds, PlanOf, lines_of, PlanIn}
use Rattle.rows.specs.Reading.{functions_at}
use Rattle.rows.proofs.Measures.{rep_size, function_part}
use Rattle.rows.proofs.Reading.{rep_lines}

module _ (w s : List ℕ) where
  -- The functions up to a bound have as many leaves as the bound says.
  pub lies_sizes : (ls : List Lines) (f : ℕ) → Lies w s f ls → get_or s (f + length ls) 0 ≡ get_or s f 0 + sizes ls
  unfolding Lies sizes
  lies_sizes [] f h = let q : f + 0 ≡ f = omega arith in omega (arith, ap (λ (x : ℕ). get_or s x 0) q)
  lies_sizes (l ∷ ls) f h =
      let q : f + suc (length ls) ≡ f + 1 + length ls = omega arith in
      omega (arith, ap (λ (x : ℕ). get_or s x 0) q, rep_size w l 1 (get_or s f 0) (get_or s (f + 1) 0) h.0, lies_sizes ls (f + 1) h.1)

  -- One of them.
  pub lies_at : (ls : List Lines) (f k : ℕ) → Lies w s f ls → k < length ls → Rep w 1 (get_or s (f + k) 0) (get_or s (f + k + 1) 0) (get_or ls k close)
  unfolding Lies
  lies_at [] f k h lt = absurd (not-suc-le-zero lt)
  lies_at (l ∷ ls) f zero h lt = let q : f + 0 ≡ f = omega arith in rw q h.0
  lies_at (l ∷ ls) f (suc k) h lt =
      let q : f + suc k ≡ f + 1 + k = omega arith in
      rw q (lies_at ls (f + 1) k h.1 (le_of_suc-le-suc lt))

  -- One more at their end.
  pub lies_more : (ls : List Lines) (l : Lines) (f : ℕ) → Lies w s f ls → Rep w 1 (get_or s (f + length ls) 0) (get_or s (f + length ls + 1) 0) l → Lies w s f (ls ++ (l ∷ []))
  unfolding Lies
  lies_more [] l f h r = let q : f + 0 ≡ f = omega arith in (rw q at r, tt)
  lies_more (x ∷ ls) l f h r =
      let q : f + suc (length ls) ≡ f + 1 + length ls = omega arith in
      (h.0, lies_more ls l (f + 1) h.1 (rw q at r))

  -- Bounds do not fall.
  lies_le : (ls : List Lines) (f k : ℕ) → Lies w s f ls → k ≤ length ls → get_or s (f + k) 0 ≤ get_or s (f + length ls) 0
  unfolding Lies
  lies_le ls f zero h le =
      let q : f + 0 ≡ f = omega arith in
      omega (arith, ap (λ (x : ℕ). get_or s x 0) q, lies_sizes ls f h)
  lies_le [] f (suc k) h le = absurd (not-suc-le-zero le)
  lies_le (l ∷ ls) f (suc k) h le =
      let q : f + suc k ≡ f + 1 + k = omega arith in
      let p : f + suc (length ls) ≡ f + 1 + length ls = omega arith in
      rw (q, p) (lies_le ls (f + 1) k h.1 (le_of_suc-le-suc le))

-- A height for each function.
pub length_heights : (ls : List Lines) (hs : List ℕ) → length (heights hs ls) ≡ length hs + length ls
unfolding heights
length_heights [] hs = omega arith
length_heights (x ∷ ls) hs =
    let h = length_heights ls (hs ++ (height hs x ∷ [])) in
    omega (arith, length-append hs (height hs x ∷ []))

-- One function more.
pub heights_more : (ls : List Lines) (l : Lines) (hs : List ℕ) → heights hs (ls ++ (l ∷ [])) ≡ heights hs ls ++ (height (heights hs ls) l ∷ [])
unfolding heights
heights_more [] l hs = refl
heights_more (x ∷ ls) l hs = heights_more ls l (hs ++ (height hs x ∷ []))

pub functions_more : (ls : List Lines) (l : Lines) (hs : List ℕ) (n : ℕ) → Functions hs n ls → Function (heights hs ls) (n + sizes ls) l → Functions hs n (ls ++ (l ∷ []))
unfolding Functions heights sizes
functions_more [] l hs n h f = let q : n + 0 ≡ n = omega arith in (rw q at f, tt)
functions_more (x ∷ ls) l hs n h f =
    let q : n + (size x + sizes ls) ≡ n + size x + sizes ls = omega arith in
    (h.0, functions_more ls l (hs ++ (height hs x ∷ [])) (n + size x) h.1 (rw q at f))

-- One function of those that keep the rules.
pub function_kept : (ls : List Lines) (hs : List ℕ) (n k : ℕ) → Functions hs n ls → k < length ls → Function (heights hs (take k ls)) (n + sizes (take k ls)) (get_or ls k close)
unfolding Functions heights sizes
function_kept [] hs n k h lt = absurd (not-suc-le-zero lt)
function_kept (x ∷ ls) hs n zero h lt = let q : n + 0 ≡ n = omega arith in rw q h.0
function_kept (x ∷ ls) hs n (suc k) h lt =
    let q : n + (size x + sizes (take k ls)) ≡ n + size x + sizes (take k ls) = omega arith in
    rw q (function_kept ls (hs ++ (height hs x ∷ [])) (n + size x) k h.1 (le_of_suc-le-suc lt))

-- A function of a plan in its row.
pub plan_rep : {w s : List ℕ} {n k : ℕ} (p : PlanOf w s n) → k < n → Rep w 1 (get_or s k 0) (get_or s (k + 1) 0) (get_or p.functions k close)
plan_rep {w} {s} {n} {k} p lt =
    let x : 0 + k ≡ k = omega arith in
    rw x at (lies_at w s p.functions 0 k p.lie (omega (arith, p.count)))

-- A bound is not over the last.
pub bound_le : {w s : List ℕ} {n f : ℕ} → PlanOf w s n → f < n → get_or s (f + 1) 0 ≤ get_or s n 0
bound_le {w} {s} {n} {f} p lt =
    let c = p.count in
    let h = lies_le w s p.functions 0 (f + 1) p.lie (omega arith) in
    let x : 0 + (f + 1) ≡ f + 1 = omega arith in
    let y : 0 + length p.functions ≡ n = omega arith in
    rw (x, y) at h

-- The heights of the functions before number f, one for each, and what the rules ask of its lines.
abbrev pub heights_before : {w s : List ℕ} {n : ℕ} → PlanOf w s n → ℕ → List ℕ
heights_before p f = heights [] (take f p.functions)

pub heights_count : {w s : List ℕ} {n : ℕ} (p : PlanOf w s n) (f : ℕ) → f < n → length (heights_before p f) ≡ f
heights_count p f lt = omega (arith, length_heights (take f p.functions) [], length-take-le f p.functions (omega (arith, p.count)))

pub plan_rules : {w s : List ℕ} {n : ℕ} (p : PlanOf w s n) (f : ℕ) → f < n → Rules (heights_before p f) 62 1 (lines_of p f)
plan_rules p f lt = (function_part (lines_of p f) (plan_rep p lt) (function_kept p.functions [] 0 f p.kept (omega (arith, p.count))) refl).rules

-- Its records are in the row, and no more than 512.
pub plan_inside : {w s : List ℕ} {n : ℕ} (p : PlanOf w s n) (f : ℕ) → f < n → (get_or s (f + 1) 0 * 8 ≤ length w) × (get_or s (f + 1) 0 ≤ 512)
plan_inside p f lt = (omega (arith, bound_le p lt, p.bounds.held), omega (arith, bound_le p lt, p.bounds.leaves))

-- The same plan, by the number of its functions.
abbrev pub plan_own : {w s : List ℕ} {n : ℕ} (p : PlanOf w s n) → PlanOf w s (length p.functions)
plan_own {w} {s} p =
    record {
      functions = p.functions;
      count = refl;
      bounds = subst (λ (m : ℕ). Bounds w s m) (sym p.count) p.bounds;
      lie = p.lie;
      kept = p.kept;
      small = p.small;
    }

-- Functions that lie in a row are read back out of it.
lies_read : (w s : List ℕ) (ls : List Lines) (f : ℕ) → Lies w s f ls → sizes ls ≤ 512 → functions_at w s f (length ls) ≡ ls
unfolding Lies sizes functions_at
lies_read w s [] f h few = refl
lies_read w s (l ∷ ls) f h few =
    rw (← add-one f, rep_lines l 513 w 1 (get_or s f 0) (get_or s (f + 1) 0) (omega arith) h.0, lies_read w s ls (f + 1) h.1 (omega arith))

-- The functions of a plan are those that the definition reads out of its row.
pub plan_read : {w s : List ℕ} {n : ℕ} (p : PlanOf w s n) → functions_at w s 0 n ≡ p.functions
plan_read {w} {s} {n} p = ap (functions_at w s 0) (sym p.count) ∙ lies_read w s p.functions 0 p.lie p.small

-- So a row with its bounds is that of one list of functions only.
pub plan_unique : {w s : List ℕ} {n : ℕ} (p q : PlanOf w s n) → p.functions ≡ q.functions
plan_unique p q = sym (plan_read p) ∙ plan_read q

-- The last bound is the number of leaves.
pub plan_leaves : {w s : List ℕ} {n : ℕ} (p : PlanOf w s n) → get_or s n 0 ≡ sizes p.functions
plan_leaves {w} {s} {n} p =
    let x : 0 + length p.functions ≡ n = omega (arith, p.count) in
    omega (arith, ap (λ (z : ℕ). get_or s z 0) x, lies_sizes w s p.functions 0 p.lie, p.bounds.first)

-- With a deadline, a switch cost and a cost of resuming in range it is a plan that keeps rules 3 to 7 and 19.
pub plan_formed :
    {w s : List ℕ} {n : ℕ} (p : PlanOf w s n) (plan : Plan) → plan.functions ≡ p.functions → 1 ≤ plan.deadline → plan.deadline ≤ 2 ^ 40
    → plan.switch ≤ 2 ^ 20 → resume_cost plan.edition ≤ 2 ^ 20 → Formed plan
plan_formed p plan e low high switch resume =
    let c = p.count in
    let x = ap length e in
    let y = ap sizes e in
    record {
      deadline_low = low;
      deadline_high = high;
      switch_range = switch;
      resume_range = resume;
      some_function = omega (arith, p.bounds.some);
      few_functions = omega (arith, p.bounds.few);
      few_leaves = omega (arith, p.small);
      each = rw e p.kept;
    }

-- The same of a plan that lies in a row: its functions, their bounds, and the number of leaves.
module _ {w s : List ℕ} {p : Plan} (d : PlanIn w s p) where
  pub function_in : (f : ℕ) → f < length p.functions → Rep w 1 (get_or s f 0) (get_or s (f + 1) 0) (get_or p.functions f close)
  function_in f h =
      let x : 0 + f ≡ f = omega arith in
      rw x at (lies_at w s p.functions 0 f d.lie h)

  pub bound_in : (f : ℕ) → f < length p.functions → get_or s (f + 1) 0 ≤ get_or s (length p.functions) 0
  bound_in f h =
      let x : 0 + (f + 1) ≡ f + 1 = omega arith in
      let y : 0 + length p.functions ≡ length p.functions = omega arith in
      rw (x, y) at (lies_le w s p.functions 0 (f + 1) d.lie (omega arith))

  pub leaves_in : get_or s (length p.functions) 0 ≡ sizes p.functions
  leaves_in =
      let y : 0 + length p.functions ≡ length p.functions = omega arith in
      omega (arith, ap (λ (z : ℕ). get_or s z 0) y, lies_sizes w s p.functions 0 d.lie, d.first)
