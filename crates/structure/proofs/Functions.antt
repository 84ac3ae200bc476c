-- The functions of a plan are read one after the other: their heights and their rules. Assumes nothing.
use mathlib.Core.Path.{◌≡◌, refl, sym, ap, ◌∙◌}
use mathlib.Core.List.{List, [], ◌∷◌, ◌++◌}
use Prim.Native.Nat.{ℕ, ◌+◌, ◌<◌}
use native.Mathlib.Omega.{arith}
use native.Mathlib.Numerals.{add-one}
use lib.ListN.{length, get_or, take, set, length-append}
use lib.Seq.{take-suc, take-suc-set, take_all}
use Rattle.model.specs.Plan.{Lines, close}
use Rattle.model.specs.Levels.{height, heights}
use Rattle.model.specs.Acceptance.{sizes, Functions}
use Rattle.rows.specs.Rows.{Part}
use Rattle.rows.specs.Plans.{Lies, Bounds, PlanOf}
use Rattle.rows.proofs.Measures.{part_function, function_part}
use Rattle.rows.proofs.Plans.{lies_sizes, lies_at, lies_more, heights_more, functions_more, function_kept}

-- The first f functions are read: they lie in the row, keep the rules, and these are their heights.
pub record Read (w s hs : List ℕ) (f : ℕ) : Type 0 where
  pub functions : List Lines
  pub count : length functions ≡ f
  pub lie : Lies w s 0 functions
  pub kept : Functions [] 0 functions
  pub tall : take f hs ≡ heights [] functions

-- These are the heights of the first f functions of a plan.
pub record Held (w s : List ℕ) (n : ℕ) (hs : List ℕ) (f : ℕ) : Type 0 where
  pub tall : (p : PlanOf w s n) → take f hs ≡ heights [] (take f p.functions)

pub read_none : {w s hs : List ℕ} → Read w s hs 0
unfolding Lies Functions heights
read_none = record { functions = []; count = refl; lie = tt; kept = tt; tall = refl }

pub held_none : {w s : List ℕ} {n : ℕ} {hs : List ℕ} → Held w s n hs 0
unfolding heights
held_none = record { tall = λ p. refl }

-- A function of a plan, as a part of the row.
abbrev pub plan_part :
    {w s hs : List ℕ} {n f from to : ℕ} (p : PlanOf w s n) → f < n → from ≡ get_or s f 0 → to ≡ get_or s (f + 1) 0 → Held w s n hs f
    → Part w (take f hs) 62 1 from to
plan_part {w} {s} {hs} {n} {f} p lt hf ht h =
    let k : f < length p.functions = omega (arith, p.count) in
    let x : 0 + f ≡ f = omega arith in
    function_part (get_or p.functions f close) (rw (hf, ht) (rw x at (lies_at w s p.functions 0 f p.lie k)))
    (function_kept p.functions [] 0 f p.kept k) (sym (h.tall p))

-- One function more, whose lines the row has from `from` up to `to` and whose height is h.
module _
    {w s hs : List ℕ}
    {f from to h : ℕ}
    (room : f < length hs)
    (hf : from ≡ get_or s f 0)
    (ht : to ≡ get_or s (f + 1) 0)
    (hh : (p : Part w (take f hs) 62 1 from to) → h ≡ height (take f hs) p.lines)
  where
    pub read_more : get_or s 0 0 ≡ 0 → Read w s hs f → Part w (take f hs) 62 1 from to → Read w s (set hs f h) (f + 1)
    read_more s0 r q =
        let c = r.count in
        let x : 0 + length r.functions ≡ f = omega arith in
        let n : from ≡ 0 + sizes r.functions = omega (arith, ap (λ (z : ℕ). get_or s z 0) x, lies_sizes w s r.functions 0 r.lie) in
        let t = hh q in
        record {
          functions = r.functions ++ (q.lines ∷ []);
          count = omega (arith, length-append r.functions (q.lines ∷ []));
          lie = lies_more w s r.functions q.lines 0 r.lie (rw x (rw (hf, ht) at q.rep));
          kept = functions_more r.functions q.lines [] 0 r.kept (rw r.tall at (part_function q n));
          tall = rw (add-one f, take-suc-set hs f h room, heights_more r.functions q.lines [], r.tall) (rw r.tall at (ap (λ (z : ℕ). take f hs ++ (z ∷ [])) t));
        }

    pub held_more : {n : ℕ} → f < n → Held w s n hs f → Held w s n (set hs f h) (f + 1)
    held_more lt g =
        record {
          tall = λ p.
              let l = get_or p.functions f close in
              let k : f < length p.functions = omega (arith, p.count) in
              let t : h ≡ height (take f hs) l = hh (plan_part p lt hf ht g) in
              rw (add-one f, take-suc-set hs f h room, take-suc p.functions f close k, heights_more (take f p.functions) l [], ← g.tall p)
              (ap (λ (z : ℕ). take f hs ++ (z ∷ [])) t);
        }

-- All functions are read.
pub read_all : {w s hs : List ℕ} {n : ℕ} → Bounds w s n → Read w s hs n → PlanOf w s n
read_all {w} {s} {hs} {n} b r =
    let c = r.count in
    let x : 0 + length r.functions ≡ n = omega arith in
    record {
      functions = r.functions;
      count = c;
      bounds = b;
      lie = r.lie;
      kept = r.kept;
      small = omega (arith, b.first, b.leaves, ap (λ (z : ℕ). get_or s z 0) x, lies_sizes w s r.functions 0 r.lie);
    }

pub held_all : {w s hs : List ℕ} {n : ℕ} → Held w s n hs n → (p : PlanOf w s n) → take n hs ≡ heights [] p.functions
held_all {w} {s} {hs} {n} h p = h.tall p ∙ ap (λ (z : List Lines). heights [] z) (take_all n p.functions (omega (arith, p.count)))
