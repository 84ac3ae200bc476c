-- How long the texts of numbers and lines are, their numbers being in the ranges of 01.
-- Assumes nothing.
use Prim.Native.Nat.{ℕ, ◌+◌, ◌^◌, ◌≤◌}
use mathlib.Core.Path.{◌≡◌}
use mathlib.Core.List.{List, [], ◌∷◌, ◌++◌}
use mathlib.Core.Bool.{Bool, true, false}
use native.Mathlib.Omega.{arith}
use lib.ListN.{length, length-append}
use Rattle.model.specs.declared.Edition.{Edition}
use Rattle.model.specs.declared.Edition.TheVariants.{First, Second}
use Rattle.model.specs.Plan.{resume_cost}
use Rattle.text.specs.declared.Form.TheVariants.{Task, Leaf, Call, Loop, If}
use Rattle.text.specs.Spelling.{decimal, kind_text, spell}
use Rattle.text.proofs.Decimal.{tens, decimal_length}

-- A cost or a switch cost, a deadline, a bound, a function's number.
pub cost_length : (n : ℕ) → n ≤ 2 ^ 20 → length (decimal n) ≤ 7
unfolding tens
cost_length n h = decimal_length 6 n (omega arith)

pub deadline_length : (n : ℕ) → n ≤ 2 ^ 40 → length (decimal n) ≤ 13
unfolding tens
deadline_length n h = decimal_length 12 n (omega arith)

pub bound_length : (n : ℕ) → n ≤ 65535 → length (decimal n) ≤ 5
unfolding tens
bound_length n h = decimal_length 4 n (omega arith)

pub target_length : (n : ℕ) → n ≤ 15 → length (decimal n) ≤ 2
unfolding tens
target_length n h = decimal_length 1 n (omega arith)

-- A kind and a space, a number, and two costs with a space between them, each in front of a text.
kind_before : (k : Bool) (r : List ℕ) → length (kind_text k ++ (32 ∷ r)) ≡ 2 + length r
kind_before true r = omega arith
kind_before false r = omega arith

number_before : (n w : ℕ) (r : List ℕ) → length (decimal n) ≤ w → length (decimal n ++ r) ≤ w + length r
number_before n w r h = rw (length-append (decimal n) r) (omega arith)

costs_before : (c m : ℕ) (r : List ℕ) → c ≤ 2 ^ 20 → m ≤ 2 ^ 20 → length (decimal c ++ (32 ∷ (decimal m ++ r))) ≤ 15 + length r
costs_before c m r p q =
    omega (arith, number_before c 7 (32 ∷ (decimal m ++ r)) (cost_length c p), number_before m 7 r (cost_length m q))

-- The five lines that have numbers.
pub task_width : (d t : ℕ) (e : Edition) → d ≤ 2 ^ 40 → t ≤ 2 ^ 20 → resume_cost e ≤ 2 ^ 20 → length (spell (Task d t e)) ≤ 36
unfolding spell
task_width d t First p q r =
    omega (arith, number_before d 13 (32 ∷ (decimal t ++ (10 ∷ []))) (deadline_length d p), number_before t 7 (10 ∷ []) (cost_length t q))
task_width d t (Second u) p q r =
    omega (arith, number_before d 13 (32 ∷ (decimal t ++ (32 ∷ (decimal u ++ (10 ∷ []))))) (deadline_length d p), costs_before t u (10 ∷ []) q r)

pub leaf_width : (k : Bool) (c m : ℕ) → c ≤ 2 ^ 20 → m ≤ 2 ^ 20 → length (spell (Leaf k c m)) ≤ 25
unfolding spell
leaf_width k c m p q =
    omega (arith, kind_before k (decimal c ++ (32 ∷ (decimal m ++ (41 ∷ 10 ∷ [])))), costs_before c m (41 ∷ 10 ∷ []) p q)

pub call_width : (k : Bool) (f c m : ℕ) → f ≤ 15 → c ≤ 2 ^ 20 → m ≤ 2 ^ 20 → length (spell (Call k f c m)) ≤ 28
unfolding spell
call_width k f c m o p q =
    let costs : List ℕ = decimal c ++ (32 ∷ (decimal m ++ (41 ∷ 10 ∷ []))) in
    omega (arith, kind_before k (decimal f ++ (32 ∷ costs)), number_before f 2 (32 ∷ costs) (target_length f o), costs_before c m (41 ∷ 10 ∷ []) p q)

pub loop_width : (k : Bool) (b c m : ℕ) → b ≤ 65535 → c ≤ 2 ^ 20 → m ≤ 2 ^ 20 → length (spell (Loop k b c m)) ≤ 30
unfolding spell
loop_width k b c m o p q =
    let costs : List ℕ = decimal c ++ (32 ∷ (decimal m ++ (10 ∷ []))) in
    omega (arith, kind_before k (decimal b ++ (32 ∷ costs)), number_before b 5 (32 ∷ costs) (bound_length b o), costs_before c m (10 ∷ []) p q)

pub if_width : (k : Bool) (c m : ℕ) → c ≤ 2 ^ 20 → m ≤ 2 ^ 20 → length (spell (If k c m)) ≤ 22
unfolding spell
if_width k c m p q = omega (arith, kind_before k (decimal c ++ (32 ∷ (decimal m ++ (10 ∷ [])))), costs_before c m (10 ∷ []) p q)
