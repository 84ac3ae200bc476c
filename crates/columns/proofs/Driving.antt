-- All functions, within the limit, and their tails from the first to the last. Assumes nothing.
use mathlib.Core.Path.{◌≡◌, refl, ap, ◌∙◌}
use mathlib.Core.List.{List}
use Prim.Native.Nat.{ℕ, ◌+◌, ◌≤◌, ◌<◌}
use native.Mathlib.Omega.{arith}
use native.Mathlib.Numerals.{add-one}
use lib.ListN.{get_or}
use lib.Seq.{sets}
use Rattle.model.specs.Plan.{Block, C, Lines}
use Rattle.rows.specs.declared.Leaf.{Leaf}
use Rattle.rows.specs.Leaves.{numbers}
use Rattle.rows.specs.Plans.{lines_of}
use Rattle.rows.specs.Costs.{limit}
use Rattle.columns.specs.Walks.{Sized}
use Rattle.columns.specs.Columns.{column_of, tail_rule}
use Rattle.columns.specs.Whole.{Summed, tails_written}
use Rattle.columns.proofs.Functions.{fun_forms}

-- A function with s behind it.
abbrev pub fun_sized : {k : Block → ℕ} {row : List Leaf} {starts : List ℕ} {n : ℕ} {ts o : List ℕ} (v : Summed k (numbers row) starts n ts o) (f s : ℕ) → f < n
    → s + get_or ts f 0 ≤ limit → Sized k row ts o (get_or starts f 0) (get_or starts (f + 1) 0) s
fun_sized v f s lt h = record { forms = fun_forms v.plan f lt; small = omega (arith, v.exact.total f lt); noted = v.exact.rounds f lt }

-- Tails, function by function.
pub tails_start : (ts : List ℕ) (F : ℕ → Lines) (starts o : List ℕ) → o ≡ tails_written ts F starts 0 o
unfolding tails_written
tails_start ts F starts o = refl

pub tails_next : {w starts ts q : List ℕ} {n f : ℕ} {o o' : List ℕ} (o₀ : List ℕ) (v : Summed C w starts n ts q) → f < n
    → o' ≡ sets o (get_or starts f 0) (column_of (tail_rule ts) (lines_of v.plan f) 0)
    → o ≡ tails_written ts (lines_of v.plan) starts f o₀ → o' ≡ tails_written ts (lines_of v.plan) starts (f + 1) o₀
unfolding tails_written
tails_next {w} {starts} {ts} {q} {n} {f} o₀ v lt h e =
    rw add-one (h ∙ ap (λ (u : List ℕ). sets u (get_or starts f 0) (column_of (tail_rule ts) (lines_of v.plan f) 0)) e)
