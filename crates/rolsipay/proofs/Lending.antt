-- The leaves that a call uses hold the table in the lent row.
-- Assumes nothing.
use mathlib.Core.List.{List}
use mathlib.Core.Path.{◌≡◌, refl, ap, sym, ◌∙◌}
use Prim.Native.Nat.{ℕ, ◌≤◌, min}
use native.Mathlib.Omega.{arith}
use native.Mathlib.Decide.{dec_lt}
use lib.ListN.{length, take, length-take}
use lib.Seq.{take-length, take-take}
use Rattle.rows.specs.declared.Leaf.{Leaf}
use Rattle.table.specs.declared.Head.{Head}
use Rattle.table.specs.Lent.{table_with}
use Rattle.table.proofs.Lent.{table_of_own}
use Rattle.model.specs.declared.Call.{Call}
use Rattle.control.specs.declared.State as control
use Rattle.control.specs.declared.Step.{Step}
use Rattle.control.specs.Calls.{call_on, as_step}
use Rattle.rolsipay.specs.declared.State.{State}
use Rattle.rolsipay.specs.Lent.{table_in}
use Rattle.rolsipay.specs.Calling.{state_of, moved, called}

-- The table of the first n leaves of some, where n is all of them or as many as the head says, is that of them all.
pub table_of_first : (ls : List Leaf) (h : Head) (n : ℕ) → n ≡ min (length ls) h.leaves → table_with (take n ls) h ≡ table_with ls h
table_of_first ls h n e =
    elim (dec_lt h.leaves (length ls)) [
      | yes l ↦ let z : n ≡ h.leaves = omega arith in rw z (table_of_own ls h)
      | no l ↦ let z : n ≡ length ls = omega arith in rw z (ap (λ (u : List Leaf). table_with u h) (take-length ls))
    ]

-- The leaves that are used, of a longer row the first 512 at most, hold the table in the row.
pub table_used : (ls : List Leaf) (h : Head) (n : ℕ) → n ≡ min (min (length ls) 512) h.leaves → table_with (take n ls) h ≡ table_in ls h
table_used ls h n e =
    let few : n ≤ 512 = omega arith in
    let z : n ≡ min (length (take 512 ls)) h.leaves = omega (arith, length-take 512 ls) in
    ap (λ (u : List Leaf). table_with u h) (sym (take-take n 512 ls few)) ∙ table_of_first (take 512 ls) h n z

-- So the step of the controller on them moves the lent state as the delivered call does.
pub called_is : (ls : List Leaf) (h : Head) (s : State) (c : Call) {us : List Leaf} {t : control.State} {r : Step} →
    us ≡ take (min (min (length ls) 512) h.leaves) ls → t ≡ state_of s → r ≡ as_step (call_on (table_with us h) t c) → called ls h s c ≡ moved s r
unfolding called
called_is ls h s c e f g =
    let u : table_with _ h ≡ table_in ls h = ap (λ (v : List Leaf). table_with v h) e ∙ table_used ls h (min (min (length ls) 512) h.leaves) refl in
    rw (g, u, f) refl
