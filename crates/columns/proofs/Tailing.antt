-- Tails, form by form. Plain mathematics: no code is named here. Assumes nothing.
use mathlib.Core.Path.{◌≡◌, ap}
use mathlib.Core.List.{List}
use Prim.Native.Nat.{ℕ, suc, ◌+◌, ◌-◌, ◌*◌, ◌≤◌, max}
use native.Mathlib.Omega.{arith}
use lib.ListN.{get_or}
use Rattle.model.specs.Plan.{C, Lines, close}
use Rattle.model.specs.Total.{tally}
use Rattle.rows.specs.declared.Leaf.{Leaf}
use Rattle.rows.specs.Leaves.{numbers}
use Rattle.rows.specs.Rows.{field, block_at}
use Rattle.rows.specs.First.{rest}
use Rattle.rows.proofs.Shape.{LoopAt, IfAt}
use Rattle.rows.specs.Costs.{limit}
use Rattle.columns.specs.Sums.{lead}
use Rattle.columns.specs.Walks.{Ready, later}
use Rattle.columns.specs.Columns.{rounds}
use Rattle.columns.proofs.Sizes.{tally_split, loop_lead, if_lead, round_back}
use Rattle.columns.proofs.Readiness.{ready_turn, ready_zero}

-- What follows the body of a loop, where x follows it.
pub loop_rounds : (ts : List ℕ) (x : ℕ) {w hs : List ℕ} {left v i : ℕ} {l : Lines} (h : LoopAt w hs left v i l) →
    rounds ts l x ≡ C (block_at w i) + (field w i 4 - 1) * (tally C ts h.body.lines + C (block_at w i)) + x
unfolding rounds
loop_rounds ts x h = ap (λ u. rounds ts u x) h.shape

module _ {row : List Leaf} {ts o : List ℕ} {i x : ℕ} (z : Ready C row ts o i x) where
  -- The same, where t is the tail of the loop.
  pub loop_behind : {hs : List ℕ} {left v t : ℕ} (h : LoopAt (numbers row) hs left v i z.form.part.lines) → t ≡ lead C ts z.form.part.lines + x
      → (t - get_or o i 0 ≡ rounds ts z.form.part.lines x) × (tally C ts h.body.lines + (t - get_or o i 0) ≤ limit) × (get_or o i 0 ≤ t)
  loop_behind {t = t} h ht =
      let c = C (block_at (numbers row) i) in
      let y = tally C ts h.body.lines in
      let a = round_back (field (numbers row) i 4) (y + c) h.least in
      let b = loop_lead C ts h in
      let d = ready_turn z h in
      let r = loop_rounds ts x h in
      (omega (arith, a, b, d, r, ht), omega (arith, a, b, d, ht, z.small), omega (arith, a, b, d, ht))

  -- The total of a form, and what follows it.
  pub weighed : {y : ℕ} → ((p : Ready C row ts o i 0) → y ≡ lead C ts p.form.part.lines) → y + x ≡ lead C ts z.form.part.lines + x
  weighed f = ap (λ (n : ℕ). n + x) (f (ready_zero z))

-- The tail of an if.
pub if_tail : (ts : List ℕ) (x : ℕ) {w hs : List ℕ} {left v i : ℕ} {l : Lines} {c a b m : ℕ} (h : IfAt w hs left v i l) → c ≡ C (block_at w i)
    → a ≡ tally C ts h.then.lines + x → b ≡ tally C ts h.else.lines + x → m ≡ max a b → c + m ≡ lead C ts l + x
if_tail ts x {w} {hs} {left} {v} {i} {l} {c} {a} {b} {m} h hc ha hb hm =
    calc c (C (block_at w i)) a b m (tally C ts h.then.lines) (tally C ts h.else.lines) x (lead C ts l) hc ha hb hm (if_lead C ts h)
  where
    calc : (c c' a b m y z x d : ℕ) → c ≡ c' → a ≡ y + x → b ≡ z + x → m ≡ max a b → d ≡ c' + max y z → c + m ≡ d + x
    calc c c' a b m y z x d e₁ e₂ e₃ e₄ e₅ = omega arith

-- The tail at one form more.
pub tail_on : (ts : List ℕ) (m n : ℕ) (l : Lines) (s : ℕ) {t t' : ℕ} → n ≡ suc m → t ≡ tally C ts (later n l) + s → t' ≡ lead C ts (later m l) + t → t' ≡ tally C ts (later m l) + s
unfolding later
tail_on ts m n l s {t} {t'} hn ht h = let a : t ≡ tally C ts (rest (later m l)) + s = rw hn at ht in omega (arith, a, tally_split C ts (later m l))

pub tail_le : (ts : List ℕ) (m n : ℕ) (l : Lines) (s : ℕ) {t : ℕ} → n ≡ suc m → t ≡ tally C ts (later n l) + s → t ≤ tally C ts (rest (later m l)) + s
unfolding later
tail_le ts m n l s {t} hn ht = let a : t ≡ tally C ts (rest (later m l)) + s = rw hn at ht in omega (arith, a)

pub tail_close : (ts : List ℕ) (s : ℕ) → tally C ts close + s ≡ s
unfolding tally
tail_close ts s = omega arith
