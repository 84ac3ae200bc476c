-- The levels of a place tell its visit counts: stacks of the same leaves that decode to the same levels count the same. Assumes nothing.
use mathlib.Core.List.{List, []}
use mathlib.Core.Option.{some}
use mathlib.Core.Path.{◌≡◌, refl, ap, sym, ◌∙◌}
use Prim.Native.Nat.{ℕ, zero, suc, ◌+◌, ◌≤◌}
use native.Mathlib.Omega.{arith}
use lib.ListN.{get_or}
use Rattle.model.specs.Plan.{Block}
use Rattle.model.specs.Forms.{Forms, done, leaf, call, loop, cond}
use Rattle.model.specs.Stack.{Levels, suffix, turned, decode}
use Rattle.place.specs.Stack.{frames}
use Rattle.place.specs.Spans.{Level}
use Rattle.place.proofs.Falling.{top_of}
use Rattle.place.proofs.Pricing.{turned_back}
use Rattle.place.proofs.Decode.{levels_stand}

-- A loop that has turned is another than before.
loop_turned : (u : ℕ) (b : Block) (m : ℕ) (body r : Forms) → turned (loop b m body r) u ≡ some (loop b (suc m) body r) → ⊥
loop_turned u b m body r e =
    let y = turned_back u (loop b m body r) b (suc m) body r e in
    let z : m ≡ suc m + u = cc in
    omega arith

turned_none : (s : Forms) (u : ℕ) → turned s (suc u) ≡ some s → ⊥
unfolding turned
turned_none done u e = let z : ◌≡◌ {A = ℕ} 0 1 = cc in omega arith
turned_none (leaf b r) u e = let z : ◌≡◌ {A = ℕ} 0 1 = cc in omega arith
turned_none (call b f r) u e = let z : ◌≡◌ {A = ℕ} 0 1 = cc in omega arith
turned_none (loop b zero body r) u e = let z : ◌≡◌ {A = ℕ} 0 1 = cc in omega arith
turned_none (loop b (suc m) body r) u e = loop_turned u b m body r e
turned_none (cond b t f r) u e = let z : ◌≡◌ {A = ℕ} 0 1 = cc in omega arith

turned_one : (v u : ℕ) (s g : Forms) → turned s v ≡ some g → turned s u ≡ some g → v ≡ u
unfolding turned
turned_one zero zero s g e d = refl
turned_one zero (suc u) s g e d = let z : some s ≡ some g = e in absurd (turned_none s u (d ∙ sym z))
turned_one (suc v) zero s g e d = let z : some s ≡ some g = d in absurd (turned_none s v (e ∙ sym z))
turned_one (suc v) (suc u) done g e d = absurd (let z : ◌≡◌ {A = ℕ} 0 1 = cc in omega arith)
turned_one (suc v) (suc u) (leaf b r) g e d = absurd (let z : ◌≡◌ {A = ℕ} 0 1 = cc in omega arith)
turned_one (suc v) (suc u) (call b f r) g e d = absurd (let z : ◌≡◌ {A = ℕ} 0 1 = cc in omega arith)
turned_one (suc v) (suc u) (loop b zero body r) g e d = absurd (let z : ◌≡◌ {A = ℕ} 0 1 = cc in omega arith)
turned_one (suc v) (suc u) (loop b (suc m) body r) g e d = ap suc (turned_one v u (loop b m body r) g e d)
turned_one (suc v) (suc u) (cond b t f r) g e d = absurd (let z : ◌≡◌ {A = ℕ} 0 1 = cc in omega arith)

-- At one level.
level_one : {main : Forms} {ks : Levels} {x v u : ℕ} {g : Forms} → Level main ks x v g → Level main ks x u g → v ≡ u
level_one {main} {ks} {x} {v} {u} {g} p q =
    let a : some p.level ≡ some q.level = sym p.opens ∙ q.opens in
    let b : p.level ≡ q.level = cc in
    let c : some p.start ≡ some q.start = sym p.found ∙ (ap (λ f. suffix f x) b ∙ q.found) in
    let d : p.start ≡ q.start = cc in
    turned_one v u p.start g p.turns (ap (λ s. turned s u) d ∙ q.turns)

-- At the innermost level of two stacks.
pub counts_tell : (main : Forms) (leaves counts others : List ℕ) (l : ℕ) (ls : Levels) → 1 ≤ l →
    decode main [] (frames leaves counts 1 l) ≡ some ls → decode main [] (frames leaves others 1 l) ≡ some ls → get_or counts l 0 ≡ get_or others l 0
counts_tell main leaves counts others l ls h e d =
    let (s, m) = levels_stand main leaves counts l ls h e in
    let (t, k) = levels_stand main leaves others l ls h d in
    let x = top_of main leaves counts l ls s m h in
    let y = top_of main leaves others l ls t k h in
    let z = sym x.same ∙ y.same in
    let p : y.place ≡ x.place = cc in
    let u : y.under ≡ x.under = cc in
    level_one x.level (rw (u, p) at y.level)
