-- What follows a level in its function, level by level, and how the head of the level has it in its tail. Assumes nothing.
use mathlib.Core.Path.{◌≡◌, refl, sym, ap, ◌∙◌}
use mathlib.Core.List.{List, [], ◌∷◌}
use mathlib.Core.Option.{some}
use Prim.Native.Nat.{ℕ, zero, suc, ◌+◌, ◌-◌, ◌*◌, ◌≤◌, ◌<◌}
use native.Mathlib.Omega.{arith}
use native.Mathlib.Nat.{suc-mul}
use lib.ListN.{length, get_or}
use Rattle.model.specs.Plan.{Block, C}
use Rattle.model.specs.Forms.{Forms, done, call, loop, forms}
use Rattle.model.specs.Total.{total}
use Rattle.model.specs.Stack.{Levels, suffix, turned, inside_of}
use Rattle.model.proofs.Places.{never}
use Rattle.rows.specs.Rows.{kind_at, isolated_at, detail_at, block_at}
use Rattle.place.specs.Stack.{FunctionTable}
use Rattle.place.specs.Spans.{Stands, ground}
use Rattle.place.specs.Times.{Columns}
use Rattle.place.proofs.Views.{View, a_leaf, a_call, a_loop, an_if, view, level_spanned}
use Rattle.place.proofs.Pricing.{Inner, At, inner_same, priced_suffix, rules_below, turned_back}

-- How the forms f of the level above ks, which e follows in their function, stand over the head p of the level.
pub data Under (w tails totals : List ℕ) (n p : ℕ) (ks : Levels) (f : Forms) (e : ℕ) : Type 0 where
  lowest : ks ≡ [] → e ≡ 0 → Under w tails totals n p ks f e
  in_call : kind_at w p ≡ 1 → detail_at w p < n → get_or totals (detail_at w p) 0 ≡ total C f → (r : Forms) (ls : Levels) → ks ≡ call (block_at w p) f r ∷ ls → e ≡ 0 →
      Under w tails totals n p ks f e
  in_loop : kind_at w p ≡ 2 → (m : ℕ) (r : Forms) (ls : Levels) → ks ≡ loop (block_at w p) (suc m) f r ∷ ls → get_or tails p 0 ≡ isolated_at w p + total C f + e →
      Under w tails totals n p ks f e

-- The tail of a loop is its own visit, one pass of its body, and what follows the body.
loop_tail : (b : Block) (k : ℕ) (body r : Forms) (t e : ℕ) → 1 ≤ k → t ≡ total C (loop b k body r) + e →
    t ≡ C b + total C body + (C b + (k - 1) * (total C body + C b) + total C r + e)
unfolding total
loop_tail b k body r t e h q =
    let z : k ≡ suc (k - 1) = omega arith in
    let i : k * (total C body + C b) ≡ suc (k - 1) * (total C body + C b) = ap (λ (j : ℕ). j * (total C body + C b)) z in
    omega (arith, q, i, suc-mul (k - 1) (total C body + C b))

module _ {w starts : List ℕ} {n : ℕ} (t : FunctionTable w starts n) {tails turns totals : List ℕ} (cs : Columns t tails turns totals) where
  fun_inner : (f : ℕ) → f < n → Inner totals tails turns t.funs n (get_or t.funs f done) 0
  fun_inner f h =
      let sp = t.each f h in
      record {
        lines = sp.piece.part.lines;
        same = sp.same;
        calls = rules_below sp.piece.heights 62 sp.piece.level n sp.piece.part.lines (omega (arith, sp.few)) sp.piece.part.rules;
        priced = cs.priced f h;
      }

  -- Inside the loop or call that a level opens with.
  pub record Opened (p : ℕ) (g : Forms) (ls : Levels) (f : Forms) : Type 0 where
    pub e : ℕ
    pub inner : Inner totals tails turns t.funs n f e
    pub under : Under w tails totals n p (g ∷ ls) f e

  open_priced : (p v stop : ℕ) (s g f : Forms) (d : ℕ) (ls : Levels) → View w t.funs n p v stop g → At totals tails turns t.funs n p s d → turned s v ≡ some g →
      inside_of g ≡ some f → Opened p g ls f
  unfolding inside_of
  open_priced p v stop s g f d ls (a_leaf k r z) a u c = never (rw z at c)
  open_priced p v stop s g f d ls (an_if k x y r z) a u c = never (rw z at c)
  open_priced p v stop s g f d ls (a_call k h r z) a u c =
      let i : get_or t.funs (detail_at w p) done ≡ f = let y : some (get_or t.funs (detail_at w p) done) ≡ some f = rw z at c in cc in
      record {
        e = 0;
        inner = rw i at (fun_inner (detail_at w p) h);
        under = in_call k h (cs.totals_are (detail_at w p) h ∙ ap (total C) i) r ls (ap (λ (g : Forms). g ∷ ls) (z ∙ ap (λ (f : Forms). call (block_at w p) f r) i)) refl;
      }
  open_priced p v stop s g f d ls (a_loop k q few le zero b r z) a u c = never (rw z at c)
  open_priced p v stop s g f d ls (a_loop k q few le (suc m) b r z) a u c =
      let body = forms t.funs q.part.lines in
      let i : body ≡ f = let y : some body ≡ some f = rw z at c in cc in
      let y : s ≡ loop (block_at w p) (suc m + v) body r = turned_back v s (block_at w p) (suc m) body r (u ∙ ap some z) in
      let (x, j) = a.round (block_at w p) (suc m + v) body r y in
      let h = loop_tail (block_at w p) (suc m + v) body r (get_or tails p 0) d (omega arith) (a.tail ∙ ap (λ (s : Forms). total C s + d) y) in
      record {
        e = C (block_at w p) + (suc m + v - 1) * (total C body + C (block_at w p)) + total C r + d;
        inner = inner_same totals tails turns t.funs n cs.totals_are i refl j;
        under = in_loop k m r ls (ap (λ (g : Forms). g ∷ ls) (z ∙ ap (λ (f : Forms). loop (block_at w p) (suc m) f r) i)) (omega (arith, h, ap (total C) i));
      }

  -- The level above ks, with what follows it and its head.
  pub record Floor (leaves : List ℕ) (ks : Levels) (f : Forms) : Type 0 where
    pub e : ℕ
    pub inner : Inner totals tails turns t.funs n f e
    pub under : Under w tails totals n (get_or leaves (length ks) 0) ks f e

  floor_up : (leaves : List ℕ) (p l : ℕ) (g : Forms) (ls : Levels) (f : Forms) → length ls + 1 ≡ l → get_or leaves l 0 ≡ p → Opened p g ls f → Floor leaves (g ∷ ls) f
  floor_up leaves p l g ls f h q o =
      let i : length (g ∷ ls) ≡ l = omega arith in
      record { e = o.e; inner = o.inner; under = rw (i, q) o.under }

  -- The columns of a leaf of the level.
  pub at_leaf : {f : Forms} {e : ℕ} → Inner totals tails turns t.funs n f e → (x : ℕ) (s : Forms) → suffix f x ≡ some s → At totals tails turns t.funs n x s e
  at_leaf {f} {e} i x s c =
      priced_suffix totals tails turns t.funs n cs.totals_are i.lines e x s i.calls i.priced (ap (λ (f : Forms). suffix f x) (sym i.same) ∙ c)

  pub floor : (leaves counts : List ℕ) (ks : Levels) → Stands (get_or t.funs (n - 1) done) leaves counts ks → (f : Forms) → ground (get_or t.funs (n - 1) done) ks ≡ some f →
      Floor leaves ks f
  unfolding Stands ground
  floor leaves counts [] st f c =
      let d : get_or t.funs (n - 1) done ≡ f = cc in
      record {
        e = 0;
        inner = rw d at (fun_inner (n - 1) (omega (arith, t.count)));
        under = lowest refl refl;
      }
  floor leaves counts (g ∷ ks) st f c =
      let lv = st.1 in
      let p = get_or leaves (length ks + 1) 0 in
      let v = get_or counts (length ks + 1) 0 in
      let fl = floor leaves counts ks st.0 lv.level lv.opens in
      let sp = (level_spanned t leaves counts ks st.0 lv.level lv.opens).0 in
      let vw = (view sp p v lv.start g lv.found lv.turns).0 in
      let a = at_leaf fl.inner p lv.start lv.found in
      floor_up leaves p (length ks + 1) g ks f refl refl (open_priced p v _ lv.start g f fl.e ks vw a lv.turns c)
