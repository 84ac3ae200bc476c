-- The new stack: put into the old one at its level, it decodes to the place that was found. Assumes nothing.
use mathlib.Core.Path.{◌≡◌, sym, ap, ◌∙◌}
use mathlib.Core.List.{List, [], ◌∷◌}
use mathlib.Core.Option.{Option}
use Prim.Native.Nat.{ℕ, ◌+◌, ◌-◌, ◌≤◌, ◌<◌}
use native.Mathlib.Omega.{arith}
use native.Mathlib.Decide.{dec_le}
use lib.ListN.{length, get_or}
use Rattle.std.specs.Prelude.{Some}
use Rattle.model.specs.Forms.{Forms, done}
use Rattle.model.specs.Stack.{Levels}
use Rattle.rows.specs.Rows.{point_at}
use Rattle.place.specs.Stack.{Decoded, Put, Stacked}
use Rattle.place.specs.declared.Found.{Found}
use Rattle.place.specs.Spans.{Level, Stands}
use Rattle.place.specs.Private.{Placed, Moved, Finds}
use Rattle.place.proofs.Decode.{stands_levels, levels_stand}

module _ (main : Forms) (leaves counts new more : List ℕ) (l : ℕ)
    (a : (k : ℕ) → k < l → get_or new k 0 ≡ get_or leaves k 0) (b : (k : ℕ) → k < l → get_or more k 0 ≡ get_or counts k 0) where
  stands_same : (ks : Levels) → length ks < l → Stands main leaves counts ks → Stands main new more ks
  unfolding Stands
  stands_same [] lt st = tt
  stands_same (g ∷ ks) lt st =
      (stands_same ks (omega arith) st.0, rw (sym (a (length ks + 1) (omega arith)), sym (b (length ks + 1) (omega arith))) at st.1)

-- a found place, put into the stack.
moved_stands : (main : Forms) (leaves counts new more : List ℕ) (r x v : ℕ) (ks : Levels) → Moved main leaves counts r x v ks → Put leaves new r x → Put counts more r v →
    Stands main new more ks × (length ks ≡ r)
unfolding Stands
moved_stands main leaves counts new more r x v ks m p c =
    let st = stands_same main leaves counts new more r p.under c.under m.under (omega (arith, m.depth)) m.stands in
    let lv : Level main m.under (get_or new (length m.under + 1) 0) (get_or more (length m.under + 1) 0) m.place = rw (m.depth, p.here, c.here) m.level in
    rw m.same ((st, lv), omega (arith, m.depth))

-- Between the model's levels and the ones that the code's proofs take apart.
abbrev pub placed : {w starts : List ℕ} {n : ℕ} {leaves counts : List ℕ} {l : ℕ} → 1 ≤ l → Decoded w starts n leaves counts l → Placed w starts n leaves counts l
placed {n = n} {leaves = leaves} {counts = counts} {l = l} h q =
    let (st, d) = levels_stand (get_or q.table.funs (n - 1) done) leaves counts l q.levels h q.decodes in
    record { table = q.table; stack = record { levels = q.levels; depth = d; stands = st; marked = q.marked } }

module _ (w : List ℕ) (l : ℕ) {main : Forms} {leaves counts : List ℕ} {o : Option Levels} {x : ℕ} {f : Found} (z : Finds l main leaves counts o x (Some f)) where
  pub next_some : ((k : ℕ) → 1 ≤ k → k ≤ l → point_at w (get_or leaves k 0) ≡ 1) → point_at w x ≡ 1 →
      {new more : List ℕ} → Put leaves new f.at x → Put counts more f.at f.count → Stacked w main o leaves counts x new more f.at
  next_some marks px {new} {more} p c =
      let r = f.at in
      let (ks, e, m) = z.2 in
      let (st, d) = moved_stands main leaves counts new more r x f.count ks m p c in
      let t = stands_levels main new more ks (omega (arith, z.0)) st in
      record {
        least = z.0;
        most = z.1.0;
        levels = ks;
        found = e;
        decodes = rw d at t;
        marked = λ k lo hi. elim (dec_le r k) [
          | yes g ↦ let i : k ≡ r = omega arith in ap (λ (j : ℕ). point_at w (get_or new j 0)) i ∙ ap (λ (j : ℕ). point_at w j) p.here ∙ px
          | no g ↦ ap (λ (j : ℕ). point_at w j) (p.under k (omega arith)) ∙ marks k lo (omega (arith, z.1.1))
        ];
        leaf = p;
        count = f.count;
        visited = c;
      }
