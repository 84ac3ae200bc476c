-- A walk over siblings from the last to the first: what it has written, and what stands at the last form that it passed. Assumes nothing.
use mathlib.Core.Path.{◌≡◌, refl, sym, ap, ◌∙◌}
use mathlib.Core.List.{List}
use Prim.Native.Nat.{ℕ, suc, ◌+◌, ◌-◌, ◌≤◌, ◌<◌}
use native.Mathlib.Omega.{arith}
use lib.ListN.{get_or}
use lib.Seq.{sets}
use Rattle.model.specs.Plan.{Lines, close}
use Rattle.rows.specs.Rows.{after_at, Part}
use Rattle.rows.specs.First.{rest}
use Rattle.columns.specs.Columns.{ColumnRule, column_of}
use Rattle.columns.specs.Walks.{front, sibling, later, Kept, Listed}
use Rattle.rows.proofs.Shape.{no_lines}
use Rattle.columns.proofs.Stores.{sets_before}
use Rattle.columns.proofs.Fronts.{column_split, front_fill}
use Rattle.columns.proofs.Listing.{later_part}

-- What is kept of a list.
pub kept_all : {i : ℕ} (o : List ℕ) → Kept i o o
kept_all o = record { long = refl; same = λ j h. refl }

pub kept_both : {i j k : ℕ} {o o' o'' : List ℕ} → Kept i o o' → Kept j o' o'' → k ≤ i → k ≤ j → Kept k o o''
kept_both p q a b = record { long = q.long ∙ p.long; same = λ n h. q.same n (omega arith) ∙ p.same n (omega arith) }

-- The forms from number n on are done: t stands at their start.
pub record Back (u : ColumnRule) (w : List ℕ) (i : ℕ) (l : Lines) (s n t : ℕ) (o o₀ : List ℕ) : Type 0 where
  pub stands : t ≡ u.next (later n l) s
  pub done : o ≡ sets o₀ (sibling w i n) (column_of u (later n l) s)

pub no_later : {w hs : List ℕ} {left v i e n : ℕ} {o : List ℕ} → Listed w i e n o → (p : Part w hs left v i e) → later n p.lines ≡ close
no_later {w} {i = i} {n = n} q p = no_lines (let h = q.ends in omega arith) (later_part n {x = sibling w i n} q.inside refl p)

pub back_start : (u : ColumnRule) {w hs : List ℕ} {left v i e s n : ℕ} {o : List ℕ} (o₀ : List ℕ) → u.next close s ≡ s → Listed w i e n o → (p : Part w hs left v i e)
    → Back u w i p.lines s n s o₀ o₀
unfolding column_of
back_start u o₀ h q p = let c = no_later q p in record { stands = rw c (sym h); done = rw c }

pub back_on : {u : ColumnRule} {w hs : List ℕ} {left v i e s m n t t' x : ℕ} {o o' o₀ : List ℕ} → n ≡ suc m → (p : Part w hs left v i e) → ((j : ℕ) → j < n → sibling w i j < e)
    → x ≡ sibling w i m → Back u w i p.lines s n t o o₀ → t' ≡ u.next (later m p.lines) s
    → o' ≡ sets o x (front u (later m p.lines) t) → Back u w i p.lines s m t' o' o₀
unfolding sibling later
back_on {u} {w} {i = i} {e = e} {s} {m} {n} {t} {t'} {x} {o} {o'} {o₀} hn p lt hx q ht ho =
    let k = later m p.lines in
    let below : (j : ℕ) → j < m → sibling w i j < e = λ j h. lt j (omega arith) in
    let d : o ≡ sets o₀ (after_at w (sibling w i m)) (column_of u (rest k) s) = rw hn at q.done in
    let a : t ≡ u.next (rest k) s = rw hn at q.stands in
    let f : o' ≡ sets o (sibling w i m) (front u k (u.next (rest k) s)) = rw (hx, a) at ho in
    record {
      stands = ht;
      done =
          sets_before (front u k (u.next (rest k) s)) (column_of u (rest k) s) o₀ (sibling w i m) (after_at w (sibling w i m)) d f
          (front_fill u (lt m (omega arith)) (later_part m below refl p) (u.next (rest k) s) refl) ∙
          ap (λ (y : List ℕ). sets o₀ (sibling w i m) y) (sym (column_split u k s));
    }

pub back_end : {u : ColumnRule} {w : List ℕ} {i s n t : ℕ} {l : Lines} {o o₀ : List ℕ} → n ≤ 0 → Back u w i l s n t o o₀ → (t ≡ u.next l s) × (o ≡ sets o₀ i (column_of u l s))
unfolding sibling later
back_end {u} {w} {i} {s} {n} {t} {l} {o} {o₀} h q = let e : n ≡ 0 = omega arith in (rw e at q.stands, rw e at q.done)

-- One form back from number k of those listed: it stands at x.
pub record Before (w : List ℕ) (i e k x : ℕ) : Type 0 where
  pub one : k ≡ suc (k - 1)
  pub at : x ≡ sibling w i (k - 1)
  pub here : x < e
  pub past : i + (k - 1) ≤ x
  pub below : (j : ℕ) → j < k → sibling w i j < e

pub listed_before : {w : List ℕ} {i e k n : ℕ} {o o₀ : List ℕ} → Listed w i e n o₀ → 0 < k → k ≤ n → Kept (i + k) o₀ o → Before w i e k (get_or o (i + (k - 1)) 0)
listed_before {w} {i} {e} {k} {n} q lt le h =
    let m = k - 1 in
    let at = h.same (i + m) (omega arith) ∙ q.there m (omega arith) in
    record {
      one = omega arith;
      at = at;
      here = rw at (q.inside m (omega arith));
      past = rw at (q.room m (omega arith));
      below = λ j l. q.inside j (omega arith);
    }
