-- The forms of a sequence, one after the other. Assumes nothing.
use mathlib.Core.Path.{◌≡◌, refl, ap, ◌∙◌}
use mathlib.Core.List.{List}
use Prim.Native.Nat.{ℕ, zero, suc, ◌+◌, ◌≤◌, ◌<◌}
use native.Mathlib.Decide.{dec_lt}
use native.Mathlib.Numerals.{add-one}
use native.Mathlib.Omega.{arith}
use lib.ListN.{length, get_or, set, length-set}
use lib.Seq.{get_or-set_same, get_or-set_other}
use Rattle.model.specs.Plan.{Lines}
use Rattle.rows.specs.Rows.{after_at, Rep, Rules, Part}
use Rattle.rows.proofs.Shape.{rep_rest, rules_rest, ends}
use Rattle.columns.specs.Walks.{sibling, later, Kept}

-- The lines after the first k forms lie where form number k begins.
pub rep_later : (w : List ℕ) (v i e k : ℕ) (l : Lines) → Rep w v i e l → ((j : ℕ) → j < k → sibling w i j < e) → Rep w v (sibling w i k) e (later k l)
unfolding sibling later
rep_later w v i e zero l h lt = h
rep_later w v i e (suc k) l h lt = rep_rest w v (sibling w i k) e (later k l) (rep_later w v i e k l h (λ j m. lt j (omega arith))) (lt k (omega arith))

pub rules_later : (hs : List ℕ) (left v k : ℕ) (l : Lines) → Rules hs left v l → Rules hs left v (later k l)
unfolding later
rules_later hs left v zero l h = h
rules_later hs left v (suc k) l h = rules_rest hs left v (later k l) (rules_later hs left v k l h)

abbrev pub later_part : {w hs : List ℕ} {left v i e : ℕ} (k : ℕ) {x : ℕ} → ((j : ℕ) → j < k → sibling w i j < e) → x ≡ sibling w i k → Part w hs left v i e
    → Part w hs left v x e
later_part {w} {hs} {left} {v} {i} {e} k lt hx p =
    record { lines = later k p.lines; rep = rw hx (rep_later w v i e k p.lines p.rep lt); rules = rules_later hs left v k p.lines p.rules }

-- What a list of the first n forms has: the next one begins at x.
pub record Listing (w : List ℕ) (i e n x : ℕ) (o o₀ : List ℕ) : Type 0 where
  pub at : x ≡ sibling w i n
  pub low : x ≤ e
  pub past : i + n ≤ x
  pub inside : (k : ℕ) → k < n → sibling w i k < e
  pub room : (k : ℕ) → k < n → i + k ≤ sibling w i k
  pub there : (k : ℕ) → k < n → get_or o (i + k) 0 ≡ sibling w i k
  pub kept : Kept i o₀ o

pub list_start : {w : List ℕ} {i e : ℕ} (o : List ℕ) → i ≤ e → Listing w i e 0 i o o
unfolding sibling
list_start o le =
    record {
      at = refl;
      low = le;
      past = omega arith;
      inside = λ k h. absurd (omega arith);
      room = λ k h. absurd (omega arith);
      there = λ k h. absurd (omega arith);
      kept = record { long = refl; same = λ j h. refl };
    }

pub list_next : {w hs : List ℕ} {left v i e n x en : ℕ} {o o₀ : List ℕ} → x < e → e ≤ 512 → length o₀ ≡ 512 → en ≡ after_at w x → Part w hs left v i e → Listing w i e n x o o₀
    → (x < en) × Listing w i e (n + 1) en (set o (i + n) x) o₀
unfolding sibling
list_next {w} {i = i} {e = e} {n} {x} {en} {o} lt few long he p q =
    let g = ends lt (later_part n q.inside q.at p) in
    let room : i + n < length o = omega (arith, q.past, q.kept.long) in (
      omega (arith, g),
      record {
        at = rw add-one (he ∙ ap (after_at w) q.at);
        low = omega (arith, g);
        past = omega (arith, g, q.past);
        inside = λ k h. elim (dec_lt k n) [ yes l ↦ q.inside k l | no l ↦ let e : k ≡ n = omega arith in rw e (rw q.at at lt) ];
        room = λ k h. elim (dec_lt k n) [ yes l ↦ q.room k l | no l ↦ let e : k ≡ n = omega arith in rw e (rw q.at at q.past) ];
        there = λ k h. elim (dec_lt k n) [
          | yes l ↦ get_or-set_other o (i + n) (i + k) x 0 (omega arith) ∙ q.there k l
          | no l ↦ let e : k ≡ n = omega arith in rw e (get_or-set_same o (i + n) x 0 room ∙ q.at)
        ];
        kept =
            record {
              long = length-set o (i + n) x ∙ q.kept.long;
              same = λ j h. get_or-set_other o (i + n) j x 0 (omega arith) ∙ q.kept.same j h;
            };
      },
    )
