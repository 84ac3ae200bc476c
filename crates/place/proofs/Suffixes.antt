-- Places in the lines of a level: where a leaf's suffix lies, and that what comes next behind a leaf is a suffix of the same lines. Assumes nothing.
use mathlib.Core.Path.{◌≡◌, refl, sym, ap, ◌∙◌}
use mathlib.Core.Bool.{Bool, true, false, ◌||◌}
use mathlib.Core.List.{List}
use mathlib.Core.Logic.{◌⊎◌, inl, inr}
use mathlib.Core.Option.{Option, none, some}
use Prim.Native.Nat.{ℕ, suc, ◌+◌, ◌≤◌, ◌<◌}
use native.Mathlib.Omega.{arith}
use native.Mathlib.Decide.{dec_le}
use lib.Dec.{eqb}
use lib.ListN.{get_or}
use borrow.Author.Tests.{eqb-true, eqb-false, eq-eqb, ne_eqb}
use Rattle.model.specs.Plan.{Block, Lines, close, leaf_line, call_line, loop_line, if_line}
use Rattle.model.specs.Forms.{Forms, done, leaf, call, loop, cond, ◌⊕◌, forms}
use Rattle.model.specs.Places.{pick, ◌or◌, when, ◌⊕?◌, passes, seek}
use Rattle.model.specs.Stack.{from, suffix}
use Rattle.model.proofs.Places.{⊕-assoc, never, known, or_some, ⊕?-some, when_some, at_some, seek-⊕}
use Rattle.model.proofs.Steps.{⊕-done}
use Rattle.rows.specs.Rows.{kind_at, other_at, after_at, Rep}
use Rattle.rows.specs.First.{rest}
use Rattle.place.specs.Spans.{first_form}
use Rattle.place.specs.Private.{Nonempty, next_beyond}
use Rattle.rows.proofs.Shape.{rep_le}

pub truth : (p : Bool) → (p ≡ true) ⊎ (p ≡ false)
truth true = inl refl
truth false = inr refl

pub number_of : {b c : Block} → b ≡ c → b.number ≡ c.number
number_of e = ap (λ (b : Block). b.number) e

-- a suffix is never empty.
headed-⊕ : (f g : Forms) → Nonempty f → Nonempty (f ⊕ g)
unfolding ◌⊕◌
headed-⊕ done g h = absurd h
headed-⊕ (leaf b r) g h = tt
headed-⊕ (call b fun r) g h = tt
headed-⊕ (loop b n body r) g h = tt
headed-⊕ (cond b t e r) g h = tt

pub from_cases : (b : Block) (n : ℕ) (fs : Forms) (on : Option Forms) (g : Forms) → from b n fs on ≡ some g →
    ((b.number ≡ n) × (fs ≡ g)) ⊎ ((b.number ≡ n → ⊥) × (on ≡ some g))
from_cases b n fs on g e = go (eqb b.number n) refl e
  where
    go : (q : Bool) → eqb b.number n ≡ q → pick q (some fs) on ≡ some g → ((b.number ≡ n) × (fs ≡ g)) ⊎ ((b.number ≡ n → ⊥) × (on ≡ some g))
    go true k e = inl (eqb-true b.number n k, cc)
    go false k e = inr (eqb-false b.number n k, e)

headed_same : {f g : Forms} → f ≡ g → Nonempty f → Nonempty g
headed_same e h = rw e at h

pub suffix_headed : (f : Forms) (p : ℕ) (g : Forms) → suffix f p ≡ some g → Nonempty g
unfolding suffix
suffix_headed done p g e = never e
suffix_headed (leaf b r) p g e = elim (from_cases b p (leaf b r) (suffix r p) g e) [ inl k ↦ headed_same k.1 tt | inr k ↦ suffix_headed r p g k.1 ]
suffix_headed (call b fun r) p g e = elim (from_cases b p (call b fun r) (suffix r p) g e) [ inl k ↦ headed_same k.1 tt | inr k ↦ suffix_headed r p g k.1 ]
suffix_headed (loop b n body r) p g e = elim (from_cases b p (loop b n body r) (suffix r p) g e) [ inl k ↦ headed_same k.1 tt | inr k ↦ suffix_headed r p g k.1 ]
suffix_headed (cond b t s r) p g e =
    elim (from_cases b p (cond b t s r) (suffix t p ⊕? r or suffix s p ⊕? r or suffix r p) g e) [
      | inl k ↦ headed_same k.1 tt
      | inr k ↦ elim (or_some (suffix t p ⊕? r) (suffix s p ⊕? r or suffix r p) g k.1) [
        | inl j ↦ let (l, a, c) = ⊕?-some (suffix t p) r g j in headed_same c (headed-⊕ l r (suffix_headed t p l a))
        | inr j ↦ elim (or_some (suffix s p ⊕? r) (suffix r p) g j.1) [
          | inl j ↦ let (l, a, c) = ⊕?-some (suffix s p) r g j in headed_same c (headed-⊕ l r (suffix_headed s p l a))
          | inr j ↦ suffix_headed r p g j.1
        ]
      ]
    ]

-- a suffix of what follows, in the whole.
from_on : (b : Block) (n : ℕ) (fs : Forms) (o : Option Forms) → (b.number ≡ n → ⊥) → from b n fs o ≡ o
from_on b n fs o h = rw (ne_eqb b.number n h)

from_here : (b : Block) (n : ℕ) (fs : Forms) (o : Option Forms) → b.number ≡ n → from b n fs o ≡ some fs
from_here b n fs o h = rw (eq-eqb b.number n h)

suffix_rest : (b : Block) (t s r : Forms) (x : ℕ) → (b.number ≡ x → ⊥) → suffix t x ≡ none → suffix s x ≡ none → suffix (cond b t s r) x ≡ suffix r x
unfolding suffix
suffix_rest b t s r x n p q = rw (ne_eqb b.number x n, p, q)

suffix_then : (b : Block) (t s r : Forms) (x : ℕ) (k : Forms) → (b.number ≡ x → ⊥) → suffix t x ≡ some k → suffix (cond b t s r) x ≡ some (k ⊕ r)
unfolding suffix
suffix_then b t s r x k n p = rw (ne_eqb b.number x n, p)

suffix_else : (b : Block) (t s r : Forms) (x : ℕ) (k : Forms) → (b.number ≡ x → ⊥) → suffix t x ≡ none → suffix s x ≡ some k → suffix (cond b t s r) x ≡ some (k ⊕ r)
unfolding suffix
suffix_else b t s r x k n p q = rw (ne_eqb b.number x n, p, q)

-- p lies before the records, or behind them.
pub suffix_before : (w : List ℕ) (lv i e : ℕ) (l : Lines) (G : List Forms) (p : ℕ) → Rep w lv i e l → p < i → suffix (forms G l) p ≡ none
unfolding Rep forms suffix
suffix_before w lv i e close G p h lt = refl
suffix_before w lv i e (leaf_line b r) G p h lt = from_on b p _ _ (λ z. omega (arith, number_of h.0.1)) ∙ suffix_before w lv (after_at w i) e r G p h.4 (omega arith)
suffix_before w lv i e (call_line b f r) G p h lt = from_on b p _ _ (λ z. omega (arith, number_of h.0.1)) ∙ suffix_before w lv (after_at w i) e r G p h.4 (omega arith)
suffix_before w lv i e (loop_line b n body r) G p h lt =
    from_on b p _ _ (λ z. omega (arith, number_of h.0.1)) ∙ suffix_before w lv (after_at w i) e r G p h.4 (omega (arith, rep_le w (suc lv) (i + 1) (after_at w i) body h.3))
suffix_before w lv i e (if_line b t s r) G p h lt =
    let k = rep_le w lv (i + 1) (other_at w i) t h.2 in
    let m = rep_le w lv (other_at w i) (after_at w i) s h.3 in
    suffix_rest b (forms G t) (forms G s) (forms G r) p (λ z. omega (arith, number_of h.0.1)) (suffix_before w lv (i + 1) (other_at w i) t G p h.2 (omega arith))
    (suffix_before w lv (other_at w i) (after_at w i) s G p h.3 (omega arith)) ∙ suffix_before w lv (after_at w i) e r G p h.4 (omega arith)

pub suffix_past : (w : List ℕ) (lv i e : ℕ) (l : Lines) (G : List Forms) (p : ℕ) → Rep w lv i e l → e ≤ p → suffix (forms G l) p ≡ none
unfolding Rep forms suffix
suffix_past w lv i e close G p h le = refl
suffix_past w lv i e (leaf_line b r) G p h le =
    let k = rep_le w lv (after_at w i) e r h.4 in
    from_on b p _ _ (λ z. omega (arith, number_of h.0.1)) ∙ suffix_past w lv (after_at w i) e r G p h.4 le
suffix_past w lv i e (call_line b f r) G p h le =
    let k = rep_le w lv (after_at w i) e r h.4 in
    from_on b p _ _ (λ z. omega (arith, number_of h.0.1)) ∙ suffix_past w lv (after_at w i) e r G p h.4 le
suffix_past w lv i e (loop_line b n body r) G p h le =
    let k = rep_le w (suc lv) (i + 1) (after_at w i) body h.3 in
    let m = rep_le w lv (after_at w i) e r h.4 in
    from_on b p _ _ (λ z. omega (arith, number_of h.0.1)) ∙ suffix_past w lv (after_at w i) e r G p h.4 le
suffix_past w lv i e (if_line b t s r) G p h le =
    let k = rep_le w lv (i + 1) (other_at w i) t h.2 in
    let m = rep_le w lv (other_at w i) (after_at w i) s h.3 in
    let n = rep_le w lv (after_at w i) e r h.4 in
    suffix_rest b (forms G t) (forms G s) (forms G r) p (λ z. omega (arith, number_of h.0.1)) (suffix_past w lv (i + 1) (other_at w i) t G p h.2 (omega arith))
    (suffix_past w lv (other_at w i) (after_at w i) s G p h.3 (omega arith)) ∙ suffix_past w lv (after_at w i) e r G p h.4 le

-- p lies behind the first form.
pub suffix_skip : (w : List ℕ) (lv i e : ℕ) (l : Lines) (G : List Forms) (p : ℕ) → Rep w lv i e l → i < e → after_at w i ≤ p → suffix (forms G l) p ≡ suffix (forms G (rest l)) p
unfolding Rep forms suffix rest
suffix_skip w lv i e close G p h lt le = refl
suffix_skip w lv i e (leaf_line b r) G p h lt le = from_on b p _ _ (λ z. omega (arith, number_of h.0.1))
suffix_skip w lv i e (call_line b f r) G p h lt le = from_on b p _ _ (λ z. omega (arith, number_of h.0.1))
suffix_skip w lv i e (loop_line b n body r) G p h lt le = let k = rep_le w (suc lv) (i + 1) (after_at w i) body h.3 in from_on b p _ _ (λ z. omega (arith, number_of h.0.1))
suffix_skip w lv i e (if_line b t s r) G p h lt le =
    let k = rep_le w lv (i + 1) (other_at w i) t h.2 in
    let m = rep_le w lv (other_at w i) (after_at w i) s h.3 in
    suffix_rest b (forms G t) (forms G s) (forms G r) p (λ z. omega (arith, number_of h.0.1)) (suffix_past w lv (i + 1) (other_at w i) t G p h.2 (omega arith))
    (suffix_past w lv (other_at w i) (after_at w i) s G p h.3 le)

-- THE FIRST FORM ALONE

from_both : (b : Block) (p : ℕ) (f g r : Forms) (o q : Option Forms) → f ≡ g ⊕ r → o ≡ q ⊕? r → from b p f o ≡ from b p g q ⊕? r
from_both b p f g r o q e h = go (eqb b.number p)
  where
    go : (k : Bool) → pick k (some f) o ≡ pick k (some g) q ⊕? r
    go true = ap some e
    go false = h

parts_alone : (u v : Option Forms) (r : Forms) → (u ⊕? r or v ⊕? r or none) ≡ (u ⊕? done or v ⊕? done or none) ⊕? r
parts_alone (some f) v r = ap (λ (g : Forms). some (g ⊕ r)) (sym (⊕-done f))
parts_alone none (some f) r = ap (λ (g : Forms). some (g ⊕ r)) (sym (⊕-done f))
parts_alone none none r = refl

alone : (o : Option Forms) → (o ⊕? done or none) ≡ o
alone none = refl
alone (some f) = ap some (⊕-done f)

-- A leaf p of the first form: its suffix, and then the rest.
pub suffix_first : (w : List ℕ) (lv i e : ℕ) (l : Lines) (G : List Forms) (p : ℕ) → Rep w lv i e l → i < e → p < after_at w i →
    suffix (forms G l) p ≡ suffix (first_form (forms G l)) p ⊕? forms G (rest l)
unfolding Rep forms suffix rest first_form ◌⊕◌
suffix_first w lv i e close G p h lt le = absurd (omega arith)
suffix_first w lv i e (leaf_line b r) G p h lt le =
    let R = forms G r in from_both b p (leaf b R) (leaf b done) R (suffix R p) none refl (suffix_before w lv (after_at w i) e r G p h.4 le)
suffix_first w lv i e (call_line b f r) G p h lt le =
    let R = forms G r in
    let F = get_or G f done in
    from_both b p (call b F R) (call b F done) R (suffix R p) none refl (suffix_before w lv (after_at w i) e r G p h.4 le)
suffix_first w lv i e (loop_line b n body r) G p h lt le =
    let R = forms G r in
    let B = forms G body in
    from_both b p (loop b n B R) (loop b n B done) R (suffix R p) none refl (suffix_before w lv (after_at w i) e r G p h.4 le)
suffix_first w lv i e (if_line b t s r) G p h lt le =
    let R = forms G r in
    let T = forms G t in
    let S = forms G s in
    from_both b p (cond b T S R) (cond b T S done) R (suffix T p ⊕? R or suffix S p ⊕? R or suffix R p) (suffix T p ⊕? done or suffix S p ⊕? done or none) refl
    (rw (suffix_before w lv (after_at w i) e r G p h.4 le) (parts_alone (suffix T p) (suffix S p) R))

-- The first form's own leaf; no other leaf of a form that is no if; one of a part of an if.
pub first_own : (w : List ℕ) (lv i e : ℕ) (l : Lines) (G : List Forms) (p : ℕ) → Rep w lv i e l → i < e → p ≡ i → suffix (first_form (forms G l)) p ≡ some (first_form (forms G l))
unfolding Rep forms suffix first_form
first_own w lv i e close G p h lt q = absurd (omega arith)
first_own w lv i e (leaf_line b r) G p h lt q = from_here b p _ _ (number_of h.0.1 ∙ sym q)
first_own w lv i e (call_line b f r) G p h lt q = from_here b p _ _ (number_of h.0.1 ∙ sym q)
first_own w lv i e (loop_line b n body r) G p h lt q = from_here b p _ _ (number_of h.0.1 ∙ sym q)
first_own w lv i e (if_line b t s r) G p h lt q = from_here b p _ _ (number_of h.0.1 ∙ sym q)

pub first_flat : (w : List ℕ) (lv i e : ℕ) (l : Lines) (G : List Forms) (p : ℕ) → Rep w lv i e l → i < e → (p ≡ i → ⊥) → (kind_at w i ≡ 3 → ⊥) → suffix (first_form (forms G l)) p ≡ none
unfolding Rep forms suffix first_form
first_flat w lv i e close G p h lt q k = absurd (omega arith)
first_flat w lv i e (leaf_line b r) G p h lt q k = from_on b p _ _ (λ z. q (sym z ∙ number_of h.0.1))
first_flat w lv i e (call_line b f r) G p h lt q k = from_on b p _ _ (λ z. q (sym z ∙ number_of h.0.1))
first_flat w lv i e (loop_line b n body r) G p h lt q k = from_on b p _ _ (λ z. q (sym z ∙ number_of h.0.1))
first_flat w lv i e (if_line b t s r) G p h lt q k = absurd (k h.0.0)

pub first_then : (G : List Forms) (p : ℕ) (l : Lines) (b : Block) (t s r : Lines) → l ≡ if_line b t s r → (p ≡ b.number → ⊥) → suffix (forms G s) p ≡ none →
    suffix (first_form (forms G l)) p ≡ suffix (forms G t) p
unfolding forms suffix first_form
first_then G p l b t s r e q h = ap (λ (l : Lines). suffix (first_form (forms G l)) p) e ∙ rw (ne_eqb b.number p (λ z. q (sym z)), h) (alone (suffix (forms G t) p))

pub first_else : (G : List Forms) (p : ℕ) (l : Lines) (b : Block) (t s r : Lines) → l ≡ if_line b t s r → (p ≡ b.number → ⊥) → suffix (forms G t) p ≡ none →
    suffix (first_form (forms G l)) p ≡ suffix (forms G s) p
unfolding forms suffix first_form
first_else G p l b t s r e q h = ap (λ (l : Lines). suffix (first_form (forms G l)) p) e ∙ rw (ne_eqb b.number p (λ z. q (sym z)), h) (alone (suffix (forms G s) p))

pub suffix_in : (w : List ℕ) (lv i e : ℕ) (l : Lines) (G : List Forms) (p : ℕ) (g : Forms) → Rep w lv i e l → suffix (forms G l) p ≡ some g → (i ≤ p) × (p < e)
suffix_in w lv i e l G p g h s =
    elim (dec_le i p) [
      | yes a ↦ elim (dec_le e p) [ yes b ↦ never (sym (suffix_past w lv i e l G p h b) ∙ s) | no b ↦ (a, omega arith) ]
      | no a ↦ never (sym (suffix_before w lv i e l G p h (omega arith)) ∙ s)
    ]

-- The lines of an if, by where a suffix lies.
module _ (w : List ℕ) (lv i e : ℕ) (b : Block) (t s r : Lines) (G : List Forms) (h : Rep w lv i e (if_line b t s r)) (x : ℕ) where
  in_rest : (g : Forms) → suffix (forms G r) x ≡ some g → suffix (forms G (if_line b t s r)) x ≡ some g
  unfolding Rep forms
  in_rest g c =
      let (lo, hi) = suffix_in w lv (after_at w i) e r G x g h.4 c in
      let k = rep_le w lv (i + 1) (other_at w i) t h.2 in
      let m = rep_le w lv (other_at w i) (after_at w i) s h.3 in
      suffix_rest b (forms G t) (forms G s) (forms G r) x (λ z. omega (arith, number_of h.0.1)) (suffix_past w lv (i + 1) (other_at w i) t G x h.2 (omega arith))
      (suffix_past w lv (other_at w i) (after_at w i) s G x h.3 lo) ∙ c

  in_then : (g : Forms) → suffix (forms G t) x ≡ some g → suffix (forms G (if_line b t s r)) x ≡ some (g ⊕ forms G r)
  unfolding Rep forms
  in_then g c =
      let (lo, hi) = suffix_in w lv (i + 1) (other_at w i) t G x g h.2 c in
      suffix_then b (forms G t) (forms G s) (forms G r) x g (λ z. omega (arith, number_of h.0.1)) c

  in_else : (g : Forms) → suffix (forms G s) x ≡ some g → suffix (forms G (if_line b t s r)) x ≡ some (g ⊕ forms G r)
  unfolding Rep forms
  in_else g c =
      let (lo, hi) = suffix_in w lv (other_at w i) (after_at w i) s G x g h.3 c in
      let k = rep_le w lv (i + 1) (other_at w i) t h.2 in
      suffix_else b (forms G t) (forms G s) (forms G r) x g (λ z. omega (arith, number_of h.0.1)) (suffix_past w lv (i + 1) (other_at w i) t G x h.2 lo) c

-- What is come to in silence is a suffix.
pub seek_suffix : (w : List ℕ) (lv i e : ℕ) (l : Lines) (G : List Forms) (x : ℕ) (h : Forms) → Rep w lv i e l → seek (forms G l) x ≡ some h → suffix (forms G l) x ≡ some h
unfolding Rep forms seek suffix
seek_suffix w lv i e close G x h q c = never c
seek_suffix w lv i e (leaf_line b r) G x h q c =
    elim (at_some b x (leaf b (forms G r)) (seek (forms G r) x) h c) [
      | inl k ↦ from_here b x _ _ k.0.1 ∙ ap some k.1
      | inr k ↦ let d = seek_suffix w lv (after_at w i) e r G x h q.4 k.1 in
          from_on b x _ _ (λ z. omega (arith, number_of q.0.1, suffix_in w lv (after_at w i) e r G x h q.4 d)) ∙ d
    ]
seek_suffix w lv i e (call_line b f r) G x h q c =
    elim (at_some b x (call b (get_or G f done) (forms G r)) (seek (forms G r) x) h c) [
      | inl k ↦ from_here b x _ _ k.0.1 ∙ ap some k.1
      | inr k ↦ let d = seek_suffix w lv (after_at w i) e r G x h q.4 k.1 in
          from_on b x _ _ (λ z. omega (arith, number_of q.0.1, suffix_in w lv (after_at w i) e r G x h q.4 d)) ∙ d
    ]
seek_suffix w lv i e (loop_line b n body r) G x h q c =
    elim (at_some b x (loop b n (forms G body) (forms G r)) (seek (forms G r) x) h c) [
      | inl k ↦ from_here b x _ _ k.0.1 ∙ ap some k.1
      | inr k ↦ let d = seek_suffix w lv (after_at w i) e r G x h q.4 k.1 in
          let m = rep_le w (suc lv) (i + 1) (after_at w i) body q.3 in
          from_on b x _ _ (λ z. omega (arith, number_of q.0.1, suffix_in w lv (after_at w i) e r G x h q.4 d)) ∙ d
    ]
seek_suffix w lv i e (if_line b t s r) G x h q c =
    elim (at_some b x (cond b (forms G t) (forms G s) (forms G r)) _ h c) [
      | inl k ↦ from_here b x _ _ k.0.1 ∙ ap some k.1
      | inr k ↦ elim (or_some (seek (forms G t) x ⊕? forms G r) _ h k.1) [
        | inl j ↦ let (g, a, d) = ⊕?-some (seek (forms G t) x) (forms G r) h j in
            in_then w lv i e b t s r G q x g (seek_suffix w lv (i + 1) (other_at w i) t G x g q.2 a) ∙ ap some d
        | inr j ↦ elim (or_some (seek (forms G s) x ⊕? forms G r) _ h j.1) [
          | inl m ↦ let (g, a, d) = ⊕?-some (seek (forms G s) x) (forms G r) h m in
              in_else w lv i e b t s r G q x g (seek_suffix w lv (other_at w i) (after_at w i) s G x g q.3 a) ∙ ap some d
          | inr m ↦ in_rest w lv i e b t s r G q x h
              (seek_suffix w lv (after_at w i) e r G x h q.4 (when_some (passes (forms G t) || passes (forms G s)) (seek (forms G r) x) h m.1).1)
        ]
      ]
    ]

-- Found in a sequence behind another.
pub seek_split : (f g : Forms) (x : ℕ) (h : Forms) → seek (f ⊕ g) x ≡ some h → ((k : Forms) × (seek f x ≡ some k) × (k ⊕ g ≡ h)) ⊎ (seek g x ≡ some h)
seek_split f g x h e =
    elim (or_some (seek f x ⊕? g) (when (passes f) (seek g x)) h (sym (seek-⊕ f g x) ∙ e)) [
      | inl j ↦ inl (⊕?-some (seek f x) g h j)
      | inr j ↦ inr (when_some (passes f) (seek g x) h j.1).1
    ]

seek_first : (f g : Forms) (x : ℕ) → seek (f ⊕ g) x ≡ none → seek f x ≡ none
seek_first f g x e =
    elim (known (seek f x)) [
      | inl j ↦ j
      | inr j ↦ let z : some (j.0 ⊕ g) ≡ none = rw j.1 at (sym (seek-⊕ f g x) ∙ e) in never (sym z)
    ]

next_split : (f g : Forms) (x : ℕ) (h : Forms) → Nonempty f → next_beyond (f ⊕ g) x ≡ some h → ((k : Forms) × (next_beyond f x ≡ some k) × (k ⊕ g ≡ h)) ⊎ (seek g x ≡ some h)
unfolding next_beyond ◌⊕◌
next_split done g x h q e = absurd q
next_split (leaf b r) g x h q e = seek_split r g x h e
next_split (call b fun r) g x h q e = seek_split r g x h e
next_split (loop b n body r) g x h q e = seek_split r g x h e
next_split (cond b t s r) g x h q e =
    elim (or_some (seek (t ⊕ (r ⊕ g)) x) (seek (s ⊕ (r ⊕ g)) x) h e) [
      | inl j ↦ elim (seek_split (t ⊕ r) g x h (ap (λ (f : Forms). seek f x) (⊕-assoc t r g) ∙ j)) [
        | inl k ↦ inl (k.0, rw k.1, k.2)
        | inr k ↦ inr k
      ]
      | inr j ↦ elim (seek_split (s ⊕ r) g x h (ap (λ (f : Forms). seek f x) (⊕-assoc s r g) ∙ j.1)) [
        | inl k ↦ inl (k.0, rw (seek_first (t ⊕ r) g x (ap (λ (f : Forms). seek f x) (⊕-assoc t r g) ∙ j.0), k.1), k.2)
        | inr k ↦ inr k
      ]
    ]

-- a suffix of the rest is one of the whole.
later : (w : List ℕ) (lv j e : ℕ) (r : Lines) (G : List Forms) (b : Block) (x : ℕ) (fs h : Forms) → Rep w lv j e r → b.number < j →
    suffix (forms G r) x ≡ some h → (from b x fs (suffix (forms G r) x) ≡ some h) × (b.number < x)
later w lv j e r G b x fs h q lt c =
    let (lo, hi) = suffix_in w lv j e r G x h q c in
    (from_on b x fs (suffix (forms G r) x) (λ z. omega arith) ∙ c, omega arith)

-- What comes next behind the leaf p of a level is a leaf of the level, further on.
abbrev Onward : List ℕ → ℕ → ℕ → ℕ → Lines → List Forms → ℕ → ℕ → Type 0
Onward w lv i e l G p x = (s h : Forms) → suffix (forms G l) p ≡ some s → next_beyond s x ≡ some h → (suffix (forms G l) x ≡ some h) × (p < x)

-- Lines that open with a leaf, a call or a loop.
flat_next : (w : List ℕ) (lv j e : ℕ) (r : Lines) (G : List Forms) (b : Block) (p x : ℕ) (fs s h : Forms) → Rep w lv j e r → b.number < j →
    ((g : Forms) → next_beyond fs x ≡ some g → seek (forms G r) x ≡ some g) → Onward w lv j e r G p x →
    from b p fs (suffix (forms G r) p) ≡ some s → next_beyond s x ≡ some h → (from b x fs (suffix (forms G r) x) ≡ some h) × (p < x)
flat_next w lv j e r G b p x fs s h q lt n ih c d =
    elim (from_cases b p fs (suffix (forms G r) p) s c) [
      | inl k ↦
          let a : next_beyond fs x ≡ some h = rw (sym k.1) at d in
          let (u, v) = later w lv j e r G b x fs h q lt (seek_suffix w lv j e r G x h q (n h a)) in
          (u, omega arith)
      | inr k ↦
          let (a, o) = ih s h k.1 d in
          let (u, v) = later w lv j e r G b x fs h q lt a in
          (u, o)
    ]

-- Lines that open with an if: behind its condition, or behind a leaf of one of its parts.
module _ (w : List ℕ) (lv i e : ℕ) (b : Block) (t s r : Lines) (G : List Forms) (q : Rep w lv i e (if_line b t s r)) (p x : ℕ) where
  if_rest : (h : Forms) → seek (forms G r) x ≡ some h → (suffix (forms G (if_line b t s r)) x ≡ some h) × (after_at w i ≤ x)
  unfolding Rep
  if_rest h a =
      let d = seek_suffix w lv (after_at w i) e r G x h q.4 a in
      (in_rest w lv i e b t s r G q x h d, (suffix_in w lv (after_at w i) e r G x h q.4 d).0)

  if_bounds : (i < other_at w i) × (other_at w i ≤ after_at w i) × (b.number ≡ i)
  unfolding Rep
  if_bounds =
      let k = rep_le w lv (i + 1) (other_at w i) t q.2 in
      let m = rep_le w lv (other_at w i) (after_at w i) s q.3 in
      (omega arith, m, number_of q.0.1)

  if_first : (h : Forms) → seek (forms G t ⊕ forms G r) x ≡ some h → (suffix (forms G (if_line b t s r)) x ≡ some h) × (i < x)
  unfolding Rep
  if_first h a =
      let z = if_bounds in
      elim (seek_split (forms G t) (forms G r) x h a) [
        | inl k ↦ let d = seek_suffix w lv (i + 1) (other_at w i) t G x k.0 q.2 k.1 in
            (in_then w lv i e b t s r G q x k.0 d ∙ ap some k.2, omega (arith, suffix_in w lv (i + 1) (other_at w i) t G x k.0 q.2 d))
        | inr k ↦ let (c, d) = if_rest h k in (c, omega arith)
      ]

  if_second : (h : Forms) → seek (forms G s ⊕ forms G r) x ≡ some h → (suffix (forms G (if_line b t s r)) x ≡ some h) × (i < x)
  unfolding Rep
  if_second h a =
      let z = if_bounds in
      elim (seek_split (forms G s) (forms G r) x h a) [
        | inl k ↦ let d = seek_suffix w lv (other_at w i) (after_at w i) s G x k.0 q.3 k.1 in
            (in_else w lv i e b t s r G q x k.0 d ∙ ap some k.2, omega (arith, suffix_in w lv (other_at w i) (after_at w i) s G x k.0 q.3 d))
        | inr k ↦ let (c, d) = if_rest h k in (c, omega arith)
      ]

  if_own : (h : Forms) → next_beyond (cond b (forms G t) (forms G s) (forms G r)) x ≡ some h → (suffix (forms G (if_line b t s r)) x ≡ some h) × (i < x)
  unfolding next_beyond
  if_own h a =
      elim (or_some (seek (forms G t ⊕ forms G r) x) (seek (forms G s ⊕ forms G r) x) h a) [ inl k ↦ if_first h k | inr k ↦ if_second h k.1 ]

  if_then : Onward w lv (i + 1) (other_at w i) t G p x → (u h : Forms) → suffix (forms G t) p ⊕? forms G r ≡ some u → next_beyond u x ≡ some h →
      (suffix (forms G (if_line b t s r)) x ≡ some h) × (p < x)
  unfolding Rep
  if_then it u h j d =
      let (v, a, c) = ⊕?-some (suffix (forms G t) p) (forms G r) u j in
      let f : next_beyond (v ⊕ forms G r) x ≡ some h = rw (sym c) at d in
      let (lo, hi) = suffix_in w lv (i + 1) (other_at w i) t G p v q.2 a in
      let z = if_bounds in
      elim (next_split v (forms G r) x h (suffix_headed (forms G t) p v a) f) [
        | inl k ↦ let (y, o) = it v k.0 a k.1 in (in_then w lv i e b t s r G q x k.0 y ∙ ap some k.2, o)
        | inr k ↦ let (y, o) = if_rest h k in (y, omega arith)
      ]

  if_else : Onward w lv (other_at w i) (after_at w i) s G p x → (u h : Forms) → suffix (forms G s) p ⊕? forms G r ≡ some u → next_beyond u x ≡ some h →
      (suffix (forms G (if_line b t s r)) x ≡ some h) × (p < x)
  unfolding Rep
  if_else is u h j d =
      let (v, a, c) = ⊕?-some (suffix (forms G s) p) (forms G r) u j in
      let f : next_beyond (v ⊕ forms G r) x ≡ some h = rw (sym c) at d in
      let (lo, hi) = suffix_in w lv (other_at w i) (after_at w i) s G p v q.3 a in
      let z = if_bounds in
      elim (next_split v (forms G r) x h (suffix_headed (forms G s) p v a) f) [
        | inl k ↦ let (y, o) = is v k.0 a k.1 in (in_else w lv i e b t s r G q x k.0 y ∙ ap some k.2, o)
        | inr k ↦ let (y, o) = if_rest h k in (y, omega arith)
      ]

  if_next : Onward w lv (i + 1) (other_at w i) t G p x → Onward w lv (other_at w i) (after_at w i) s G p x → Onward w lv (after_at w i) e r G p x → Onward w lv i e (if_line b t s r) G p x
  unfolding forms suffix
  if_next it is ir u h c d =
      elim (from_cases b p (cond b (forms G t) (forms G s) (forms G r)) _ u c) [
        | inl k ↦ let (y, o) = if_own h (rw (sym k.1) at d) in let z = if_bounds in (y, omega (arith, k.0))
        | inr k ↦ elim (or_some (suffix (forms G t) p ⊕? forms G r) _ u k.1) [
          | inl j ↦ if_then it u h j d
          | inr j ↦ elim (or_some (suffix (forms G s) p ⊕? forms G r) _ u j.1) [
            | inl m ↦ if_else is u h m d
            | inr m ↦ let (a, o) = ir u h m.1 d in (in_rest w lv i e b t s r G q x h a, o)
          ]
        ]
      ]

pub next_suffix : (w : List ℕ) (lv i e : ℕ) (l : Lines) (G : List Forms) (p x : ℕ) → Rep w lv i e l → Onward w lv i e l G p x
unfolding Rep forms suffix next_beyond
next_suffix w lv i e close G p x q s h c d = never c
next_suffix w lv i e (leaf_line b r) G p x q s h c d =
    flat_next w lv (after_at w i) e r G b p x (leaf b (forms G r)) s h q.4 (omega (arith, number_of q.0.1)) (λ g a. a) (next_suffix w lv (after_at w i) e r G p x q.4) c d
next_suffix w lv i e (call_line b f r) G p x q s h c d =
    flat_next w lv (after_at w i) e r G b p x (call b (get_or G f done) (forms G r)) s h q.4 (omega (arith, number_of q.0.1)) (λ g a. a) (next_suffix w lv (after_at w i) e r G p x q.4) c d
next_suffix w lv i e (loop_line b n body r) G p x q s h c d =
    flat_next w lv (after_at w i) e r G b p x (loop b n (forms G body) (forms G r)) s h q.4 (omega (arith, number_of q.0.1, rep_le w (suc lv) (i + 1) (after_at w i) body q.3)) (λ g a. a) (next_suffix w lv (after_at w i) e r G p x q.4) c d
next_suffix w lv i e (if_line b t m r) G p x q s h c d =
    if_next w lv i e b t m r G q p x (next_suffix w lv (i + 1) (other_at w i) t G p x q.2) (next_suffix w lv (other_at w i) (after_at w i) m G p x q.3) (next_suffix w lv (after_at w i) e r G p x q.4) s h c d
