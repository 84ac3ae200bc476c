-- The columns at a leaf of a level: its tail is the total of what is left of the level and what follows the level in its function. Assumes nothing.
use mathlib.Core.Path.{◌≡◌, refl, sym, ap, ◌∙◌}
use mathlib.Core.List.{List}
use mathlib.Core.Logic.{inl, inr}
use mathlib.Core.Option.{none, some}
use Prim.Native.Nat.{ℕ, zero, suc, ◌+◌, ◌-◌, ◌*◌, ◌≤◌, ◌<◌}
use native.Mathlib.Omega.{arith}
use native.Mathlib.Nat.{add-mul, zero-mul}
use lib.ListN.{length, get_or}
use Rattle.model.specs.Plan.{Block, C, Lines, close, leaf_line, call_line, loop_line, if_line}
use Rattle.model.specs.Forms.{Forms, done, leaf, call, loop, cond, forms, ◌⊕◌}
use Rattle.model.specs.Total.{total, tally}
use Rattle.model.specs.Places.{◌⊕?◌}
use Rattle.model.specs.Stack.{suffix, turned}
use Rattle.model.proofs.Places.{never, or_some, ⊕?-some}
use Rattle.model.proofs.Steps.{total-⊕}
use Rattle.model.proofs.Targets.{Below}
use Rattle.model.proofs.Ways.{tally_is}
use Rattle.rows.specs.Rows.{Rules}
use Rattle.place.specs.Private.{Nonempty}
use Rattle.place.specs.Times.{Priced}
use Rattle.place.proofs.Suffixes.{from_cases, suffix_headed}
use Rattle.place.proofs.Views.{turned_loop}

-- Lines that keep the rules call one of the functions whose heights are known.
pub rules_below : (hs : List ℕ) (left lv n : ℕ) (l : Lines) → length hs ≤ n → Rules hs left lv l → Below n l
unfolding Rules Below
rules_below hs left lv n close q h = tt
rules_below hs left lv n (leaf_line b r) q h = rules_below hs left lv n r q h.2
rules_below hs left lv n (call_line b f r) q h = (omega (arith, h.2), rules_below hs left lv n r q h.4)
rules_below hs left lv n (loop_line b m body r) q h = (rules_below hs (left - 1) (suc lv) n body q h.5, rules_below hs left lv n r q h.6)
rules_below hs left lv n (if_line b t s r) q h =
    (rules_below hs (left - 2) lv n t q h.3, rules_below hs (left - 2) lv n s q h.4, rules_below hs left lv n r q h.5)

-- What a leaf's first visit had left, v visits on.
flat_split : (v : ℕ) (s g : Forms) (c : ℕ) → ((m : ℕ) → turned s (suc m) ≡ none) → turned s v ≡ some g → total C s ≡ v * c + total C g
unfolding turned
flat_split zero s g c n e = let z : s ≡ g = cc in omega (arith, zero-mul c, ap (total C) z)
flat_split (suc v) s g c n e = never (sym (n v) ∙ e)

loop_split : (v : ℕ) (b : Block) (n : ℕ) (body r g : Forms) (c : ℕ) → c ≡ C b + total C body → turned (loop b n body r) v ≡ some g →
    total C (loop b n body r) ≡ v * c + total C g
unfolding total
loop_split v b n body r g c p e =
    let (m, q, z) = turned_loop v b n body r g e in
    let a : total C g ≡ C b + m * (total C body + C b) + total C r = ap (total C) z in
    let d : c ≡ total C body + C b = omega arith in
    let f : (m + v) * (total C body + C b) ≡ m * (total C body + C b) + v * (total C body + C b) = add-mul m v (total C body + C b) in
    let h : n * (total C body + C b) ≡ (m + v) * (total C body + C b) = ap (λ (k : ℕ). k * (total C body + C b)) (sym q) in
    let i : v * c ≡ v * (total C body + C b) = ap (λ (k : ℕ). v * k) d in
    omega arith

pub turned_split : (v : ℕ) (s g : Forms) (c : ℕ) → ((b : Block) (m : ℕ) (body r : Forms) → s ≡ loop b m body r → c ≡ C b + total C body) →
    turned s v ≡ some g → total C s ≡ v * c + total C g
unfolding turned
turned_split v done g c p e = flat_split v done g c (λ m. refl) e
turned_split v (leaf b r) g c p e = flat_split v (leaf b r) g c (λ m. refl) e
turned_split v (call b fun r) g c p e = flat_split v (call b fun r) g c (λ m. refl) e
turned_split v (loop b n body r) g c p e = loop_split v b n body r g c (p b n body r refl) e
turned_split v (cond b t s r) g c p e = flat_split v (cond b t s r) g c (λ m. refl) e

-- A loop that has turned v times had v rounds more before.
pub turned_back : (v : ℕ) (s : Forms) (b : Block) (m : ℕ) (body r : Forms) → turned s v ≡ some (loop b m body r) → s ≡ loop b (m + v) body r
unfolding turned
turned_back zero s b m body r e = let z : m + 0 ≡ m = omega arith in rw z cc
turned_back (suc v) done b m body r e = never e
turned_back (suc v) (leaf c k) b m body r e = never e
turned_back (suc v) (call c f k) b m body r e = never e
turned_back (suc v) (loop c zero x k) b m body r e = never e
turned_back (suc v) (loop c (suc n) x k) b m body r e =
    let y = turned_back v (loop c n x k) b m body r e in
    let z : suc (m + v) ≡ m + suc v = omega arith in
    let i : n ≡ m + v = cc in
    rw (← z, ← i) cc
turned_back (suc v) (cond c t d k) b m body r e = never e

-- A sequence that opens with a loop.
loop_front : (k q : Forms) (b : Block) (m : ℕ) (body r : Forms) → Nonempty k → k ⊕ q ≡ loop b m body r → (j : Forms) × (k ≡ loop b m body j) × (j ⊕ q ≡ r)
unfolding ◌⊕◌
loop_front done q b m body r h e = absurd h
loop_front (leaf c j) q b m body r h e = absurd (let z : ◌≡◌ {A = ℕ} 0 1 = cc in omega arith)
loop_front (call c f j) q b m body r h e = absurd (let z : ◌≡◌ {A = ℕ} 0 1 = cc in omega arith)
loop_front (loop c n x j) q b m body r h e = (j, cc, cc)
loop_front (cond c t d j) q b m body r h e = absurd (let z : ◌≡◌ {A = ℕ} 0 1 = cc in omega arith)

-- Forms of the table whose leaves have their columns, where e follows them in their function.
pub record Inner (ts tails turns : List ℕ) (G : List Forms) (n : ℕ) (f : Forms) (e : ℕ) : Type 0 where
  pub lines : Lines
  pub same : f ≡ forms G lines
  pub calls : Below n lines
  pub priced : Priced ts tails turns lines e

-- The columns of the leaf x, with s left of its level at a first visit, where e follows the level in its function.
pub record At (ts tails turns : List ℕ) (G : List Forms) (n x : ℕ) (s : Forms) (e : ℕ) : Type 0 where
  pub tail : get_or tails x 0 ≡ total C s + e
  pub round : (b : Block) (m : ℕ) (body r : Forms) → s ≡ loop b m body r →
      (get_or turns x 0 ≡ C b + total C body) × Inner ts tails turns G n body (C b + (m - 1) * (total C body + C b) + total C r + e)

module _ (ts tails turns : List ℕ) (G : List Forms) (n : ℕ) (right : (f : ℕ) → f < n → get_or ts f 0 ≡ total C (get_or G f done)) where
  -- The leaf is the first one of the lines.
  head_tail : (l : Lines) (b : Block) (x e : ℕ) (s : Forms) → Below n l → get_or tails b.number 0 ≡ tally C ts l + e → b.number ≡ x → forms G l ≡ s →
      get_or tails x 0 ≡ total C s + e
  head_tail l b x e s c h z q = ap (λ (k : ℕ). get_or tails k 0) (sym z) ∙ h ∙ ap (λ (k : ℕ). k + e) (tally_is C ts G n right l c ∙ ap (total C) q)

  pub inner_same : {f g : Forms} {e d : ℕ} → f ≡ g → e ≡ d → Inner ts tails turns G n f e → Inner ts tails turns G n g d
  inner_same p q i = rw (p, q) at i

  -- The leaf is in a part of an if, with r behind it.
  at_more : (x e : ℕ) (k s : Forms) (r : Lines) → Nonempty k → Below n r → k ⊕ forms G r ≡ s → At ts tails turns G n x k (tally C ts r + e) → At ts tails turns G n x s e
  at_more x e k s r h c q a =
      let y = tally_is C ts G n right r c in
      let z = total-⊕ C k (forms G r) in
      let u = ap (total C) q in
      record {
        tail = a.tail ∙ omega (arith, y, z, u);
        round = λ b m body j p.
            let (i, d, f) = loop_front k (forms G r) b m body j h (q ∙ p) in
            let (g, o) = a.round b m body i d in
            (g, inner_same {f = body} {g = body} refl (omega (arith, y, total-⊕ C i (forms G r), ap (total C) f)) o);
      }

  pub priced_suffix : (l : Lines) (e x : ℕ) (s : Forms) → Below n l → Priced ts tails turns l e → suffix (forms G l) x ≡ some s → At ts tails turns G n x s e
  unfolding Priced Below forms suffix
  priced_suffix close e x s c h f = never f
  priced_suffix (leaf_line b r) e x s c h f =
      elim (from_cases b x (leaf b (forms G r)) (suffix (forms G r) x) s f) [
        | inl q ↦ record { tail = head_tail (leaf_line b r) b x e s c h.0 q.0 q.1; round = λ d m body j p. absurd (let z : ◌≡◌ {A = ℕ} 0 1 = cc in omega arith) }
        | inr q ↦ priced_suffix r e x s c h.2 q.1
      ]
  priced_suffix (call_line b k r) e x s c h f =
      elim (from_cases b x (call b (get_or G k done) (forms G r)) (suffix (forms G r) x) s f) [
        | inl q ↦ record { tail = head_tail (call_line b k r) b x e s c h.0 q.0 q.1; round = λ d m body j p. absurd (let z : ◌≡◌ {A = ℕ} 0 1 = cc in omega arith) }
        | inr q ↦ priced_suffix r e x s c.1 h.2 q.1
      ]
  priced_suffix (loop_line b k t r) e x s c h f =
      elim (from_cases b x (loop b k (forms G t) (forms G r)) (suffix (forms G r) x) s f) [
        | inl q ↦ record {
          tail = head_tail (loop_line b k t r) b x e s c h.0 q.0 q.1;
          round = λ d m body j p. loop_round b k t r e x s c.0 c.1 h.1 h.2 q.0 q.1 d m body j p;
        }
        | inr q ↦ priced_suffix r e x s c.1 h.3 q.1
      ]
    where
      loop_round : (b : Block) (k : ℕ) (t r : Lines) (e x : ℕ) (s : Forms) → Below n t → Below n r → get_or turns b.number 0 ≡ C b + tally C ts t →
          Priced ts tails turns t (C b + (k - 1) * (tally C ts t + C b) + tally C ts r + e) → b.number ≡ x → loop b k (forms G t) (forms G r) ≡ s →
          (d : Block) (m : ℕ) (body j : Forms) → s ≡ loop d m body j →
          (get_or turns x 0 ≡ C d + total C body) × Inner ts tails turns G n body (C d + (m - 1) * (total C body + C d) + total C j + e)
      loop_round b k t r e x s ct cr ht hp z q d m body j p =
          let ib : b ≡ d = cc in
          let im : k ≡ m = cc in
          let it : forms G t ≡ body = cc in
          let ij : forms G r ≡ j = cc in
          let yt : tally C ts t ≡ total C body = tally_is C ts G n right t ct ∙ ap (total C) it in
          let yr : tally C ts r ≡ total C j = tally_is C ts G n right r cr ∙ ap (total C) ij in
          let eb : C b ≡ C d = ap (λ (b : Block). C b) ib in
          let w : C b + (k - 1) * (tally C ts t + C b) + tally C ts r + e ≡ C d + (m - 1) * (total C body + C d) + total C j + e = rw (eb, im, yt, yr) in (
            ap (λ (k : ℕ). get_or turns k 0) (sym z) ∙ ht ∙ rw (eb, yt),
            inner_same {f = forms G t} {g = body} it w (record { lines = t; same = refl; calls = ct; priced = hp }),
          )
  priced_suffix (if_line b t m r) e x s c h f =
      elim (from_cases b x (cond b (forms G t) (forms G m) (forms G r)) _ s f) [
        | inl q ↦ record { tail = head_tail (if_line b t m r) b x e s c h.0 q.0 q.1; round = λ d k body j p. absurd (let z : ◌≡◌ {A = ℕ} 0 1 = cc in omega arith) }
        | inr q ↦ elim (or_some (suffix (forms G t) x ⊕? forms G r) _ s q.1) [
          | inl j ↦ let (k, a, p) = ⊕?-some (suffix (forms G t) x) (forms G r) s j in
              at_more x e k s r (suffix_headed (forms G t) x k a) c.2 p (priced_suffix t (tally C ts r + e) x k c.0 h.2 a)
          | inr j ↦ elim (or_some (suffix (forms G m) x ⊕? forms G r) _ s j.1) [
            | inl j ↦ let (k, a, p) = ⊕?-some (suffix (forms G m) x) (forms G r) s j in
                at_more x e k s r (suffix_headed (forms G m) x k a) c.2 p (priced_suffix m (tally C ts r + e) x k c.1 h.3 a)
            | inr j ↦ priced_suffix r e x s c.2 h.4 j.1
          ]
        ]
      ]
