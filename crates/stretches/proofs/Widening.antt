-- Stretches, form by form. Plain mathematics: no code is named here. Assumes nothing.
use mathlib.Core.Path.{◌≡◌, refl, sym, ap, ◌∙◌}
use mathlib.Core.Bool.{Bool, true, false}
use mathlib.Core.List.{List}
use Prim.Native.Nat.{ℕ, suc, ◌+◌, ◌*◌, ◌≤◌, ◌<◌, max}
use native.Mathlib.Omega.{arith}
use lib.ListN.{get_or, set}
use lib.Seq.{sets}
use Rattle.model.specs.Plan.{Block, Lines, close, leaf_line, call_line, loop_line, if_line}
use Rattle.model.specs.Total.{tally}
use Rattle.model.specs.Places.{pick}
use Rattle.model.specs.Static.{line_silence}
use Rattle.rows.specs.Rows.{field, block_at, Rep, Part}
use Rattle.rows.specs.First.{rest}
use Rattle.rows.proofs.Shape.{LeafAt, CallAt, LoopAt, IfAt}
use Rattle.outlook.specs.declared.Quiet.{Quiet}
use Rattle.outlook.specs.Quiets.{through, quiet_sum}
use Rattle.rows.specs.Costs.{limit}
use Rattle.columns.specs.Sums.{lead}
use Rattle.std.specs.Prelude.{Option, Some, None}
use Rattle.columns.specs.Walks.{front, later}
use Rattle.stretches.specs.Private.{WithinLimit, first_silence, follow_first}
use Rattle.stretches.specs.Stretches.{leaf_stretch, first_stretch, stretch_rule, follow_call, follow_calls}
use Rattle.columns.specs.Columns.{column_of}
use Rattle.columns.proofs.Fronts.{leaf_front, call_front, loop_front, if_front}
use Rattle.columns.proofs.Sizes.{if_lead}

pick_le : (p : Bool) (x : ℕ) → pick p 0 x ≤ x
pick_le true x = omega arith
pick_le false x = omega arith

-- A silence is at most the total and what follows.
pub silence_le : (k : Block → ℕ) (ms : List ℕ) (l : Lines) (s : ℕ) → line_silence k ms l s ≤ tally k ms l + s
unfolding line_silence tally
silence_le k ms close s = omega arith
silence_le k ms (leaf_line b r) s = omega (arith, silence_le k ms r s, pick_le b.point (k b + line_silence k ms r s))
silence_le k ms (call_line b f r) s = omega (arith, silence_le k ms r s, pick_le b.point (k b + get_or ms f 0 + line_silence k ms r s))
silence_le k ms (loop_line b n body r) s = omega (arith, silence_le k ms r s, pick_le b.point (k b + n * (tally k ms body + k b) + line_silence k ms r s))
silence_le k ms (if_line b t e r) s =
    omega (
      arith,
      silence_le k ms r s,
      silence_le k ms t (line_silence k ms r s),
      silence_le k ms e (line_silence k ms r s),
      pick_le b.point (k b + max (line_silence k ms t (line_silence k ms r s)) (line_silence k ms e (line_silence k ms r s))),
    )

pub quiet_le : (q : Quiet) (s : ℕ) → WithinLimit q → quiet_sum q s ≤ limit + s
quiet_le q s w = through_le q.pass (w.pass)
  where
    through_le : (p : Option ℕ) → ((x : ℕ) → p ≡ Some x → x ≤ limit) → max q.hit (through p s) ≤ limit + s
    through_le None f = omega (arith, w.hit)
    through_le (Some x) f = omega (arith, w.hit, f x refl)

-- The first form and the others.
silence_split : (k : Block → ℕ) (ms : List ℕ) (l : Lines) (s : ℕ) → line_silence k ms l s ≡ first_silence k ms l (line_silence k ms (rest l) s)
unfolding line_silence first_silence rest
silence_split k ms close s = refl
silence_split k ms (leaf_line b r) s = refl
silence_split k ms (call_line b f r) s = refl
silence_split k ms (loop_line b n body r) s = refl
silence_split k ms (if_line b t e r) s = refl

-- The silence that stands at the first form, by kind.
rep_plain : (k : Block → ℕ) (ms w : List ℕ) (v i e : ℕ) (l : Lines) (s : ℕ) → Rep w v i e l → i < e → (field w i 0 ≡ 3 → ⊥)
    → pick (block_at w i).point 0 (lead k ms l + s) ≡ first_silence k ms l s
unfolding Rep lead first_silence
rep_plain k ms w v i e close s h lt d = absurd (omega arith)
rep_plain k ms w v i e (leaf_line b r) s h lt d = ap (λ (y : Block). pick y.point 0 (k b + s)) (sym h.0.1)
rep_plain k ms w v i e (call_line b f r) s h lt d = ap (λ (y : Block). pick y.point 0 (k b + get_or ms f 0 + s)) (sym h.0.1)
rep_plain k ms w v i e (loop_line b n body r) s h lt d = ap (λ (y : Block). pick y.point 0 (k b + n * (tally k ms body + k b) + s)) (sym h.0.1)
rep_plain k ms w v i e (if_line b t f r) s h lt d = absurd (d h.0.0)

pub plain_silence : (k : Block → ℕ) (ms : List ℕ) (s : ℕ) {w hs : List ℕ} {left v i e y r : ℕ} → i < e → (p : Part w hs left v i e) → (field w i 0 ≡ 3 → ⊥)
    → y ≡ lead k ms p.lines → r ≡ pick (block_at w i).point 0 (y + s) → r ≡ first_silence k ms p.lines s
plain_silence k ms s {w} {v = v} {i = i} {e = e} lt p k3 hy hr =
    hr ∙ ap (λ (z : ℕ). pick (block_at w i).point 0 (z + s)) hy ∙ rep_plain k ms w v i e p.lines s p.rep lt k3

pub if_silence : (k : Block → ℕ) (ms : List ℕ) (s : ℕ) {w hs : List ℕ} {left v i : ℕ} {l : Lines} {c a b m r : ℕ} (h : IfAt w hs left v i l) → c ≡ k (block_at w i)
    → a ≡ line_silence k ms h.then.lines s → b ≡ line_silence k ms h.else.lines s → m ≡ max a b → r ≡ pick (block_at w i).point 0 (c + m) → r ≡ first_silence k ms l s
unfolding first_silence
if_silence k ms s {w} {hs} {left} {v} {i} {l} {c} {a} {b} {m} {r} h hc ha hb hm hr =
    hr ∙ ap (λ (z : ℕ). pick (block_at w i).point 0 z) (rw (hc, hm, ha, hb)) ∙ ap (λ (u : Lines). first_silence k ms u s) (sym h.shape)

-- The stretch of the first leaf, by kind.
module _ (k : Block → ℕ) (ms : List ℕ) (q : ℕ → ℕ → ℕ) where
  stretch_of_leaf : {w : List ℕ} {v i : ℕ} {l : Lines} (s : ℕ) {r : ℕ} → LeafAt w v i l → r ≡ leaf_stretch k (block_at w i) s → r ≡ first_stretch k ms q l s
  unfolding first_stretch
  stretch_of_leaf s h hr = hr ∙ ap (λ (u : Lines). first_stretch k ms q u s) (sym h.shape)

  stretch_of_call : {w hs : List ℕ} {v i : ℕ} {l : Lines} (s : ℕ) {r : ℕ} → CallAt w hs v i l → r ≡ leaf_stretch k (block_at w i) (q (field w i 4) s) → r ≡ first_stretch k ms q l s
  unfolding first_stretch
  stretch_of_call s h hr = hr ∙ ap (λ (u : Lines). first_stretch k ms q u s) (sym h.shape)

  stretch_of_loop : {w hs : List ℕ} {left v i : ℕ} {l : Lines} (s : ℕ) {r x b : ℕ} (h : LoopAt w hs left v i l) → b ≡ line_silence k ms h.body.lines 0 → x ≡ max s b
      → r ≡ leaf_stretch k (block_at w i) x → r ≡ first_stretch k ms q l s
  unfolding first_stretch
  stretch_of_loop {w} {hs} {left} {v} {i} s h hb hx hr =
      hr ∙ ap (λ (y : ℕ). leaf_stretch k (block_at w i) y) (hx ∙ ap (λ (y : ℕ). max s y) hb) ∙ ap (λ (u : Lines). first_stretch k ms q u s) (sym h.shape)

  stretch_of_if : {w hs : List ℕ} {left v i : ℕ} {l : Lines} (s : ℕ) {r x a b : ℕ} (h : IfAt w hs left v i l) → a ≡ line_silence k ms h.then.lines s
      → b ≡ line_silence k ms h.else.lines s → x ≡ max a b → r ≡ leaf_stretch k (block_at w i) x → r ≡ first_stretch k ms q l s
  unfolding first_stretch
  stretch_of_if {w} {hs} {left} {v} {i} s h ha hb hx hr =
      hr ∙ ap (λ (y : ℕ). leaf_stretch k (block_at w i) y) (hx ∙ rw (ha, hb)) ∙ ap (λ (u : Lines). first_stretch k ms q u s) (sym h.shape)

  -- What is written for the first form, by kind.
  pub put_leaf : {w : List ℕ} {v i : ℕ} {l : Lines} (s : ℕ) (o : List ℕ) {o' : List ℕ} → LeafAt w v i l → o' ≡ set o i (leaf_stretch k (block_at w i) s)
      → o' ≡ sets o i (front (stretch_rule k ms q) l s)
  put_leaf s o h e = e ∙ leaf_front (stretch_rule k ms q) o s h (stretch_of_leaf s h refl)

  pub put_call : {w hs : List ℕ} {v i : ℕ} {l : Lines} (s : ℕ) (o : List ℕ) {o' : List ℕ} → CallAt w hs v i l
      → o' ≡ set o i (leaf_stretch k (block_at w i) (q (field w i 4) s)) → o' ≡ sets o i (front (stretch_rule k ms q) l s)
  put_call s o h e = e ∙ call_front (stretch_rule k ms q) o s h (stretch_of_call s h refl)

  pub put_loop : {w hs : List ℕ} {left v i : ℕ} {l : Lines} (s : ℕ) (o : List ℕ) {x b : ℕ} {o₁ o' : List ℕ} (h : LoopAt w hs left v i l)
      → b ≡ line_silence k ms h.body.lines 0 → x ≡ max s b → o₁ ≡ sets o (i + 1) (column_of (stretch_rule k ms q) h.body.lines 0)
      → o' ≡ set o₁ i (leaf_stretch k (block_at w i) x) → o' ≡ sets o i (front (stretch_rule k ms q) l s)
  put_loop s o h hb hx h₁ e = e ∙ loop_front (stretch_rule k ms q) o s h (stretch_of_loop s h hb hx refl) refl h₁

  pub put_if : {w hs : List ℕ} {left v i mid : ℕ} {l : Lines} (s : ℕ) (o : List ℕ) {x a b : ℕ} {o₁ o₂ o' : List ℕ} (h : IfAt w hs left v i l)
      → mid ≡ field w i 5 → a ≡ line_silence k ms h.then.lines s → b ≡ line_silence k ms h.else.lines s → x ≡ max a b
      → o₁ ≡ sets o (i + 1) (column_of (stretch_rule k ms q) h.then.lines s) → o₂ ≡ sets o₁ mid (column_of (stretch_rule k ms q) h.else.lines s)
      → o' ≡ set o₂ i (leaf_stretch k (block_at w i) x) → o' ≡ sets o i (front (stretch_rule k ms q) l s)
  put_if s o h hm ha hb hx h₁ h₂ e = e ∙ if_front (stretch_rule k ms q) o s h hm (stretch_of_if s h ha hb hx refl) h₁ h₂

-- What follows the functions that the first form calls, by kind.
module _ (k : Block → ℕ) (ms : List ℕ) where
  follow_split : (l : Lines) (s : ℕ) (a : List ℕ) → follow_calls k ms l s a ≡ follow_first k ms l (line_silence k ms (rest l) s) (follow_calls k ms (rest l) s a)
  unfolding follow_calls follow_first rest
  follow_split close s a = refl
  follow_split (leaf_line b r) s a = refl
  follow_split (call_line b f r) s a = refl
  follow_split (loop_line b n body r) s a = refl
  follow_split (if_line b t e r) s a = refl

  pub leaf_follows : {w : List ℕ} {v i : ℕ} {l : Lines} (s : ℕ) (a : List ℕ) → LeafAt w v i l → a ≡ follow_first k ms l s a
  unfolding follow_first
  leaf_follows s a h = ap (λ (u : Lines). follow_first k ms u s a) (sym h.shape)

  pub call_follows : {w hs : List ℕ} {v i : ℕ} {l : Lines} (s : ℕ) (a : List ℕ) {a' : List ℕ} → CallAt w hs v i l → a' ≡ follow_call a (field w i 4) s → a' ≡ follow_first k ms l s a
  unfolding follow_first
  call_follows s a h ha = ha ∙ ap (λ (u : Lines). follow_first k ms u s a) (sym h.shape)

  pub loop_follows : {w hs : List ℕ} {left v i : ℕ} {l : Lines} (s : ℕ) (a : List ℕ) {a' : List ℕ} (h : LoopAt w hs left v i l) → a' ≡ follow_calls k ms h.body.lines 0 a → a' ≡ follow_first k ms l s a
  unfolding follow_first
  loop_follows s a h ha = ha ∙ ap (λ (u : Lines). follow_first k ms u s a) (sym h.shape)

  pub if_follows : {w hs : List ℕ} {left v i : ℕ} {l : Lines} (s : ℕ) (a : List ℕ) {a₁ a₂ : List ℕ} (h : IfAt w hs left v i l) → a₁ ≡ follow_calls k ms h.then.lines s a
      → a₂ ≡ follow_calls k ms h.else.lines s a₁ → a₂ ≡ follow_first k ms l s a
  unfolding follow_first
  if_follows s a h h₁ h₂ = h₂ ∙ ap (λ (u : List ℕ). follow_calls k ms h.else.lines s u) h₁ ∙ ap (λ (u : Lines). follow_first k ms u s a) (sym h.shape)

-- One form more, from the last to the first.
module _ (k : Block → ℕ) (ms : List ℕ) (m n : ℕ) (l : Lines) (s : ℕ) {t : ℕ} (hn : n ≡ suc m) (ht : t ≡ line_silence k ms (later n l) s) where
  stands_rest : t ≡ line_silence k ms (rest (later m l)) s
  unfolding later
  stands_rest = rw hn at ht

  pub silence_low : t ≤ tally k ms (rest (later m l)) + s
  silence_low = omega (arith, stands_rest, silence_le k ms (rest (later m l)) s)

  pub silence_on : {t' : ℕ} → t' ≡ first_silence k ms (later m l) t → t' ≡ line_silence k ms (later m l) s
  silence_on h = h ∙ ap (λ (y : ℕ). first_silence k ms (later m l) y) stands_rest ∙ sym (silence_split k ms (later m l) s)

  pub follow_on : (a a₀ : List ℕ) {a' : List ℕ} → a ≡ follow_calls k ms (later n l) s a₀ → a' ≡ follow_first k ms (later m l) t a → a' ≡ follow_calls k ms (later m l) s a₀
  unfolding later
  follow_on a a₀ {a'} ha h =
      let b : a ≡ follow_calls k ms (rest (later m l)) s a₀ = rw hn at ha in
      h ∙ ap (λ (y : ℕ). follow_first k ms (later m l) y a) stands_rest ∙ ap (λ (y : List ℕ). follow_first k ms (later m l) (line_silence k ms (rest (later m l)) s) y) b ∙
      sym (follow_split k ms (later m l) s a₀)

pub follow_close : (k : Block → ℕ) (ms : List ℕ) (l : Lines) (s : ℕ) (a : List ℕ) → l ≡ close → a ≡ follow_calls k ms l s a
unfolding follow_calls
follow_close k ms l s a h = rw h

pub silence_close : (k : Block → ℕ) (ms : List ℕ) (s : ℕ) → line_silence k ms close s ≡ s
unfolding line_silence
silence_close k ms s = refl

pub follow_end : (k : Block → ℕ) (ms : List ℕ) (n : ℕ) (l : Lines) (s : ℕ) (a a₀ : List ℕ) → n ≤ 0 → a ≡ follow_calls k ms (later n l) s a₀ → a ≡ follow_calls k ms l s a₀
unfolding later
follow_end k ms n l s a a₀ h e = let z : n ≡ 0 = omega arith in rw z at e

-- The larger silence of the two parts of an if, with its own visit, is within the limit.
pub parts_low : (k : Block → ℕ) (ms : List ℕ) (s : ℕ) {w hs : List ℕ} {left v i : ℕ} {l : Lines} {a b m : ℕ} (h : IfAt w hs left v i l)
    → a ≡ line_silence k ms h.then.lines s → b ≡ line_silence k ms h.else.lines s → m ≡ max a b → lead k ms l + s ≤ limit → m ≤ limit
parts_low k ms s {w} {i = i} {l = l} {a} {b} {m} h ha hb hm le =
    calc (k (block_at w i)) (tally k ms h.then.lines) (tally k ms h.else.lines) a b m (lead k ms l)
    (omega (arith, ha, silence_le k ms h.then.lines s)) (omega (arith, hb, silence_le k ms h.else.lines s)) hm (if_lead k ms h) le
  where
    calc : (c y z a b m d : ℕ) → a ≤ y + s → b ≤ z + s → m ≡ max a b → d ≡ c + max y z → d + s ≤ limit → m ≤ limit
    calc c y z a b m d e₁ e₂ e₃ e₄ e₅ = omega arith
