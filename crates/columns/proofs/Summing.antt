-- What the code computes of a form is its total, held at the ceiling. Plain mathematics: no code is named here. Assumes nothing.
use mathlib.Core.Path.{◌≡◌, sym, ap, ◌∙◌}
use mathlib.Core.List.{List}
use Prim.Native.Nat.{ℕ, ◌+◌, ◌*◌, ◌≤◌, ◌<◌, max}
use native.Mathlib.Omega.{arith}
use lib.ListN.{get_or}
use lib.Seq.{sets}
use Rattle.model.specs.Plan.{Block, Lines}
use Rattle.model.specs.Total.{tally}
use Rattle.rows.specs.declared.Leaf.{Leaf}
use Rattle.rows.specs.Leaves.{numbers}
use Rattle.rows.specs.Rows.{field, after_at, block_at}
use Rattle.rows.specs.First.{rest}
use Rattle.rows.proofs.Shape.{LeafAt, CallAt, LoopAt, IfAt, no_lines}
use Rattle.columns.specs.Sums.{ceiling, cap, lead}
use Rattle.columns.specs.Walks.{front, FormsHeld}
use Rattle.columns.specs.Columns.{column_of, held_turn, turn_rule, turns}
use Rattle.columns.proofs.Capped.{cap_loop}
use Rattle.columns.proofs.Sizes.{tally_split, leaf_lead, call_lead, loop_lead, if_lead}
use Rattle.columns.proofs.Inner.{after_forms}
use Rattle.columns.proofs.Stores.{sets_behind}
use Rattle.columns.proofs.Fronts.{column_split, front_fill}

-- The sum of one round, by kind.
module _ (k : Block → ℕ) (ts : List ℕ) where
  pub leaf_turn : {w : List ℕ} {v i : ℕ} {l : Lines} → LeafAt w v i l → 0 ≡ held_turn k ts l
  unfolding held_turn
  leaf_turn h = ap (held_turn k ts) (sym h.shape)

  pub call_turn : {w hs : List ℕ} {v i : ℕ} {l : Lines} → CallAt w hs v i l → 0 ≡ held_turn k ts l
  unfolding held_turn
  call_turn h = ap (held_turn k ts) (sym h.shape)

  pub if_turn : {w hs : List ℕ} {left v i : ℕ} {l : Lines} → IfAt w hs left v i l → 0 ≡ held_turn k ts l
  unfolding held_turn
  if_turn h = ap (held_turn k ts) (sym h.shape)

  pub loop_turn : {w hs : List ℕ} {left v i : ℕ} {l : Lines} (h : LoopAt w hs left v i l) → k (block_at w i) + cap (tally k ts h.body.lines) ≡ held_turn k ts l
  unfolding held_turn
  loop_turn h = ap (held_turn k ts) (sym h.shape)

-- The total of the first form, by kind.
module _ (k : Block → ℕ) (ts : List ℕ) where
  pub leaf_sum : {w : List ℕ} {v i : ℕ} {ls : Lines} {c : ℕ} → LeafAt w v i ls → k (block_at w i) ≤ 1048576 → c ≡ k (block_at w i)
      → c ≡ cap (lead k ts ls)
  leaf_sum h a hc = omega (arith, a, leaf_lead k ts h, hc)

  pub call_sum : {w hs : List ℕ} {v i : ℕ} {ls : Lines} {c x r : ℕ} → CallAt w hs v i ls → c ≡ k (block_at w i) → x ≡ get_or ts (field w i 4) 0 → r ≡ cap (c + x)
      → r ≡ cap (lead k ts ls)
  call_sum h hc hx hr = omega (arith, hr, hc, hx, call_lead k ts h)

  pub loop_sum : {w hs : List ℕ} {left v i : ℕ} {ls : Lines} {c n x r : ℕ} (h : LoopAt w hs left v i ls) → c ≡ k (block_at w i) → n ≡ field w i 4 → x ≡ cap (tally k ts h.body.lines)
      → r ≡ cap (c + n * (x + c)) → r ≡ cap (lead k ts ls)
  loop_sum {c = c} {n = n} h hc hn hx hr =
      hr ∙ ap (λ (y : ℕ). cap (c + n * (y + c))) hx ∙ cap_loop c n (tally k ts h.body.lines) ∙
      ap (λ (y : ℕ). cap y) (rw (hc, hn) (sym (loop_lead k ts h)))

  pub if_sum : {w hs : List ℕ} {left v i : ℕ} {ls : Lines} {c x y z r : ℕ} (h : IfAt w hs left v i ls) → c ≡ k (block_at w i) → x ≡ cap (tally k ts h.then.lines)
      → y ≡ cap (tally k ts h.else.lines) → z ≡ max x y → r ≡ cap (c + z) → r ≡ cap (lead k ts ls)
  if_sum {w} {i = i} {ls = ls} {c} {x} {y} {z} {r} h hc hx hy hz hr =
      calc c (k (block_at w i)) x y z (tally k ts h.then.lines) (tally k ts h.else.lines) r (lead k ts ls)
      hc hx hy hz hr (if_lead k ts h)
    where
      calc : (c c' x y z a b r d : ℕ) → c ≡ c' → x ≡ cap a → y ≡ cap b → z ≡ max x y → r ≡ cap (c + z) → d ≡ c' + max a b → r ≡ cap d
      calc c c' x y z a b r d e₁ e₂ e₃ e₄ e₅ e₆ = omega arith

  -- The number that is noted at a loop.
  pub loop_note : {w hs : List ℕ} {left v i : ℕ} {ls : Lines} {c x : ℕ} (h : LoopAt w hs left v i ls) → c ≡ k (block_at w i) → x ≡ cap (tally k ts h.body.lines)
      → c + x ≡ held_turn k ts ls
  loop_note h hc hx = rw (hc, hx) (loop_turn k ts h)

-- What a sum over the siblings has done: what it passed is in `acc` and in o, and the rest is still to come.
pub record Passed (row : List Leaf) (k : Block → ℕ) (ts : List ℕ) (i e acc all : ℕ) (o o∞ : List ℕ) : Type 0 where
  pub more : FormsHeld row i e
  pub sum : cap all ≡ cap (acc + tally k ts more.part.lines)
  pub todo : sets o i (turns k ts more.part.lines) ≡ o∞

module _ {row : List Leaf} {k : Block → ℕ} {ts : List ℕ} {i e acc all : ℕ} {o o∞ : List ℕ} (q : Passed row k ts i e acc all o o∞) where
  pub pass : {x a en : ℕ} {o' : List ℕ} → i < e → x ≡ cap (lead k ts q.more.part.lines) → a ≡ cap (acc + x) → en ≡ after_at (numbers row) i
      → o' ≡ sets o i (front (turn_rule k ts) q.more.part.lines 0) → Passed row k ts en e a all o' o∞
  pass {en = en} lt hx ha he ho =
      let u = turn_rule k ts in
      let l = q.more.part.lines in
      record {
        more = after_forms lt q.more he;
        sum = omega (arith, q.sum, hx, ha, tally_split k ts l);
        todo =
            ap (λ (y : List ℕ). sets y en (turns k ts (rest l))) ho ∙
            sets_behind (front u l 0) (column_of u (rest l) 0) o i en (front_fill u lt q.more.part 0 he) ∙
            ap (λ (y : List ℕ). sets o i y) (sym (column_split u l 0)) ∙ q.todo;
      }

  pub passed_all : e ≤ i → acc ≤ ceiling → (acc ≡ cap all) × (o ≡ o∞)
  unfolding tally column_of
  passed_all le hold = (
    omega (arith, q.sum, ap (tally k ts) (no_lines le q.more.part)),
    ap (λ (l : Lines). sets o i (turns k ts l)) (sym (no_lines le q.more.part)) ∙ q.todo,
  )
