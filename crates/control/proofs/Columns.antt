-- The derived columns of a plan's table, entry by entry: at each leaf's number stand its tail and its turns. Assumes nothing.
use mathlib.Core.List.{List, [], ◌∷◌, ◌++◌, map, append_assoc}
use mathlib.Core.Logic.{inl, inr}
use mathlib.Core.Path.{◌≡◌, refl, ap, sym, ◌∙◌}
use Prim.Native.Nat.{ℕ, zero, suc, ◌+◌, ◌-◌, ◌*◌, ◌≤◌, ◌<◌, max}
use native.Mathlib.Omega.{arith}
use lib.ListN.{length, get_or, length-append, length-map}
use lib.Seq.{get_or_at}
use borrow.Author.Tests.{eq-eqb, ne_eqb}
use Rattle.model.specs.Plan.{Block, C, Lines, close, leaf_line, call_line, loop_line, if_line, leaves}
use Rattle.model.specs.Runs.{Among}
use Rattle.model.specs.Total.{tally}
use Rattle.model.specs.Tail.{mine, tail}
use Rattle.model.proofs.Among.{among_none, among_first, among_later, among_open, among_left, among_right}
use Rattle.model.proofs.Links.{Spans, SpansAll}
use Rattle.model.proofs.Leaves.{Row, leaf_range, spans_row}
use Rattle.rows.specs.Turns.{turns_in}
use Rattle.columns.specs.Columns.{Contains}
use Rattle.columns.proofs.Stores.{contains_append}
use Rattle.place.specs.Times.{Priced}
use Rattle.outlook.specs.Plans.{Rounds}
use Rattle.table.specs.Table.{all_turns, all_tails}
use Rattle.table.proofs.Holding.{leaves_size}
use Rattle.table.proofs.Deriving.{turns_join}

-- A list holds its own numbers.
holds_behind : (us xs : List ℕ) (i : ℕ) → length us ≡ i → Contains (us ++ xs) i xs
unfolding Contains
holds_behind us [] i e = tt
holds_behind us (x ∷ xs) i e =
    let z : (us ++ (x ∷ [])) ++ xs ≡ us ++ (x ∷ xs) = append_assoc us (x ∷ []) xs in
    (get_or_at us x xs 0 i e, rw z at (holds_behind (us ++ (x ∷ [])) xs (suc i) (omega (arith, length-append us (x ∷ [])))))

pub holds_self : (xs : List ℕ) → Contains xs 0 xs
holds_self xs = holds_behind [] xs 0 refl

-- Of blocks with the numbers from n on, a column that holds a number for each has that of a block at the block's number.
pub row_entry : (o : List ℕ) (g : Block → ℕ) (w : List Block) (n : ℕ) → Row n w → Contains o n (map g w) → (b : Block) → Among b w → get_or o b.number 0 ≡ g b
unfolding Row Contains
row_entry o g [] n r h b a = absurd (among_none b a)
row_entry o g (x ∷ w) n (q, r) h b a =
    elim (among_open b x w a) [
      | inl e ↦ ap (λ y. get_or o y.number 0) (sym e) ∙ (ap (λ k. get_or o k 0) q ∙ (h.0 ∙ ap g e))
      | inr c ↦ row_entry o g w (suc n) r h.1 b c
    ]

-- There is a turn for each leaf.
turns_size : (k : Block → ℕ) (ts : List ℕ) (l : Lines) → length (turns_in k ts l) ≡ length (leaves l)
turns_size k ts l = (turns_join k ts).each l ∙ sym (leaves_size l)

-- TAILS

mine_else : (x : ℕ) (b : Block) (v : ℕ) → (b.number ≡ x → ⊥) → mine x b v ≡ 0
mine_else x b v h = rw (ne_eqb b.number x h)

mine_here : (b : Block) (v : ℕ) → mine b.number b v ≡ v
mine_here b v = rw (eq-eqb b.number b.number refl)

-- Lines that are numbered from lo up to hi have no tail of another number.
tail_before : (ts : List ℕ) (x : ℕ) (l : Lines) (lo hi e : ℕ) → Spans l lo hi → x < lo → tail ts x l e ≡ 0
unfolding tail Spans
tail_before ts x close lo hi e s h = refl
tail_before ts x (leaf_line b r) lo hi e (q, s) h =
    omega (arith, mine_else x b (tally C ts (leaf_line b r) + e) (λ z. omega arith), tail_before ts x r (suc lo) hi e s (omega arith))
tail_before ts x (call_line b f r) lo hi e (q, s) h =
    omega (arith, mine_else x b (tally C ts (call_line b f r) + e) (λ z. omega arith), tail_before ts x r (suc lo) hi e s (omega arith))
tail_before ts x (loop_line b n body r) lo hi e (q, (m, s, t)) h =
    omega (
      arith,
      mine_else x b (tally C ts (loop_line b n body r) + e) (λ z. omega arith),
      tail_before ts x body (suc lo) m (C b + (n - 1) * (tally C ts body + C b) + tally C ts r + e) s (omega arith),
      tail_before ts x r m hi e t (omega (arith, (spans_row body (suc lo) m s).1)),
    )
tail_before ts x (if_line b t f r) lo hi e (q, (m, k, s, u, v)) h =
    let i = (spans_row t (suc lo) m s).1 in
    let j = (spans_row f m k u).1 in
    omega (
      arith,
      mine_else x b (tally C ts (if_line b t f r) + e) (λ z. omega arith),
      tail_before ts x t (suc lo) m (tally C ts r + e) s (omega arith),
      tail_before ts x f m k (tally C ts r + e) u (omega arith),
      tail_before ts x r k hi e v (omega arith),
    )

tail_behind : (ts : List ℕ) (x : ℕ) (l : Lines) (lo hi e : ℕ) → Spans l lo hi → hi ≤ x → tail ts x l e ≡ 0
unfolding tail Spans
tail_behind ts x close lo hi e s h = refl
tail_behind ts x (leaf_line b r) lo hi e (q, s) h =
    let i = (spans_row r (suc lo) hi s).1 in
    omega (arith, mine_else x b (tally C ts (leaf_line b r) + e) (λ z. omega arith), tail_behind ts x r (suc lo) hi e s h)
tail_behind ts x (call_line b f r) lo hi e (q, s) h =
    let i = (spans_row r (suc lo) hi s).1 in
    omega (arith, mine_else x b (tally C ts (call_line b f r) + e) (λ z. omega arith), tail_behind ts x r (suc lo) hi e s h)
tail_behind ts x (loop_line b n body r) lo hi e (q, (m, s, t)) h =
    let i = (spans_row body (suc lo) m s).1 in
    let j = (spans_row r m hi t).1 in
    omega (
      arith,
      mine_else x b (tally C ts (loop_line b n body r) + e) (λ z. omega arith),
      tail_behind ts x body (suc lo) m (C b + (n - 1) * (tally C ts body + C b) + tally C ts r + e) s (omega arith),
      tail_behind ts x r m hi e t h,
    )
tail_behind ts x (if_line b t f r) lo hi e (q, (m, k, s, u, v)) h =
    let i = (spans_row t (suc lo) m s).1 in
    let j = (spans_row f m k u).1 in
    let y = (spans_row r k hi v).1 in
    omega (
      arith,
      mine_else x b (tally C ts (if_line b t f r) + e) (λ z. omega arith),
      tail_behind ts x t (suc lo) m (tally C ts r + e) s (omega arith),
      tail_behind ts x f m k (tally C ts r + e) u (omega arith),
      tail_behind ts x r k hi e v h,
    )

-- LINES WITH THEIR COLUMNS

-- The column has the tail of each leaf of the lines, where e follows them.
abbrev Tailed : List ℕ → List ℕ → Lines → ℕ → Type 0
Tailed ts tails l e = (b : Block) → Among b (leaves l) → get_or tails b.number 0 ≡ tail ts b.number l e

module _ (ts tails turns : List ℕ) where
  -- A leaf in front of lines, and its own tail.
  priced_first : (b : Block) (r : Lines) (lo hi v e : ℕ) → b.number ≡ lo → Spans r (suc lo) hi →
      get_or tails b.number 0 ≡ max (mine b.number b v) (tail ts b.number r e) → get_or tails b.number 0 ≡ v
  priced_first b r lo hi v e q s h = omega (arith, h, mine_here b v, tail_before ts b.number r (suc lo) hi e s (omega arith))

  priced_rest : (b : Block) (r : Lines) (lo hi v e : ℕ) → b.number ≡ lo → Spans r (suc lo) hi →
      ((c : Block) → Among c (leaves r) → get_or tails c.number 0 ≡ max (mine c.number b v) (tail ts c.number r e)) → Tailed ts tails r e
  priced_rest b r lo hi v e q s h c m =
      let i = leaf_range r (suc lo) hi s c m in
      omega (arith, h c m, mine_else c.number b v (λ z. omega arith))

  priced_lines : (l : Lines) (lo hi e : ℕ) → Spans l lo hi → Tailed ts tails l e → Contains turns lo (turns_in C ts l) → Priced ts tails turns l e
  unfolding Priced leaves tail turns_in Contains Spans
  priced_lines close lo hi e s t h = tt
  priced_lines (leaf_line b r) lo hi e (q, s) t h =
      let v = tally C ts (leaf_line b r) + e in (
        priced_first b r lo hi v e q s (t b (among_first b b (leaves r) refl)),
        ap (λ k. get_or turns k 0) q ∙ h.0,
        priced_lines r (suc lo) hi e s (priced_rest b r lo hi v e q s (λ c m. t c (among_later c b (leaves r) m))) h.1,
      )
  priced_lines (call_line b f r) lo hi e (q, s) t h =
      let v = tally C ts (call_line b f r) + e in (
        priced_first b r lo hi v e q s (t b (among_first b b (leaves r) refl)),
        ap (λ k. get_or turns k 0) q ∙ h.0,
        priced_lines r (suc lo) hi e s (priced_rest b r lo hi v e q s (λ c m. t c (among_later c b (leaves r) m))) h.1,
      )
  priced_lines (loop_line b n body r) lo hi e (q, (m, s, u)) t h =
      let v = tally C ts (loop_line b n body r) + e in
      let d = C b + (n - 1) * (tally C ts body + C b) + tally C ts r + e in
      let i = (spans_row body (suc lo) m s).1 in
      let (x, y) = contains_append (turns_in C ts body) (turns_in C ts r) turns (suc lo) m h.1 (omega (arith, turns_size C ts body)) in (
        omega (
          arith,
          t b (among_first b b (leaves body ++ leaves r) refl),
          mine_here b v,
          tail_before ts b.number body (suc lo) m d s (omega arith),
          tail_before ts b.number r m hi e u (omega arith),
        ),
        ap (λ k. get_or turns k 0) q ∙ h.0,
        priced_lines body (suc lo) m d s
            (λ c a. let j = leaf_range body (suc lo) m s c a in
            omega (
              arith,
              t c (among_later c b (leaves body ++ leaves r) (among_left c (leaves body) (leaves r) a)),
              mine_else c.number b v (λ z. omega arith),
              tail_before ts c.number r m hi e u (omega arith),
            )) x,
        priced_lines r m hi e u
            (λ c a. let j = leaf_range r m hi u c a in
            omega (
              arith,
              t c (among_later c b (leaves body ++ leaves r) (among_right c (leaves body) (leaves r) a)),
              mine_else c.number b v (λ z. omega arith),
              tail_behind ts c.number body (suc lo) m d s (omega arith),
            )) y,
      )
  priced_lines (if_line b f g r) lo hi e (q, (m, k, s, u, w)) t h =
      let v = tally C ts (if_line b f g r) + e in
      let d = tally C ts r + e in
      let i = (spans_row f (suc lo) m s).1 in
      let j = (spans_row g m k u).1 in
      let (x, yz) = contains_append (turns_in C ts f) (turns_in C ts g ++ turns_in C ts r) turns (suc lo) m h.1 (omega (arith, turns_size C ts f)) in
      let (y, z) = contains_append (turns_in C ts g) (turns_in C ts r) turns m k yz (omega (arith, turns_size C ts g)) in (
        omega (
          arith,
          t b (among_first b b (leaves f ++ (leaves g ++ leaves r)) refl),
          mine_here b v,
          tail_before ts b.number f (suc lo) m d s (omega arith),
          tail_before ts b.number g m k d u (omega arith),
          tail_before ts b.number r k hi e w (omega arith),
        ),
        ap (λ k. get_or turns k 0) q ∙ h.0,
        priced_lines f (suc lo) m d s
            (λ c a. let o = leaf_range f (suc lo) m s c a in
            omega (
              arith,
              t c (among_later c b (leaves f ++ (leaves g ++ leaves r)) (among_left c (leaves f) (leaves g ++ leaves r) a)),
              mine_else c.number b v (λ z. omega arith),
              tail_before ts c.number g m k d u (omega arith),
              tail_before ts c.number r k hi e w (omega arith),
            )) x,
        priced_lines g m k d u
            (λ c a. let o = leaf_range g m k u c a in
            omega (
              arith,
              t c (among_later c b (leaves f ++ (leaves g ++ leaves r)) (among_right c (leaves f) (leaves g ++ leaves r) (among_left c (leaves g) (leaves r) a))),
              mine_else c.number b v (λ z. omega arith),
              tail_behind ts c.number f (suc lo) m d s (omega arith),
              tail_before ts c.number r k hi e w (omega arith),
            )) y,
        priced_lines r k hi e w
            (λ c a. let o = leaf_range r k hi w c a in
            omega (
              arith,
              t c (among_later c b (leaves f ++ (leaves g ++ leaves r)) (among_right c (leaves f) (leaves g ++ leaves r) (among_right c (leaves g) (leaves r) a))),
              mine_else c.number b v (λ z. omega arith),
              tail_behind ts c.number f (suc lo) m d s (omega arith),
              tail_behind ts c.number g m k d u (omega arith),
            )) z,
      )

  -- All functions, one after the other.
  pub priced_all : (ls : List Lines) (lo : ℕ) → SpansAll ls lo → Contains tails lo (all_tails ts ls) → Contains turns lo (all_turns C ts ls) →
      (f : ℕ) → f < length ls → Priced ts tails turns (get_or ls f close) 0
  unfolding SpansAll all_tails all_turns
  priced_all [] lo s h k f lt = absurd (omega arith)
  priced_all (l ∷ ls) lo (hi, s, u) h k f lt =
      let g : Block → ℕ = λ b. tail ts b.number l 0 in
      let (r, i) = spans_row l lo hi s in
      let (x, y) = contains_append (map g (leaves l)) (all_tails ts ls) tails lo hi h (omega (arith, length-map (leaves l) g)) in
      let (v, w) = contains_append (turns_in C ts l) (all_turns C ts ls) turns lo hi k (omega (arith, turns_size C ts l)) in
      by f lt (priced_lines l lo hi 0 s (row_entry tails g (leaves l) lo r x) v) (priced_all ls hi u y w)
    where
      by : (f : ℕ) → f < length (l ∷ ls) → Priced ts tails turns l 0 → ((g : ℕ) → g < length ls → Priced ts tails turns (get_or ls g close) 0) →
          Priced ts tails turns (get_or (l ∷ ls) f close) 0
      by zero lt one more = one
      by (suc f) lt one more = more f (omega arith)

-- TURNS AT ANY COST

module _ (k : Block → ℕ) (ts turns : List ℕ) where
  -- A column that has the turn of each leaf has the sum of a round at each loop.
  rounds_lines : (l : Lines) (lo hi : ℕ) → Spans l lo hi → Contains turns lo (turns_in k ts l) → Rounds k ts turns l
  unfolding Rounds turns_in Contains Spans
  rounds_lines close lo hi s h = tt
  rounds_lines (leaf_line b r) lo hi (q, s) h = rounds_lines r (suc lo) hi s h.1
  rounds_lines (call_line b f r) lo hi (q, s) h = rounds_lines r (suc lo) hi s h.1
  rounds_lines (loop_line b n body r) lo hi (q, (m, s, u)) h =
      let i = (spans_row body (suc lo) m s).1 in
      let (x, y) = contains_append (turns_in k ts body) (turns_in k ts r) turns (suc lo) m h.1 (omega (arith, turns_size k ts body)) in
      (ap (λ j. get_or turns j 0) q ∙ h.0, rounds_lines body (suc lo) m s x, rounds_lines r m hi u y)
  rounds_lines (if_line b f g r) lo hi (q, (m, j, s, u, v)) h =
      let i = (spans_row f (suc lo) m s).1 in
      let i' = (spans_row g m j u).1 in
      let (x, yz) = contains_append (turns_in k ts f) (turns_in k ts g ++ turns_in k ts r) turns (suc lo) m h.1 (omega (arith, turns_size k ts f)) in
      let (y, z) = contains_append (turns_in k ts g) (turns_in k ts r) turns m j yz (omega (arith, turns_size k ts g)) in
      (rounds_lines f (suc lo) m s x, rounds_lines g m j u y, rounds_lines r j hi v z)

  -- All functions, one after the other.
  pub rounds_all : (ls : List Lines) (lo : ℕ) → SpansAll ls lo → Contains turns lo (all_turns k ts ls) → (f : ℕ) → f < length ls → Rounds k ts turns (get_or ls f close)
  unfolding SpansAll all_turns
  rounds_all [] lo s h f lt = absurd (omega arith)
  rounds_all (l ∷ ls) lo (hi, s, u) h f lt =
      let (r, i) = spans_row l lo hi s in
      let (v, w) = contains_append (turns_in k ts l) (all_turns k ts ls) turns lo hi h (omega (arith, turns_size k ts l)) in
      by f lt (rounds_lines l lo hi s v) (rounds_all ls hi u w)
    where
      by : (f : ℕ) → f < length (l ∷ ls) → Rounds k ts turns l → ((g : ℕ) → g < length ls → Rounds k ts turns (get_or ls g close)) → Rounds k ts turns (get_or (l ∷ ls) f close)
      by zero lt one more = one
      by (suc f) lt one more = more f (omega arith)

-- THE SAME TOTALS

-- Totals with the same entries count for the same.
module _ (ts us : List ℕ) (same : (f : ℕ) → get_or ts f 0 ≡ get_or us f 0) where
  tally_same : (k : Block → ℕ) (l : Lines) → tally k ts l ≡ tally k us l
  unfolding tally
  tally_same k close = refl
  tally_same k (leaf_line b r) = rw (tally_same k r)
  tally_same k (call_line b f r) = rw (same f, tally_same k r)
  tally_same k (loop_line b n body r) = rw (tally_same k body, tally_same k r)
  tally_same k (if_line b t e r) = rw (tally_same k t, tally_same k e, tally_same k r)

  pub rounds_same : (k : Block → ℕ) (turns : List ℕ) (l : Lines) → Rounds k ts turns l → Rounds k us turns l
  unfolding Rounds
  rounds_same k turns close h = tt
  rounds_same k turns (leaf_line b r) h = rounds_same k turns r h
  rounds_same k turns (call_line b f r) h = rounds_same k turns r h
  rounds_same k turns (loop_line b n body r) h = (h.0 ∙ ap (λ x. k b + x) (tally_same k body), rounds_same k turns body h.1, rounds_same k turns r h.2)
  rounds_same k turns (if_line b t s r) h = (rounds_same k turns t h.0, rounds_same k turns s h.1, rounds_same k turns r h.2)

  pub priced_same : (tails turns : List ℕ) (l : Lines) (e : ℕ) → Priced ts tails turns l e → Priced us tails turns l e
  unfolding Priced
  priced_same tails turns close e h = tt
  priced_same tails turns (leaf_line b r) e h = (h.0 ∙ ap (λ k. k + e) (tally_same C (leaf_line b r)), h.1, priced_same tails turns r e h.2)
  priced_same tails turns (call_line b f r) e h = (h.0 ∙ ap (λ k. k + e) (tally_same C (call_line b f r)), h.1, priced_same tails turns r e h.2)
  priced_same tails turns (loop_line b n body r) e h = (
    h.0 ∙ ap (λ k. k + e) (tally_same C (loop_line b n body r)),
    h.1 ∙ ap (λ k. C b + k) (tally_same C body),
    rw (tally_same C body, tally_same C r) at (priced_same tails turns body (C b + (n - 1) * (tally C ts body + C b) + tally C ts r + e) h.2),
    priced_same tails turns r e h.3,
  )
  priced_same tails turns (if_line b t s r) e h = (
    h.0 ∙ ap (λ k. k + e) (tally_same C (if_line b t s r)),
    h.1,
    rw (tally_same C r) at (priced_same tails turns t (tally C ts r + e) h.2),
    rw (tally_same C r) at (priced_same tails turns s (tally C ts r + e) h.3),
    priced_same tails turns r e h.4,
  )
