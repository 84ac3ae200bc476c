-- The remaining time of a level, from the table's columns and the level below. Plain mathematics: no code is named here. Assumes nothing.
use mathlib.Core.Path.{subst, ◌≡◌, sym, ap, ◌∙◌}
use mathlib.Core.Bool.{true, false}
use mathlib.Core.List.{List, [], ◌∷◌}
use mathlib.Core.Option.{some}
use Prim.Native.Nat.{ℕ, zero, suc, ◌+◌, ◌-◌, ◌*◌, ◌≤◌, ◌<◌}
use native.Mathlib.Omega.{arith}
use native.Mathlib.Decide.{dec_le}
use lib.Dec.{eqb}
use lib.ListN.{length, get_or}
use borrow.Author.Tests.{eq-eqb, ne_eqb}
use Rattle.model.specs.Plan.{C}
use Rattle.model.specs.Forms.{Forms, done, call, loop}
use Rattle.model.specs.Total.{total}
use Rattle.model.specs.Stack.{Levels, below, whole}
use Rattle.model.proofs.Levels.{behind_call, behind_loop, remaining_level, first_level, inside_call, inside_loop}
use Rattle.rows.specs.Rows.{kind_at, isolated_at, detail_at, block_at}
use Rattle.rows.specs.Costs.{limit}
use Rattle.place.specs.Stack.{Put}
use Rattle.place.specs.Private.{inner_time, first_time, level_time, LevelFits, Fares}
use Rattle.place.specs.Spans.{Stands, ground}
use Rattle.place.specs.Times.{TimesAt, outer_levels, CostedStack, Clocked}
use Rattle.place.proofs.Views.{leaf_low}
use Rattle.place.proofs.Falling.{Top, head_of}
use Rattle.place.proofs.Finding.{running, front}
use Rattle.place.proofs.Decode.{stands_comes}
use Rattle.place.proofs.Stacking.{placed}
use Rattle.place.proofs.Coming.{suffix_less, comes_less}
use Rattle.place.proofs.Pricing.{At, turned_split}
use Rattle.place.proofs.Floors.{Under, lowest, in_call, in_loop, Floor, floor, at_leaf}

-- At a first visit inside the loop or call at p, from what remained at its visit.
pub record Inside (w tails totals : List ℕ) (p time tail left : ℕ) : Type 0 where
  pub value : inner_time w tails totals p time tail ≡ left
  pub least : left ≤ time
  pub loop_fits : kind_at w p ≡ 2 → (tail ≤ get_or tails p 0) × (get_or tails p 0 - tail ≤ time)
  pub call_fits : (kind_at w p ≡ 2 → ⊥) →
      (detail_at w p < 16) × (isolated_at w p + get_or totals (detail_at w p) 0 ≤ time) × (time - isolated_at w p - get_or totals (detail_at w p) 0 + tail ≤ limit)

inside_first : (w tails totals : List ℕ) (n p time tail : ℕ) (ks : Levels) (f s : Forms) (e : ℕ) → Under w tails totals n p ks f e → 1 ≤ length ks →
    tail ≡ total C s + e → total C s ≤ total C f → time ≡ total C (whole ks) → time ≤ limit → n ≤ 16 →
    Inside w tails totals p time tail (total C (whole (s ∷ ks)))
inside_first w tails totals n p time tail ks f s e (lowest z d) one ht le hw small few = absurd (omega (arith, ap length z))
inside_first w tails totals n p time tail ks f s e (in_call k lt tot r ls z d) one ht le hw small few =
    let o : eqb (kind_at w p) 2 ≡ false = ne_eqb (kind_at w p) 2 (λ y. omega arith) in
    let a = inside_call C s (block_at w p) f r ls in
    let b = behind_call C (block_at w p) f r ls in
    let y : time ≡ total C (whole (call (block_at w p) f r ∷ ls)) = hw ∙ ap (λ (ks : Levels). total C (whole ks)) z in
    let u : total C (whole (s ∷ ks)) ≡ total C (whole (s ∷ call (block_at w p) f r ∷ ls)) = ap (λ (ks : Levels). total C (whole (s ∷ ks))) z in
    let v : time - isolated_at w p - get_or totals (detail_at w p) 0 + tail ≡ total C (whole (s ∷ ks)) = omega (arith, a, b, y, u, tot, d, ht) in
    record {
      value = rw o v;
      least = omega (arith, a, y, u, le);
      loop_fits = λ h. absurd (omega arith);
      call_fits = λ h. (omega arith, omega (arith, b, y, tot), omega (arith, v, a, y, u, le, small));
    }
inside_first w tails totals n p time tail ks f s e (in_loop k m r ls z d) one ht le hw small few =
    let o : eqb (kind_at w p) 2 ≡ true = eq-eqb (kind_at w p) 2 k in
    let a = inside_loop C s (block_at w p) m f r ls in
    let b = behind_loop C (block_at w p) m f r ls in
    let y : time ≡ total C (whole (loop (block_at w p) (suc m) f r ∷ ls)) = hw ∙ ap (λ (ks : Levels). total C (whole ks)) z in
    let u : total C (whole (s ∷ ks)) ≡ total C (whole (s ∷ loop (block_at w p) (suc m) f r ∷ ls)) = ap (λ (ks : Levels). total C (whole (s ∷ ks))) z in
    let v : time - (get_or tails p 0 - tail) ≡ total C (whole (s ∷ ks)) = omega (arith, a, b, y, u, d, ht, le) in
    record {
      value = rw o v;
      least = omega (arith, a, y, u, le);
      loop_fits = λ h. (omega (arith, d, ht, le), omega (arith, d, ht, b, y));
      call_fits = λ h. absurd (h k);
    }

-- At a first visit of level 1.
under_none : {w tails totals : List ℕ} {n p : ℕ} {ks : Levels} {f : Forms} {e : ℕ} → Under w tails totals n p ks f e → length ks ≡ 0 → (ks ≡ []) × (e ≡ 0)
under_none (lowest z d) h = (z, d)
under_none (in_call k lt tot r ls z d) h = absurd (omega (arith, ap length z))
under_none (in_loop k m r ls z d) h = absurd (omega (arith, ap length z))

times_top : (main : Forms) (times : List ℕ) (ks : Levels) → 1 ≤ length ks → TimesAt main times ks → get_or times (length ks) 0 ≡ total C (whole ks)
unfolding TimesAt
times_top main times [] h t = absurd (omega arith)
times_top main times (g ∷ ks) h t = let z : length ks + 1 ≡ length (g ∷ ks) = omega arith in rw z at t.0

times_same : (main : Forms) (old new : List ℕ) (l : ℕ) → ((k : ℕ) → k < l → get_or new k 0 ≡ get_or old k 0) → (ks : Levels) → length ks < l → TimesAt main old ks → TimesAt main new ks
unfolding TimesAt
times_same main old new l h [] lt t = h 0 (omega arith) ∙ t
times_same main old new l h (g ∷ ks) lt t = (h (length ks + 1) (omega arith) ∙ t.0, times_same main old new l h ks (omega arith) t.1)

ground_none : (main : Forms) (ks : Levels) (f : Forms) → ks ≡ [] → ground main ks ≡ some f → main ≡ f
unfolding ground
ground_none main ks f z e = let y : some main ≡ some f = rw z at e in cc

-- The same place, one level down.
abbrev pub down : {w tails turns totals leaves counts : List ℕ} {n l : ℕ} → Fares w tails turns totals leaves counts n l → 1 ≤ l → Fares w tails turns totals leaves counts n (l - 1)
down q one =
    let t = front q.placed one in
    record {
      starts = q.starts;
      columns = q.columns;
      placed = record { table = q.placed.table; stack = record { levels = t.under; depth = omega (arith, t.depth); stands = t.stands; marked = λ k a b. q.placed.stack.marked k a (omega arith) } };
    }

-- The time of the innermost level, from those of the levels below.
module _ {w tails turns totals leaves counts : List ℕ} {n l : ℕ} (q : Fares w tails turns totals leaves counts n l) (one : 1 ≤ l) where
  abbrev main : Forms
  main = get_or q.placed.table.funs (n - 1) done

  abbrev pub tip : Top (get_or q.placed.table.funs (n - 1) done) leaves counts l q.placed.stack.levels
  tip = front q.placed one

  whole_small : (ls : Levels) → 1 ≤ length ls → Stands main leaves counts ls → total C (whole ls) ≤ limit
  whole_small ls h st = omega (arith, comes_less C (stands_comes main leaves counts ls h st), q.columns.bounded)

  stage : Floor q.placed.table q.columns leaves tip.under tip.level.level
  stage = floor q.placed.table q.columns leaves counts tip.under tip.stands tip.level.level tip.level.opens

  own : At totals tails turns q.placed.table.funs n (get_or leaves l 0) tip.level.start stage.e
  own = at_leaf q.placed.table q.columns stage.inner (get_or leaves l 0) tip.level.start tip.level.found

  leaf_small : (m : ℕ) → ((f : ℕ) → f < n → get_or q.starts (f + 1) 0 ≤ m) → (k : ℕ) → 1 ≤ k → k ≤ l → get_or leaves k 0 < m
  leaf_small m h k lo hi = leaf_low q.placed.table m h leaves counts q.placed.stack.levels q.placed.stack.stands k lo (omega (arith, q.placed.stack.depth))

module _ {w tails turns totals leaves counts : List ℕ} {n l : ℕ} (q : Fares w tails turns totals leaves counts n l) (one : 1 ≤ l) where
  -- The visits made took as many rounds.
  split : total C (tip q one).level.start ≡ get_or counts l 0 * get_or turns (get_or leaves l 0) 0 + total C (tip q one).place
  split = turned_split (get_or counts l 0) (tip q one).level.start (tip q one).place (get_or turns (get_or leaves l 0) 0) (λ b m body r z. ((own q one).round b m body r z).0) (tip q one).level.turns

  module _ (times : List ℕ) (lower : TimesAt (get_or q.placed.table.funs (n - 1) done) times (tip q one).under) where
    -- Inside the open loop or call below.
    above : 2 ≤ l → Inside w tails totals (get_or leaves (l - 1) 0) (get_or times (l - 1) 0) (get_or tails (get_or leaves l 0) 0) (total C (whole ((tip q one).level.start ∷ (tip q one).under)))
    above h =
        let z : length (tip q one).under ≡ l - 1 = omega (arith, (tip q one).depth) in
        let t : get_or times (l - 1) 0 ≡ total C (whole (tip q one).under) = rw z at (times_top (main q one) times (tip q one).under (omega arith) lower) in
        let s = whole_small q one (tip q one).under (omega arith) (tip q one).stands in
        inside_first w tails totals n (get_or leaves (l - 1) 0) (get_or times (l - 1) 0) (get_or tails (get_or leaves l 0) 0) (tip q one).under (tip q one).level.level (tip q one).level.start (stage q one).e (rw z at (stage q one).under) (omega arith) (own q one).tail (suffix_less C (tip q one).level.level (get_or leaves l 0) (tip q one).level.start (tip q one).level.found) t (omega (arith, t, s)) q.columns.few_functions

    first_is : first_time w tails totals leaves times l ≡ total C (whole ((tip q one).level.start ∷ (tip q one).under))
    first_is =
        elim (dec_le 2 l) [
          | yes h ↦ let o : eqb l 1 ≡ false = ne_eqb l 1 (λ y. omega arith) in rw o (above h).value
          | no h ↦
              let o : eqb l 1 ≡ true = eq-eqb l 1 (omega arith) in
              let (z, d) = under_none (stage q one).under (omega (arith, (tip q one).depth)) in
              let y : total C (whole ((tip q one).level.start ∷ (tip q one).under)) ≡ total C (tip q one).level.start = ap (λ (ks : Levels). total C (whole ((tip q one).level.start ∷ ks))) z ∙ first_level C (tip q one).level.start in
              rw o (omega (arith, (own q one).tail, d, y))
        ]

    first_small : total C (whole ((tip q one).level.start ∷ (tip q one).under)) ≤ limit
    first_small =
        elim (dec_le 2 l) [
          | yes h ↦
              let z : length (tip q one).under ≡ l - 1 = omega (arith, (tip q one).depth) in
              let t : get_or times (l - 1) 0 ≡ total C (whole (tip q one).under) = rw z at (times_top (main q one) times (tip q one).under (omega arith) lower) in
              omega (arith, (above h).least, t, whole_small q one (tip q one).under (omega arith) (tip q one).stands)
          | no h ↦
              let (z, d) = under_none (stage q one).under (omega (arith, (tip q one).depth)) in
              let y : total C (whole ((tip q one).level.start ∷ (tip q one).under)) ≡ total C (tip q one).level.start = ap (λ (ks : Levels). total C (whole ((tip q one).level.start ∷ ks))) z ∙ first_level C (tip q one).level.start in
              let g = ground_none (main q one) (tip q one).under (tip q one).level.level z (tip q one).level.opens in
              let s = suffix_less C (tip q one).level.level (get_or leaves l 0) (tip q one).level.start (tip q one).level.found in
              omega (arith, y, s, ap (total C) g, q.columns.bounded)
        ]

    both : (total C (whole q.placed.stack.levels) ≡ total C (tip q one).place + total C (below (tip q one).under)) ×
        (total C (whole ((tip q one).level.start ∷ (tip q one).under)) ≡ total C (tip q one).level.start + total C (below (tip q one).under))
    both = (
      ap (λ (ls : Levels). total C (whole ls)) (tip q one).same ∙ remaining_level C (tip q one).place (tip q one).under,
      remaining_level C (tip q one).level.start (tip q one).under,
    )

    -- What the code asks for, and what it computes.
    pub level_fits : LevelFits w tails turns totals leaves counts times l
    level_fits =
        record {
          has_tail = leaf_small q one (length tails) q.columns.long_tails l one (omega arith);
          has_turn = leaf_small q one (length turns) q.columns.long_turns l one (omega arith);
          opens = λ h. record {
            room = (head_of (running q.placed) h).room;
            small = leaf_small q one (length tails) q.columns.long_tails (l - 1) (omega arith) (omega arith);
            loop_fits = (above h).loop_fits;
            call_fits = (above h).call_fits;
          };
          rounds = omega (arith, first_is, split, both.1);
          bounded = omega (arith, first_is, first_small);
        }

    pub time_is : level_time w tails turns totals leaves counts times l ≡ total C (whole q.placed.stack.levels)
    time_is = omega (arith, first_is, split, both)

-- The new time, put at its level.
module _ {w tails turns totals leaves counts : List ℕ} {n l : ℕ} (q : Fares w tails turns totals leaves counts n l) (one : 1 ≤ l) (times : List ℕ) where
  pub joined : TimesAt (main q one) times (tip q one).under → get_or times l 0 ≡ total C (whole q.placed.stack.levels) → TimesAt (main q one) times q.placed.stack.levels
  unfolding TimesAt
  joined z e =
      rw (tip q one).same (ap (λ (k : ℕ). get_or times k 0) (tip q one).depth ∙ e ∙ ap (λ (ls : Levels). total C (whole ls)) (tip q one).same, z)

  pub lower_part : TimesAt (main q one) times q.placed.stack.levels → TimesAt (main q one) times (tip q one).under
  unfolding TimesAt
  lower_part z = (rw (tip q one).same at z).1

  pub top_part : TimesAt (main q one) times q.placed.stack.levels → get_or times l 0 ≡ total C (whole q.placed.stack.levels)
  unfolding TimesAt
  top_part z =
      ap (λ (k : ℕ). get_or times k 0) (sym (tip q one).depth) ∙ (rw (tip q one).same at z).0 ∙ ap (λ (ls : Levels). total C (whole ls)) (sym (tip q one).same)

module _ {w tails turns totals leaves counts : List ℕ} {n l : ℕ} (q : Fares w tails turns totals leaves counts n l) (one : 1 ≤ l) (times : List ℕ) where
  pub put_times : TimesAt (main q one) times (tip q one).under → {t : ℕ} {new : List ℕ} → t ≡ level_time w tails turns totals leaves counts times l → Put times new l t →
      TimesAt (main q one) new q.placed.stack.levels
  put_times z {t} {new} h p =
      joined q one new (times_same (main q one) times new l p.under (tip q one).under (omega (arith, (tip q one).depth)) z) (p.here ∙ h ∙ time_is q one times z)

  -- The kept times up to level l, where those below it are right.
  pub time_right : TimesAt (main q one) times (tip q one).under → {t : ℕ} → t ≡ level_time w tails turns totals leaves counts times l → get_or times l 0 ≡ t →
      TimesAt (main q one) times q.placed.stack.levels
  time_right z h e = joined q one times z (e ∙ h ∙ time_is q one times z)

  pub time_wrong : TimesAt (main q one) times (tip q one).under → {t : ℕ} → t ≡ level_time w tails turns totals leaves counts times l → (get_or times l 0 ≡ t → ⊥) →
      TimesAt (main q one) times q.placed.stack.levels → ⊥
  time_wrong z h e y = e (top_part q one times y ∙ sym (h ∙ time_is q one times z))

  pub lower_wrong : (TimesAt (main q one) times (tip q one).under → ⊥) → TimesAt (main q one) times q.placed.stack.levels → ⊥
  lower_wrong h z = h (lower_part q one times z)

-- Level 0 holds the total.
times_none : (main : Forms) (times : List ℕ) (ls : Levels) → length ls ≡ 0 → (get_or times 0 0 ≡ total C main → TimesAt main times ls) × (TimesAt main times ls → get_or times 0 0 ≡ total C main)
unfolding TimesAt
times_none main times [] h = ((λ z. z), λ z. z)
times_none main times (g ∷ ls) h = absurd (omega arith)

module _ {w tails turns totals leaves counts : List ℕ} {n l : ℕ} (q : Fares w tails turns totals leaves counts n l) where
  main_total : get_or totals (n - 1) 0 ≡ total C (get_or q.placed.table.funs (n - 1) done)
  main_total = q.columns.totals_are (n - 1) (omega (arith, q.placed.table.count))

  pub base_right : (times : List ℕ) → l ≡ 0 → get_or times 0 0 ≡ get_or totals (n - 1) 0 → TimesAt (get_or q.placed.table.funs (n - 1) done) times q.placed.stack.levels
  base_right times h e = (times_none _ times q.placed.stack.levels (q.placed.stack.depth ∙ h)).0 (e ∙ main_total)

  pub base_wrong : (times : List ℕ) → l ≡ 0 → (get_or times 0 0 ≡ get_or totals (n - 1) 0 → ⊥) → TimesAt (get_or q.placed.table.funs (n - 1) done) times q.placed.stack.levels → ⊥
  base_wrong times h e z = e ((times_none _ times q.placed.stack.levels (q.placed.stack.depth ∙ h)).1 z ∙ sym main_total)

-- The same of a stack that decodes.
abbrev pub fares : {w tails turns totals leaves counts : List ℕ} {n l : ℕ} → 1 ≤ l → CostedStack w tails turns totals leaves counts n l → Fares w tails turns totals leaves counts n l
fares one q = record { starts = q.starts; placed = placed one q.decoded; columns = q.columns }

module _ {w tails turns totals leaves counts : List ℕ} {l : ℕ} {times : List ℕ} (one : 1 ≤ l) (q : Clocked w tails turns totals leaves counts l times) where
  pub lower_times : TimesAt (main (fares one q.costed) one) times (tip (fares one q.costed) one).under
  unfolding outer_levels
  lower_times = rw (tip (fares one q.costed) one).same at q.lower

-- The kept times level by level, from level 0 up: they are right up to level k, or wrong there.
abbrev pub Right : (w tails turns totals leaves counts : List ℕ) (n : ℕ) (times : List ℕ) → ℕ → Type 0
Right w tails turns totals leaves counts n times k =
    (z : Fares w tails turns totals leaves counts n k) → TimesAt (get_or z.placed.table.funs (n - 1) done) times z.placed.stack.levels

abbrev pub Wrong : (w tails turns totals leaves counts : List ℕ) (n : ℕ) (times : List ℕ) → ℕ → Type 0
Wrong w tails turns totals leaves counts n times k =
    (z : Fares w tails turns totals leaves counts n k) → TimesAt (get_or z.placed.table.funs (n - 1) done) times z.placed.stack.levels → ⊥

module _ {w tails turns totals leaves counts : List ℕ} {n : ℕ} (times : List ℕ) where
  pub right_none : get_or times 0 0 ≡ get_or totals (n - 1) 0 → (k : ℕ) → k < 1 → Right w tails turns totals leaves counts n times k
  right_none e k lt z = base_right z times (omega arith) e

  pub wrong_none : (get_or times 0 0 ≡ get_or totals (n - 1) 0 → ⊥) → (k : ℕ) → k ≡ 0 → Wrong w tails turns totals leaves counts n times k
  wrong_none e k z q = base_wrong q times z e

  module _ {l : ℕ} (one : 1 ≤ l) (u : (k : ℕ) → k < l → Right w tails turns totals leaves counts n times k) where
    pub right_next : {t : ℕ} → t ≡ level_time w tails turns totals leaves counts times l → get_or times l 0 ≡ t → (k : ℕ) → k < l + 1 → Right w tails turns totals leaves counts n times k
    right_next {t} h e k lt z =
        elim (dec_le l k) [
          | yes g ↦
              let i : l ≡ k = omega arith in
              let b : 1 ≤ k = omega arith in
              time_right z b times (u (k - 1) (omega arith) (down z b)) (h ∙ ap (λ (j : ℕ). level_time w tails turns totals leaves counts times j) i)
              (ap (λ (j : ℕ). get_or times j 0) (sym i) ∙ e)
          | no g ↦ u k (omega arith) z
        ]

    pub wrong_next : {t : ℕ} → t ≡ level_time w tails turns totals leaves counts times l → (get_or times l 0 ≡ t → ⊥) → (k : ℕ) → k ≡ l → Wrong w tails turns totals leaves counts n times k
    wrong_next {t} h e k i z =
        let b : 1 ≤ k = omega arith in
        time_wrong z b times (u (k - 1) (omega arith) (down z b)) (h ∙ ap (λ (j : ℕ). level_time w tails turns totals leaves counts times j) (sym i))
        (λ y. e (ap (λ (j : ℕ). get_or times j 0) (sym i) ∙ y))

    -- What the code asks for at level l, where a place stands at that level or above it.
    pub fits_at : (m k : ℕ) → k ≡ m + l → Fares w tails turns totals leaves counts n k → LevelFits w tails turns totals leaves counts times l
    fits_at zero k e z =
        let i : k ≡ l = omega arith in
        let b : 1 ≤ k = omega arith in
        subst (λ (j : ℕ). LevelFits w tails turns totals leaves counts times j) i (level_fits z b times (u (k - 1) (omega arith) (down z b)))
    fits_at (suc m) k e z = fits_at m (k - 1) (omega arith) (down z (omega arith))

  -- Times that are wrong up to a level are wrong up to each level above it.
  pub wrong_above : {l : ℕ} → ((k : ℕ) → k ≡ l → Wrong w tails turns totals leaves counts n times k) → (m k : ℕ) → k ≡ m + l → Wrong w tails turns totals leaves counts n times k
  wrong_above h zero k e z = h k (omega arith) z
  wrong_above h (suc m) k e z = let b : 1 ≤ k = omega arith in lower_wrong z b times (wrong_above h m (k - 1) (omega arith) (down z b))
