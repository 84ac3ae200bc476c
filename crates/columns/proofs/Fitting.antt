-- Lent columns of turns and tails are the derived ones exactly when each form's numbers fit those beside them. Plain mathematics: no code is named here.
-- Assumes nothing.
use mathlib.Core.Path.{◌≡◌, refl, sym, ap, ◌∙◌, subst}
use mathlib.Core.List.{List}
use Prim.Native.Nat.{ℕ, ◌+◌, ◌-◌, ◌*◌, ◌≤◌, ◌<◌, max}
use native.Mathlib.Omega.{arith}
use native.Mathlib.Decide.{dec_lt}
use lib.Dec.{eqb, leb}
use mathlib.Core.Bool.{Bool, false}
use Rattle.std.proofs.lemmas.List.{length-map}
use lib.ListN.{length, get_or}
use Rattle.std.proofs.lemmas.Bool.{false≢true, leb-true, eqb-true, eq-eqb}
use Rattle.rows.specs.Answers.{Says}
use Rattle.rows.proofs.Answers.{says}
use Rattle.model.specs.Plan.{C, Lines, close, leaf_line, call_line, loop_line, if_line}
use Rattle.model.specs.Total.{tally}
use Rattle.rows.specs.declared.Leaf.{Leaf}
use Rattle.rows.specs.Leaves.{numbers, lent_turns, lent_tails}
use Rattle.rows.specs.Rows.{field, after_at, Rep, Part}
use Rattle.rows.specs.First.{rest}
use Rattle.rows.proofs.Shape.{LoopAt, IfAt, after, no_lines, body_in, then_in, else_in}
use Rattle.rows.specs.Costs.{limit}
use Rattle.columns.specs.Sums.{lead}
use Rattle.columns.specs.Walks.{front, FormsHeld}
use Rattle.columns.specs.Private.{AsDerived, AsDerivedFirst, Begins, LoopFits, IfFits, FunctionFits}
use Rattle.columns.specs.Columns.{column_of, held_turn, turn_rule, turns, rounds, tail_rule, Contains}
use Rattle.columns.specs.Local.{AllDerived}
use Rattle.columns.proofs.Sizes.{tally_split, loop_lead, round_le, round_back}
use Rattle.columns.proofs.Inner.{after_forms}
use Rattle.columns.proofs.Stores.{contains_both}
use Rattle.columns.proofs.Fronts.{column_split, front_fill, contains_rest, contains_loop, contains_if, loop_holds, if_holds}
use Rattle.columns.proofs.Summing.{loop_turn, if_turn}
use Rattle.columns.proofs.Adding.{first_turn, summed_fits, fits_summed}
use Rattle.columns.proofs.Tailing.{loop_rounds, if_tail}

-- The lines from i on are all that is left to walk of the lines l, which begin at `from`.
pub record Walking (ts o u : List ℕ) (row : List Leaf) (from i e s : ℕ) (l : Lines) : Type 0 where
  pub more : FormsHeld row i e
  pub back : AsDerived ts o u more.part.lines i s → AsDerived ts o u l from s
  pub on : AsDerived ts o u l from s → AsDerived ts o u more.part.lines i s

-- A no to a claim that does not hold.
pub says_no : {b : Bool} {A : Type 0} → b ≡ false → (A → ⊥) → Says b A
says_no {b} {A} e f = says {A = A} b (λ t. absurd (false≢true (sym e ∙ t))) (λ t. f)

-- What a test of two numbers answers.
pub says_same : (x y : ℕ) {A : Type 0} → (x ≡ y → A) → (A → x ≡ y) → Says (eqb x y) A
says_same x y f g = says (eqb x y) (λ e. f (eqb-true x y e)) (λ e a. false≢true (sym e ∙ eq-eqb x y (g a)))

pub says_above : (x y : ℕ) {A : Type 0} → y < x → (A → ⊥) → Says (leb x y) A
says_above x y {A} h f = says (leb x y) (λ e. absurd (omega (arith, h, leb-true x y e))) (λ e. f)

-- What a column has at the start of forms.
pub begins_some : (u : List ℕ) (i e s : ℕ) → (x : ℕ) × Begins u i e s x
begins_some u i e s =
    elim (dec_lt i e) [
      | yes lt ↦ (get_or u i 0, record { there = λ h. refl; none = λ h. absurd (omega arith) })
      | no ge ↦ (s, record { there = λ h. absurd (omega arith); none = λ h. refl })
    ]

module _ (ts o u : List ℕ) where
  -- THE FORMS OF A SEQUENCE

  -- The first number of a column of tails is the total of the lines, with what follows them.
  first_tail : (w : List ℕ) (v i e : ℕ) (l : Lines) (s : ℕ) → Rep w v i e l → i < e → Contains u i (column_of (tail_rule ts) l s) → get_or u i 0 ≡ tally C ts l + s
  unfolding Rep column_of Contains tally lead
  first_tail w v i e close s r lt h = absurd (omega arith)
  first_tail w v i e (leaf_line b m) s r lt h = omega (arith, h.0)
  first_tail w v i e (call_line b f m) s r lt h = omega (arith, h.0)
  first_tail w v i e (loop_line b n body m) s r lt h = omega (arith, h.0)
  first_tail w v i e (if_line b t f m) s r lt h = omega (arith, h.0)

  pub begins : {w hs : List ℕ} {left v i e s x : ℕ} → Begins u i e s x → (p : Part w hs left v i e) → AsDerived ts o u p.lines i s
      → x ≡ tally C ts p.lines + s
  unfolding tally
  begins {w} {v = v} {i = i} {e = e} {s} b p f =
      elim (dec_lt i e) [
        | yes lt ↦ b.there lt ∙ first_tail w v i e p.lines s p.rep lt f.tails_are
        | no ge ↦ let le : e ≤ i = omega arith in omega (arith, b.none le, ap (tally C ts) (no_lines le p))
      ]

  -- Lines fit exactly when the first form does, with what the others come to behind it, and the others do.
  fits_split : {w hs : List ℕ} {left v i e en s : ℕ} (lt : i < e) (p : Part w hs left v i e) → en ≡ after_at w i → AsDerived ts o u p.lines i s
      → AsDerivedFirst ts o u p.lines i (tally C ts (rest p.lines) + s) × AsDerived ts o u (rest p.lines) en s
  fits_split {s = s} lt p he f =
      let a = contains_rest (turn_rule C ts) o 0 lt p he f.turns_are in
      let b = contains_rest (tail_rule ts) u s lt p he f.tails_are in
      let z = tally_split C ts p.lines in (
        record { turns_are = a.0; tails_are = b.0; small = omega (arith, z, f.small) },
        record { turns_are = a.1; tails_are = b.1; small = omega (arith, z, f.small) },
      )

  fits_join : {w hs : List ℕ} {left v i e en s x : ℕ} (lt : i < e) (p : Part w hs left v i e) → en ≡ after_at w i → x ≡ tally C ts (rest p.lines) + s
      → AsDerivedFirst ts o u p.lines i x → AsDerived ts o u (rest p.lines) en s → AsDerived ts o u p.lines i s
  fits_join {i = i} {en = en} {s} lt p he hx f g =
      let l = p.lines in
      let y = tally C ts (rest l) + s in
      let a : Contains u i (front (tail_rule ts) l y) = rw hx at f.tails_are in
      record {
        turns_are = rw (column_split (turn_rule C ts) l 0)
            (contains_both (front (turn_rule C ts) l 0) (turns C ts (rest l)) o i en (front_fill (turn_rule C ts) lt p 0 he) f.turns_are g.turns_are);
        tails_are = rw (column_split (tail_rule ts) l s)
            (contains_both (front (tail_rule ts) l y) (column_of (tail_rule ts) (rest l) s) u i en (front_fill (tail_rule ts) lt p y he) a g.tails_are);
        small = omega (arith, tally_split C ts l, f.small, hx);
      }

  -- No lines fit everywhere.
  fits_none : {w hs : List ℕ} {left v i e s : ℕ} → e ≤ i → s ≤ limit → (p : Part w hs left v i e) → AsDerived ts o u p.lines i s
  unfolding column_of Contains tally
  fits_none {i = i} {s = s} le low p =
      subst (λ (l : Lines). AsDerived ts o u l i s) (sym (no_lines le p)) (record { turns_are = tt; tails_are = tt; small = omega arith })

  -- The walk over the forms.
  pub walk_start : {row : List Leaf} {i e s : ℕ} (p : FormsHeld row i e) → Walking ts o u row i i e s p.part.lines
  walk_start p = record { more = p; back = λ f. f; on = λ f. f }

  module _ {row : List Leaf} {from i e en s x : ℕ} {l : Lines} (lt : i < e) (he : en ≡ after_at (numbers row) i) (b : Begins u en e s x)
      (q : Walking ts o u row from i e s l) where
    pub walk_refuse : (AsDerivedFirst ts o u q.more.part.lines i x → ⊥) → AsDerived ts o u l from s → ⊥
    walk_refuse h f =
        let g = fits_split lt q.more.part he (q.on f) in
        let z = begins b (after lt q.more.part he) g.1 in
        h (rw z g.0)

    pub walk_next : AsDerivedFirst ts o u q.more.part.lines i x → Walking ts o u row from en e s l
    walk_next f =
        record {
          more = after_forms lt q.more he;
          back = λ g. q.back (fits_join lt q.more.part he (begins b (after lt q.more.part he) g) f g);
          on = λ g. (fits_split lt q.more.part he (q.on g)).1;
        }

  pub walk_end : {row : List Leaf} {from i e s : ℕ} {l : Lines} → e ≤ i → s ≤ limit → Walking ts o u row from i e s l → AsDerived ts o u l from s
  walk_end le low q = q.back (fits_none le low q.more.part)

  -- THE FIRST FORM, BY KIND

  heads : (w : List ℕ) (v i e : ℕ) (l : Lines) (x : ℕ) → Rep w v i e l → i < e → AsDerivedFirst ts o u l i x
      → (get_or o i 0 ≡ held_turn C ts l) × (get_or u i 0 ≡ lead C ts l + x)
  unfolding Rep front Contains
  heads w v i e close x r lt f = absurd (omega arith)
  heads w v i e (leaf_line b m) x r lt f = (f.turns_are.0, f.tails_are.0)
  heads w v i e (call_line b g m) x r lt f = (f.turns_are.0, f.tails_are.0)
  heads w v i e (loop_line b n body m) x r lt f = (f.turns_are.0, f.tails_are.0)
  heads w v i e (if_line b t g m) x r lt f = (f.turns_are.0, f.tails_are.0)

  flat : (w : List ℕ) (v i e : ℕ) (l : Lines) (x : ℕ) → Rep w v i e l → i < e → (field w i 0 ≡ 2 → ⊥) → (field w i 0 ≡ 3 → ⊥)
      → get_or o i 0 ≡ 0 → get_or u i 0 ≡ lead C ts l + x → lead C ts l + x ≤ limit → AsDerivedFirst ts o u l i x
  unfolding Rep front Contains held_turn
  flat w v i e close x r lt k2 k3 ho hu le = absurd (omega arith)
  flat w v i e (leaf_line b m) x r lt k2 k3 ho hu le = record { turns_are = (ho, tt); tails_are = (hu, tt); small = le }
  flat w v i e (call_line b g m) x r lt k2 k3 ho hu le = record { turns_are = (ho, tt); tails_are = (hu, tt); small = le }
  flat w v i e (loop_line b n body m) x r lt k2 k3 ho hu le = absurd (k2 r.0.0)
  flat w v i e (if_line b t g m) x r lt k2 k3 ho hu le = absurd (k3 r.0.0)

  module _ {w hs : List ℕ} {left v i e x : ℕ} (lt : i < e) (p : Part w hs left v i e) where
    first_head : AsDerivedFirst ts o u p.lines i x → (get_or o i 0 ≡ held_turn C ts p.lines) × (get_or u i 0 ≡ lead C ts p.lines + x)
    first_head f = heads w v i e p.lines x p.rep lt f

    -- The tail is not below what follows the form, and within the limit.
    pub first_within : AsDerivedFirst ts o u p.lines i x → (x ≤ get_or u i 0) × (get_or u i 0 ≤ limit)
    first_within f = (omega (arith, (first_head f).1), omega (arith, (first_head f).1, f.small))

    -- A form that is no loop has no round.
    pub first_round : (field w i 0 ≡ 2 → ⊥) → AsDerivedFirst ts o u p.lines i x → get_or o i 0 ≡ 0
    first_round k f = first_turn C ts o lt p k f.turns_are

    -- A leaf or a call.
    pub flat_first : (field w i 0 ≡ 2 → ⊥) → (field w i 0 ≡ 3 → ⊥) → get_or o i 0 ≡ 0 → (x ≤ get_or u i 0) × (get_or u i 0 ≤ limit)
        → get_or u i 0 - x ≡ lead C ts p.lines → AsDerivedFirst ts o u p.lines i x
    flat_first k2 k3 ho b d =
        flat w v i e p.lines x p.rep lt k2 k3 ho (omega (arith, b.0, d)) (omega (arith, b.0, b.1, d))

    pub first_flat : AsDerivedFirst ts o u p.lines i x → get_or u i 0 - x ≡ lead C ts p.lines
    first_flat f = omega (arith, (first_head f).1)

  -- A loop: its tail, the sum of one round, and the body with what follows it in a first visit.
  module _ {w hs : List ℕ} {left v i en x : ℕ} {l : Lines} (h : LoopAt w hs left v i l) (he : en ≡ after_at w i) where
    pub loop_first : (x ≤ get_or u i 0) × (get_or u i 0 ≤ limit) → LoopFits w u i en (get_or u i 0) (get_or o i 0) x
        → AsDerived ts o u h.body.lines (i + 1) (get_or u i 0 - get_or o i 0) → AsDerivedFirst ts o u l i x
    loop_first a d f =
        let c = field w i 2 in
        let b = begins_some u (i + 1) en (get_or u i 0 - get_or o i 0) in
        let hy = begins b.1 (body_in he h) f in
        let ht = d.2 b.0 b.1 in
        let body = tally C ts h.body.lines in
        let n = field w i 4 in
        let er : get_or o i 0 ≡ body + c = omega (arith, d.0, hy, ht) in
        let ep : n * get_or o i 0 ≡ n * (body + c) = ap (λ (z : ℕ). n * z) er in
        let el = loop_lead C ts h in
        let et : get_or u i 0 ≡ lead C ts l + x = omega (arith, a.0, d.1, ep, el) in
        let ei : get_or u i 0 - get_or o i 0 ≡ rounds ts l x = omega (arith, loop_rounds ts x h, round_back n (body + c) h.least, et, el, er) in
        let eo : get_or o i 0 ≡ held_turn C ts l = omega (arith, er, f.small, loop_turn C ts h) in
        record {
          turns_are = loop_holds (turn_rule C ts) o 0 h eo f.turns_are;
          tails_are = loop_holds (tail_rule ts) u x h et (rw ei at f.tails_are);
          small = omega (arith, et, a.1);
        }

    module _ (f : AsDerivedFirst ts o u l i x) where
      tail_is : get_or u i 0 ≡ lead C ts l + x
      tail_is = (contains_loop (tail_rule ts) u x h f.tails_are).0

      turn_is : get_or o i 0 ≡ tally C ts h.body.lines + field w i 2
      turn_is =
          let z = (contains_loop (turn_rule C ts) o 0 h f.turns_are).0 in
          omega (arith, z, loop_turn C ts h, f.small, loop_lead C ts h, round_le (field w i 4) (tally C ts h.body.lines) (field w i 2) h.least)

      first_rounds : (get_or o i 0 ≤ get_or u i 0) × (get_or u i 0 - x ≡ field w i 2 + field w i 4 * get_or o i 0)
      first_rounds =
          let c = field w i 2 in
          let body = tally C ts h.body.lines in
          let n = field w i 4 in
          let ep : n * get_or o i 0 ≡ n * (body + c) = ap (λ (z : ℕ). n * z) turn_is in
          (omega (arith, tail_is, turn_is, loop_lead C ts h, round_le n body c h.least), omega (arith, tail_is, ep, loop_lead C ts h))

      pub first_body : AsDerived ts o u h.body.lines (i + 1) (get_or u i 0 - get_or o i 0)
      first_body =
          let c = field w i 2 in
          let body = tally C ts h.body.lines in
          let n = field w i 4 in
          let back = round_back n (body + c) h.least in
          let ei : rounds ts l x ≡ get_or u i 0 - get_or o i 0 = omega (arith, loop_rounds ts x h, back, tail_is, loop_lead C ts h, turn_is) in
          record {
            turns_are = (contains_loop (turn_rule C ts) o 0 h f.turns_are).1;
            tails_are = rw ei at (contains_loop (tail_rule ts) u x h f.tails_are).1;
            small = omega (arith, f.small, tail_is, turn_is, first_rounds.0);
          }

      pub first_loop : LoopFits w u i en (get_or u i 0) (get_or o i 0) x
      first_loop =
          (first_rounds.0, first_rounds.1, λ y b. let hy = begins b (body_in he h) first_body in omega (arith, hy, turn_is, first_rounds.0))

  -- An if: its tail, and both parts with what follows it.
  module _ {w hs : List ℕ} {left v i mid en x : ℕ} {l : Lines} (h : IfAt w hs left v i l) (hm : mid ≡ field w i 5) (he : en ≡ after_at w i) where
    pub if_first : get_or o i 0 ≡ 0 → get_or u i 0 ≤ limit → IfFits w u i mid en (get_or u i 0) x → AsDerived ts o u h.then.lines (i + 1) x
        → AsDerived ts o u h.else.lines mid x → AsDerivedFirst ts o u l i x
    if_first ho low d f g =
        let a = begins_some u (i + 1) mid x in
        let b = begins_some u mid en x in
        let et = d a.0 b.0 a.1 b.1 ∙ if_tail ts x h refl (begins a.1 (then_in hm h) f) (begins b.1 (else_in hm he h) g) refl in
        record {
          turns_are = if_holds (turn_rule C ts) o 0 h hm (ho ∙ if_turn C ts h) f.turns_are g.turns_are;
          tails_are = if_holds (tail_rule ts) u x h hm et f.tails_are g.tails_are;
          small = omega (arith, et, low);
        }

    module _ (f : AsDerivedFirst ts o u l i x) where
      if_small : (tally C ts h.then.lines + x ≤ limit) × (tally C ts h.else.lines + x ≤ limit)
      if_small =
          let z = if_tail ts x h refl refl refl refl in
          let s = f.small in
          go (field w i 2) (tally C ts h.then.lines + x) (tally C ts h.else.lines + x) (lead C ts l + x) z s
        where
          go : (c a b d : ℕ) → c + max a b ≡ d → d ≤ limit → (a ≤ limit) × (b ≤ limit)
          go c a b d e le = (omega arith, omega arith)

      pub first_then : AsDerived ts o u h.then.lines (i + 1) x
      first_then =
          record {
            turns_are = (contains_if (turn_rule C ts) o 0 h hm f.turns_are).0;
            tails_are = (contains_if (tail_rule ts) u x h hm f.tails_are).0;
            small = if_small.0;
          }

      pub first_else : AsDerived ts o u h.else.lines mid x
      first_else =
          record {
            turns_are = (contains_if (turn_rule C ts) o 0 h hm f.turns_are).1;
            tails_are = (contains_if (tail_rule ts) u x h hm f.tails_are).1;
            small = if_small.1;
          }

  -- The tail of an if that fits.
  pub first_if : {w hs : List ℕ} {left v i e mid en x : ℕ} (lt : i < e) (p : Part w hs left v i e)
      (h : IfAt w hs left v i p.lines) (hm : mid ≡ field w i 5) (he : en ≡ after_at w i) → AsDerivedFirst ts o u p.lines i x → IfFits w u i mid en (get_or u i 0) x
  first_if {x = x} lt p h hm he f a b ha hb =
      (first_head lt p f).1 ∙
      sym (if_tail ts x h refl (begins ha (then_in hm h) (first_then h hm he f)) (begins hb (else_in hm he h) (first_else h hm he f)) refl)

-- THE FUNCTIONS

module _ (ts starts : List ℕ) (F : ℕ → Lines) (row : List Leaf) where
  -- Where all functions fit, the lent numbers are theirs.
  pub fits_derived : {n : ℕ} → get_or starts n 0 ≤ length row → ((f : ℕ) → f < n → FunctionFits ts (lent_turns row) (lent_tails row) starts F f)
      → ((f : ℕ) → n ≤ f → f < 16 → get_or ts f 0 ≡ 0) → AllDerived F starts n ts (lent_turns row) (lent_tails row)
  fits_derived held a b =
      record {
        summed =
            fits_summed C ts (lent_turns row) starts F (omega (arith, held, length-map row (λ (l : Leaf). l.turn)))
            (λ f lt. ((a f lt).0.turns_are, omega (arith, (a f lt).0.small), (a f lt).1)) b;
        tails = λ f lt. (a f lt).0.tails_are;
        tails_long = omega (arith, held, length-map row (λ (l : Leaf). l.tail));
      }

  pub derived_fits : {n : ℕ} → AllDerived F starts n ts (lent_turns row) (lent_tails row) → (f : ℕ) → f < n → FunctionFits ts (lent_turns row) (lent_tails row) starts F f
  derived_fits d f lt =
      let a = summed_fits C ts (lent_turns row) starts F d.summed f lt in
      (record { turns_are = a.0; tails_are = d.tails f lt; small = omega (arith, a.1) }, a.2)
