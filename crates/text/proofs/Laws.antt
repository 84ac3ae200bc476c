-- Reading at places of a text: what stands at a place, as the line that begins there has it.
-- First the places themselves, then numbers, signs and patterns, then the numbers that the lent row holds. Assumes nothing.
use Prim.Native.Nat.{ℕ, zero, suc, ◌+◌, ◌-◌, ◌*◌, ◌<◌, ◌≤◌}
use mathlib.Core.Path.{◌≡◌, refl, sym, ap, ◌∙◌, subst}
use mathlib.Core.Logic.{inl, inr}
use mathlib.Core.List.{List, [], ◌∷◌, ◌++◌, map}
use mathlib.Core.Bool.{Bool, true, false, ◌||◌, cond as pick}
use native.Mathlib.Omega.{arith}
use native.Mathlib.Numerals.{add-one}
use lib.ListN.{length, get_or, set, drop, drop_of_length-le, length-append, length-map, length-set}
use lib.Seq.{drop-cons, sets, get_or-set_same, get_or-set_other}
use lib.Dec.{eqb, ltb}
use borrow.Author.Tests.{eq-eqb, ne_eqb, eqb-true}
use Rattle.text.specs.Text.{line_of, line_at, line_end}
use Rattle.text.specs.Patterns.{is_digit, digits, number, none, some, is_upper, misfit, fit, kind_item, number_item, item}
use Rattle.text.specs.Patterns.{Match, miss, match, with_number, ended, matched, capped, any_over, ShownAt, MatchAt}
use Rattle.text.specs.Private.{DigitIs, Onward, DigitsTo, NumberAt, StandsAt, KindTaken, NumberTaken, CapitalAt}
use Rattle.text.proofs.Classes.{digit}
use Rattle.text.specs.declared.Shown.{Shown}
use Rattle.std.specs.Prelude.{Option, Some, None}
use Rattle.std.specs.Option.{is_some}

-- PLACES

-- Past the end of the text no line begins.
pub line_none : (s : List ℕ) (i : ℕ) → length s ≤ i → line_at s i ≡ []
unfolding line_of line_at
line_none s i h = rw (drop_of_length-le s h)

module _ (s : List ℕ) (i : ℕ) (h : i < length s) where
  -- The line feed ends its line.
  pub line_feed : get_or s i 0 ≡ 10 → line_at s i ≡ 10 ∷ []
  unfolding line_of line_at
  line_feed e = rw (drop-cons s i 0 h, e)

  pub end_feed : get_or s i 0 ≡ 10 → line_end s i ≡ i + 1
  unfolding line_end
  end_feed e = rw (line_feed e)

  -- Any other byte is followed by the rest of its line.
  pub line_cons : (get_or s i 0 ≡ 10 → ⊥) → line_at s i ≡ get_or s i 0 ∷ line_at s (i + 1)
  unfolding line_of line_at
  line_cons f = rw (drop-cons s i 0 h, ne_eqb (get_or s i 0) 10 f, add-one)

  pub end_cons : (get_or s i 0 ≡ 10 → ⊥) → line_end s i ≡ line_end s (i + 1)
  unfolding line_end
  end_cons f = rw (line_cons f) (omega arith)

  pub one_on : (get_or s i 0 ≡ 10 → ⊥) → Onward s i (i + 1)
  one_on f = record { past = omega arith; within = omega arith; same = end_cons f }

  -- A line that begins before the end of the text begins with the byte there.
  pub line_starts : (r : List ℕ) × (line_at s i ≡ get_or s i 0 ∷ r)
  unfolding line_of line_at
  line_starts = go (eqb (get_or s i 0) 10) refl
    where
      go : (t : Bool) → eqb (get_or s i 0) 10 ≡ t → (r : List ℕ) × (line_at s i ≡ get_or s i 0 ∷ r)
      go true e = ([], rw (drop-cons s i 0 h, e))
      go false e = (line_of (drop (suc i) s), rw (drop-cons s i 0 h, e))

-- Two steps within a line are one.
pub on_on : {s : List ℕ} {i j k : ℕ} → Onward s i j → Onward s j k → Onward s i k
on_on a b = record { past = omega (arith, a.past, b.past); within = b.within; same = a.same ∙ b.same }

-- NUMBERS

-- Whether a byte is a digit, where its value is given or not.
pub digit_some : (b : ℕ) (value : Option ℕ) → DigitIs b value → is_some value ≡ true → (48 ≤ b) × (b ≤ 57)
digit_some b None h e = absurd cc
digit_some b (Some d) h e = (h.0, h.1)

pub digit_none : (b : ℕ) (value : Option ℕ) → DigitIs b value → is_some value ≡ false → is_digit b ≡ false
digit_none b None h e = h
digit_none b (Some d) h e = absurd cc

module _ (s : List ℕ) (i : ℕ) (h : i < length s) where
  -- A digit moves the value on.
  pub digits_step : (n : ℕ) → 48 ≤ get_or s i 0 → get_or s i 0 ≤ 57
      → digits n (line_at s i) ≡ digits (n * 10 + (get_or s i 0 - 48)) (line_at s (i + 1))
  unfolding digits
  digits_step n l u = rw (line_cons s i h (λ e. omega arith), digit (get_or s i 0) l u)

  -- No digit ends the number.
  pub digits_stop : (n : ℕ) → is_digit (get_or s i 0) ≡ false → digits n (line_at s i) ≡ some n (line_at s i)
  unfolding digits
  digits_stop n f = let (r, e) = line_starts s i h in rw (e, f)

  -- Where no digit stands, no number does.
  pub number_no : is_digit (get_or s i 0) ≡ false → number (line_at s i) ≡ none
  unfolding number
  number_no f = let (r, e) = line_starts s i h in rw (e, f)

  -- 0 is a number by itself.
  pub number_zero : get_or s i 0 ≡ 48 → number (line_at s i) ≡ some 0 (line_at s (i + 1))
  unfolding number
  number_zero e = rw (line_cons s i h (λ z. omega arith), e)

  -- Any other digit starts a number.
  pub number_starts : 48 ≤ get_or s i 0 → get_or s i 0 ≤ 57 → (get_or s i 0 ≡ 48 → ⊥)
      → number (line_at s i) ≡ digits (get_or s i 0 - 48) (line_at s (i + 1))
  unfolding number
  number_starts l u f = rw (line_cons s i h (λ e. omega arith), digit (get_or s i 0) l u, ne_eqb (get_or s i 0) 48 f)

-- From the end of the text on no number stands, and no digit.
pub number_end : (s : List ℕ) (i : ℕ) → length s ≤ i → number (line_at s i) ≡ none
unfolding number
number_end s i h = rw (line_none s i h)

pub digits_end : (s : List ℕ) (n i : ℕ) → length s ≤ i → digits n (line_at s i) ≡ some n (line_at s i)
unfolding digits
digits_end s n i h = rw (line_none s i h)

-- In the middle of a number: v is its value so far, and i is the place of the next byte.
pub record Reading (limit : ℕ) (s : List ℕ) (at v i : ℕ) : Type 0 where
  pub on : Onward s at i
  pub small : v ≤ limit
  pub reads : number (line_at s at) ≡ digits v (line_at s i)

-- Where no digit follows, the number is read.
pub stop_at : {limit : ℕ} {s : List ℕ} {at v i : ℕ} (r : Reading limit s at v i) → digits v (line_at s i) ≡ some v (line_at s i)
    → NumberAt limit s at (Some (Some v, i))
stop_at r e = (r.reads ∙ e, r.small, r.on)

-- A value over the limit stays over it, whatever digits follow.
pub over_at : {limit : ℕ} {s : List ℕ} {at w i e : ℕ} → Onward s at i → number (line_at s at) ≡ digits w (line_at s i) → limit < w → DigitsTo s i e
    → NumberAt limit s at (Some (None, e))
over_at {w = w} on q h d = (
  d.value w,
  q ∙ d.reads w,
  omega (arith, d.grown w),
  record { past = omega (arith, on.past, d.past); within = d.within; same = on.same ∙ d.same },
)

-- Among the digits that a number goes on with: what they make of a value, up to the place i.
pub record Passing (s : List ℕ) (at i : ℕ) : Type 0 where
  pub past : at ≤ i
  pub within : i ≤ length s
  pub same : line_end s at ≡ line_end s i
  pub value : ℕ → ℕ
  pub reads : (v : ℕ) → digits v (line_at s at) ≡ digits (value v) (line_at s i)
  pub grown : (v : ℕ) → v ≤ value v

-- At first none was passed.
pub none_passed : (s : List ℕ) (at : ℕ) → at ≤ length s → Passing s at at
none_passed s at h = record { past = omega arith; within = h; same = refl; value = λ v. v; reads = λ v. refl; grown = λ v. omega arith }

-- One more was passed.
pub one_passed : {s : List ℕ} {at i : ℕ} → Passing s at i → i < length s → 48 ≤ get_or s i 0 → get_or s i 0 ≤ 57 → Passing s at (i + 1)
one_passed {s} {at} {i} p h l u =
    record {
      past = omega (arith, p.past);
      within = omega arith;
      same = p.same ∙ end_cons s i h (λ z. omega arith);
      value = λ v. p.value v * 10 + (get_or s i 0 - 48);
      reads = λ v. p.reads v ∙ digits_step s i h (p.value v) l u;
      grown = λ v. omega (arith, p.grown v);
    }

-- All were passed.
pub all_passed : {s : List ℕ} {at i : ℕ} → Passing s at i → ((v : ℕ) → digits v (line_at s i) ≡ some v (line_at s i)) → DigitsTo s at i
all_passed p f =
    record { past = p.past; within = p.within; same = p.same; value = p.value; reads = λ v. p.reads v ∙ f (p.value v); grown = p.grown }

-- SIGNS OF A PATTERN

-- From the end of the text on no sign fits.
pub item_end : (s : List ℕ) (at t : ℕ) → length s ≤ at → item t (line_at s at) ≡ misfit
unfolding item
item_end s at t h = rw (line_none s at h)

module _ (s : List ℕ) (at : ℕ) (h : at < length s) (t : ℕ) where
  -- At a line feed no sign fits.
  pub item_feed : get_or s at 0 ≡ 10 → item t (line_at s at) ≡ misfit
  unfolding item
  item_feed e = rw (line_feed s at h e)

  -- K asks for a kind.
  pub item_kind : (get_or s at 0 ≡ 10 → ⊥) → t ≡ 75 → item t (line_at s at) ≡ kind_item (get_or s at 0) (line_at s (at + 1))
  unfolding item
  item_kind f e = rw (line_cons s at h f, ne_eqb (get_or s at 0) 10 f, e)

  -- Another sign takes itself.
  pub item_same : (get_or s at 0 ≡ 10 → ⊥) → (t ≡ 75 → ⊥) → is_upper t ≡ false → get_or s at 0 ≡ t → item t (line_at s at) ≡ fit (line_at s (at + 1))
  unfolding item
  item_same f g u e = rw (line_cons s at h f, ne_eqb (get_or s at 0) 10 f, ne_eqb t 75 g, u, eq-eqb (get_or s at 0) t e)

  -- It takes nothing else.
  pub item_other : (t ≡ 75 → ⊥) → is_upper t ≡ false → (get_or s at 0 ≡ t → ⊥) → item t (line_at s at) ≡ misfit
  unfolding item
  item_other g u e = let (r, q) = line_starts s at h in rw (q, ne_eqb t 75 g, u, ne_eqb (get_or s at 0) t e) (either (eqb (get_or s at 0) 10))
    where
      either : (b : Bool) → pick b misfit misfit ≡ misfit
      either true = refl
      either false = refl

  -- K takes nothing but a kind.
  pub item_neither : t ≡ 75 → (get_or s at 0 ≡ 112 → ⊥) → (get_or s at 0 ≡ 115 → ⊥) → item t (line_at s at) ≡ misfit
  unfolding item
  item_neither e p q =
      let (r, l) = line_starts s at h in
      rw (l, e, ne_eqb (get_or s at 0) 112 p, ne_eqb (get_or s at 0) 115 q) (either (eqb (get_or s at 0) 10))
    where
      either : (b : Bool) → pick b misfit misfit ≡ misfit
      either true = refl
      either false = refl

-- Another capital asks for a number.
pub item_number : (t : ℕ) (l : List ℕ) → (t ≡ 75 → ⊥) → is_upper t ≡ true → item t l ≡ number_item (number l)
unfolding item number
item_number t [] g u = refl
item_number t (b ∷ bs) g u = go (eqb b 10) refl
  where
    go : (f : Bool) → eqb b 10 ≡ f →
        pick f misfit (pick (eqb t 75) (kind_item b bs) (pick (is_upper t) (number_item (number (b ∷ bs))) (pick (eqb b t) (fit bs) misfit)))
        ≡ number_item (number (b ∷ bs))
    go true e = rw (eqb-true b 10 e)
    go false e = rw (ne_eqb t 75 g, u)

-- PATTERNS

-- A number behind others is over the limit, or one of the others is.
over_more : (limit n : ℕ) (ns : List ℕ) → (ltb limit n || any_over limit ns) ≡ any_over limit (ns ++ (n ∷ []))
over_more limit n [] = refl
over_more limit n (m ∷ ns) = swap (ltb limit n) (ltb limit m) (any_over limit ns) ∙ ap (λ x. ltb limit m || x) (over_more limit n ns)
  where
    swap : (a b c : Bool) → (a || (b || c)) ≡ (b || (a || c))
    swap true true c = refl
    swap true false c = refl
    swap false true c = refl
    swap false false c = refl

-- A number is stored behind others.
sets_more : (row vs : List ℕ) (i v : ℕ) → set (sets row i vs) (i + length vs) v ≡ sets row i (vs ++ (v ∷ []))
sets_more row [] i v = ap (λ k. set row k v) (omega arith)
sets_more row (w ∷ vs) i v = ap (λ k. set (sets (set row i w) (suc i) vs) k v) (omega arith) ∙ sets_more (set row i w) vs (suc i) v

map_more : (f : ℕ → ℕ) (ns : List ℕ) (n : ℕ) → map f (ns ++ (n ∷ [])) ≡ map f ns ++ (f n ∷ [])
map_more f [] n = refl
map_more f (m ∷ ns) n = ap (λ x. f m ∷ x) (map_more f ns n)

-- What is found, with the numbers before it.
unfoldable pub with_numbers : List ℕ → Match → Match
with_numbers [] m = m
with_numbers (n ∷ ns) m = with_number n (with_numbers ns m)

with_more : (ns : List ℕ) (n : ℕ) (m : Match) → with_numbers ns (with_number n m) ≡ with_numbers (ns ++ (n ∷ [])) m
unfolding with_numbers
with_more [] n m = refl
with_more (x ∷ ns) n m = ap (with_number x) (with_more ns n m)

with_miss : (ns : List ℕ) → with_numbers ns miss ≡ miss
unfolding with_numbers
with_miss [] = refl
with_miss (n ∷ ns) = rw (with_miss ns)

with_match : (ns : List ℕ) (k : Bool) → with_numbers ns (match k []) ≡ match k ns
unfolding with_numbers
with_match [] k = refl
with_match (n ∷ ns) k = rw (with_match ns k)

-- Within a pattern: its first j signs have taken the line from at to i, with the numbers that were found.
pub record Matching (limit : ℕ) (s : List ℕ) (at : ℕ) (p row : List ℕ) (f : Shown) (row' : List ℕ) (i j : ℕ) : Type 0 where
  pub same : line_end s at ≡ line_end s i
  pub taken : List ℕ
  pub goes : matched p false (line_at s at) ≡ with_numbers taken (matched (drop j p) f.kind (line_at s i))
  pub over_told : f.over ≡ any_over limit taken
  pub counted : f.count ≡ length taken
  pub few : f.count ≤ j
  pub stored : row' ≡ sets row 0 (map (capped limit) taken)

-- At first nothing was taken.
pub match_begins : (limit : ℕ) (s : List ℕ) (at : ℕ) (p row : List ℕ)
    → Matching limit s at p row (record { kind = false; over = false; count = 0 }) row at 0
unfolding with_numbers
match_begins limit s at p row =
    record { same = refl; taken = []; goes = refl; over_told = refl; counted = refl; few = omega arith; stored = refl }

module _ {limit : ℕ} {s : List ℕ} {at : ℕ} {p row : List ℕ} {f : Shown} {row' : List ℕ} {i j : ℕ} (m : Matching limit s at p row f row' i j) where
  -- A sign that stands there moves on in pattern and line.
  pub sign_step : j < length p → StandsAt s i (get_or p j 0) true → Matching limit s at p row f row' (i + 1) (j + 1)
  unfolding matched
  sign_step h (eq, on) =
      let next : suc j ≡ j + 1 = omega arith in
      record {
        same = m.same ∙ on.same;
        taken = m.taken;
        goes = m.goes ∙ (rw (drop-cons p j 0 h, eq) (ap (λ x. with_numbers m.taken (matched (drop x p) f.kind (line_at s (i + 1)))) next));
        over_told = m.over_told;
        counted = m.counted;
        few = omega (arith, m.few);
        stored = m.stored;
      }

  -- So does a capital that finds a kind.
  kind_step : {g : Shown} {e : ℕ} {row'' : List ℕ} → j < length p → Onward s i e → KindTaken s i (get_or p j 0) row' row'' f g e
      → Matching limit s at p row g row'' e (j + 1)
  unfolding matched
  kind_step {g} {e} {row''} h on k =
      let next : suc j ≡ j + 1 = omega arith in
      subst (λ x. Matching limit s at p row x row'' e (j + 1)) (sym k.shown)
      (record {
        same = m.same ∙ on.same;
        taken = m.taken;
        goes =
            m.goes ∙ (rw (drop-cons p j 0 h, k.finds) (ap (λ x. with_numbers m.taken (matched (drop x p) k.kind_found (line_at s e))) next));
        over_told = m.over_told;
        counted = m.counted;
        few = omega (arith, m.few);
        stored = k.stored ∙ m.stored;
      })

  -- And one that finds a number.
  number_step : {g : Shown} {e : ℕ} {row'' : List ℕ} → j < length p → Onward s i e → NumberTaken limit s i (get_or p j 0) row' row'' f g e
      → Matching limit s at p row g row'' e (j + 1)
  unfolding matched
  number_step {g} {e} {row''} h on k =
      let n : ℕ = k.number_found in
      let next : suc j ≡ j + 1 = omega arith in
      subst (λ x. Matching limit s at p row x row'' e (j + 1)) (sym k.shown)
      (record {
        same = m.same ∙ on.same;
        taken = m.taken ++ (n ∷ []);
        goes =
            m.goes ∙ (rw (drop-cons p j 0 h, k.finds) (with_more m.taken n (matched (drop (suc j) p) f.kind (line_at s e))
            ∙ ap (λ x. with_numbers (m.taken ++ (n ∷ [])) (matched (drop x p) f.kind (line_at s e))) next));
        over_told = ap (λ x. ltb limit n || x) m.over_told ∙ over_more limit n m.taken;
        counted = rw (length-append m.taken (n ∷ [])) (omega (arith, m.counted));
        few = omega (arith, m.few);
        stored = k.stored ∙ placed n;
      })
    where
      placed : (n : ℕ) → set row' f.count (capped limit n) ≡ sets row 0 (map (capped limit) (m.taken ++ (n ∷ [])))
      placed n =
          let c : f.count ≡ 0 + length (map (capped limit) m.taken) = m.counted ∙ (sym (length-map m.taken (capped limit)) ∙ omega arith) in
          rw (m.stored, c, map_more (capped limit) m.taken n) (sets_more row (map (capped limit) m.taken) 0 (capped limit n))

  pub capital_step : {g : Shown} {e : ℕ} {row'' : List ℕ} → j < length p → CapitalAt limit s i (get_or p j 0) row' row'' f (Some (g, e))
      → Matching limit s at p row g row'' e (j + 1)
  capital_step h (on, inl k) = kind_step h on k
  capital_step h (on, inr k) = number_step h on k

  -- A sign that does not fit ends in no match.
  pub match_miss : j < length p → item (get_or p j 0) (line_at s i) ≡ misfit → matched p false (line_at s at) ≡ miss
  unfolding matched
  match_miss h e = m.goes ∙ (rw (drop-cons p j 0 h, e) (with_miss m.taken))

  -- After the last sign only the line feed is left to ask for.
  match_done : length p ≤ j → matched p false (line_at s at) ≡ with_numbers m.taken (ended f.kind (line_at s i))
  unfolding matched
  match_done h = m.goes ∙ rw (drop_of_length-le p h)

  -- It is missing at the end of the text.
  pub match_short : length p ≤ j → length s ≤ i → matched p false (line_at s at) ≡ miss
  match_short h l = match_done h ∙ (rw (line_none s i l) (with_miss m.taken))

  -- It is missing where another byte stands.
  pub match_long : length p ≤ j → i < length s → (get_or s i 0 ≡ 10 → ⊥) → matched p false (line_at s at) ≡ miss
  match_long h l n = match_done h ∙ (rw (line_cons s i l n, go (line_at s (i + 1))) (with_miss m.taken))
    where
      go : (r : List ℕ) → ended f.kind (get_or s i 0 ∷ r) ≡ miss
      go [] = rw (ne_eqb (get_or s i 0) 10 n)
      go (b ∷ r) = refl

  -- Where it stands, the pattern matches, and the line ends there.
  pub match_whole : length p ≤ j → i < length s → get_or s i 0 ≡ 10 → MatchAt limit s at p row row' (Some (f, i + 1))
  match_whole h l e =
      record {
        numbers = m.taken;
        fits = match_done h ∙ (rw (line_feed s i l e) (with_match m.taken f.kind));
        over_told = m.over_told;
        counted = m.counted;
        stored = m.stored;
        after = sym (m.same ∙ end_feed s i l e);
      }

-- STORED NUMBERS

-- What was stored before the places of others stays.
sets_below : (row vs : List ℕ) (i k : ℕ) → k < i → get_or (sets row i vs) k 0 ≡ get_or row k 0
sets_below row [] i k h = refl
sets_below row (v ∷ vs) i k h = sets_below (set row i v) vs (suc i) k (omega arith) ∙ get_or-set_other row i k v 0 (λ e. absurd (omega arith))

-- A stored number stands in its place.
sets_there : (row vs : List ℕ) (i k : ℕ) → k < length vs → i + k < length row → get_or (sets row i vs) (i + k) 0 ≡ get_or vs k 0
sets_there row [] i k h l = absurd (omega arith)
sets_there row (v ∷ vs) i zero h l =
    ap (λ x. get_or (sets (set row i v) (suc i) vs) x 0) (omega arith) ∙ sets_below (set row i v) vs (suc i) i (omega arith)
    ∙ get_or-set_same row i v 0 (omega arith)
sets_there row (v ∷ vs) i (suc k) h l =
    ap (λ x. get_or (sets (set row i v) (suc i) vs) x 0) (omega arith)
    ∙ sets_there (set row i v) vs (suc i) k (omega arith) (rw (length-set row i v) (omega arith))

map_nth : (f : ℕ → ℕ) (ns : List ℕ) (i : ℕ) → i < length ns → get_or (map f ns) i 0 ≡ f (get_or ns i 0)
map_nth f [] i h = absurd (omega arith)
map_nth f (n ∷ ns) zero h = refl
map_nth f (n ∷ ns) (suc i) h = map_nth f ns i (omega arith)

-- Where a pattern fits, the lent row has each number of the line, held.
pub number_stored : {limit : ℕ} {s : List ℕ} {at : ℕ} {p row row' : List ℕ} {f : Shown} {e : ℕ} (w : ShownAt limit s at p row row' f e) (i : ℕ)
    → i < length w.numbers → i < length row → get_or row' i 0 ≡ capped limit (get_or w.numbers i 0)
number_stored {limit} {row = row} w i h l =
    let vs : List ℕ = map (capped limit) w.numbers in
    let m : i < length vs = rw (length-map w.numbers (capped limit)) h in
    let z : i ≡ 0 + i = omega arith in
    ap (λ x. get_or x i 0) w.stored ∙ (ap (λ x. get_or (sets row 0 vs) x 0) z ∙ sets_there row vs 0 i m (omega arith))
    ∙ map_nth (capped limit) w.numbers i h
