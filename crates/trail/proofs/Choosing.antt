-- Behind a visit with two ways: which of them opens with the lower leaf number, and how the short runs split between the way that is taken and the later one.
use Rattle.std.specs.Prelude.{Some, None, Bool, true, false, List, [], ◌≡◌, ◌⊎◌, ℕ, zero, suc, ◌+◌, ◌-◌, ◌≤◌, ◌<◌, ltb, length, min, max}
use Rattle.std.proofs.Common.{refl, ◌∙◌, arith, inl, inr}
use borrow.Author.Tests.{lt-ltb, le-ltb}
use Rattle.model.specs.Plan.{Block}
use Rattle.model.specs.Forms.{Forms, done, loop, ◌⊕◌}
use Rattle.short_runs.specs.Listing.{one, two, ways, on_way, short_runs, least, next_leaf, lower, higher}
use Rattle.short_runs.specs.Told.{NumbersTell}
use Rattle.short_runs.proofs.Splitting.{Split, split_one, split_both, split_low, split_high, told_high}
use Rattle.rows.specs.declared.Code.{Code}
use Rattle.rows.specs.Leaves.{numbers}
use Rattle.rows.specs.Rows.{kind_at, detail_at, block_at}
use Rattle.place.specs.Stack.{FunctionTable}
use Rattle.place.specs.Lent.{CodeTable}
use Rattle.least_visits.specs.Least.{TableLeasts}
use Rattle.trail.specs.declared.Rest.{Rest}
use Rattle.trail.specs.declared.Choice.{Choice}
use Rattle.trail.specs.Trails.{first_rest, Left, numbered_rest, Later}
use Rattle.trail.specs.Private.{Forks, ForkedOn, GoesOn, OpensWith, CanOpen, CanChoose, Splits, Chooses}
use Rattle.trail.proofs.Moving.{loop_is}
use Rattle.trail.proofs.Resting.{Front, left_front, left_kept, left_least}

-- A choice at a loop: it can go round once more.
loop_choice : (b : Block) (m : ℕ) (body r g f : Forms) → f ≡ loop b m body r → Forks b true (ways (f ⊕ g)) → 0 < m
unfolding ways ◌⊕◌
loop_choice b zero body r g f e h = absurd (let z = rw e at h in cc)
loop_choice b (suc m) body r g f e h = omega arith

pub goes_round : (c : Code) {column : List ℕ} {rests : List Rest} {here : ℕ} {f : Forms} (t : CodeTable c) (x : Front t column rests here f) →
    ForkedOn c (numbered_rest rests here).forms true → kind_at (numbers c.row.now) (numbered_rest rests here).forms.from ≡ 2 →
    (numbered_rest rests here).forms.rounds < detail_at (numbers c.row.now) (numbered_rest rests here).forms.from
goes_round c {column} {rests} {here} t x h k =
    let (body, lies, whole, few, (m, e, z)) = loop_is x.lies x.there k in
    omega (arith, loop_choice _ m body _ done x.first z (h t column x.first done x.lies x.there))

-- A visit with one way behind it, or two.
pub one_way : (c : Code) {column : List ℕ} {rests : List Rest} {here : ℕ} {f : Forms} (t : CodeTable c) → Front t column rests here f →
    ForkedOn c (numbered_rest rests here).forms false →
    ways f ≡ one (block_at (numbers c.row.now) (numbered_rest rests here).forms.from) (on_way false (ways f))
one_way c {column} t x h = rw x.same (h t column x.first x.behind x.lies x.there)

two_ways : (c : Code) {column : List ℕ} {rests : List Rest} {here : ℕ} {f : Forms} (t : CodeTable c) → Front t column rests here f →
    ForkedOn c (numbered_rest rests here).forms true →
    ways f ≡ two (block_at (numbers c.row.now) (numbered_rest rests here).forms.from) (on_way false (ways f)) (on_way true (ways f))
two_ways c {column} t x h = rw x.same (h t column x.first x.behind x.lies x.there)

-- Of the two ways the one that opens with the lower leaf number, and the other.
abbrev low_of : Forms → Forms
low_of f = lower (on_way false (ways f)) (on_way true (ways f))

abbrev high_of : Forms → Forms
high_of f = higher (on_way false (ways f)) (on_way true (ways f))

-- HOW THE SHORT RUNS SPLIT

module _ {w starts : List ℕ} {n : ℕ} (t : FunctionTable w starts n) (column : List ℕ) (old new : List Rest) (here k : ℕ) (f : Forms) (few : k < 64)
    (told : NumbersTell f) (fits : least f ≤ 64 - k) where
  abbrev b : Block
  b = block_at w (numbered_rest old here).forms.from

  fits_less : least f ≤ suc (63 - k)
  fits_less = omega arith

  splits : (x : Choice) (g : Forms) (ws : List (List Block)) → Split (63 - k) f b g ws → Left t column new x.go g → Later t column new k x.later ws →
      Splits t column old new here k x f
  splits x g ws s l r =
      let e : 64 - k ≡ suc (63 - k) = omega arith in
      record { next = g; left = l; told = s.told; fits = s.fits; later_runs = ws; later = r; runs = rw e s.runs }

  pub splits_one : (go : ℕ) (g : Forms) → ways f ≡ one b g → Left t column new go g → Splits t column old new here k (record { go = go; later = None }) f
  splits_one go g e l = splits (record { go = go; later = None }) g [] (split_one (63 - k) f b g told fits_less e) l refl

  module _ (e : ways f ≡ two b (on_way false (ways f)) (on_way true (ways f))) (low high : ℕ) (l : Left t column new low (low_of f))
      (r : Left t column new high (high_of f)) where
    abbrev x : Forms
    x = on_way false (ways f)

    abbrev y : Forms
    y = on_way true (ways f)

    -- No run on the low way ends within 64 visits.
    splits_high : 63 - k < (numbered_rest new low).least → Splits t column old new here k (record { go = high; later = None }) f
    splits_high h =
        splits (record { go = high; later = None }) (high_of f) []
        (split_high (63 - k) f b x y told e fits_less (omega (arith, left_least l))) r refl

    module _ (h : (numbered_rest new low).least ≤ 63 - k) where
      low_fits : least (low_of f) ≤ 63 - k
      low_fits = omega (arith, left_least l)

      -- Both ways are taken.
      splits_both : next_leaf (low_of f) < next_leaf (high_of f) → high < first_rest (suc k) → (numbered_rest new high).least ≤ 63 - k →
          Splits t column old new here k (record { go = low; later = Some high }) f
      splits_both d near i =
          let fits_high : least (high_of f) ≤ 63 - k = omega (arith, left_least r) in
          splits (record { go = low; later = Some high }) (low_of f) (short_runs (63 - k) (high_of f))
          (split_both (63 - k) f b x y told e low_fits d) l (higher x y, near, r, told_high (63 - k) f b x y told e, fits_high, refl)

      -- The low way alone: the other opens alike, or no run on it ends within 64 visits.
      splits_low : (next_leaf (low_of f) < next_leaf (high_of f) → 63 - k < (numbered_rest new high).least) →
          Splits t column old new here k (record { go = low; later = None }) f
      splits_low d =
          splits (record { go = low; later = None }) (low_of f) []
          (split_low (63 - k) f b x y told e low_fits (λ i. omega (arith, d i, left_least r))) l refl

-- BOTH WAYS

-- What a rest opens with, as it was read there.
opens : {w starts : List ℕ} {n : ℕ} {t : FunctionTable w starts n} {column : List ℕ} {rests : List Rest} {i : ℕ} {f : Forms} (r : ℕ) → OpensWith rests i r →
    Left t column rests i f → r ≡ next_leaf f
opens {w} {starts} {n} {t} {column} {rests} {i} {f} r h l = h w starts n t column f l

-- The low one and the high one of two ways, with what they open with.
abbrev pub Ranks : ℕ → ℕ → ℕ → ℕ → ℕ × ℕ → Type 0
Ranks first second a b p = ((b < a) × (p ≡ (second, first))) ⊎ ((a ≤ b) × (p ≡ (first, second)))

ranked : {w starts : List ℕ} {n : ℕ} (t : FunctionTable w starts n) (column : List ℕ) (rests : List Rest) (x y : Forms) (first second a b : ℕ) (p : ℕ × ℕ) →
    Left t column rests first x → Left t column rests second y → a ≡ next_leaf x → b ≡ next_leaf y → Ranks first second a b p →
    Left t column rests p.0 (lower x y) × Left t column rests p.1 (higher x y) × (next_leaf (lower x y) ≡ min a b) × (next_leaf (higher x y) ≡ max a b)
ranked t column rests x y first second a b p l r d e (inl (h, i)) =
    let o : ltb (next_leaf y) (next_leaf x) ≡ true = lt-ltb (next_leaf y) (next_leaf x) (omega arith) in rw (o, i) (r, l, omega arith, omega arith)
ranked t column rests x y first second a b p l r d e (inr (h, i)) =
    let o : ltb (next_leaf y) (next_leaf x) ≡ false = le-ltb (next_leaf y) (next_leaf x) (omega arith) in rw (o, i) (l, r, omega arith, omega arith)

near_pair : (first second a b m : ℕ) (p : ℕ × ℕ) → first < m → second < m → Ranks first second a b p → (p.0 < m) × (p.1 < m)
near_pair first second a b m p h i (inl (d, e)) = rw e (i, h)
near_pair first second a b m p h i (inr (d, e)) = rw e (h, i)

-- Both ways behind the visit number k were put down.
pub ways_down : {c : Code} {column : List ℕ} {old mid new : List Rest} {here first second : ℕ} (k : ℕ) →
    GoesOn c column old mid here (first_rest k) false first → GoesOn c column mid new here (first_rest k + 2) true second → here < first_rest k →
    (t : CodeTable c) (f : Forms) → TableLeasts t column →
    Left t column old here f → Left t column new first (on_way false (ways f)) × Left t column new second (on_way true (ways f))
ways_down {column = column} {old = old} {mid = mid} {new = new} {here = here} {first = first} k x y early t f noted left =
    let between = left_kept t column old mid (first_rest k) (omega arith) x.others here f early left in (
      left_kept t column mid new (first_rest k + 2) (omega arith) y.others first (on_way false (ways f)) (omega (arith, x.near)) (x.left t f noted left),
      y.left t f noted between,
    )

pub can_open : {w starts : List ℕ} {n : ℕ} {t : FunctionTable w starts n} {column : List ℕ} {rests : List Rest} {i : ℕ} {f : Forms} → Left t column rests i f →
    i < first_rest 64 → length column ≤ 512 → CanOpen rests i
can_open {w} {starts} {n} {t} {column} {f = f} l h m =
    record { row = w; starts = starts; count = n; table = t; column = column; forms = f; left = l; few = h; leaves = m }

-- Behind the visit number k there are two ways; both were put down, open with a and b, and are ranked by that.
pub record Both (c : Code) (column : List ℕ) (old new : List Rest) (here k a b : ℕ) (p : ℕ × ℕ) : Type 0 where
  pub mid : List Rest
  pub first : ℕ
  pub second : ℕ
  pub goes_first : GoesOn c column old mid here (first_rest k) false first
  pub goes_second : GoesOn c column mid new here (first_rest k + 2) true second
  pub forks : ForkedOn c (numbered_rest old here).forms true
  pub first_is : OpensWith new first a
  pub second_is : OpensWith new second b
  pub ranks : Ranks first second a b p

pub both : {c : Code} {column : List ℕ} {old mid new : List Rest} {here first second : ℕ} (k : ℕ) (p : ℕ × ℕ) →
    GoesOn c column old mid here (first_rest k) false first → GoesOn c column mid new here (first_rest k + 2) true second →
    (r : Bool) → r ≡ true → ForkedOn c (numbered_rest old here).forms r →
    (a : ℕ) → OpensWith new first a → (b : ℕ) → OpensWith new second b → Ranks first second a b p → Both c column old new here k a b p
both {mid = mid} {first = first} {second = second} k p x y r e h a i b j z =
    record {
      mid = mid;
      first = first;
      second = second;
      goes_first = x;
      goes_second = y;
      forks = rw e at h;
      first_is = i;
      second_is = j;
      ranks = z;
    }

module _ {c : Code} {column : List ℕ} {old new : List Rest} {here k a b : ℕ} {p : ℕ × ℕ} (x : Both c column old new here k a b p)
    (r : CanChoose c column old here k) where
  kept : (j : ℕ) → j < first_rest k → numbered_rest new j ≡ numbered_rest old j
  kept j h = x.goes_second.others j (omega arith) ∙ x.goes_first.others j h

  near : (p.0 < first_rest (suc k)) × (p.1 < first_rest (suc k))
  near = near_pair x.first x.second a b (first_rest (suc k)) p (omega (arith, x.goes_first.near)) (omega (arith, x.goes_second.near)) x.ranks

  ways_left : (t : CodeTable c) (f : Forms) → TableLeasts t column → Left t column old here f →
      Left t column new p.0 (low_of f) × Left t column new p.1 (high_of f) ×
      (next_leaf (low_of f) ≡ min a b) × (next_leaf (high_of f) ≡ max a b)
  ways_left t f noted left =
      let (first, second) = ways_down k x.goes_first x.goes_second r.early t f noted left in
      ranked t column new (on_way false (ways f)) (on_way true (ways f)) x.first x.second a b p first second
      (opens a x.first_is first) (opens b x.second_is second) x.ranks

  forked_here : (t : CodeTable c) (f : Forms) → Left t column old here f →
      ways f ≡ two (block_at (numbers c.row.now) (numbered_rest old here).forms.from) (on_way false (ways f)) (on_way true (ways f))
  forked_here t f left = two_ways c t (left_front r.some left) x.forks

  pub chooses_high : 63 - k < (numbered_rest new p.0).least → Chooses c column old new here k (record { go = p.1; later = None })
  chooses_high h =
      record {
        splits = λ t f noted left told fits.
            let (l, i, d, e) = ways_left t f noted left in
            splits_high t column old new here k f r.few told fits (forked_here t f left) p.0 p.1 l i h;
        near = near.1;
        others = kept;
      }

  module _ (h : (numbered_rest new p.0).least ≤ 63 - k) where
    pub chooses_both : (a ≡ b → ⊥) → (numbered_rest new p.1).least ≤ 63 - k →
        Chooses c column old new here k (record { go = p.0; later = Some p.1 })
    chooses_both u m =
        record {
          splits = λ t f noted left told fits.
              let (l, i, d, e) = ways_left t f noted left in
              let o : next_leaf (low_of f) < next_leaf (high_of f) = omega (arith, d, e, u) in
              splits_both t column old new here k f r.few told fits (forked_here t f left) p.0 p.1 l i h o near.1 m;
          near = near.0;
          others = kept;
        }

    pub chooses_low : ((a ≡ b → ⊥) → 63 - k < (numbered_rest new p.1).least) →
        Chooses c column old new here k (record { go = p.0; later = None })
    chooses_low u =
        record {
          splits = λ t f noted left told fits.
              let (l, i, d, e) = ways_left t f noted left in
              splits_low t column old new here k f r.few told fits (forked_here t f left) p.0 p.1 l i h (λ q. u (λ z. omega (arith, d, e)));
          near = near.0;
          others = kept;
        }
