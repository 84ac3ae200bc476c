-- Behind a visit the short runs split: those on the way that opens with the lower leaf number come first, then those on the other. Two ways that open alike
-- are the same forms and count once; a way on which no run ends within so many visits has no short run.
use mathlib.Core.Bool.{Bool, true, false}
use mathlib.Core.List.{List, [], ◌++◌, append-nil}
use mathlib.Core.Path.{◌≡◌, refl, ap, sym, ◌∙◌}
use Prim.Native.Nat.{ℕ, suc, ◌+◌, ◌≤◌, ◌<◌, min}
use native.Mathlib.Omega.{arith}
use lib.Dec.{eqb, ltb}
use borrow.Author.Tests.{eqb-true, eqb-false, ltb-true, ltb-false, lt-ltb, le-ltb}
use Rattle.model.specs.Plan.{Block}
use Rattle.model.specs.Forms.{Forms}
use Rattle.model.specs.Places.{pick}
use Rattle.short_runs.specs.Listing.{one, two, ways, next_leaf, in_front, ordered, short_runs, least, lower, higher}
use Rattle.short_runs.specs.Told.{NumbersTell}
use Rattle.short_runs.proofs.Told.{WaysTell, told_ways}
use Rattle.short_runs.proofs.Least.{least_way, least_ways, none_listed}

listed_one : (k : ℕ) (fs : Forms) (b : Block) (f : Forms) → ways fs ≡ one b f → short_runs (suc k) fs ≡ in_front b (short_runs k f)
unfolding short_runs
listed_one k fs b f e = rw e

-- The two ways in order: they are the same, or the lower opens with a lower number.
data Order (k : ℕ) (f g : Forms) (ws : List (List Block)) : Type 0 where
  same : lower f g ≡ higher f g → ws ≡ short_runs k (lower f g) → Order k f g ws
  apart : next_leaf (lower f g) < next_leaf (higher f g) → ws ≡ short_runs k (lower f g) ++ short_runs k (higher f g) → Order k f g ws

order : (k : ℕ) (f g : Forms) → (next_leaf f ≡ next_leaf g → f ≡ g) → Order k f g (ordered (next_leaf f) (next_leaf g) (short_runs k f) (short_runs k g))
order k f g h = by (eqb (next_leaf f) (next_leaf g)) (ltb (next_leaf f) (next_leaf g)) (ltb (next_leaf g) (next_leaf f)) refl refl refl
  where
    by : (p q r : Bool) → eqb (next_leaf f) (next_leaf g) ≡ p → ltb (next_leaf f) (next_leaf g) ≡ q → ltb (next_leaf g) (next_leaf f) ≡ r →
        Order k f g (pick p (short_runs k f) (pick q (short_runs k f ++ short_runs k g) (short_runs k g ++ short_runs k f)))
    by true q r x y z =
        let e : next_leaf f ≡ next_leaf g = eqb-true (next_leaf f) (next_leaf g) x in
        let o : ltb (next_leaf g) (next_leaf f) ≡ false = le-ltb (next_leaf g) (next_leaf f) (omega arith) in
        same (rw o (h e)) (rw o)
    by false true r x y z =
        let l : next_leaf f < next_leaf g = ltb-true (next_leaf f) (next_leaf g) y in
        let o : ltb (next_leaf g) (next_leaf f) ≡ false = le-ltb (next_leaf g) (next_leaf f) (omega arith) in
        apart (rw o l) (rw o)
    by false false r x y z =
        let d : ¬ (next_leaf f ≡ next_leaf g) = eqb-false (next_leaf f) (next_leaf g) x in
        let u : next_leaf g ≤ next_leaf f = ltb-false (next_leaf f) (next_leaf g) y in
        let l : next_leaf g < next_leaf f = omega arith in
        let o : ltb (next_leaf g) (next_leaf f) ≡ true = lt-ltb (next_leaf g) (next_leaf f) l in
        apart (rw o l) (rw o)

-- What is known behind a visit with a choice.
listed_two : (k : ℕ) (fs : Forms) (b : Block) (f g : Forms) → NumbersTell fs → ways fs ≡ two b f g →
    (ws : List (List Block)) × (short_runs (suc k) fs ≡ in_front b ws) × Order k f g ws
unfolding short_runs WaysTell
listed_two k fs b f g t e =
    let c : WaysTell (two b f g) = rw e at (told_ways fs t) in
    (ordered (next_leaf f) (next_leaf g) (short_runs k f) (short_runs k g), rw e, order k f g (c.2))

-- Of the two ways the shorter has as many visits at least, however they are ordered.
least_order : (f g : Forms) → min (least (lower f g)) (least (higher f g)) ≡ min (least f) (least g)
least_order f g = by (ltb (next_leaf g) (next_leaf f))
  where
    by : (p : Bool) → min (least (pick p g f)) (least (pick p f g)) ≡ min (least f) (least g)
    by true = omega arith
    by false = omega arith

-- Behind a visit of b the short runs with at most j more visits are those of the forms g, and then ws.
pub record Split (j : ℕ) (f : Forms) (b : Block) (g : Forms) (ws : List (List Block)) : Type 0 where
  pub told : NumbersTell g
  pub fits : least g ≤ j
  pub runs : short_runs (suc j) f ≡ in_front b (short_runs j g ++ ws)

alone : (j : ℕ) (f : Forms) (b : Block) (us vs : List (List Block)) → short_runs (suc j) f ≡ in_front b us → us ≡ vs →
    short_runs (suc j) f ≡ in_front b (vs ++ [])
alone j f b us vs x e = x ∙ (ap (in_front b) e ∙ sym (ap (in_front b) (append-nil vs)))

pub split_one : (j : ℕ) (f : Forms) (b : Block) (g : Forms) → NumbersTell f → least f ≤ suc j → ways f ≡ one b g → Split j f b g []
unfolding WaysTell least_way
split_one j f b g t l e =
    let c : WaysTell (one b g) = rw e at (told_ways f t) in
    let m : least f ≡ 1 + least g = rw e at (least_ways f) in
    record { told = c; fits = omega arith; runs = alone j f b (short_runs j g) (short_runs j g) (listed_one j f b g e) refl }

told_pick : (f g : Forms) → NumbersTell f → NumbersTell g → (p : Bool) → NumbersTell (pick p f g)
told_pick f g x y true = x
told_pick f g x y false = y

-- Where there is a choice.
module _ (j : ℕ) (f : Forms) (b : Block) (x y : Forms) (t : NumbersTell f) (e : ways f ≡ two b x y) where
  told_low : NumbersTell (lower x y)
  unfolding WaysTell
  told_low = let c : WaysTell (two b x y) = rw e at (told_ways f t) in told_pick y x (c.1) (c.0) (ltb (next_leaf y) (next_leaf x))

  pub told_high : NumbersTell (higher x y)
  unfolding WaysTell
  told_high = let c : WaysTell (two b x y) = rw e at (told_ways f t) in told_pick x y (c.0) (c.1) (ltb (next_leaf y) (next_leaf x))

  -- Both ways have short runs, and open with different leaves.
  pub split_both : least (lower x y) ≤ j → next_leaf (lower x y) < next_leaf (higher x y) → Split j f b (lower x y) (short_runs j (higher x y))
  split_both l d =
      let (vs, z, o) = listed_two j f b x y t e in
      record { told = told_low; fits = l; runs = z ∙ ap (in_front b) (by vs o) }
    where
      by : (vs : List (List Block)) → Order j x y vs → vs ≡ short_runs j (lower x y) ++ short_runs j (higher x y)
      by vs (same h i) = absurd (omega (arith, ap next_leaf h))
      by vs (apart h i) = i

  -- They open with the same leaf, or no run on the other way ends within so many visits.
  pub split_low : least (lower x y) ≤ j → (next_leaf (lower x y) < next_leaf (higher x y) → j < least (higher x y)) → Split j f b (lower x y) []
  split_low l d =
      let (vs, z, o) = listed_two j f b x y t e in
      record { told = told_low; fits = l; runs = alone j f b vs (short_runs j (lower x y)) z (by vs o) }
    where
      by : (vs : List (List Block)) → Order j x y vs → vs ≡ short_runs j (lower x y)
      by vs (same h i) = i
      by vs (apart h i) = i ∙ (ap (λ l. short_runs j (lower x y) ++ l) (none_listed j (higher x y) (d h)) ∙ append-nil (short_runs j (lower x y)))

  -- No run on the way that opens with the lower leaf ends within so many visits.
  pub split_high : least f ≤ suc j → j < least (lower x y) → Split j f b (higher x y) []
  unfolding least_way
  split_high l d =
      let (vs, z, o) = listed_two j f b x y t e in
      let m : least f ≡ 1 + min (least x) (least y) = rw e at (least_ways f) in
      let i : least (higher x y) ≤ j = omega (arith, least_order x y) in
      record { told = told_high; fits = i; runs = alone j f b vs (short_runs j (higher x y)) z (by vs o i) }
    where
      by : (vs : List (List Block)) → Order j x y vs → least (higher x y) ≤ j → vs ≡ short_runs j (higher x y)
      by vs (same h i) k = absurd (omega (arith, ap least h))
      by vs (apart h i) k = i ∙ ap (λ l. l ++ short_runs j (higher x y)) (none_listed j (lower x y) d)
