-- The points of a plan, stored one behind the other and taken back. Assumes nothing.
use Prim.Native.Nat.{ℕ, suc, ◌+◌, ◌≤◌, ◌<◌}
use mathlib.Core.Path.{◌≡◌, refl, ap, ◌∙◌}
use mathlib.Core.List.{List, [], ◌∷◌, ◌++◌, append_assoc, append-nil}
use native.Mathlib.Numerals.{add-one}
use native.Mathlib.Omega.{arith}
use lib.ListN.{length, get_or, set, take, drop, length-append, length-take}
use lib.Seq.{sets, sets-eq, take_at, take-suc}
use borrow.Author.Tests.{eq-eqb, ne_eqb}
use Rattle.rows.specs.declared.Leaf.{Leaf}
use Rattle.rows.specs.Leaves.{blank_leaf}
use Rattle.reader.proofs.Stores.{sets_behind}
use Rattle.listing.specs.Private.{leaf_points, leaves_points, Collected}

-- A point has four numbers.
abbrev pub Four : List ℕ → Type 0
Four x = length x ≡ 4

-- STORED

-- The points among some leaves and those behind them.
pub points_append : (c : List ℕ) (i : ℕ) (ls ms : List Leaf) → leaves_points c i (ls ++ ms) ≡ leaves_points c i ls ++ leaves_points c (i + length ls) ms
unfolding leaves_points
points_append c i [] ms = let z : i + 0 ≡ i = omega arith in rw z refl
points_append c i (l ∷ ls) ms =
    let z : i + suc (length ls) ≡ i + 1 + length ls = omega arith in
    rw (points_append c (i + 1) ls ms, z, append_assoc) refl

-- What was stored of the first i of some leaves, whose stretches stand in the column c.
pub record First (c : List ℕ) (ls : List Leaf) (old : List (List ℕ)) (i : ℕ) (points : List (List ℕ)) (count : ℕ) : Type 0 where
  pub collected : Collected old (leaves_points c 0 (take i ls)) points count
  pub few : count ≤ i

-- Before the first leaf nothing.
pub first_none : (c : List ℕ) (ls : List Leaf) (l : List (List ℕ)) → First c ls l 0 l 0
unfolding leaves_points
first_none c ls l = record { collected = record { stored = refl; counted = refl }; few = omega arith }

-- A leaf more.
module _ {c : List ℕ} {ls : List Leaf} {l m : List (List ℕ)} {i count : ℕ} (f : First c ls l i m count) (inside : i < length ls) where
  abbrev leaf : Leaf
  leaf = get_or ls i blank_leaf

  abbrev stretch : ℕ
  stretch = get_or c i 0

  first_next : (ys : List (List ℕ)) → leaf_points i leaf stretch ≡ ys → length ys ≤ 1 → First c ls l (i + 1) (sets m count ys) (count + length ys)
  first_next ys e one =
      let us = take i ls in
      let before = leaves_points c 0 us in
      let z : 0 + length us ≡ i = omega (arith, length-take i ls) in
      let more : leaves_points c 0 (take (i + 1) ls) ≡ before ++ ys =
      rw (add-one i, take-suc ls i blank_leaf inside, points_append c 0 us (leaf ∷ []), z) (unfold leaves_points in rw (append-nil, e) refl) in
      record {
        collected = record {
          stored = rw more (ap (λ (u : List (List ℕ)). sets u count ys) f.collected.stored ∙ sets_behind before ys l 0 count (omega (arith, f.collected.counted)));
          counted = rw more (omega (arith, f.collected.counted, length-append before ys));
        };
        few = omega (arith, f.few);
      }

  -- A point is stored,
  pub first_point : leaf.point ≡ 1 → First c ls l (i + 1) (set m count (i ∷ leaf.level ∷ leaf.tail ∷ stretch ∷ [])) (count + 1)
  first_point e = first_next ((i ∷ leaf.level ∷ leaf.tail ∷ stretch ∷ []) ∷ []) (rw (eq-eqb leaf.point 1 e) refl) (omega arith)

  -- and a silent leaf is passed over.
  pub first_silent : (leaf.point ≡ 1 → ⊥) → First c ls l (i + 1) m count
  first_silent e = let z : count + 0 ≡ count = omega arith in rw z at (first_next [] (rw (ne_eqb leaf.point 1 e) refl) (omega arith))

-- TAKEN BACK

-- What was stored at the beginning is taken from there.
pub stored_back : (ps l : List (List ℕ)) → length ps ≤ length l → take (length ps) (sets l 0 ps) ≡ ps
stored_back ps l h = ap (λ (u : List (List ℕ)). take (length ps) u) (sets-eq ps l 0 (omega arith)) ∙ take_at ps (drop (0 + length ps) l) (length ps) refl
