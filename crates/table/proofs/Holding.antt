-- Numbers that stand in a column, one for each leaf: of lines, and of functions one after the other. Plain mathematics: no code is named here.
-- Assumes nothing.
use mathlib.Core.List.{List, [], ◌∷◌, ◌++◌, map, map-append}
use mathlib.Core.Path.{◌≡◌, refl, sym, ap, ◌∙◌}
use Prim.Native.Nat.{ℕ, zero, suc, ◌+◌, ◌≤◌, ◌<◌}
use native.Mathlib.Nat.{not-suc-le-zero, le_of_suc-le-suc}
use native.Mathlib.Omega.{arith}
use lib.ListN.{length, get_or, take, length-append, length-map, length-take}
use lib.Seq.{length-take-le, get_or-take, ext_get_or}
use Rattle.model.specs.Plan.{Block, Lines, close, leaf_line, call_line, loop_line, if_line, leaves}
use Rattle.model.specs.Runs.{Among}
use Rattle.model.specs.Acceptance.{size, sizes}
use Rattle.model.proofs.Among.{among_first, among_later, among_left, among_right}
use Rattle.rows.specs.Rows.{other_at, after_at, Rep}
use Rattle.rows.specs.Plans.{Lies}
use Rattle.rows.proofs.Measures.{rep_size}
use Rattle.columns.specs.Columns.{Contains}
use Rattle.columns.proofs.Stores.{contains_append, contains_both}

-- NUMBERS IN A COLUMN

-- One of the numbers that stand in a column.
holds_at : (xs o : List ℕ) (i j : ℕ) → Contains o i xs → j < length xs → get_or o (i + j) 0 ≡ get_or xs j 0
unfolding Contains
holds_at [] o i j h lt = absurd (not-suc-le-zero lt)
holds_at (x ∷ xs) o i zero h lt = let z : i + 0 ≡ i = omega arith in rw z h.0
holds_at (x ∷ xs) o i (suc j) h lt = let z : i + suc j ≡ suc i + j = omega arith in rw z (holds_at xs o (suc i) j h.1 (le_of_suc-le-suc lt))

-- The numbers that stand at one place are the same, if they are as many.
pub holds_one : (xs ys o : List ℕ) (i : ℕ) → Contains o i xs → Contains o i ys → length xs ≡ length ys → xs ≡ ys
unfolding Contains
holds_one [] [] o i h k e = refl
holds_one [] (y ∷ ys) o i h k e = absurd (omega arith)
holds_one (x ∷ xs) [] o i h k e = absurd (omega arith)
holds_one (x ∷ xs) (y ∷ ys) o i h k e = rw (sym h.0 ∙ k.0, holds_one xs ys o (suc i) h.1 k.1 (omega arith))

-- Numbers stand in a column that has each of them at its place.
holds_from : (xs o : List ℕ) (i : ℕ) → ((j : ℕ) → j < length xs → get_or o (i + j) 0 ≡ get_or xs j 0) → Contains o i xs
unfolding Contains
holds_from [] o i h = tt
holds_from (x ∷ xs) o i h =
    let z : i + 0 ≡ i = omega arith in
    (rw z at (h 0 (omega arith)), holds_from xs o (suc i) (λ j lt. let y : i + suc j ≡ suc i + j = omega arith in rw y at (h (suc j) (omega arith))))

-- A column that holds numbers from its beginning on begins with them.
holds_take : (xs o : List ℕ) (n : ℕ) → Contains o 0 xs → length xs ≡ n → n ≤ length o → take n o ≡ xs
holds_take xs o n h e le =
    let k : length (take n o) ≡ n = length-take-le n o le in
    ext_get_or 0 (take n o) xs (k ∙ sym e)
    (λ j lt. let z : 0 + j ≡ j = omega arith in get_or-take n o j 0 (omega arith) ∙ (rw z at (holds_at xs o 0 j h (omega arith))))

-- And one that begins with them holds them.
take_holds : (xs o : List ℕ) (n : ℕ) → take n o ≡ xs → Contains o 0 xs
take_holds xs o n e =
    holds_from xs o 0
    (λ j lt.
    let k = length-take n o in
    let m = ap length e in
    let z : 0 + j ≡ j = omega arith in
    rw z (sym (get_or-take n o j 0 (omega arith)) ∙ ap (λ (l : List ℕ). get_or l j 0) e))

-- LEAVES

-- The leaves are as many as the size says.
pub leaves_size : (l : Lines) → length (leaves l) ≡ size l
unfolding leaves size
leaves_size close = refl
leaves_size (leaf_line b r) = omega (arith, leaves_size r)
leaves_size (call_line b f r) = omega (arith, leaves_size r)
leaves_size (loop_line b n body r) = omega (arith, length-append (leaves body) (leaves r), leaves_size body, leaves_size r)
leaves_size (if_line b t e r) =
    omega (arith, length-append (leaves t) (leaves e ++ leaves r), length-append (leaves e) (leaves r), leaves_size t, leaves_size e, leaves_size r)

-- A column has the number `g b` at the place of each leaf b.
abbrev pub Marks : (Block → ℕ) → List ℕ → List Block → Type 0
Marks g o bs = (b : Block) → Among b bs → get_or o b.number 0 ≡ g b

module _ (g : Block → ℕ) (o : List ℕ) where
  -- One number for each leaf.
  marks_size : (l : Lines) → length (map g (leaves l)) ≡ size l
  marks_size l = length-map (leaves l) g ∙ leaves_size l

  -- The number of the first leaf, of the others, and of the parts.
  first_mark : (b : Block) (i : ℕ) (bs : List Block) → b.number ≡ i → Marks g o (b ∷ bs) → get_or o i 0 ≡ g b
  first_mark b i bs e h = ap (λ (k : ℕ). get_or o k 0) (sym e) ∙ h b (among_first b b bs refl)

  marks_later : (b : Block) (bs : List Block) → Marks g o (b ∷ bs) → Marks g o bs
  marks_later b bs h c m = h c (among_later c b bs m)

  marks_left : (x y : List Block) → Marks g o (x ++ y) → Marks g o x
  marks_left x y h c m = h c (among_left c x y m)

  marks_right : (x y : List Block) → Marks g o (x ++ y) → Marks g o y
  marks_right x y h c m = h c (among_right c x y m)

  -- The numbers of the leaves of lines that lie in a row stand in the column, in text order.
  pub leaves_hold : (w : List ℕ) (l : Lines) (v i e : ℕ) → Rep w v i e l → Marks g o (leaves l) → Contains o i (map g (leaves l))
  unfolding Contains Rep leaves
  leaves_hold w close v i e h m = tt
  leaves_hold w (leaf_line b r) v i e h m =
      let z : after_at w i ≡ suc i = omega arith in
      (first_mark b i (leaves r) (ap (λ (y : Block). y.number) h.0.1) m, leaves_hold w r v (suc i) e (rw z at h.4) (marks_later b (leaves r) m))
  leaves_hold w (call_line b f r) v i e h m =
      let z : after_at w i ≡ suc i = omega arith in
      (first_mark b i (leaves r) (ap (λ (y : Block). y.number) h.0.1) m, leaves_hold w r v (suc i) e (rw z at h.4) (marks_later b (leaves r) m))
  leaves_hold w (loop_line b n body r) v i e h m =
      let z : i + 1 ≡ suc i = omega arith in
      let k = marks_later b (leaves body ++ leaves r) m in (
        first_mark b i (leaves body ++ leaves r) (ap (λ (y : Block). y.number) h.0.1) m,
        rw (map-append g (leaves body) (leaves r))
            (contains_both (map g (leaves body)) (map g (leaves r)) o (suc i) (after_at w i)
            (omega (arith, rep_size w body (suc v) (i + 1) (after_at w i) h.3, marks_size body))
            (leaves_hold w body (suc v) (suc i) (after_at w i) (rw z at h.3) (marks_left (leaves body) (leaves r) k))
            (leaves_hold w r v (after_at w i) e h.4 (marks_right (leaves body) (leaves r) k))),
      )
  leaves_hold w (if_line b t s r) v i e h m =
      let z : i + 1 ≡ suc i = omega arith in
      let k = marks_later b (leaves t ++ (leaves s ++ leaves r)) m in
      let j = marks_right (leaves t) (leaves s ++ leaves r) k in (
        first_mark b i (leaves t ++ (leaves s ++ leaves r)) (ap (λ (y : Block). y.number) h.0.1) m,
        rw (map-append g (leaves t) (leaves s ++ leaves r), map-append g (leaves s) (leaves r))
            (contains_both (map g (leaves t)) (map g (leaves s) ++ map g (leaves r)) o (suc i) (other_at w i)
            (omega (arith, rep_size w t v (i + 1) (other_at w i) h.2, marks_size t))
            (leaves_hold w t v (suc i) (other_at w i) (rw z at h.2) (marks_left (leaves t) (leaves s ++ leaves r) k))
            (contains_both (map g (leaves s)) (map g (leaves r)) o (other_at w i) (after_at w i)
            (omega (arith, rep_size w s v (other_at w i) (after_at w i) h.3, marks_size s))
            (leaves_hold w s v (other_at w i) (after_at w i) h.3 (marks_left (leaves s) (leaves r) j))
            (leaves_hold w r v (after_at w i) e h.4 (marks_right (leaves s) (leaves r) j)))),
      )

-- FUNCTIONS ONE AFTER THE OTHER

-- A column of all functions is that of each, one after the other, with a number for each leaf.
pub record Joins (part : Lines → List ℕ) (all : List Lines → List ℕ) : Type 0 where
  pub none : all [] ≡ []
  pub more : (l : Lines) (ls : List Lines) → all (l ∷ ls) ≡ part l ++ all ls
  pub each : (l : Lines) → length (part l) ≡ size l

module _ {part : Lines → List ℕ} {all : List Lines → List ℕ} (j : Joins part all) where
  -- A number for each leaf of all functions.
  pub joined_size : (ls : List Lines) → length (all ls) ≡ sizes ls
  unfolding sizes
  joined_size [] = rw j.none
  joined_size (l ∷ ls) = rw (j.more l ls) (omega (arith, length-append (part l) (all ls), j.each l, joined_size ls))

  -- If each function's numbers stand at its bound, all stand there.
  joined_hold :
      (w s o : List ℕ) (ls : List Lines) (f : ℕ) → Lies w s f ls
      → ((k : ℕ) → k < length ls → Contains o (get_or s (f + k) 0) (part (get_or ls k close))) → Contains o (get_or s f 0) (all ls)
  unfolding Lies Contains
  joined_hold w s o [] f h e = rw j.none tt
  joined_hold w s o (l ∷ ls) f h e =
      let z : f + 0 ≡ f = omega arith in
      rw (j.more l ls)
      (contains_both (part l) (all ls) o (get_or s f 0) (get_or s (f + 1) 0)
      (omega (arith, rep_size w l 1 (get_or s f 0) (get_or s (f + 1) 0) h.0, j.each l)) (rw z at (e 0 (omega arith)))
      (joined_hold w s o ls (f + 1) h.1
      (λ k lt. let y : f + suc k ≡ f + 1 + k = omega arith in rw y at (e (suc k) (omega arith)))))

  -- So a column that has them begins with the numbers of all functions.
  pub joined_take :
      (w s o : List ℕ) (ls : List Lines) → Lies w s 0 ls → get_or s 0 0 ≡ 0 → sizes ls ≤ length o
      → ((k : ℕ) → k < length ls → Contains o (get_or s k 0) (part (get_or ls k close))) → take (sizes ls) o ≡ all ls
  joined_take w s o ls h first le e =
      let k : Contains o (get_or s 0 0) (all ls) =
      joined_hold w s o ls 0 h (λ k lt. let z : 0 + k ≡ k = omega arith in rw z (e k lt)) in
      holds_take (all ls) o (sizes ls) (rw first at k) (joined_size ls) le

  -- And where it begins with them, each function's numbers stand at its bound.
  joined_parts :
      (w s o : List ℕ) (ls : List Lines) (f : ℕ) → Lies w s f ls → Contains o (get_or s f 0) (all ls)
      → (k : ℕ) → k < length ls → Contains o (get_or s (f + k) 0) (part (get_or ls k close))
  unfolding Lies
  joined_parts w s o [] f h e k lt = absurd (not-suc-le-zero lt)
  joined_parts w s o (l ∷ ls) f h e k lt =
      let a = contains_append (part l) (all ls) o (get_or s f 0) (get_or s (f + 1) 0) (rw (j.more l ls) at e)
      (omega (arith, rep_size w l 1 (get_or s f 0) (get_or s (f + 1) 0) h.0, j.each l)) in
      by k lt a.0 (joined_parts w s o ls (f + 1) h.1 a.1)
    where
      by : (k : ℕ) → k < suc (length ls) → Contains o (get_or s f 0) (part l)
          → ((m : ℕ) → m < length ls → Contains o (get_or s (f + 1 + m) 0) (part (get_or ls m close)))
          → Contains o (get_or s (f + k) 0) (part (get_or (l ∷ ls) k close))
      by zero lt a b = let z : f + 0 ≡ f = omega arith in rw z a
      by (suc m) lt a b = let z : f + suc m ≡ f + 1 + m = omega arith in rw z (b m (le_of_suc-le-suc lt))

  pub joined_part :
      (w s o : List ℕ) (ls : List Lines) → Lies w s 0 ls → get_or s 0 0 ≡ 0 → take (sizes ls) o ≡ all ls
      → (k : ℕ) → k < length ls → Contains o (get_or s k 0) (part (get_or ls k close))
  joined_part w s o ls h first e k lt =
      let z : 0 + k ≡ k = omega arith in
      rw z at (joined_parts w s o ls 0 h (rw first (take_holds (all ls) o (sizes ls) e)) k lt)

  -- It is then long enough.
  pub joined_long : (o : List ℕ) (ls : List Lines) → take (sizes ls) o ≡ all ls → sizes ls ≤ length o
  joined_long o ls e = omega (arith, length-take (sizes ls) o, ap length e, joined_size ls)
