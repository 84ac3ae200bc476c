-- How the lines of a function lie in a row of numbers: a record of eight for each leaf, in text order. Every unused field is 0.
-- Assumes nothing: these are definitions.
use Rattle.std.specs.Prelude.{ℕ, suc, ◌+◌, ◌-◌, ◌*◌, ◌≤◌, ◌<◌, ◌≡◌, List, eqb, length, get_or}
use Rattle.model.specs.Plan.{Block, Lines, close, leaf_line, call_line, loop_line, if_line}
use Rattle.model.specs.Acceptance.{Costs}

-- Field f of the record i.
abbrev pub field : List ℕ → ℕ → ℕ → ℕ
field w i f = get_or w (i * 8 + f) 0

-- Its fields: the kind of its form (0 leaf, 1 call, 2 loop, 3 if), 1 for a point and 0 for a silent leaf, the isolated cost C and the max-load cost M,
-- the bound of a loop or the function that a call names, the first leaf of the else part of an if, the first leaf after the form, and the level in
-- its own function.
abbrev pub kind_at : List ℕ → ℕ → ℕ
kind_at w i = field w i 0

abbrev pub point_at : List ℕ → ℕ → ℕ
point_at w i = field w i 1

abbrev pub isolated_at : List ℕ → ℕ → ℕ
isolated_at w i = field w i 2

abbrev pub max_load_at : List ℕ → ℕ → ℕ
max_load_at w i = field w i 3

abbrev pub detail_at : List ℕ → ℕ → ℕ
detail_at w i = field w i 4

abbrev pub other_at : List ℕ → ℕ → ℕ
other_at w i = field w i 5

abbrev pub after_at : List ℕ → ℕ → ℕ
after_at w i = field w i 6

abbrev pub level_at : List ℕ → ℕ → ℕ
level_at w i = field w i 7

-- The block of the record i; its number is its place.
abbrev pub block_at : List ℕ → ℕ → Block
block_at w i = record { number = i; point = eqb (point_at w i) 1; isolated = isolated_at w i; max_load = max_load_at w i }

-- The record i is of this kind and level, and of this block.
abbrev pub RecordIs : List ℕ → ℕ → ℕ → ℕ → Block → Type 0
RecordIs w l i k b = (kind_at w i ≡ k) × (b ≡ block_at w i) × (point_at w i ≤ 1) × (level_at w i ≡ l)

-- The records from i up to e are these lines, at level l. Every unused field is 0.
unfoldable pub Rep : List ℕ → ℕ → ℕ → ℕ → Lines → Type 0
Rep w l i e close = i ≡ e
Rep w l i e (leaf_line b r) = RecordIs w l i 0 b × (detail_at w i ≡ 0) × (other_at w i ≡ 0) × (after_at w i ≡ i + 1) × Rep w l (after_at w i) e r
Rep w l i e (call_line b f r) = RecordIs w l i 1 b × (detail_at w i ≡ f) × (other_at w i ≡ 0) × (after_at w i ≡ i + 1) × Rep w l (after_at w i) e r
Rep w l i e (loop_line b n body r) =
    RecordIs w l i 2 b × (detail_at w i ≡ n) × (other_at w i ≡ 0) × Rep w (suc l) (i + 1) (after_at w i) body × Rep w l (after_at w i) e r
Rep w l i e (if_line b t s r) =
    RecordIs w l i 3 b × (detail_at w i ≡ 0) × Rep w l (i + 1) (other_at w i) t × Rep w l (other_at w i) (after_at w i) s × Rep w l (after_at w i) e r

-- What rules 3, 5, 19, 6 and 7 ask of lines at level l, where `left` brackets may still open and hs are the heights of the functions before.
unfoldable pub Rules : List ℕ → ℕ → ℕ → Lines → Type 0
Rules hs left l close = Unit {0}
Rules hs left l (leaf_line b r) = Costs b × (l ≤ 32) × Rules hs left l r
Rules hs left l (call_line b f r) = Costs b × (f ≤ 15) × (f < length hs) × (l + get_or hs f 0 ≤ 32) × Rules hs left l r
Rules hs left l (loop_line b n body r) =
    Costs b × (1 ≤ n) × (n ≤ 65535) × (l ≤ 32) × (1 ≤ left) × Rules hs (left - 1) (suc l) body × Rules hs left l r
Rules hs left l (if_line b t s r) = Costs b × (l ≤ 32) × (2 ≤ left) × Rules hs (left - 2) l t × Rules hs (left - 2) l s × Rules hs left l r

-- The records from i up to e are lines that keep these rules.
pub record Part (w hs : List ℕ) (left l i e : ℕ) : Type 0 where
  pub lines : Lines
  pub rep : Rep w l i e lines
  pub rules : Rules hs left l lines

-- The same at some level and behind functions of some heights.
pub record Piece (w : List ℕ) (left i e : ℕ) : Type 0 where
  pub heights : List ℕ
  pub level : ℕ
  pub part : Part w heights left level i e
