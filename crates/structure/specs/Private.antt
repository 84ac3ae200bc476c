-- What only the private functions promise. Nothing of this stands in the contract of a public one.
-- Assumes nothing: these are definitions.
use Rattle.std.specs.Prelude.{ℕ, ◌+◌, ◌≤◌, ◌<◌, ◌≡◌, List, length, get_or, eqb, Bool, true, false, ◌⊎◌}
use Rattle.model.specs.Acceptance.{Costs, Ranged}
use Rattle.rows.specs.Rows.{kind_at, point_at, detail_at, other_at, after_at, level_at, block_at, Part, Rep}
use Rattle.model.specs.Places.{pick}
use Rattle.model.specs.Plan.{Lines}
use Rattle.model.specs.Forms.{Forms, done, Has}
use Rattle.rows.specs.Answers.{Says}

-- The record's block: a point is 1 and a silent leaf 0, and the costs keep rules 3, 5 and 19.
pub record BlockRight (w : List ℕ) (i : ℕ) : Type 0 where
  pub mark : point_at w i ≤ 1
  pub costs : Costs (block_at w i)

-- The record stands at level l, which is at most 32, and its form ends after it begins and by e.
pub record PlaceRight (w : List ℕ) (l i e : ℕ) : Type 0 where
  pub level : level_at w i ≡ l
  pub low : l ≤ 32
  pub grows : i < after_at w i
  pub inside : after_at w i ≤ e

-- A leaf uses no field, and ends at the next record.
pub record LeafRight (w : List ℕ) (i : ℕ) : Type 0 where
  pub no_detail : detail_at w i ≡ 0
  pub no_other : other_at w i ≡ 0
  pub next : after_at w i ≡ i + 1

-- A call names a function before its own, whose levels fit over its own level.
pub record CallRight (w hs : List ℕ) (l i : ℕ) : Type 0 where
  pub few : detail_at w i ≤ 15
  pub before : detail_at w i < length hs
  pub levels : l + get_or hs (detail_at w i) 0 ≤ 32
  pub no_other : other_at w i ≡ 0
  pub next : after_at w i ≡ i + 1

-- A loop has a bound from 1 to 65,535, and a bracket is left for it.
pub record LoopRight (w : List ℕ) (left i : ℕ) : Type 0 where
  pub least : 1 ≤ detail_at w i
  pub most : detail_at w i ≤ 65535
  pub opens : 1 ≤ left
  pub no_other : other_at w i ≡ 0

-- An if has its parts one after the other within it, and two brackets are left for it.
pub record IfRight (w : List ℕ) (left i : ℕ) : Type 0 where
  pub no_detail : detail_at w i ≡ 0
  pub opens : 2 ≤ left
  pub starts : i < other_at w i
  pub ends : other_at w i ≤ after_at w i

-- The record is what one of its kind must be.
pub record Sound (w hs : List ℕ) (left l i e : ℕ) : Type 0 where
  pub priced : BlockRight w i
  pub placed : PlaceRight w l i e
  pub kinds : kind_at w i ≤ 3
  pub leaf : kind_at w i ≡ 0 → LeafRight w i
  pub call : kind_at w i ≡ 1 → CallRight w hs l i
  pub loop : kind_at w i ≡ 2 → LoopRight w left i
  pub cond : kind_at w i ≡ 3 → IfRight w left i

-- The record is the first of one whole form, which ends by e.
pub record WholeForm (w hs : List ℕ) (left l i e : ℕ) : Type 0 where
  pub part : Part w hs left l i (after_at w i)
  pub grows : i < after_at w i
  pub inside : after_at w i ≤ e

-- The level of the record i and, where it is a call, of what it calls, hs being the heights of the functions before.
unfoldable pub top : List ℕ → List ℕ → ℕ → ℕ
top w hs i = level_at w i + pick (eqb (kind_at w i) 1) (get_or hs (detail_at w i) 0) 0

-- The code that reads how high the record i reaches may do so: a call names a function before, and no level is over 32.
pub record Readable (w hs : List ℕ) (i : ℕ) : Type 0 where
  pub low : level_at w i ≤ 32
  pub known : kind_at w i ≡ 1 → detail_at w i < length hs
  pub levels : kind_at w i ≡ 1 → level_at w i + get_or hs (detail_at w i) 0 ≤ 32

-- The records from i up to e are the lines of function number k, and keep rules 3, 5, 19 and 6.
pub record Text (w : List ℕ) (k i e : ℕ) : Type 0 where
  pub lines : Lines
  pub rep : Rep w 1 i e lines
  pub ranged : Ranged k lines

-- The forms have a point, inside them or in what they call.
abbrev pub Pointed : Forms → Type 0
Pointed fs = (n : ℕ) × Has n fs

-- The flags say of each of these functions whether it has a point.
pub record Flags (has : List Bool) (fs : List Forms) : Type 0 where
  pub count : length has ≡ length fs
  pub flags : (f : ℕ) → f < length fs → Says (get_or has f false) (Pointed (get_or fs f done))

-- The record i is a point, or it calls a function that has one.
abbrev pub HasPoint : List ℕ → List Bool → ℕ → Type 0
HasPoint w has i = (point_at w i ≡ 1) ⊎ ((kind_at w i ≡ 1) × (get_or has (detail_at w i) false ≡ true))

-- Where the record i is a silent loop, its end, and else 0: no record between may have a point.
unfoldable pub silent_end : List ℕ → ℕ → ℕ
silent_end w i = pick (eqb (point_at w i) 0) (pick (eqb (kind_at w i) 2) (after_at w i) 0) 0

-- A record with a point may stand at i, where silent loops reach up to `until`.
abbrev pub Allowed : List ℕ → List Bool → ℕ → ℕ → Type 0
Allowed w has until i = HasPoint w has i → (until ≤ i) × (point_at w i ≡ 1)
