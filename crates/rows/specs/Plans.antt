-- Functions in a row: whether a row of numbers, with these function bounds, is the raw row of a plan. Assumes nothing: these are definitions.
use Rattle.std.specs.Prelude.{ℕ, ◌+◌, ◌*◌, ◌≤◌, ◌<◌, ◌≡◌, List, [], ◌∷◌, length, get_or}
use Rattle.model.specs.Plan.{Lines, close, Plan}
use Rattle.model.specs.Acceptance.{Functions, sizes}
use Rattle.rows.specs.declared.Code.{Code}
use Rattle.rows.specs.Leaves.{numbers}
use Rattle.rows.specs.Rows.{Rep}

-- The functions from number f on lie one after the other: the function f from its bound up to the next.
unfoldable pub Lies : List ℕ → List ℕ → ℕ → List Lines → Type 0
Lies w s f [] = Unit {0}
Lies w s f (l ∷ ls) = Rep w 1 (get_or s f 0) (get_or s (f + 1) 0) l × Lies w s (f + 1) ls

-- The bounds of n functions: the first is 0, the last is the number of leaves, which the row holds, and those behind it are 0.
pub record Bounds (w s : List ℕ) (n : ℕ) : Type 0 where
  pub some : 1 ≤ n
  pub few : n ≤ 16
  pub first : get_or s 0 0 ≡ 0
  pub leaves : get_or s n 0 ≤ 512
  pub held : get_or s n 0 * 8 ≤ length w
  pub unused : (f : ℕ) → n < f → f ≤ 16 → get_or s f 0 ≡ 0

-- The row with these bounds is that of n functions that keep rules 3 to 7 and 19.
pub record PlanOf (w s : List ℕ) (n : ℕ) : Type 0 where
  pub functions : List Lines
  pub count : length functions ≡ n
  pub bounds : Bounds w s n
  pub lie : Lies w s 0 functions
  pub kept : Functions [] 0 functions
  pub small : sizes functions ≤ 512

-- The same of a code that is lent.
abbrev pub CodePlan : Code → Type 0
CodePlan c = PlanOf (numbers c.row.now) c.bounds.now c.functions

-- The lines of its function number f.
abbrev pub lines_of : {w s : List ℕ} {n : ℕ} → PlanOf w s n → ℕ → Lines
lines_of p f = get_or p.functions f close

-- The plan lies in the row with these bounds: its functions from leaf 0 on, one after the other, and the row has all their records.
pub record PlanIn (w s : List ℕ) (p : Plan) : Type 0 where
  pub fits : length p.functions < length s
  pub first : get_or s 0 0 ≡ 0
  pub lie : Lies w s 0 p.functions
  pub held : get_or s (length p.functions) 0 * 8 ≤ length w
