-- The same of lent code, a place and a row of leaf records: what the contracts say over lists of numbers. Assumes nothing: these are definitions.
use Rattle.std.specs.Prelude.{ℕ, ◌-◌, ◌≤◌, Bool, List, get_or}
use Rattle.std.proofs.Math.Option.{Option}
use Rattle.model.specs.Forms.{Forms, done}
use Rattle.model.specs.Stack.{Levels}
use Rattle.rows.specs.declared.Leaf.{Leaf}
use Rattle.rows.specs.declared.Code.{Code}
use Rattle.rows.specs.Leaves.{numbers, lent_turns, lent_tails}
use Rattle.place.specs.declared.Place.{Place}
use Rattle.place.specs.Stack.{FunctionTable, Decoded, Decodes, NextStack}
use Rattle.place.specs.Times.{CostedStack, Clocked}

-- The table of the code.
abbrev pub CodeTable : Code → Type 0
CodeTable c = FunctionTable (numbers c.row.now) c.bounds.now c.functions

-- The forms of a table's main function.
abbrev pub main_forms : {w starts : List ℕ} {n : ℕ} → FunctionTable w starts n → Forms
main_forms {n = n} p = get_or p.funs (n - 1) done

-- The place decodes to levels of the code's main function, and its level is one of the 32.
pub record PlaceDecoded (c : Code) (p : Place) : Type 0 where
  pub least : 1 ≤ p.level
  pub most : p.level ≤ 32
  pub decoded : Decoded (numbers c.row.now) c.bounds.now c.functions p.leaves p.earlier p.level

-- The place is one of some run of main.
abbrev pub PlaceDecodes : Code → Forms → Place → Type 0
PlaceDecodes c main p = Decodes (numbers c.row.now) main p.leaves p.earlier p.level

-- The place was moved on to that of the levels o, over its own arrays (true); or there is no such place, and it is as it was.
abbrev pub NextPlace : Code → Forms → Option Levels → Place → ℕ → Bool → Place → Type 0
NextPlace c main o old x moved new = NextStack (numbers c.row.now) main o old x moved new

-- The place decodes at one of the 32 levels, and the tails and turns in the code's leaves and these totals are those of the plan.
pub record PlaceCosted (c : Code) (totals : List ℕ) (p : Place) : Type 0 where
  pub least : 1 ≤ p.level
  pub most : p.level ≤ 32
  pub costed : CostedStack (numbers c.row.now) (lent_tails c.row.now) (lent_turns c.row.now) totals p.leaves p.earlier c.functions p.level

-- The same of a row of leaves, with the remaining times of the levels below the place's own.
pub record PlaceClocked (row : List Leaf) (totals : List ℕ) (p : Place) (times : List ℕ) : Type 0 where
  pub least : 1 ≤ p.level
  pub most : p.level ≤ 32
  pub clocked : Clocked (numbers row) (lent_tails row) (lent_turns row) totals p.leaves p.earlier p.level times
