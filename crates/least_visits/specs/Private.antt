-- What only the private functions promise. Nothing of this stands in the contract of `least_visits`.
-- Assumes nothing: these are definitions.
use Rattle.std.specs.Prelude.{List, ◌≡◌, ℕ, ◌≤◌, ◌<◌, ◌⊎◌, get_or, length}
use Rattle.model.specs.Forms.{Forms, done, forms}
use Rattle.short_runs.specs.Listing.{least}
use Rattle.rows.specs.declared.Code.{Code}
use Rattle.rows.specs.Leaves.{numbers}
use Rattle.rows.specs.Rows.{Piece}
use Rattle.least_visits.specs.declared.Notes.{Notes}
use Rattle.least_visits.specs.Least.{held_visits, HasLeasts}

-- The records from i up to e are forms, and the least numbers of visits of the functions that they may call stand in `ts`.
pub record Linked (c : Code) (ts : List ℕ) (i e : ℕ) : Type 0 where
  pub left : ℕ
  pub piece : Piece (numbers c.row.now) left i e
  pub functions : List Forms
  pub leasts : (f : ℕ) → f < length piece.heights → get_or ts f 0 ≡ held_visits (least (get_or functions f done))
  pub room : e ≤ length c.row.now
  pub within : e ≤ 512

-- The forms of these records are noted, nothing else changed, and r is their least number of visits.
pub record NotesPart (c : Code) (old new : Notes) (i e r : ℕ) : Type 0 where
  pub few : r ≤ 65
  pub noted : (h : Linked c old.functions i e) → HasLeasts (numbers c.row.now) h.functions new.leasts i h.piece.part.lines
  pub sum : (h : Linked c old.functions i e) → r ≡ held_visits (least (forms h.functions h.piece.part.lines))
  pub functions : new.functions ≡ old.functions
  pub others : (j : ℕ) → (j < i) ⊎ (e ≤ j) → get_or new.leasts j 0 ≡ get_or old.leasts j 0
