-- What only the private functions promise. Nothing of this stands in the contract of a public one.
-- Assumes nothing: these are definitions.
use Rattle.std.specs.Prelude.{Some, None, ℕ, ◌+◌, ◌-◌, ◌*◌, ◌≤◌, ◌<◌, Bool, true, false, ◌||◌, ◌&&◌, not, eqb, ◌≡◌, List, [], ◌∷◌, ◌⊎◌, length, get_or}
use Rattle.std.specs.Prelude.{Option as RustOption}
use Rattle.std.proofs.Math.Option.{Option, none, some}
use Rattle.model.specs.Forms.{Forms, done, leaf, call, loop, cond, ◌⊕◌}
use Rattle.model.specs.Places.{pick, ◌or◌, passes, seek}
use Rattle.model.specs.Stack.{Levels, behind, ◌else_at◌, given, onto, seek_at, suffix, turned}
use Rattle.rows.specs.Rows.{kind_at, point_at, detail_at, isolated_at, Piece}
use Rattle.rows.specs.Leaves.{numbers, lent_turns, lent_tails}
use Rattle.rows.specs.declared.Leaf.{Leaf}
use Rattle.rows.specs.declared.Code.{Code}
use Rattle.rows.specs.Costs.{limit}
use Rattle.place.specs.declared.Sight.{Sight}
use Rattle.place.specs.declared.Found.{Found}
use Rattle.place.specs.declared.Place.{Place}
use Rattle.place.specs.Spans.{Level, Stands, MayTurn, inner_from, inner_to}
use Rattle.place.specs.Stack.{FunctionTable}
use Rattle.place.specs.Times.{Columns}

-- The leaves from i up to e are there, and are forms.
pub record Held (row : List Leaf) (i e : ℕ) : Type 0 where
  pub room : e ≤ length row
  pub left : ℕ
  pub forms : Piece (numbers row) left i e

-- The records inside the loop or call at h are there, and are forms.
abbrev pub HeadHeld : Code → ℕ → Type 0
HeadHeld c h = Held c.row.now (inner_from (numbers c.row.now) c.bounds.now h) (inner_to (numbers c.row.now) c.bounds.now h)

-- The records inside the loop or call at h are forms.
abbrev pub HeadPiece : Code → ℕ → Type 0
HeadPiece c h = Piece (numbers c.row.now) 62 (inner_from (numbers c.row.now) c.bounds.now h) (inner_to (numbers c.row.now) c.bounds.now h)

-- The stack holds up to level l: its levels stand at the leaf numbers and visit counts, and each leaf is a point.
pub record StackStands (w : List ℕ) (main : Forms) (leaves counts : List ℕ) (l : ℕ) : Type 0 where
  pub levels : Levels
  pub depth : length levels ≡ l
  pub stands : Stands main leaves counts levels
  pub marked : (k : ℕ) → 1 ≤ k → k ≤ l → point_at w (get_or leaves k 0) ≡ 1

-- A run of this table stands at the leaf numbers with the visit counts, at level l: the stack holds up to it.
pub record Placed (w starts : List ℕ) (n : ℕ) (leaves counts : List ℕ) (l : ℕ) : Type 0 where
  pub table : FunctionTable w starts n
  pub stack : StackStands w (get_or table.funs (n - 1) done) leaves counts l

-- A run of the code stands at the place, at one of the 32 levels.
pub record PlaceStands (c : Code) (p : Place) : Type 0 where
  pub least : 1 ≤ p.level
  pub most : p.level ≤ 32
  pub placed : Placed (numbers c.row.now) c.bounds.now c.functions p.leaves p.earlier p.level

-- Whether a place is there.
abbrev pub there : Option Forms → Bool
there none = false
there (some f) = true

-- What ways meet, where s says whether some way meets no point, and m whether some way comes in silence to the point sought: once that is met, none leads on.
abbrev pub sight_by : Bool → Bool → Sight
sight_by s m = record { free = s && not m; meets = m }

-- What the ways through forms meet, where x is the point sought.
abbrev pub sight_of : Forms → ℕ → Sight
sight_of f x = sight_by (passes f) (there (seek f x))

-- Nothing; a point; one behind the other; one or the other.
abbrev pub nothing : Sight
nothing = record { free = true; meets = false }

abbrev pub sight_at : ℕ → ℕ → Sight
sight_at i x = record { free = false; meets = eqb i x }

abbrev pub series : Sight → Sight → Sight
series x y = record { free = x.free && y.free; meets = x.meets || (x.free && y.meets) }

abbrev pub either : Sight → Sight → Sight
either x y = sight_by (x.free || y.free) (x.meets || y.meets)

-- What is left to run when forms come to x behind the visit that they open with, a loop left and a call passed.
unfoldable pub next_beyond : Forms → ℕ → Option Forms
next_beyond done x = none
next_beyond (leaf b r) x = seek r x
next_beyond (call b fun r) x = seek r x
next_beyond (loop b n body r) x = seek r x
next_beyond (cond b t e r) x = seek (t ⊕ r) x or seek (e ⊕ r) x

-- Whether they can end then without a report.
unfoldable pub quits : Forms → Bool
quits done = false
quits (leaf b r) = passes r
quits (call b fun r) = passes r
quits (loop b n body r) = passes r
quits (cond b t e r) = passes (t ⊕ r) || passes (e ⊕ r)

-- What the ways through meet behind the visit that the forms open with, a loop left and a call passed.
abbrev pub sight_beyond : Forms → ℕ → Sight
sight_beyond f x = sight_by (quits f) (there (next_beyond f x))

-- The same behind a leaf, if it is there.
unfoldable pub sight_behind : Option Forms → ℕ → RustOption Sight
sight_behind none x = None
sight_behind (some g) x = Some (sight_beyond g x)

-- Where the run comes to x once it is back at the loop or call that the innermost level opens with.
unfoldable pub return_at : Levels → ℕ → Option Levels
return_at [] x = none
return_at (g ∷ ks) x = seek_at (behind g) ks x

-- Where the run comes to x once it has left the form that the innermost level opens with (a loop for good).
unfoldable pub fall_at : Levels → ℕ → Option Levels
fall_at [] x = none
fall_at (g ∷ ks) x = onto ks (next_beyond g x) else_at given (quits g) (return_at ks x)

-- The earlier visits of x at level r when it is reported there: a new leaf there, or its loop's next visit.
abbrev pub visits_there : List ℕ → List ℕ → ℕ → ℕ → ℕ
visits_there leaves counts r x = pick (eqb (get_or leaves r 0) x) (get_or counts r 0 + 1) 0

-- The levels ls are those of a place at x, at level r, after v earlier visits there.
pub record Moved (main : Forms) (leaves counts : List ℕ) (r x v : ℕ) (ls : Levels) : Type 0 where
  pub under : Levels
  pub place : Forms
  pub same : ls ≡ place ∷ under
  pub depth : length under + 1 ≡ r
  pub stands : Stands main leaves counts under
  pub level : Level main under x v place

-- What a search down the levels answers: x's level, or none where x cannot come next.
abbrev pub Lands : Forms → List ℕ → List ℕ → Levels → ℕ → RustOption ℕ → Type 0
Lands main leaves counts ls x None = fall_at ls x ≡ none
Lands main leaves counts ls x (Some r) =
    (1 ≤ r) × (r ≤ length ls) × ((ks : Levels) × (fall_at ls x ≡ some ks) × Moved main leaves counts r x (visits_there leaves counts r x) ks)

-- What a search for the next place from level l answers: the level and the earlier visits of x there, or none where there is no such place.
abbrev pub Finds : ℕ → Forms → List ℕ → List ℕ → Option Levels → ℕ → RustOption Found → Type 0
Finds l main leaves counts o x None = o ≡ none
Finds l main leaves counts o x (Some f) =
    (1 ≤ f.at) × ((f.at ≤ 32) × (f.at ≤ l + 1)) × ((ks : Levels) × (o ≡ some ks) × Moved main leaves counts f.at x f.count ks)

-- The leaf h is open after `count` earlier visits: a call, or a loop that may turn again.
abbrev pub Enters : List ℕ → ℕ → ℕ → Type 0
Enters w h count = (kind_at w h ≡ 1) ⊎ MayTurn w h count

-- The leaf p can have had so many earlier visits.
abbrev pub Counted : List ℕ → ℕ → ℕ → Type 0
Counted w p count = ((kind_at w p ≡ 2) × (count ≤ detail_at w p)) ⊎ ((kind_at w p ≡ 2 → ⊥) × (count ≡ 0))

-- The point p is a leaf of the level that runs f, and can have had so many earlier visits there.
pub record Settled (w : List ℕ) (f : Forms) (p count : ℕ) : Type 0 where
  pub mark : point_at w p ≡ 1
  pub start : Forms
  pub found : suffix f p ≡ some start
  pub left : Forms
  pub turns : turned start count ≡ some left

-- The remaining time at a first visit of a leaf with this tail inside the loop or call at a, where `time` remained at the visit of a.
abbrev pub inner_time : List ℕ → List ℕ → List ℕ → ℕ → ℕ → ℕ → ℕ
inner_time w tails totals a time tail =
    pick (eqb (kind_at w a) 2) (time - (get_or tails a 0 - tail)) (time - isolated_at w a - get_or totals (detail_at w a) 0 + tail)

-- The remaining time at a first visit of the leaf of level l.
abbrev pub first_time : List ℕ → List ℕ → List ℕ → List ℕ → List ℕ → ℕ → ℕ
first_time w tails totals leaves times l =
    pick (eqb l 1) (get_or tails (get_or leaves l 0) 0) (inner_time w tails totals (get_or leaves (l - 1) 0) (get_or times (l - 1) 0) (get_or tails (get_or leaves l 0) 0))

-- The remaining time at the leaf of level l: for each earlier visit there a round less.
abbrev pub level_time : List ℕ → List ℕ → List ℕ → List ℕ → List ℕ → List ℕ → List ℕ → ℕ → ℕ
level_time w tails turns totals leaves counts times l = first_time w tails totals leaves times l - get_or counts l 0 * get_or turns (get_or leaves l 0) 0

-- The records and numbers that a first visit inside the loop or call at a looks at are there, and no difference falls below 0.
pub record Opens (w tails totals : List ℕ) (a time tail : ℕ) : Type 0 where
  pub room : a * 8 + 8 ≤ length w
  pub small : a < length tails
  pub loop_fits : kind_at w a ≡ 2 → (tail ≤ get_or tails a 0) × (get_or tails a 0 - tail ≤ time)
  pub call_fits : (kind_at w a ≡ 2 → ⊥) →
      (detail_at w a < 16) × (isolated_at w a + get_or totals (detail_at w a) 0 ≤ time) ×
      (time - isolated_at w a - get_or totals (detail_at w a) 0 + tail ≤ limit)

-- The same of the leaf of level l, and its earlier visits took no more than remained at its first.
pub record LevelFits (w tails turns totals leaves counts times : List ℕ) (l : ℕ) : Type 0 where
  pub has_tail : get_or leaves l 0 < length tails
  pub has_turn : get_or leaves l 0 < length turns
  pub opens : 2 ≤ l → Opens w tails totals (get_or leaves (l - 1) 0) (get_or times (l - 1) 0) (get_or tails (get_or leaves l 0) 0)
  pub rounds : get_or counts l 0 * get_or turns (get_or leaves l 0) 0 ≤ first_time w tails totals leaves times l
  pub bounded : first_time w tails totals leaves times l ≤ limit

-- A place on a table with its columns, as the proofs take it apart. (Which functions the row holds is left open, so that code that does not look
-- there need not be told.)
pub record Fares (w tails turns totals leaves counts : List ℕ) (n l : ℕ) : Type 0 where
  pub starts : List ℕ
  pub placed : Placed w starts n leaves counts l
  pub columns : Columns placed.table tails turns totals

-- The forms are not empty.
abbrev pub Nonempty : Forms → Type 0
Nonempty done = ⊥
Nonempty (leaf b r) = Unit {0}
Nonempty (call b fun r) = Unit {0}
Nonempty (loop b n body r) = Unit {0}
Nonempty (cond b t e r) = Unit {0}

-- What a search for the next place from this one answers.
abbrev pub PlaceFinds : Forms → Place → Option Levels → ℕ → RustOption Found → Type 0
PlaceFinds main p o x found = Finds p.level main p.leaves p.earlier o x found

-- The place holds up to level l.
abbrev pub PlaceHolds : Code → Forms → Place → ℕ → Type 0
PlaceHolds c main p l = StackStands (numbers c.row.now) main p.leaves p.earlier l

-- What a first visit inside the loop or call at a looks at is there in this row, and no difference falls below 0.
abbrev pub RowOpens : List Leaf → List ℕ → ℕ → ℕ → ℕ → Type 0
RowOpens row totals a time tail = Opens (numbers row) (lent_tails row) totals a time tail

-- The same of the leaf of level l, one of the 32, and its earlier visits took no more than remained at its first.
pub record PlaceFits (row : List Leaf) (totals : List ℕ) (p : Place) (times : List ℕ) (l : ℕ) : Type 0 where
  pub least : 1 ≤ l
  pub most : l ≤ 32
  pub fits : LevelFits (numbers row) (lent_tails row) (lent_turns row) totals p.leaves p.earlier times l

-- The remaining time at the leaf of level l of the place.
abbrev pub place_time : List Leaf → List ℕ → Place → List ℕ → ℕ → ℕ
place_time row totals p times l = level_time (numbers row) (lent_tails row) (lent_turns row) totals p.leaves p.earlier times l
