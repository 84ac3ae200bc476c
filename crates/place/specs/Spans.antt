-- The records of a level and of what is inside a loop or call, the first form of a level, and a run that stands on a row of records.
-- Assumes nothing: these are definitions.
use Rattle.std.specs.Prelude.{ℕ, ◌+◌, ◌-◌, ◌*◌, ◌≤◌, ◌<◌, ◌≡◌, List, [], ◌∷◌, eqb, length, get_or}
use Rattle.std.proofs.Math.Option.{Option, some}
use Rattle.model.specs.Forms.{Forms, done, leaf, call, loop, cond}
use Rattle.model.specs.Places.{pick}
use Rattle.model.specs.Stack.{Levels, suffix, turned, inside_of}
use Rattle.rows.specs.Rows.{kind_at, point_at, detail_at, after_at}
use Rattle.rows.specs.Leaves.{numbers}
use Rattle.rows.specs.declared.Code.{Code}
use Rattle.place.specs.Stack.{FunctionTable}

-- The first form alone.
unfoldable pub first_form : Forms → Forms
first_form done = done
first_form (leaf b r) = leaf b done
first_form (call b fun r) = call b fun done
first_form (loop b n body r) = loop b n body done
first_form (cond b t e r) = cond b t e done

-- What the level above ks runs.
unfoldable pub ground : Forms → Levels → Option Forms
ground main [] = some main
ground main (g ∷ ks) = inside_of g

-- At the level above ks the leaf n was reported last, after v earlier visits there; g was left at its own level then.
pub record Level (main : Forms) (ks : Levels) (n v : ℕ) (g : Forms) : Type 0 where
  pub level : Forms
  pub opens : ground main ks ≡ some level
  pub start : Forms
  pub found : suffix level n ≡ some start
  pub turns : turned start v ≡ some g

-- The levels are those of the leaf numbers and visit counts (entry 1 is the outermost level's).
unfoldable pub Stands : Forms → List ℕ → List ℕ → Levels → Type 0
Stands main leaves counts [] = Unit {0}
Stands main leaves counts (g ∷ ks) =
    Stands main leaves counts ks × Level main ks (get_or leaves (length ks + 1) 0) (get_or counts (length ks + 1) 0) g

-- A run of this table stands at the leaf numbers, at level l; each of them is a point.
pub record Running (w starts : List ℕ) (n : ℕ) (leaves : List ℕ) (l : ℕ) : Type 0 where
  pub table : FunctionTable w starts n
  pub counts : List ℕ
  pub levels : Levels
  pub depth : length levels ≡ l
  pub stands : Stands (get_or table.funs (n - 1) done) leaves counts levels
  pub marked : (k : ℕ) → 1 ≤ k → k ≤ l → point_at w (get_or leaves k 0) ≡ 1

-- Where the records inside the loop or call at h begin, and where they end.
abbrev pub inner_from : List ℕ → List ℕ → ℕ → ℕ
inner_from w starts h = pick (eqb (kind_at w h) 2) (h + 1) (get_or starts (detail_at w h) 0)

abbrev pub inner_to : List ℕ → List ℕ → ℕ → ℕ
inner_to w starts h = pick (eqb (kind_at w h) 2) (after_at w h) (get_or starts (detail_at w h + 1) 0)

-- Where the records of level l begin, and where they end.
abbrev pub base_from : List ℕ → List ℕ → ℕ → List ℕ → ℕ → ℕ
base_from w starts n leaves l = pick (eqb l 1) (get_or starts (n - 1) 0) (inner_from w starts (get_or leaves (l - 1) 0))

abbrev pub base_to : List ℕ → List ℕ → ℕ → List ℕ → ℕ → ℕ
base_to w starts n leaves l = pick (eqb l 1) (get_or starts n 0) (inner_to w starts (get_or leaves (l - 1) 0))

-- The record h can be looked into: it is a loop's or a call's.
pub record Enterable (w starts : List ℕ) (h : ℕ) : Type 0 where
  pub room : h * 8 + 8 ≤ length w
  pub target : (kind_at w h ≡ 2 → ⊥) → detail_at w h + 1 < length starts

-- The leaf p is a loop that may turn again after `count` earlier visits.
abbrev pub MayTurn : List ℕ → ℕ → ℕ → Type 0
MayTurn w p count = (kind_at w p ≡ 2) × (count < detail_at w p)

-- The record h of the code can be looked into.
abbrev pub HeadEnterable : Code → ℕ → Type 0
HeadEnterable c h = Enterable (numbers c.row.now) c.bounds.now h

-- Where the records of level l begin, and where they end.
abbrev pub level_from : Code → List ℕ → ℕ → ℕ
level_from c leaves l = base_from (numbers c.row.now) c.bounds.now c.functions leaves l

abbrev pub level_to : Code → List ℕ → ℕ → ℕ
level_to c leaves l = base_to (numbers c.row.now) c.bounds.now c.functions leaves l

-- The records of level l can be looked up, over the leaves reported last at those below it.
pub record LevelOpen (c : Code) (leaves : List ℕ) (l : ℕ) : Type 0 where
  pub least : 1 ≤ l
  pub most : l ≤ 32
  pub count : 1 ≤ c.functions
  pub fits : c.functions < length c.bounds.now
  pub enterable : 2 ≤ l → HeadEnterable c (get_or leaves (l - 1) 0)

-- A run of the code stands at the leaf numbers, at level l, one of the 32.
pub record CodeRunning (c : Code) (leaves : List ℕ) (l : ℕ) : Type 0 where
  pub least : 1 ≤ l
  pub most : l ≤ 32
  pub running : Running (numbers c.row.now) c.bounds.now c.functions leaves l
