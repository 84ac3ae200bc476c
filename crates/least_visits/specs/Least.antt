-- The least number of visits from each form of a row on. Assumes nothing: these are definitions.
use Rattle.std.specs.Prelude.{List, ◌≡◌, ℕ, ◌+◌, ◌<◌, min, get_or}
use Rattle.model.specs.Plan.{Lines, close, leaf_line, call_line, loop_line, if_line}
use Rattle.model.specs.Forms.{Forms, forms}
use Rattle.short_runs.specs.Listing.{least}
use Rattle.rows.specs.Rows.{after_at, other_at}
use Rattle.rows.specs.declared.Code.{Code}
use Rattle.place.specs.Stack.{FunctionTable}
use Rattle.place.specs.Lent.{CodeTable}

-- A number of visits, held at 65: more than 64 are too many.
abbrev pub held_visits : ℕ → ℕ
held_visits n = min 65 n

-- The column has, for each form of these lines, which lie in the row from i on, the least number of visits from it to the end of its lines.
unfoldable pub HasLeasts : List ℕ → List Forms → List ℕ → ℕ → Lines → Type 0
HasLeasts w G column i close = Unit {0}
HasLeasts w G column i (leaf_line b r) = (get_or column i 0 ≡ held_visits (least (forms G (leaf_line b r)))) × HasLeasts w G column (after_at w i) r
HasLeasts w G column i (call_line b f r) = (get_or column i 0 ≡ held_visits (least (forms G (call_line b f r)))) × HasLeasts w G column (after_at w i) r
HasLeasts w G column i (loop_line b n body r) =
    (get_or column i 0 ≡ held_visits (least (forms G (loop_line b n body r)))) × HasLeasts w G column (i + 1) body × HasLeasts w G column (after_at w i) r
HasLeasts w G column i (if_line b t s r) =
    (get_or column i 0 ≡ held_visits (least (forms G (if_line b t s r)))) × HasLeasts w G column (i + 1) t × HasLeasts w G column (other_at w i) s
    × HasLeasts w G column (after_at w i) r

-- It has them for each function of a table.
abbrev pub TableLeasts : {w starts : List ℕ} {n : ℕ} → FunctionTable w starts n → List ℕ → Type 0
TableLeasts {w} {starts} {n} t column = (f : ℕ) (l : f < n) → HasLeasts w t.funs column (get_or starts f 0) (t.each f l).piece.part.lines

-- It has them for each function of the code.
abbrev pub GivesLeasts : Code → List ℕ → Type 0
GivesLeasts c column = (h : CodeTable c) → TableLeasts h column
