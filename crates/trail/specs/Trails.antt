-- A run on a row of leaf records, what is left to run behind its visits, and the runs that come behind it in order.
-- Assumes nothing: these are definitions.
use Rattle.std.specs.Prelude.{Option, Some, None, Bool, true, false, List, [], ◌∷◌, ◌++◌, ◌≡◌, ℕ, zero, suc, ◌+◌, ◌-◌, ◌*◌, ◌≤◌, ◌<◌, get_or, length}
use Rattle.std.proofs.Math.Option.{some}
use Rattle.model.specs.Plan.{Block}
use Rattle.model.specs.Forms.{Forms, done, ◌⊕◌}
use Rattle.model.specs.Stack.{turned}
use Rattle.short_runs.specs.Listing.{in_front, short_runs, least}
use Rattle.short_runs.specs.Told.{NumbersTell}
use Rattle.rows.specs.declared.Code.{Code}
use Rattle.rows.specs.Rows.{block_at}
use Rattle.place.specs.Pieces.{Spanned}
use Rattle.place.specs.Stack.{FunctionTable}
use Rattle.place.specs.Lent.{CodeTable, main_forms}
use Rattle.least_visits.specs.Least.{held_visits, HasLeasts, TableLeasts}
use Rattle.trail.specs.declared.Extent.{Extent}
use Rattle.trail.specs.declared.Rest.{Rest}
use Rattle.trail.specs.declared.Trail.{Trail}

-- The records of the extent are forms, of which the loop that they begin with has gone round as often as it says: f is left. The column has their least
-- numbers of visits.
pub record ExtentIs {w starts : List ℕ} {n : ℕ} (t : FunctionTable w starts n) (column : List ℕ) (s : Extent) (f : Forms) : Type 0 where
  pub whole : Forms
  pub spanned : Spanned w t.funs n s.from s.to whole
  pub rounds : turned whole s.rounds ≡ some f
  pub noted : HasLeasts w t.funs column s.from spanned.piece.part.lines

-- The first rest that the visit number k writes. (Number 0 is nothing, number 1 the main function; a visit writes four at most, and there are 64 visits.)
abbrev pub first_rest : ℕ → ℕ
first_rest k = 2 + k * 4

-- The rest with the number i.
abbrev pub numbered_rest : List Rest → ℕ → Rest
numbered_rest rests i = get_or rests i (record { forms = record { from = 0; to = 0; rounds = 0 }; behind = 0; least = 0 })

-- The forms f are left from the rest with the number i on: none, or its forms and what is left behind them.
pub data Left {w starts : List ℕ} {n : ℕ} (t : FunctionTable w starts n) (column : List ℕ) (rests : List Rest) : ℕ → Forms → Type 0 where
  none_left : {i : ℕ} {f : Forms} → i ≡ 0 → f ≡ done → (numbered_rest rests 0).least ≡ 0 → Left t column rests i f
  some_left : {i : ℕ} {f : Forms} (g h : Forms) → 0 < i → (numbered_rest rests i).behind < i →
      (numbered_rest rests i).forms.from < (numbered_rest rests i).forms.to →
      ExtentIs t column (numbered_rest rests i).forms g → Left t column rests ((numbered_rest rests i).behind) h → f ≡ g ⊕ h →
      (numbered_rest rests i).least ≡ held_visits (least f) →
      Left t column rests i f

-- The runs for which a run is left behind its visit number k, without the visits up to that one: none, or all short runs of a rest, of at most 63 - k visits.
abbrev pub Later : {w starts : List ℕ} {n : ℕ} → FunctionTable w starts n → List ℕ → List Rest → ℕ → Option ℕ → List (List Block) → Type 0
Later t column rests k None ws = ws ≡ []
Later t column rests k (Some i) ws =
    (f : Forms) × (i < first_rest (suc k)) × Left t column rests i f × NumbersTell f × (least f ≤ 63 - k) × (ws ≡ short_runs (63 - k) f)

-- The trail's run and all behind it that begin with the same k visits, without these: it has m visits more.
unfoldable pub RunsFrom : {w starts : List ℕ} {n : ℕ} → FunctionTable w starts n → List ℕ → Trail → ℕ → ℕ → List (List Block) → Type 0
RunsFrom {w} t column x k zero vs = vs ≡ [] ∷ []
RunsFrom {w} t column x k (suc m) vs =
    (us : List (List Block)) × (ws : List (List Block)) × (get_or x.leaves k 0 * 8 + 8 ≤ length w) × RunsFrom t column x (suc k) m us ×
    Later t column x.rests k (get_or x.later k None) ws × (vs ≡ in_front (block_at w (get_or x.leaves k 0)) (us ++ ws))

-- The trail's run and all behind it are vs.
pub record TrailOf {w starts : List ℕ} {n : ℕ} (t : FunctionTable w starts n) (column : List ℕ) (x : Trail) (vs : List (List Block)) : Type 0 where
  pub short : x.len ≤ 64
  pub room : length x.leaves ≡ 64
  pub runs : RunsFrom t column x 0 x.len vs

-- WHAT THE CALLS PROMISE

-- There is a trail, whose run and all behind it are vs; or there is none, and no run.
abbrev pub TrailAt : {w starts : List ℕ} {n : ℕ} → FunctionTable w starts n → List ℕ → Option Trail → List (List Block) → Type 0
TrailAt t column None vs = vs ≡ []
TrailAt t column (Some x) vs = TrailOf t column x vs

-- Of vs the first was the trail's run, and the trail went on to the next, if there was one.
abbrev pub GoesTo : {w starts : List ℕ} {n : ℕ} → FunctionTable w starts n → List ℕ → List (List Block) → Trail → Bool → Type 0
GoesTo t column [] x b = ⊥
GoesTo t column (v ∷ vs) x true = TrailOf t column x vs
GoesTo t column (v ∷ vs) x false = vs ≡ []

-- The code is that of functions, the column has their least numbers of visits, and each visit of a run tells the place behind it.
pub record ShortRunsOn (c : Code) (column : List ℕ) : Type 0 where
  pub table : CodeTable c
  pub noted : TableLeasts table column
  pub told : NumbersTell (main_forms table)

-- And the trail stands before some runs.
pub record TrailHeld (c : Code) (column : List ℕ) (x : Trail) : Type 0 where
  pub on : ShortRunsOn c column
  pub runs : List (List Block)
  pub stands : TrailOf on.table column x runs

-- The trail is the first of all short runs, and its run and those behind it are all of them; if there is none, no run is short.
abbrev pub GivesFirst : Code → List ℕ → Option Trail → Type 0
GivesFirst c column o = (h : CodeTable c) → TableLeasts h column → NumbersTell (main_forms h) → TrailAt h column o (short_runs 64 (main_forms h))

-- From the one trail it went on to the other, if there was a further run.
abbrev pub GivesNext : Code → List ℕ → Trail → Trail → Bool → Type 0
GivesNext c column x y there = (h : CodeTable c) (vs : List (List Block)) → TableLeasts h column → TrailOf h column x vs → GoesTo h column vs y there
