-- What only the private functions promise. Nothing of this stands in the contract of `first` or `next`.
-- Assumes nothing: these are definitions.
use Rattle.std.specs.Prelude.{None, Bool, true, false, List, ◌++◌, ◌≡◌, ℕ, suc, ◌+◌, ◌-◌, ◌≤◌, ◌<◌, get_or, length}
use Rattle.model.specs.Plan.{Block}
use Rattle.model.specs.Forms.{Forms, ◌⊕◌}
use Rattle.short_runs.specs.Listing.{Ways, one, two, ways, on_way, in_front, short_runs, least, next_leaf}
use Rattle.short_runs.specs.Told.{NumbersTell}
use Rattle.rows.specs.declared.Code.{Code}
use Rattle.rows.specs.Leaves.{numbers}
use Rattle.rows.specs.Rows.{kind_at, detail_at, block_at}
use Rattle.place.specs.Stack.{FunctionTable}
use Rattle.place.specs.Lent.{CodeTable}
use Rattle.least_visits.specs.Least.{TableLeasts}
use Rattle.trail.specs.declared.Extent.{Extent}
use Rattle.trail.specs.declared.Rest.{Rest}
use Rattle.trail.specs.declared.Trail.{Trail}
use Rattle.trail.specs.declared.Following.{Following}
use Rattle.trail.specs.declared.Choice.{Choice}
use Rattle.trail.specs.Trails.{ExtentIs, first_rest, numbered_rest, Left, Later, RunsFrom}

-- The extent is forms of the code, and not at its end.
pub record VisitNext (c : Code) (s : Extent) : Type 0 where
  pub table : CodeTable c
  pub column : List ℕ
  pub forms : Forms
  pub lies : ExtentIs table column s forms
  pub there : s.from < s.to

-- The block b is visited, and there is a choice behind it, or none.
abbrev pub Forks : Block → Bool → Ways → Type 0
Forks b true x = x ≡ two b (on_way false x) (on_way true x)
Forks b false x = x ≡ one b (on_way false x)

-- Whether there is a choice behind the first visit of the extent, whatever follows it.
abbrev pub ForkedOn : Code → Extent → Bool → Type 0
ForkedOn c s r =
    (t : CodeTable c) (column : List ℕ) (f g : Forms) → ExtentIs t column s f → s.from < s.to → Forks (block_at (numbers c.row.now) s.from) r (ways (f ⊕ g))

-- On one of the ways behind the first visit of the forms f run the inner forms, and then the outer ones, whatever follows.
pub record TakenWay {w starts : List ℕ} {n : ℕ} (t : FunctionTable w starts n) (column : List ℕ) (f : Forms) (second : Bool) (on : Following) : Type 0 where
  pub inner : Forms
  pub outer : Forms
  pub inner_lies : ExtentIs t column on.inner inner
  pub outer_lies : ExtentIs t column on.outer outer
  pub is_way : (g : Forms) → on_way second (ways (f ⊕ g)) ≡ inner ⊕ (outer ⊕ g)

-- So behind the first visit of the extent.
abbrev pub Onwards : Code → Extent → Bool → Following → Type 0
Onwards c s second on =
    (t : CodeTable c) (column : List ℕ) (f : Forms) → TableLeasts t column → ExtentIs t column s f → s.from < s.to → TakenWay t column f second on

-- The forms of the extent can be put in front of the rest with the number `behind`.
pub record CanPut (column : List ℕ) (rests : List Rest) (number : ℕ) (s : Extent) (behind : ℕ) : Type 0 where
  pub row : List ℕ
  pub starts : List ℕ
  pub count : ℕ
  pub table : FunctionTable row starts count
  pub forms : Forms
  pub rest : Forms
  pub lies : ExtentIs table column s forms
  pub left : Left table column rests behind rest
  pub early : behind < number
  pub few : number < first_rest 64

-- The number r is that of what is left with the forms of the extent in front; the rests below the number did not change.
pub record Puts (column : List ℕ) (old new : List Rest) (number : ℕ) (s : Extent) (behind r : ℕ) : Type 0 where
  pub left : {w starts : List ℕ} {n : ℕ} (t : FunctionTable w starts n) (f g : Forms) → ExtentIs t column s f → Left t column old behind g → behind < number →
      Left t column new r (f ⊕ g)
  pub near : behind ≤ number → r ≤ number
  pub others : (j : ℕ) → j < number → numbered_rest new j ≡ numbered_rest old j

-- A visit comes next, and what is left behind it, on this way, has room from this number on.
pub record CanGo (c : Code) (column : List ℕ) (rests : List Rest) (here number : ℕ) (second : Bool) : Type 0 where
  pub table : CodeTable c
  pub noted : TableLeasts table column
  pub forms : Forms
  pub left : Left table column rests here forms
  pub some : 0 < here
  pub early : here < number
  pub few : number + 1 < first_rest 64
  pub round : second ≡ true → kind_at (numbers c.row.now) (numbered_rest rests here).forms.from ≡ 2 →
      (numbered_rest rests here).forms.rounds < detail_at (numbers c.row.now) (numbered_rest rests here).forms.from

-- The number r is that of what is left behind that visit; the rests below the number did not change.
pub record GoesOn (c : Code) (column : List ℕ) (old new : List Rest) (here number : ℕ) (second : Bool) (r : ℕ) : Type 0 where
  pub left : (t : CodeTable c) (f : Forms) → TableLeasts t column → Left t column old here f → Left t column new r (on_way second (ways f))
  pub near : r ≤ number + 1
  pub others : (j : ℕ) → j < number → numbered_rest new j ≡ numbered_rest old j

-- Forms are left, none perhaps, from the rest with this number on, of a plan with at most 512 leaves.
pub record CanOpen (rests : List Rest) (here : ℕ) : Type 0 where
  pub row : List ℕ
  pub starts : List ℕ
  pub count : ℕ
  pub table : FunctionTable row starts count
  pub column : List ℕ
  pub forms : Forms
  pub left : Left table column rests here forms
  pub few : here < first_rest 64
  pub leaves : length column ≤ 512

-- What is left from the rest with this number on opens with r.
abbrev pub OpensWith : List Rest → ℕ → ℕ → Type 0
OpensWith rests here r =
    (w starts : List ℕ) (n : ℕ) (t : FunctionTable w starts n) (column : List ℕ) (f : Forms) → Left t column rests here f → r ≡ next_leaf f

-- The visit number k comes next, and a run can end within 64 visits.
pub record CanChoose (c : Code) (column : List ℕ) (rests : List Rest) (here k : ℕ) : Type 0 where
  pub table : CodeTable c
  pub noted : TableLeasts table column
  pub forms : Forms
  pub left : Left table column rests here forms
  pub told : NumbersTell forms
  pub some : 0 < here
  pub early : here < first_rest k
  pub few : k < 64
  pub fits : least forms ≤ 64 - k

-- Of the short runs of the forms f, which open with the visit number k, those on the way that is taken come first, and then those on the later way.
pub record Splits {w starts : List ℕ} {n : ℕ} (t : FunctionTable w starts n) (column : List ℕ) (old new : List Rest) (here k : ℕ) (x : Choice) (f : Forms) :
    Type 0 where
  pub next : Forms
  pub left : Left t column new x.go next
  pub told : NumbersTell next
  pub fits : least next ≤ 63 - k
  pub later_runs : List (List Block)
  pub later : Later t column new k x.later later_runs
  pub runs : short_runs (64 - k) f ≡ in_front (block_at w (numbered_rest old here).forms.from) (short_runs (63 - k) next ++ later_runs)

pub record Chooses (c : Code) (column : List ℕ) (old new : List Rest) (here k : ℕ) (x : Choice) : Type 0 where
  pub splits : (t : CodeTable c) (f : Forms) → TableLeasts t column → Left t column old here f → NumbersTell f → least f ≤ 64 - k →
      Splits t column old new here k x f
  pub near : x.go < first_rest (suc k)
  pub others : (j : ℕ) → j < first_rest k → numbered_rest new j ≡ numbered_rest old j

-- The visit number k comes next, or none is left, and a run can end within 64 visits.
pub record CanDescend (c : Code) (column : List ℕ) (x : Trail) (k here : ℕ) : Type 0 where
  pub table : CodeTable c
  pub noted : TableLeasts table column
  pub forms : Forms
  pub left : Left table column x.rests here forms
  pub told : NumbersTell forms
  pub early : here < first_rest k
  pub few : k ≤ 64
  pub fits : least forms ≤ 64 - k

-- From the visit number k on the trail is the first of all short runs of what was left there; before it nothing changed.
pub record Descends (c : Code) (column : List ℕ) (old new : Trail) (k here : ℕ) : Type 0 where
  pub runs : (t : CodeTable c) (f : Forms) → TableLeasts t column → Left t column old.rests here f → NumbersTell f → least f ≤ 64 - k →
      RunsFrom t column new k (new.len - k) (short_runs (64 - k) f)
  pub more : k ≤ new.len
  pub short : new.len ≤ 64
  pub room : length new.leaves ≡ length old.leaves
  pub leaves : (j : ℕ) → j < k → get_or new.leaves j 0 ≡ get_or old.leaves j 0
  pub later : (j : ℕ) → j < k → get_or new.later j None ≡ get_or old.later j None
  pub rests : (j : ℕ) → j < first_rest k → numbered_rest new.rests j ≡ numbered_rest old.rests j
