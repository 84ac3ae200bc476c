-- The place of a run as the state keeps it, leaf numbers and visit counts by level, on a row of records. Assumes nothing: these are definitions.
use Rattle.std.specs.Prelude.{ℕ, zero, suc, ◌+◌, ◌-◌, ◌≤◌, ◌<◌, Bool, true, false, ◌≡◌, List, [], ◌∷◌, length, get_or}
use Rattle.std.proofs.Math.Option.{Option, none, some}
use Rattle.model.specs.Forms.{Forms, done, leaf, call, loop, cond}
use Rattle.model.specs.Places.{Traceable}
use Rattle.model.specs.Levels.{Frame}
use Rattle.model.specs.Stack.{decode, Levels}
use Rattle.rows.specs.Rows.{point_at}
use Rattle.place.specs.Pieces.{Spanned}
use Rattle.place.specs.declared.Place.{Place}

-- No form lies deeper than `left` levels (rule 7).
unfoldable pub Shallow : ℕ → Forms → Type 0
Shallow left done = Unit {0}
Shallow left (leaf b r) = (1 ≤ left) × Shallow left r
Shallow left (call b fun r) = (1 ≤ left) × Shallow (left - 1) fun × Shallow left r
Shallow left (loop b n body r) = (1 ≤ left) × Shallow (left - 1) body × Shallow left r
Shallow left (cond b t e r) = (1 ≤ left) × Shallow left t × Shallow left e × Shallow left r

-- A table: n functions in the row, the last of which is the main one; each calls earlier ones alone (rule 6).
pub record FunctionTable (w starts : List ℕ) (n : ℕ) : Type 0 where
  pub count : 1 ≤ n
  pub fits : n < length starts
  pub funs : List Forms
  pub each : (f : ℕ) → f < n → Spanned w funs f (get_or starts f 0) (get_or starts (f + 1) 0) (get_or funs f done)
  pub low : Shallow 32 (get_or funs (n - 1) done)
  pub traceable : Traceable (get_or funs (n - 1) done)

-- The frame of level k, as the model has it.
abbrev pub frame : List ℕ → List ℕ → ℕ → Frame
frame leaves counts k = record { leaf = get_or leaves k 0; earlier = get_or counts k 0 }

-- The frames of n levels from level k on.
unfoldable pub frames : List ℕ → List ℕ → ℕ → ℕ → List Frame
frames leaves counts k zero = []
frames leaves counts k (suc n) = frame leaves counts k ∷ frames leaves counts (suc k) n

-- A row of 33 numbers after v was put at l and everything above was cleared.
pub record Put (old new : List ℕ) (l v : ℕ) : Type 0 where
  pub old_33 : length old ≡ 33
  pub new_33 : length new ≡ 33
  pub under : (k : ℕ) → k < l → get_or new k 0 ≡ get_or old k 0
  pub here : get_or new l 0 ≡ v
  pub above : (k : ℕ) → l < k → get_or new k 0 ≡ 0

-- The state's stack decodes to these levels of the table's main function (the model's `decode`), and each of its leaves is a point.
pub record Decoded (w starts : List ℕ) (n : ℕ) (leaves counts : List ℕ) (l : ℕ) : Type 0 where
  pub table : FunctionTable w starts n
  pub levels : Levels
  pub decodes : decode (get_or table.funs (n - 1) done) [] (frames leaves counts 1 l) ≡ some levels
  pub marked : (k : ℕ) → 1 ≤ k → k ≤ l → point_at w (get_or leaves k 0) ≡ 1

-- The place o is there, and is a new stack: the old one with x put at its level and 0 above; it decodes to the place, and its leaves are points.
pub record Stacked (w : List ℕ) (main : Forms) (o : Option Levels) (old olds : List ℕ) (x : ℕ) (leaves counts : List ℕ) (l : ℕ) : Type 0 where
  pub least : 1 ≤ l
  pub most : l ≤ 32
  pub levels : Levels
  pub found : o ≡ some levels
  pub decodes : decode main [] (frames leaves counts 1 l) ≡ some levels
  pub marked : (k : ℕ) → 1 ≤ k → k ≤ l → point_at w (get_or leaves k 0) ≡ 1
  pub leaf : Put old leaves l x
  pub count : ℕ
  pub visited : Put olds counts l count

-- A place was moved on to such a stack (true); or there is no such place, and it is as it was.
abbrev pub NextStack : List ℕ → Forms → Option Levels → Place → ℕ → Bool → Place → Type 0
NextStack w main o old x true new = Stacked w main o old.leaves old.earlier x new.leaves new.earlier new.level
NextStack w main o old x false new = (o ≡ none) × (new ≡ old)

-- The state's stack is a place of some run of the table: it decodes, and each of its leaves is a point.
pub record Decodes (w : List ℕ) (main : Forms) (leaves counts : List ℕ) (l : ℕ) : Type 0 where
  pub least : 1 ≤ l
  pub most : l ≤ 32
  pub levels : Levels
  pub decodes : decode main [] (frames leaves counts 1 l) ≡ some levels
  pub marked : (k : ℕ) → 1 ≤ k → k ≤ l → point_at w (get_or leaves k 0) ≡ 1
