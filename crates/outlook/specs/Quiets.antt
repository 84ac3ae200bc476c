-- How quiet forms are: their largest sum up to a point, as a function of what follows them, the same behind the visit that they open with; and forms of a code
-- in their records.
-- Assumes nothing: these are definitions.
use Rattle.std.specs.Prelude.{Some, None, Bool, true, false, ◌&&◌, List, ◌≡◌, ℕ, ◌+◌, ◌*◌, ◌≤◌, max, length}
use Rattle.std.specs.Prelude.{Option as RustOption}
use Rattle.model.specs.Plan.{Block}
use Rattle.model.specs.Forms.{Forms, done, leaf, call, loop, cond, forms}
use Rattle.model.specs.Total.{total}
use Rattle.model.specs.Places.{pick, no_more}
use Rattle.rows.specs.declared.PricedCode.{PricedCode}
use Rattle.rows.specs.Leaves.{numbers}
use Rattle.rows.specs.Costs.{limit, cost_in}
use Rattle.rows.specs.Rows.{Piece}
use Rattle.outlook.specs.declared.Quiet.{Quiet}
use Rattle.outlook.specs.Loads.{Loads}

-- The sum all through, to which s is added; 0 where no way leads through.
abbrev pub through : RustOption ℕ → ℕ → ℕ
through None s = 0
through (Some pass) s = pass + s

-- The largest sum of the silence q where s follows.
abbrev pub quiet_sum : Quiet → ℕ → ℕ
quiet_sum q s = max q.hit (through q.pass s)

-- The silence q is the function f; `quiet` says whether no way meets a point, as some way does where none leads through; no sum of q is over m.
pub record IsQuiet (q : Quiet) (f : ℕ → ℕ) (quiet : Bool) (m : ℕ) : Type 0 where
  pub says : (s : ℕ) → quiet_sum q s ≡ f s
  pub mute : q.mute ≡ quiet
  pub tied : q.pass ≡ None → q.mute ≡ false
  pub hit : q.hit ≤ m
  pub pass : (x : ℕ) → q.pass ≡ Some x → x ≤ m

-- The largest sum up to the next point or the end in the forms, where e follows them.
unfoldable pub still : (Block → ℕ) → Forms → ℕ → ℕ
still k done e = e
still k (leaf b r) e = pick b.point 0 (k b + still k r e)
still k (call b fun r) e = pick b.point 0 (k b + total k fun + still k r e)
still k (loop b n body r) e = pick b.point 0 (k b + n * (total k body + k b) + still k r e)
still k (cond b t s r) e = pick b.point 0 (k b + max (still k t (still k r e)) (still k s (still k r e)))

-- q is the silence of the forms f at the cost k.
abbrev pub QuietForms : Quiet → (Block → ℕ) → Forms → Type 0
QuietForms q k f = IsQuiet q (λ s. still k f s) (no_more f) (total k f)

-- The records from i up to e are there, and are forms, with the columns of one cost; their total is within the limit.
pub record PricedForms (c : PricedCode) (i e : ℕ) : Type 0 where
  pub room : e ≤ length c.code.row.now
  pub left : ℕ
  pub functions : List Forms
  pub piece : Piece (numbers c.code.row.now) left i e
  pub records : ℕ
  pub within : e ≤ records
  pub loads : Loads c functions records
  pub small : total (cost_in c.cost) (forms functions piece.part.lines) ≤ limit

-- The forms that these records are.
abbrev pub priced_forms : {c : PricedCode} {i e : ℕ} → PricedForms c i e → Forms
priced_forms h = forms h.functions h.piece.part.lines

-- 2^50: no sum over the levels of a place comes near it.
abbrev pub roof : ℕ
roof = 1125899906842624

-- No sum of q is over the roof.
pub record Low (q : Quiet) : Type 0 where
  pub hit : q.hit ≤ roof
  pub pass : (x : ℕ) → q.pass ≡ Some x → x ≤ roof

-- The largest sum up to the next point or the end behind the visit that the forms open with, where a loop is left, a call is passed, and e follows the forms.
unfoldable pub beyond : (Block → ℕ) → Forms → ℕ → ℕ
beyond k done e = e
beyond k (leaf b r) e = still k r e
beyond k (call b fun r) e = still k r e
beyond k (loop b n body r) e = still k r e
beyond k (cond b t s r) e = max (still k t (still k r e)) (still k s (still k r e))

-- No run meets a point behind that visit.
unfoldable pub mute_beyond : Forms → Bool
mute_beyond done = true
mute_beyond (leaf b r) = no_more r
mute_beyond (call b fun r) = no_more r
mute_beyond (loop b n body r) = no_more r
mute_beyond (cond b t s r) = (no_more t && no_more s) && no_more r

-- q is the silence of the forms f behind the visit that they open with, and no sum of q is over m.
abbrev pub QuietBeyond : Quiet → (Block → ℕ) → Forms → ℕ → Type 0
QuietBeyond q k f m = IsQuiet q (λ s. beyond k f s) (mute_beyond f) m
