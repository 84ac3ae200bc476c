-- What only the private functions promise. Nothing of this stands in the contract of a public one.
-- Assumes nothing: these are definitions.
use Rattle.std.specs.Prelude.{Some, None, is_some, ◌≡◌, ℕ, ◌+◌, ◌-◌, ◌*◌}
use Rattle.std.specs.Prelude.{Option as RustOption}
use Rattle.std.proofs.Math.Option.{none, some}
use Rattle.model.specs.Plan.{Block}
use Rattle.model.specs.Forms.{Forms, done, leaf, call, loop, cond}
use Rattle.model.specs.Total.{total}
use Rattle.model.specs.Places.{can_end, no_further}
use Rattle.model.specs.Stretch.{visit_stretch}
use Rattle.model.specs.Stack.{Levels, whole, suffix}
use Rattle.rows.specs.declared.PricedCode.{PricedCode}
use Rattle.rows.specs.Leaves.{numbers}
use Rattle.place.specs.Spans.{first_form, inner_from, inner_to}
use Rattle.outlook.specs.declared.Quiet.{Quiet}
use Rattle.outlook.specs.Quiets.{quiet_sum, Low, QuietBeyond, PricedForms}

-- The sum of the first form whole, of an if that of its visit alone; 0 where there is no form.
unfoldable pub own : (Block → ℕ) → Forms → ℕ
own k done = 0
own k (leaf b r) = k b
own k (call b fun r) = k b + total k fun
own k (loop b n body r) = k b + n * (total k body + k b)
own k (cond b t s r) = k b

-- q is the silence of the parts of the first form of f, behind the visit of its block.
abbrev pub QuietParts : Quiet → (Block → ℕ) → Forms → Type 0
QuietParts q k f = QuietBeyond q k (first_form f) (total k (first_form f) - own k f)

-- q is the silence of the forms f behind the leaf p; it is none where p is no leaf of their own level.
abbrev pub QuietBehind : RustOption Quiet → (Block → ℕ) → Forms → ℕ → Type 0
QuietBehind None k f p = suffix f p ≡ none
QuietBehind (Some q) k f p = (s : Forms) × (suffix f p ≡ some s) × QuietBeyond q k s (total k f)

-- The records inside the loop or call at h are forms, with the columns of one cost.
abbrev pub HeadPriced : PricedCode → ℕ → Type 0
HeadPriced c h = PricedForms c (inner_from (numbers c.code.row.now) c.code.bounds.now h) (inner_to (numbers c.code.row.now) c.code.bounds.now h)

-- q is the silence behind the visit of the leaf b that the innermost level opens with: it tells the stretch, whether no point can come, and whether the run
-- can end.
pub record Sees (q : Quiet) (k : Block → ℕ) (b : Block) (ls : Levels) : Type 0 where
  pub stretch : (e : ℕ) → k b + quiet_sum q e ≡ visit_stretch k (whole ls) e
  pub last : q.mute ≡ no_further (whole ls)
  pub ends : is_some q.pass ≡ can_end (whole ls)
  pub low : Low q
