-- What only the private functions promise. Nothing of this stands in the contract of a public one.
-- Assumes nothing: these are definitions.
use Rattle.std.specs.Prelude.{List, ◌≡◌, ℕ, ◌+◌, ◌*◌, ◌≤◌, max, get_or, Some, None, false}
use Rattle.model.specs.Plan.{Block, Lines, close, leaf_line, call_line, loop_line, if_line}
use Rattle.model.specs.Total.{tally}
use Rattle.model.specs.Places.{pick}
use Rattle.model.specs.Static.{line_silence}
use Rattle.rows.specs.declared.PricedCode.{PricedCode}
use Rattle.rows.specs.Costs.{limit, cost_in, lent_turns_in}
use Rattle.columns.specs.Walks.{Sized, Ready}
use Rattle.outlook.specs.declared.Quiet.{Quiet}
use Rattle.stretches.specs.Stretches.{follow_call, follow_calls}

-- Forms of a code at its cost, which s follows: their total and s are within the limit, and the sums of their rounds stand in the leaves.
abbrev pub PricedSized : PricedCode → ℕ → ℕ → ℕ → Type 0
PricedSized a i e s = Sized (cost_in a.cost) a.code.row.now a.totals.now (lent_turns_in a.cost a.code.row.now) i e s

-- The same of the form at i, which x follows.
abbrev pub PricedReady : PricedCode → ℕ → ℕ → Type 0
PricedReady a i x = Ready (cost_in a.cost) a.code.row.now a.totals.now (lent_turns_in a.cost a.code.row.now) i x

-- None of its sums is over the limit.
pub record WithinLimit (q : Quiet) : Type 0 where
  pub hit : q.hit ≤ limit
  pub pass : (x : ℕ) → q.pass ≡ Some x → x ≤ limit

-- The silence at the cost k through the first form, where s follows it; ms are the totals of the functions at k.
unfoldable pub first_silence : (Block → ℕ) → List ℕ → Lines → ℕ → ℕ
first_silence k ms close s = s
first_silence k ms (leaf_line b rest) s = pick b.point 0 (k b + s)
first_silence k ms (call_line b f rest) s = pick b.point 0 (k b + get_or ms f 0 + s)
first_silence k ms (loop_line b n body rest) s = pick b.point 0 (k b + n * (tally k ms body + k b) + s)
first_silence k ms (if_line b then else rest) s = pick b.point 0 (k b + max (line_silence k ms then s) (line_silence k ms else s))

-- The silence of the function f.
abbrev pub head_at : List Quiet → ℕ → Quiet
head_at h f = get_or h f (record { hit = 0; pass = None; mute = false })

-- None of their sums is over the limit.
abbrev pub WithinLimits : List Quiet → Type 0
WithinLimits h = (f : ℕ) → WithinLimit (head_at h f)

-- What follows each function, after the calls of the first form alone, which x follows.
unfoldable pub follow_first : (Block → ℕ) → List ℕ → Lines → ℕ → List ℕ → List ℕ
follow_first k ms close x a = a
follow_first k ms (leaf_line b r) x a = a
follow_first k ms (call_line b f r) x a = follow_call a f x
follow_first k ms (loop_line b n body r) x a = follow_calls k ms body 0 a
follow_first k ms (if_line b t e r) x a = follow_calls k ms e x (follow_calls k ms t x a)
