-- What only the private functions promise. Nothing of this stands in the contract of a public one.
-- Assumes nothing: these are definitions.
use Rattle.std.specs.Prelude.{List, ℕ, ◌+◌, ◌-◌, ◌*◌, ◌≤◌, max, ◌<◌, get_or, ◌≡◌, Option, Some, None, Bool}
use Rattle.model.specs.Plan.{Block, C, Lines}
use Rattle.model.specs.Total.{tally}
use Rattle.rows.specs.declared.PricedCode.{PricedCode}
use Rattle.rows.specs.Rows.{field}
use Rattle.rows.specs.Leaves.{lent_turns, lent_tails}
use Rattle.rows.specs.Costs.{limit, cost_in, lent_turns_in}
use Rattle.rows.specs.Plans.{CodePlan, lines_of}
use Rattle.rows.specs.Answers.{Says}
use Rattle.columns.specs.declared.Walk.{Walk}
use Rattle.columns.specs.declared.Lent.{Lent}
use Rattle.columns.specs.Sums.{cap, lead}
use Rattle.columns.specs.Columns.{column_of, turn_rule, turns, tail_rule, Contains}
use Rattle.columns.specs.Walks.{front, Sized, Ready}

-- None of the numbers is over m.
abbrev pub Under : ℕ → List ℕ → Type 0
Under m xs = (j : ℕ) → get_or xs j 0 ≤ m

-- What `Sized` and `Ready` say, of what a walk goes by.
abbrev pub WalkSized : Walk → ℕ → ℕ → ℕ → Type 0
WalkSized a i e s = Sized C a.code.row.now a.sums.now a.turn.now i e s

abbrev pub WalkReady : Walk → ℕ → ℕ → Type 0
WalkReady a i x = Ready C a.code.row.now a.sums.now a.turn.now i x

-- Both columns of lines, which e follows, stand from i on, and their total with e is within the limit.
pub record AsDerived (ts o u : List ℕ) (l : Lines) (i e : ℕ) : Type 0 where
  pub turns_are : Contains o i (turns C ts l)
  pub tails_are : Contains u i (column_of (tail_rule ts) l e)
  pub small : tally C ts l + e ≤ limit

-- The same of the first form, which x follows.
pub record AsDerivedFirst (ts o u : List ℕ) (l : Lines) (i x : ℕ) : Type 0 where
  pub turns_are : Contains o i (front (turn_rule C ts) l 0)
  pub tails_are : Contains u i (front (tail_rule ts) l x)
  pub small : lead C ts l + x ≤ limit

-- What a column has at the start of the forms from i up to e, which s follows.
pub record Begins (u : List ℕ) (i e s x : ℕ) : Type 0 where
  pub there : i < e → x ≡ get_or u i 0
  pub none : e ≤ i → x ≡ s

-- The tail t of the loop at i, which ends at e and which x follows, is the one that the sum o of one of its rounds gives, and fits the body's start.
abbrev pub LoopFits : List ℕ → List ℕ → ℕ → ℕ → ℕ → ℕ → ℕ → Type 0
LoopFits w u i e t o x = (o ≤ t) × (t - x ≡ field w i 2 + field w i 4 * o) × ((y : ℕ) → Begins u (i + 1) e (t - o) y → t ≡ field w i 2 + y)

-- The tail t of the if at i, whose else part begins at m and which ends at e, fits the starts of both parts, which x follows.
abbrev pub IfFits : List ℕ → List ℕ → ℕ → ℕ → ℕ → ℕ → ℕ → Type 0
IfFits w u i m e t x = (a b : ℕ) → Begins u (i + 1) m x a → Begins u m e x b → t ≡ field w i 2 + max a b

-- The columns of the function f, whose lines are F f, stand as they are derived, and its total is exact.
abbrev pub FunctionFits : List ℕ → List ℕ → List ℕ → List ℕ → (ℕ → Lines) → ℕ → Type 0
FunctionFits ts o u starts F f = AsDerived ts o u (F f) (get_or starts f 0) 0 × (get_or ts f 0 ≡ tally C ts (F f))

-- The same of what is lent.
abbrev pub DerivedIn : Lent → Lines → ℕ → ℕ → Type 0
DerivedIn a l i e = AsDerived a.sums.now (lent_turns a.code.row.now) (lent_tails a.code.row.now) l i e

abbrev pub FirstIn : Lent → Lines → ℕ → ℕ → Type 0
FirstIn a l i x = AsDerivedFirst a.sums.now (lent_turns a.code.row.now) (lent_tails a.code.row.now) l i x

abbrev pub FunctionIn : Lent → (ℕ → Lines) → ℕ → Type 0
FunctionIn a F f = FunctionFits a.sums.now (lent_turns a.code.row.now) (lent_tails a.code.row.now) a.code.bounds.now F f

-- The answer b says whether that is so of the function f, by the plan whose code is lent.
pub record FunctionAnswer (a : Lent) (f : ℕ) (b : Bool) : Type 0 where
  pub says : (v : CodePlan a.code) → Says b (FunctionIn a (lines_of v) f)

-- The answer is the total t, held at the ceiling, where A holds, and none where it does not.
abbrev pub Totals : Option ℕ → Type 0 → ℕ → Type 0
Totals (Some n) A t = A × (n ≡ cap t)
Totals None A t = A → ⊥

-- The same of forms and of a first form, where A says that their turns at this cost stand as they are derived.
abbrev pub TotalIn : PricedCode → Lines → ℕ → Option ℕ → Type 0
TotalIn a l i r =
    Totals r (Contains (lent_turns_in a.cost a.code.row.now) i (turns (cost_in a.cost) a.totals.now l)) (tally (cost_in a.cost) a.totals.now l)

abbrev pub FirstTotalIn : PricedCode → Lines → ℕ → Option ℕ → Type 0
FirstTotalIn a l i r =
    Totals r (Contains (lent_turns_in a.cost a.code.row.now) i (front (turn_rule (cost_in a.cost) a.totals.now) l 0)) (lead (cost_in a.cost) a.totals.now l)

-- The turns of the function f, whose lines are F f, stand as they are derived, and its total is exact and within the limit.
abbrev pub SumFits : (Block → ℕ) → List ℕ → List ℕ → List ℕ → (ℕ → Lines) → ℕ → Type 0
SumFits k ts o starts F f = Contains o (get_or starts f 0) (turns k ts (F f)) × (tally k ts (F f) ≤ limit) × (get_or ts f 0 ≡ tally k ts (F f))

-- The answer b says whether that is so of the function f of a code, at the cost that it is priced at.
pub record SumAnswer (a : PricedCode) (f : ℕ) (b : Bool) : Type 0 where
  pub says : (v : CodePlan a.code)
      → Says b (SumFits (cost_in a.cost) a.totals.now (lent_turns_in a.cost a.code.row.now) a.code.bounds.now (lines_of v) f)
