-- What only the private functions promise. Nothing of this stands in the contract of `leaf_counts`.
-- Assumes nothing: these are definitions.
use Rattle.std.specs.Prelude.{Bool, true, false, List, [], ◌∷◌, ◌≡◌, ℕ, suc, ◌+◌, ◌*◌, ◌≤◌, ◌<◌, max, get_or, length}
use Rattle.std.proofs.Math.Option.{some}
use Rattle.model.specs.Plan.{Block}
use Rattle.model.specs.Forms.{Forms, done, leaf, call, loop, cond, forms}
use Rattle.model.specs.Runs.{sum}
use Rattle.model.specs.Total.{total}
use Rattle.model.specs.Places.{pick}
use Rattle.model.specs.Stack.{whole, suffix}
use Rattle.model.specs.Cause.{visit_way}
use Rattle.rows.specs.declared.PricedCode.{PricedCode}
use Rattle.rows.specs.Leaves.{numbers}
use Rattle.rows.specs.Costs.{limit, cost_in}
use Rattle.rows.specs.Rows.{block_at}
use Rattle.rows.specs.First.{rest}
use Rattle.place.specs.declared.Place.{Place}
use Rattle.place.specs.Lent.{CodeTable}
use Rattle.place.specs.Spans.{first_form}
use Rattle.outlook.specs.Loads.{CostColumns, PlacePriced, PricedRun}
use Rattle.outlook.specs.Quiets.{roof, PricedForms, priced_forms}
use Rattle.stretch_visits.specs.declared.Notes.{Notes}
use Rattle.stretch_visits.specs.Worth.{Within, worth, worth_behind}

-- The sum of f over numbers, each as often as the entry at its index says.
unfoldable pub dot : List ℕ → (ℕ → ℕ) → ℕ
dot [] f = 0
dot (x ∷ xs) f = x * f 0 + dot xs (λ i. f (suc i))

-- What the notes are worth at the measure m: the leaves as often as they are noted, and the functions that are still to be run, with G the forms of each.
abbrev pub notes_worth : (Block → ℕ) → (Block → ℕ) → List ℕ → List Forms → Notes → ℕ
notes_worth k m w G z = dot z.leaves (λ i. m (block_at w i)) + dot z.calls (λ f. worth k m (get_or G f done) 0 0)

-- What they cost at most: each function its total.
abbrev pub load : (Block → ℕ) → List ℕ → List Forms → Notes → ℕ
load k w G z = dot z.leaves (λ i. k (block_at w i)) + dot z.calls (λ f. total k (get_or G f done))

-- Each function that is still to be run has a total within the limit.
abbrev pub Runnable : (Block → ℕ) → List Forms → Notes → Type 0
Runnable k G z = (f : ℕ) → 0 < get_or z.calls f 0 → total k (get_or G f done) ≤ limit

-- The notes grew by something that is worth v x where what follows is worth x, as often as `times`, and does or does not lead through to what follows; that
-- costs at most c each time; and calls of functions from the number `few` on are those that were.
pub record Noted (k : Block → ℕ) (w : List ℕ) (G : List Forms) (v : (Block → ℕ) → ℕ → ℕ) (c times few : ℕ) (old new : Notes) (through : Bool)
    : Type 0 where
  pub says : (m : Block → ℕ) → Within k m → (x : ℕ) → notes_worth k m w G new + times * pick through x 0 ≡ notes_worth k m w G old + times * v m x
  pub low : load k w G new ≤ load k w G old + times * c
  pub kept : (f : ℕ) → few ≤ f → get_or new.calls f 0 ≡ get_or old.calls f 0
  pub runnable : Runnable k G old → Runnable k G new

-- Of a list one entry grew by `times`, if that is worth something: the sum of each v that gives that entry no more than `most` grew by so much.
pub record Grown (i times most : ℕ) (old new : List ℕ) : Type 0 where
  pub says : (v : ℕ → ℕ) → v i ≤ most → dot new v ≡ dot old v + times * v i
  pub others : (j : ℕ) → (j ≡ i → ⊥) → get_or new j 0 ≡ get_or old j 0

-- What the first form costs at most behind its first visit.
unfoldable pub inner : (Block → ℕ) → Forms → ℕ
inner k done = 0
inner k (leaf b r) = 0
inner k (call b fun r) = total k fun
inner k (loop b n body r) = n * (total k body + k b)
inner k (cond b t s r) = max (total k t) (total k s)

-- What the rounds of the loop that the forms begin with are worth.
unfoldable pub worth_rounds : (Block → ℕ) → (Block → ℕ) → Forms → ℕ
worth_rounds k m done = 0
worth_rounds k m (leaf b r) = 0
worth_rounds k m (call b fun r) = 0
worth_rounds k m (loop b n body r) = n * (worth k m body 0 0 + m b)
worth_rounds k m (cond b t s r) = 0

-- There is room for the forms of these records, as often as `times`, and for their sum with that of what follows, e; none of them lies behind the 512th.
pub record Room (c : PricedCode) (i to e times : ℕ) (z : Notes) : Type 0 where
  pub held : PricedForms c i to
  pub few : to ≤ 512
  pub room : load (cost_in c.cost) (numbers c.code.row.now) held.functions z + times * total (cost_in c.cost) (priced_forms held) ≤ roof
  pub sums : e + total (cost_in c.cost) (priced_forms held) ≤ roof

-- The same where the first form was visited and the others are not noted.
pub record RoomInner (c : PricedCode) (i to e times : ℕ) (z : Notes) : Type 0 where
  pub held : PricedForms c i to
  pub few : to ≤ 512
  pub room : load (cost_in c.cost) (numbers c.code.row.now) held.functions z + times * inner (cost_in c.cost) (priced_forms held) ≤ roof
  pub sums : e + total (cost_in c.cost) (priced_forms held) ≤ roof

-- There is room for all the forms once, and p is a leaf of their level.
pub record RoomBehind (c : PricedCode) (i to p e : ℕ) (z : Notes) : Type 0 where
  pub forms : Room c i to e 1 z
  pub start : Forms
  pub found : suffix (priced_forms forms.held) p ≡ some start

-- There is room for what lies behind the leaves of the levels up to l.
pub record RunRoom (c : PricedCode) (leaves : List ℕ) (l : ℕ) (z : Notes) : Type 0 where
  pub run : PricedRun c leaves l
  pub few : run.columns.records ≤ 512
  pub room : load (cost_in c.cost) (numbers c.code.row.now) run.running.table.funs z + l * limit ≤ roof

-- The same behind the visit of the place.
pub record PlaceRoom (c : PricedCode) (p : Place) (z : Notes) : Type 0 where
  pub priced : PlacePriced c p
  pub few : priced.columns.records ≤ 512
  pub room : load (cost_in c.cost) (numbers c.code.row.now) priced.decoded.table.funs z + (p.level + 1) * limit ≤ roof

-- The forms behind the first.
abbrev pub rest_of : {c : PricedCode} {i to : ℕ} → PricedForms c i to → Forms
rest_of h = forms h.functions (rest h.piece.part.lines)

-- The notes of the way through the forms, where what follows has the sum e.
abbrev pub NotedForms : {c : PricedCode} {i to : ℕ} → PricedForms c i to → ℕ → ℕ → Notes → Notes → Bool → Type 0
NotedForms {c} h e times old new through =
    Noted (cost_in c.cost) (numbers c.code.row.now) h.functions (λ m x. worth (cost_in c.cost) m (priced_forms h) e x)
    (total (cost_in c.cost) (priced_forms h)) times (length h.piece.heights) old new through

-- The same through the first form.
abbrev pub NotedFirst : {c : PricedCode} {i to : ℕ} → PricedForms c i to → ℕ → ℕ → Notes → Notes → Bool → Type 0
NotedFirst {c} h e times old new through =
    Noted (cost_in c.cost) (numbers c.code.row.now) h.functions (λ m x. worth (cost_in c.cost) m (first_form (priced_forms h)) e x)
    (total (cost_in c.cost) (first_form (priced_forms h))) times (length h.piece.heights) old new through

-- The same of the parts of the first form alone, behind the visit of its block.
abbrev pub NotedParts : {c : PricedCode} {i to : ℕ} → PricedForms c i to → ℕ → ℕ → Notes → Notes → Bool → Type 0
NotedParts {c} h e times old new through =
    Noted (cost_in c.cost) (numbers c.code.row.now) h.functions (λ m x. worth_behind (cost_in c.cost) m (first_form (priced_forms h)) e x)
    (inner (cost_in c.cost) (priced_forms h)) times (length h.piece.heights) old new through

-- The same of the rounds of the loop that the forms begin with.
abbrev pub NotedRounds : {c : PricedCode} {i to : ℕ} → PricedForms c i to → ℕ → Notes → Notes → Type 0
NotedRounds {c} h times old new =
    Noted (cost_in c.cost) (numbers c.code.row.now) h.functions (λ m x. worth_rounds (cost_in c.cost) m (priced_forms h) + x)
    (inner (cost_in c.cost) (priced_forms h)) times (length h.piece.heights) old new true

-- The same behind the leaf p of the forms f, once.
abbrev pub NotedBehind : {c : PricedCode} {i to : ℕ} → PricedForms c i to → Forms → ℕ → ℕ → Notes → Notes → Bool → Type 0
NotedBehind {c} h f p e old new through =
    (s : Forms) → suffix f p ≡ some s →
    Noted (cost_in c.cost) (numbers c.code.row.now) h.functions (λ m x. worth_behind (cost_in c.cost) m s e x) (total (cost_in c.cost) f)
    1 (length h.piece.heights) old new through

-- The notes of the way behind the leaf of the innermost level, down to the end.
abbrev pub NotedRun : {c : PricedCode} {leaves : List ℕ} {l : ℕ} → PricedRun c leaves l → Notes → Notes → Type 0
NotedRun {c} {l = l} q old new =
    Noted (cost_in c.cost) (numbers c.code.row.now) q.running.table.funs (λ m x. worth_behind (cost_in c.cost) m (whole q.running.levels) 0 0) (l * limit)
    1 c.code.functions old new false

-- The notes grew by the way from the visit of the place on, without that visit.
pub record NotedOnward {c : PricedCode} {p : Place} (q : PlacePriced c p) (old new : Notes) : Type 0 where
  pub says : (m : Block → ℕ) → Within (cost_in c.cost) m →
      notes_worth (cost_in c.cost) m (numbers c.code.row.now) q.decoded.table.funs new + m (block_at (numbers c.code.row.now) (get_or p.leaves p.level 0)) ≡
      notes_worth (cost_in c.cost) m (numbers c.code.row.now) q.decoded.table.funs old + sum m (visit_way (cost_in c.cost) (whole q.decoded.levels) [])
  pub low : load (cost_in c.cost) (numbers c.code.row.now) q.decoded.table.funs new ≤
      load (cost_in c.cost) (numbers c.code.row.now) q.decoded.table.funs old + (p.level + 1) * limit
  pub kept : (f : ℕ) → c.code.functions ≤ f → get_or new.calls f 0 ≡ get_or old.calls f 0
  pub runnable : Runnable (cost_in c.cost) q.decoded.table.funs old → Runnable (cost_in c.cost) q.decoded.table.funs new

-- The functions that are still to be run are functions of the code, with the columns of its cost, and there is room for them; no record that is looked at lies
-- behind the 512th.
pub record CallsHeld (c : PricedCode) (z : Notes) : Type 0 where
  pub table : CodeTable c.code
  pub columns : CostColumns c table
  pub few : columns.records ≤ 512
  pub runnable : Runnable (cost_in c.cost) table.funs z
  pub room : load (cost_in c.cost) (numbers c.code.row.now) table.funs z ≤ roof
  pub none : (f : ℕ) → c.code.functions ≤ f → get_or z.calls f 0 ≡ 0

-- The leaves have all that the notes were worth.
abbrev pub AllRun : {c : PricedCode} {z : Notes} → CallsHeld c z → List ℕ → Type 0
AllRun {c} {z} h leaves =
    (m : Block → ℕ) → Within (cost_in c.cost) m →
    dot leaves (λ i. m (block_at (numbers c.code.row.now) i)) ≡ notes_worth (cost_in c.cost) m (numbers c.code.row.now) h.table.funs z
