-- What held the others back (02, L9): the visits that make up the stretch of a report, and what was taken off the deadline besides.
-- Assumes nothing: these are definitions.
use Rattle.std.specs.Prelude.{Bool, true, false, ◌||◌, List, [], ◌∷◌, ◌++◌, ◌≡◌, ℕ, zero, suc, ◌+◌, ◌*◌, ◌≤◌, ◌<◌, leb, eqb, length, drop}
use Rattle.model.specs.Plan.{Block, M, Plan}
use Rattle.model.specs.Forms.{Forms, done, leaf, call, loop, cond}
use Rattle.model.specs.Runs.{Run, ends, visit, enter, leave, turn, run_then, run_else, sum, cut, silent}
use Rattle.model.specs.Remaining.{Reported}
use Rattle.model.specs.Places.{pick, bit}
use Rattle.model.specs.Calls.{Others}
use Rattle.model.specs.Decisions.{Outlook, way_back}

-- MEANING, over the runs with a history of reports

-- The choice at each visit of a run: at an if, whether then is taken; at a loop's condition, whether the loop is left. At a leaf or a call there is none, and
-- true stands for it.
unfoldable pub choices : {fs : Forms} → Run fs → List Bool
choices ends = []
choices (visit r) = true ∷ choices r
choices (enter f r) = true ∷ (choices f ++ choices r)
choices (leave r) = true ∷ choices r
choices (turn x r) = false ∷ (choices x ++ choices r)
choices (run_then x r) = true ∷ (choices x ++ choices r)
choices (run_else x r) = false ∷ (choices x ++ choices r)

-- The visits of a run with this history, from the last report of the history on up to the next point or the end; and the choices from that report on.
abbrev pub up_to_next : {fs : Forms} {h : List ℕ} → Reported fs h → List Block
up_to_next v = v.at.block ∷ silent v.at.behind

abbrev pub choices_from : {fs : Forms} {h : List ℕ} → Reported fs h → List Bool
choices_from v = drop (length v.at.before) (choices v.at.run)

-- Cause (02, L9): a run with this history whose sum of k, from the last report of the history up to the next point or the end, is the largest; and wherever
-- it takes else or goes round a loop on that way, each run with this history that chose alike from that report on and takes then or leaves the loop there
-- has a smaller sum: so where the sums are equal, then is taken, and the loop is left.
pub record Cause (k : Block → ℕ) (fs : Forms) (h : List ℕ) : Type 0 where
  pub run : Reported fs h
  pub largest : (v : Reported fs h) → sum k (up_to_next v) ≤ sum k (up_to_next run)
  pub ties : (v : Reported fs h) (u x y : List Bool) → choices_from run ≡ u ++ (false ∷ x) → length u < length (up_to_next run) →
      choices_from v ≡ u ++ (true ∷ y) → sum k (up_to_next v) < sum k (up_to_next run)

-- Whether this is a visit of the leaf n, as a number.
abbrev pub is_leaf : ℕ → Block → ℕ
is_leaf n b = bit (eqb b.number n)

-- How often the leaf n is visited.
abbrev pub count : ℕ → List Block → ℕ
count n w = sum (is_leaf n) w

-- A leaf, and how often it is visited.
pub record LeafCount : Type 0 where
  pub leaf : Block
  pub count : ℕ

-- What is listed of a way (02, L9): of these leaves, in order, each that it visits and whose visits cost something (M is not 0), with how often.
unfoldable pub listed : List Block → List Block → List LeafCount
listed [] w = []
listed (b ∷ bs) w =
    pick (eqb (M b) 0 || eqb (count b.number w) 0) (listed bs w) (record { leaf = b; count = count b.number w } ∷ listed bs w)

-- M times count, added up.
unfoldable pub added : List LeafCount → ℕ
added [] = 0
added (c ∷ cs) = M c.leaf * c.count + added cs

-- Remaining as it counts in a decision: 0 where no further point can come (02, L3).
abbrev pub remaining_weighed : Outlook → ℕ
remaining_weighed o = pick o.last 0 o.remaining

-- Taken (02, L9): the sum of the T and U taken off: T where a further point can come, and U (`way_back`, which is no way of a run) where the others are
-- suspended in a plan of edition 2.
abbrev pub taken : Plan → Outlook → Others → ℕ
taken p o others = pick o.last 0 p.switch + way_back p others

-- BY COMPUTATION, at a place

-- The first of two ways, unless the second has a larger sum.
abbrev pub larger : (Block → ℕ) → List Block → List Block → List Block
larger k u v = pick (leb (sum k v) (sum k u)) u v

-- The way through a loop with n rounds left, whose body has the ways f and behind which the way w follows.
unfoldable pub rounds_way : (Block → ℕ) → Block → (List Block → List Block) → List Block → ℕ → List Block
rounds_way k b f w zero = cut b.point (b ∷ w)
rounds_way k b f w (suc n) = cut b.point (b ∷ larger k w (f (rounds_way k b f w n)))

-- The way through the forms up to the next point or the end, where w is that of what follows them: their silence, visit by visit.
unfoldable pub way : (Block → ℕ) → Forms → List Block → List Block
way k done w = w
way k (leaf b rest) w = cut b.point (b ∷ way k rest w)
way k (call b fun rest) w = cut b.point (b ∷ way k fun (way k rest w))
way k (loop b n body rest) w = rounds_way k b (λ u. way k body u) (way k rest w) n
way k (cond b then else rest) w = cut b.point (b ∷ larger k (way k then (way k rest w)) (way k else (way k rest w)))

-- The way from the visit that the forms open with: its stretch, visit by visit. (Behind the last visit of a loop its body is not run again.)
unfoldable pub visit_way : (Block → ℕ) → Forms → List Block → List Block
visit_way k done w = []
visit_way k (leaf b rest) w = b ∷ way k rest w
visit_way k (call b fun rest) w = b ∷ way k fun (way k rest w)
visit_way k (loop b zero body rest) w = b ∷ way k rest w
visit_way k (loop b (suc n) body rest) w = b ∷ larger k (way k rest w) (way k body (way k (loop b n body rest) w))
visit_way k (cond b then else rest) w = b ∷ larger k (way k then (way k rest w)) (way k else (way k rest w))
