-- All short runs by computation, over what is left to run.
-- Assumes nothing: these are definitions.
use mathlib.Core.Bool.{Bool}
use mathlib.Core.List.{List, [], ◌∷◌, ◌++◌}
use Prim.Native.Nat.{ℕ, zero, suc, ◌+◌, min}
use lib.Dec.{eqb, ltb}
use Rattle.model.specs.Plan.{Block}
use Rattle.model.specs.Forms.{Forms, done, leaf, call, loop, cond, ◌⊕◌}
use Rattle.model.specs.Places.{pick}

-- How forms can go on: they are at their end; or a block is visited, and one thing is left to run; or it is visited and there is a choice.
pub data Ways : Type 0 where
  at_end : Ways
  one : Block → Forms → Ways
  two : Block → Forms → Forms → Ways

unfoldable pub ways : Forms → Ways
ways done = at_end
ways (leaf b rest) = one b rest
ways (call b fun rest) = one b (fun ⊕ rest)
ways (loop b zero body rest) = one b rest
ways (loop b (suc n) body rest) = two b rest (body ⊕ loop b n body rest)
ways (cond b then else rest) = two b (then ⊕ rest) (else ⊕ rest)

-- What forms open with: 0 at the end, else one more than the leaf number of the next visit.
unfoldable pub next_leaf : Forms → ℕ
next_leaf done = 0
next_leaf (leaf b rest) = suc (b.number)
next_leaf (call b fun rest) = suc (b.number)
next_leaf (loop b n body rest) = suc (b.number)
next_leaf (cond b then else rest) = suc (b.number)

-- The block in front of each.
unfoldable pub in_front : Block → List (List Block) → List (List Block)
in_front b [] = []
in_front b (w ∷ ws) = (b ∷ w) ∷ in_front b ws

-- Two lists in the order of what they open with; in an accepted plan the same opening means the same forms, so one of them.
abbrev pub ordered : ℕ → ℕ → List (List Block) → List (List Block) → List (List Block)
ordered m n u v = pick (eqb m n) u (pick (ltb m n) (u ++ v) (v ++ u))

abbrev pub behind_visit : Ways → (Forms → List (List Block)) → List (List Block)
behind_visit at_end f = [] ∷ []
behind_visit (one b g) f = in_front b (f g)
behind_visit (two b g h) f = in_front b (ordered (next_leaf g) (next_leaf h) (f g) (f h))

abbrev pub without_visit : Ways → List (List Block)
without_visit at_end = [] ∷ []
without_visit (one b g) = []
without_visit (two b g h) = []

-- The visits of all runs with at most k visits, in order.
unfoldable pub short_runs : ℕ → Forms → List (List Block)
short_runs zero fs = without_visit (ways fs)
short_runs (suc k) fs = behind_visit (ways fs) (λ g. short_runs k g)

-- The least number of visits of a run.
unfoldable pub least : Forms → ℕ
least done = 0
least (leaf b rest) = 1 + least rest
least (call b fun rest) = 1 + (least fun + least rest)
least (loop b n body rest) = 1 + least rest
least (cond b then else rest) = 1 + (min (least then) (least else) + least rest)

-- The way that is taken: the first one, or the second where there is a choice.
unfoldable pub on_way : Bool → Ways → Forms
on_way s at_end = done
on_way s (one b f) = f
on_way s (two b f g) = pick s g f

-- Of two ways the one that opens with the lower leaf number, and the other.
abbrev pub lower : Forms → Forms → Forms
lower f g = pick (ltb (next_leaf g) (next_leaf f)) g f

abbrev pub higher : Forms → Forms → Forms
higher f g = pick (ltb (next_leaf g) (next_leaf f)) f g
