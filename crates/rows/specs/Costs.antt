-- The cost of a visit that counts, alone or under load, and the sums of the loops' rounds at that cost as they are lent. Assumes nothing: these are definitions.
use Rattle.std.specs.Prelude.{List, ℕ}
use Rattle.model.specs.Plan.{Block, C, M}
use Rattle.rows.specs.declared.Cost.{Cost}
use Rattle.rows.specs.declared.Cost.TheVariants.{Isolated, MaxLoad}
use Rattle.rows.specs.declared.Leaf.{Leaf}
use Rattle.rows.specs.Leaves.{lent_turns, lent_max_load_turns}

-- 2^40: no total of an accepted plan is over it.
abbrev pub limit : ℕ
limit = 1099511627776

-- The cost of a visit that counts.
abbrev pub cost_in : Cost → Block → ℕ
cost_in Isolated = C
cost_in MaxLoad = M

-- The turns at this cost that stand in these leaves.
abbrev pub lent_turns_in : Cost → List Leaf → List ℕ
lent_turns_in Isolated = lent_turns
lent_turns_in MaxLoad = lent_max_load_turns
