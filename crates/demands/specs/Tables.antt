-- What the numbers of a plan's table are, over runs: D, T, the edition with its U, and totals. (What the listing prints besides is said of the program that
-- prints it.)
-- Assumes nothing: these are definitions.
use Rattle.std.specs.Prelude.{◌≡◌}
use Rattle.model.specs.Plan.{Plan, resume_cost}
use Rattle.model.specs.Words.{edition_number}
use Rattle.model.specs.Forms.{main}
use Rattle.model.specs.Total.{Total, MaxLoadTotal}
use Rattle.demands.specs.Delivered.{Memory}

-- The head has D, T, the number of the edition, U (0 in edition 1) and both totals.
pub record Numbers (p : Plan) (m : Memory) : Type 0 where
  pub deadline : m.head.deadline ≡ p.deadline
  pub switch : m.head.switch ≡ p.switch
  pub edition : m.head.edition ≡ edition_number p.edition
  pub resume : m.head.resume ≡ resume_cost p.edition
  pub total : Total (main p) m.head.total
  pub max_load_total : MaxLoadTotal (main p) m.head.max_load_total
