-- How long the columns of a plan's table are. Assumes nothing.
use mathlib.Core.List.{[]}
use mathlib.Core.Path.{◌≡◌}
use lib.ListN.{length}
use Rattle.model.specs.Plan.{C, M, Plan}
use Rattle.model.specs.Total.{tallies}
use Rattle.model.specs.Acceptance.{sizes}
use Rattle.table.specs.Table.{table_of}
use Rattle.table.proofs.Holding.{joined_size}
use Rattle.table.proofs.Deriving.{turns_join, tails_join}

-- One number for each leaf.
pub turns_size : (p : Plan) → length (table_of p).turns ≡ sizes p.functions
turns_size p = joined_size (turns_join C (tallies C [] p.functions)) p.functions

pub tails_size : (p : Plan) → length (table_of p).tails ≡ sizes p.functions
tails_size p = joined_size (tails_join (tallies C [] p.functions)) p.functions

pub max_load_turns_size : (p : Plan) → length (table_of p).max_load_turns ≡ sizes p.functions
max_load_turns_size p = joined_size (turns_join M (tallies M [] p.functions)) p.functions
