-- The theorems on all short runs (02, L10), to be read; each is proved in a file beside this one. The definitions to believe are in specs/ShortRuns.
-- Assumes nothing.
use mathlib.Core.List.{List, ◌∷◌, ◌++◌}
use mathlib.Core.Path.{◌≡◌}
use Prim.Native.Nat.{◌≤◌}
use lib.ListN.{length}
use Rattle.model.specs.Plan.{Block, Plan}
use Rattle.model.specs.Forms.{Forms, main}
use Rattle.model.specs.Runs.{Run, visits}
use Rattle.model.specs.Acceptance.{Accepted}
use Rattle.short_runs.specs.ShortRuns.{leaf_numbers, OnList, AllShortRuns, most_visits}
use Rattle.short_runs.specs.Listing.{short_runs, least}
use Rattle.short_runs.proofs.Order as orders
use Rattle.short_runs.proofs.Listing as listings
use Rattle.short_runs.proofs.Exact as exact

-- An accepted plan has a list of all its short runs,
pub short_runs_there : (p : Plan) → Accepted p → (ws : List (List Block)) × AllShortRuns p ws
short_runs_there p a = (short_runs most_visits (main p), listings.all_short_runs p a)

-- and no plan has two.
pub short_runs_one : (p : Plan) (us vs : List (List Block)) → AllShortRuns p us → AllShortRuns p vs → us ≡ vs
short_runs_one p us vs = orders.short_runs_one (main p) most_visits us vs

-- No sequence of leaf numbers stands on it twice.
pub each_sequence_once : (p : Plan) (ws us vs : List (List Block)) (v w : List Block) → AllShortRuns p ws → ws ≡ us ++ (v ∷ vs) → OnList w vs →
    leaf_numbers v ≡ leaf_numbers w → ⊥
each_sequence_once p ws us vs v w all e = orders.once us v vs w (rw e at all.ascending)

-- By computation it is `short_runs`.
pub short_runs_listed : (p : Plan) → Accepted p → AllShortRuns p (short_runs most_visits (main p))
short_runs_listed = listings.all_short_runs

-- No run of the forms has fewer visits than the least number,
pub least_bound : {fs : Forms} (r : Run fs) → least fs ≤ length (visits r)
least_bound = exact.least_bound

-- and some run has so many.
pub least_met : (fs : Forms) → (r : Run fs) × (length (visits r) ≡ least fs)
least_met = exact.least_met
