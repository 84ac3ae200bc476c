-- The least number of visits is exact: no run of the forms has fewer visits, and some run has so many.
use mathlib.Core.Path.{◌≡◌, refl}
use Prim.Native.Nat.{◌≤◌}
use native.Mathlib.Decide.{dec_le}
use native.Mathlib.Omega.{arith}
use lib.ListN.{length, length-append}
use Rattle.model.specs.Forms.{Forms, done, leaf, call, loop, cond}
use Rattle.model.specs.Runs.{Run, ends, visit, enter, leave, turn, run_then, run_else, visits}
use Rattle.short_runs.specs.Listing.{least}

pub least_bound : {fs : Forms} (r : Run fs) → least fs ≤ length (visits r)
unfolding least visits
least_bound ends = omega arith
least_bound (visit r) = omega (arith, least_bound r)
least_bound (enter x r) = omega (arith, least_bound x, least_bound r, length-append (visits x) (visits r))
least_bound (leave r) = omega (arith, least_bound r)
least_bound (turn x r) = omega (arith, least_bound r, length-append (visits x) (visits r))
least_bound (run_then x r) = omega (arith, least_bound x, least_bound r, length-append (visits x) (visits r))
least_bound (run_else x r) = omega (arith, least_bound x, least_bound r, length-append (visits x) (visits r))

pub least_met : (fs : Forms) → (r : Run fs) × (length (visits r) ≡ least fs)
unfolding least visits
least_met done = (ends, refl)
least_met (leaf b rest) = let (r, e) = least_met rest in (visit r, omega (arith, e))
least_met (call b fun rest) =
    let (x, d) = least_met fun in
    let (r, e) = least_met rest in
    (enter x r, omega (arith, d, e, length-append (visits x) (visits r)))
least_met (loop b n body rest) = let (r, e) = least_met rest in (leave r, omega (arith, e))
least_met (cond b then else rest) =
    let (x, d) = least_met then in
    let (y, f) = least_met else in
    let (r, e) = least_met rest in
    elim (dec_le (least then) (least else)) [
      | yes h ↦ (run_then x r, omega (arith, d, e, h, length-append (visits x) (visits r)))
      | no h ↦ (run_else y r, omega (arith, f, e, h, length-append (visits y) (visits r)))
    ]
