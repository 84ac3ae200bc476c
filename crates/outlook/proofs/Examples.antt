-- What the contracts ask for can be met: plan A of 01 in its row, with its totals and turns at the cost M; what lies ahead of three of its places; and the same
-- of a function that is called twice. Assumes nothing.
use mathlib.Core.Bool.{true, false}
use mathlib.Core.List.{List, [], ◌∷◌}
use mathlib.Core.Path.{◌≡◌, refl}
use Prim.Native.Nat.{ℕ, zero, suc, ◌<◌}
use native.Mathlib.Omega.{arith}
use lib.ListN.{get_or, replicate}
use Rattle.model.specs.Plan.{M, close}
use Rattle.model.specs.Forms.{Forms, done, leaf, call, loop, forms, linked, last, main, ◌⊕◌}
use Rattle.model.specs.Total.{tally, tallies}
use Rattle.model.specs.Places.{passes, can_end, no_more, no_further}
use Rattle.model.specs.Stretch.{rounds_silence, silence, visit_stretch}
use Rattle.model.specs.Stack.{Levels, behind, below, whole}
use Rattle.model.specs.Worked.{point_block, silent_block, plan_A}
use Rattle.model.proofs.Worked.{plan_A_accepted}
use Rattle.rows.specs.declared.Cost.TheVariants.{MaxLoad}
use Rattle.rows.specs.declared.Leaf.{Leaf}
use Rattle.rows.specs.declared.PricedCode.{PricedCode}
use Rattle.rows.specs.Worked.{starts_A}
use Rattle.rows.proofs.Worked.{in_row_A}
use Rattle.place.proofs.Examples.{leaves_A, counts_A, place_A, decoded_A, points_A}
use Rattle.outlook.specs.Loads.{CodePriced, PlacePriced}
use Rattle.outlook.specs.Ahead.{ahead_of, ahead_at}
use Rattle.outlook.specs.Plans.{Rounds, PlanPriced}
use Rattle.outlook.proofs.Meaning.{code_priced, place_priced}

-- The leaves of plan A as they are lent. A round of the loop takes 2 + 10 alone, and 4 + 20 under load.
abbrev lent_A : List Leaf
lent_A =
    record { kind = 0; point = 1; isolated = 5; max_load = 9; detail = 0; other = 0; after = 1; level = 1; turn = 0; tail = 49; max_load_turn = 0 } ∷
    record { kind = 2; point = 1; isolated = 2; max_load = 4; detail = 3; other = 0; after = 3; level = 1; turn = 12; tail = 44; max_load_turn = 24 } ∷
    record { kind = 0; point = 0; isolated = 10; max_load = 20; detail = 0; other = 0; after = 3; level = 2; turn = 0; tail = 42; max_load_turn = 0 } ∷
    record { kind = 0; point = 0; isolated = 6; max_load = 8; detail = 0; other = 0; after = 4; level = 1; turn = 0; tail = 6; max_load_turn = 0 } ∷ []

-- Its code at the cost M, with the total under load.
abbrev code_A : PricedCode
code_A =
    record {
      code = record { row = record { ref_ptr = (0, 0); now = lent_A }; bounds = record { ref_ptr = (0, 0); now = starts_A }; functions = 1 };
      cost = MaxLoad;
      totals = record { ref_ptr = (0, 0); now = 93 ∷ replicate 15 0 };
    }

filled_A : (f : ℕ) → f < 1 → (get_or code_A.totals.now f 0 ≡ get_or (tallies M [] plan_A.functions) f 0) × Rounds M code_A.totals.now (0 ∷ 24 ∷ 0 ∷ 0 ∷ []) (get_or plan_A.functions f close)
unfolding plan_A tally tallies Rounds
filled_A zero h = (refl, (refl, tt, tt))
filled_A (suc f) h = absurd (omega arith)

pub priced_A : PlanPriced code_A plan_A
unfolding plan_A
priced_A = record { lies = in_row_A; functions_are = refl; loads = record { totals_are = λ f h. (filled_A f h).0; rounds = λ f h. (filled_A f h).1 } }

-- What `at_release` and `at_report` ask for there, at the stack after the reports 0, 1 and 1.
pub code_priced_A : CodePriced code_A
code_priced_A = code_priced plan_A_accepted priced_A

pub place_priced_A : PlacePriced code_A (record { level = 1; leaves = leaves_A; earlier = counts_A })
place_priced_A = place_priced plan_A_accepted priced_A (record { level = 1; leaves = leaves_A; earlier = counts_A }) place_A (omega arith) (omega arith) decoded_A points_A

-- At the release comes a point; behind this visit the body and the condition, or the end; behind the loop's last visit the end alone.
pub release_A : ahead_of M (main plan_A) ≡ record { stretch = 0; last = false; ends = false }
unfolding plan_A linked forms last silence no_more passes
release_A = refl

pub report_A : ahead_at M (whole place_A) ≡ record { stretch = 24; last = false; ends = true }
unfolding whole below ◌⊕◌ visit_stretch silence rounds_silence no_further no_more can_end passes
report_A = refl

abbrev end_A : Levels
end_A = loop (point_block 1 2 4) 0 (leaf (silent_block 2 10 20) done) (leaf (silent_block 3 6 8) done) ∷ []

pub last_A : ahead_at M (whole end_A) ≡ record { stretch = 12; last = true; ends = true }
unfolding whole below ◌⊕◌ visit_stretch silence rounds_silence no_further no_more can_end passes
last_A = refl

-- A filter that main calls twice, at a point each time.
abbrev filter : Forms
filter = leaf (point_block 0 1 2) done

abbrev second_call : Forms
second_call = call (point_block 3 1 1) filter (leaf (silent_block 4 1 2) done)

abbrev first_call : Forms
first_call = call (point_block 1 1 1) filter (leaf (silent_block 2 10 20) second_call)

-- In the first call 20 ticks follow it up to the point of the second; in the second 2 ticks, and the end.
pub filter_first : ahead_at M (whole (filter ∷ first_call ∷ [])) ≡ record { stretch = 22; last = false; ends = false }
unfolding whole below behind ◌⊕◌ visit_stretch silence no_further no_more can_end passes
filter_first = refl

pub filter_second : ahead_at M (whole (filter ∷ second_call ∷ [])) ≡ record { stretch = 4; last = true; ends = true }
unfolding whole below behind ◌⊕◌ visit_stretch silence no_further no_more can_end passes
filter_second = refl
