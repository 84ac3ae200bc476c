-- What the contracts ask for can be met: two plans of 01 in rows, with their columns, and a stack of each with its remaining times. Assumes nothing.
use mathlib.Core.List.{List, [], ◌∷◌}
use mathlib.Core.Option.{some}
use mathlib.Core.Path.{◌≡◌, refl}
use Prim.Native.Nat.{ℕ, zero, suc, ◌<◌}
use native.Mathlib.Omega.{arith}
use lib.ListN.{get_or}
use Rattle.model.specs.Plan.{C, close, leaves, all_leaves}
use Rattle.model.specs.Forms.{done, leaf, call, loop, forms, linked, last, main, ◌⊕◌}
use Rattle.model.specs.Total.{total, tally, tallies}
use Rattle.model.specs.Acceptance.{size, sizes}
use Rattle.model.specs.Stack.{Levels, behind, below, whole, kept, times, suffix, turned, inside_of, decode}
use Rattle.model.specs.Worked.{point_block, silent_block, plan_A, plan_B}
use Rattle.model.proofs.Points.{AllPoints}
use Rattle.model.proofs.Worked.{plan_A_accepted, plan_B_accepted}
use Rattle.rows.specs.Worked.{row_A, row_B}
use Rattle.rows.proofs.Worked.{in_row_A, in_row_B}
use Rattle.place.specs.Stack.{frames}
use Rattle.place.specs.Times.{Priced, CostedStack}
use Rattle.place.specs.Private.{level_time}
use Rattle.place.specs.Plans.{PlanColumns}
use Rattle.place.proofs.Meaning.{costed}

-- The columns of plan A: the tails, the turns (a round of the loop takes 2 + 10), the total.
abbrev pub tails_A : List ℕ
tails_A = 49 ∷ 44 ∷ 42 ∷ 6 ∷ []

abbrev pub turns_A : List ℕ
turns_A = 0 ∷ 12 ∷ 0 ∷ 0 ∷ []

abbrev pub totals_A : List ℕ
totals_A = 49 ∷ []

filled_A : (f : ℕ) → f < 1 → (get_or totals_A f 0 ≡ get_or (tallies C [] plan_A.functions) f 0) × Priced totals_A tails_A turns_A (get_or plan_A.functions f close) 0
unfolding plan_A tally tallies Priced
filled_A zero h = (refl, (refl, refl, (refl, refl, (refl, refl, tt), (refl, refl, tt))))
filled_A (suc f) h = absurd (omega arith)

pub columns_A : PlanColumns plan_A tails_A turns_A totals_A
unfolding plan_A size sizes
columns_A = record { long_tails = omega arith; long_turns = omega arith; totals_are = λ f h. (filled_A f h).0; priced = λ f h. (filled_A f h).1 }

-- The stack after the reports 0, 1 and 1: the loop was visited once before.
abbrev pub leaves_A : List ℕ
leaves_A = 0 ∷ 1 ∷ []

abbrev pub counts_A : List ℕ
counts_A = 0 ∷ 1 ∷ []

abbrev pub place_A : Levels
place_A = loop (point_block 1 2 4) 2 (leaf (silent_block 2 10 20) done) (leaf (silent_block 3 6 8) done) ∷ []

pub decoded_A : decode (main plan_A) [] (frames leaves_A counts_A 1 1) ≡ some place_A
unfolding plan_A linked forms last decode frames suffix turned
decoded_A = refl

pub points_A : AllPoints plan_A (frames leaves_A counts_A 1 1)
unfolding plan_A AllPoints frames all_leaves leaves
points_A = ((point_block 1 2 4, (point_block 0 5 9 ∷ [], silent_block 2 10 20 ∷ silent_block 3 6 8 ∷ [], refl), refl, refl), tt)

-- All that the functions ask for there, and what remains: a round less than at the loop's first visit.
pub costed_A : CostedStack row_A tails_A turns_A totals_A leaves_A counts_A 1 1
unfolding plan_A
costed_A = costed plan_A plan_A_accepted in_row_A leaves_A counts_A 1 place_A (omega arith) decoded_A points_A columns_A

pub time_A : (level_time row_A tails_A turns_A totals_A leaves_A counts_A (49 ∷ []) 1 ≡ 32) × (get_or (times (main plan_A) place_A) 1 0 ≡ 32)
unfolding plan_A linked forms last kept whole below total ◌⊕◌
time_A = (refl, refl)

-- The columns of plan B: the tails, no turns, the totals of its two functions.
abbrev pub tails_B : List ℕ
tails_B = 3 ∷ 15 ∷ 8 ∷ 13 ∷ 4 ∷ []

abbrev pub turns_B : List ℕ
turns_B = 0 ∷ 0 ∷ 0 ∷ 0 ∷ 0 ∷ []

abbrev pub totals_B : List ℕ
totals_B = 3 ∷ 15 ∷ []

filled_B : (f : ℕ) → f < 2 → (get_or totals_B f 0 ≡ get_or (tallies C [] plan_B.functions) f 0) × Priced totals_B tails_B turns_B (get_or plan_B.functions f close) 0
unfolding plan_B tally tallies Priced
filled_B zero h = (refl, (refl, refl, tt))
filled_B (suc zero) h = (refl, (refl, refl, (refl, refl, tt), (refl, refl, tt), (refl, refl, tt)))
filled_B (suc (suc f)) h = absurd (omega arith)

pub columns_B : PlanColumns plan_B tails_B turns_B totals_B
unfolding plan_B size sizes
columns_B = record { long_tails = omega arith; long_turns = omega arith; totals_are = λ f h. (filled_B f h).0; priced = λ f h. (filled_B f h).1 }

-- The stack after the reports 1, 4 and 0: the call of leaf 4 at level 1, the called leaf at level 2.
abbrev pub leaves_B : List ℕ
leaves_B = 0 ∷ 4 ∷ 0 ∷ []

abbrev pub counts_B : List ℕ
counts_B = 0 ∷ 0 ∷ 0 ∷ []

abbrev pub place_B : Levels
place_B = leaf (point_block 0 3 4) done ∷ call (point_block 4 1 2) (leaf (point_block 0 3 4) done) done ∷ []

pub decoded_B : decode (main plan_B) [] (frames leaves_B counts_B 1 2) ≡ some place_B
unfolding plan_B linked forms last decode frames suffix turned inside_of
decoded_B = refl

points_B : AllPoints plan_B (frames leaves_B counts_B 1 2)
unfolding plan_B AllPoints frames all_leaves leaves
points_B = (
  (point_block 4 1 2, (point_block 0 3 4 ∷ point_block 1 2 3 ∷ point_block 2 1 2 ∷ silent_block 3 9 10 ∷ [], [], refl), refl, refl),
  ((point_block 0 3 4, ([], point_block 1 2 3 ∷ point_block 2 1 2 ∷ silent_block 3 9 10 ∷ point_block 4 1 2 ∷ [], refl), refl, refl), tt),
)

-- All that the functions ask for there, and what remains: the called leaf's own time.
pub costed_B : CostedStack row_B tails_B turns_B totals_B leaves_B counts_B 2 2
unfolding plan_B
costed_B = costed plan_B plan_B_accepted in_row_B leaves_B counts_B 2 place_B (omega arith) decoded_B points_B columns_B

pub time_B : (level_time row_B tails_B turns_B totals_B leaves_B counts_B (15 ∷ 4 ∷ []) 2 ≡ 3) × (get_or (times (main plan_B) place_B) 2 0 ≡ 3)
unfolding plan_B linked forms last kept whole below behind total ◌⊕◌
time_B = (refl, refl)
