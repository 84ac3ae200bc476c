-- The rows of the plans that 01 works through are those plans' rows, the plans lie in them, and they are read as those plans. Assumes nothing.
use mathlib.Core.Path.{◌≡◌, refl}
use native.Mathlib.Omega.{arith}
use Rattle.model.specs.Worked.{plan_A, plan_B}
use Rattle.model.specs.Acceptance.{size}
use Rattle.rows.specs.Rows.{Rep}
use Rattle.rows.specs.Plans.{Lies, PlanIn}
use Rattle.rows.specs.Records.{records, records_all, bounds, row_of, bounds_of}
use Rattle.rows.specs.Reading.{by_kind, lines_at, functions_at}
use Rattle.rows.specs.Worked.{row_A, starts_A, row_B, starts_B}

row_of_A : (row_of plan_A ≡ row_A) × (bounds_of plan_A ≡ starts_A)
unfolding plan_A records_all records bounds size
row_of_A = (refl, refl)

row_of_B : (row_of plan_B ≡ row_B) × (bounds_of plan_B ≡ starts_B)
unfolding plan_B records_all records bounds size
row_of_B = (refl, refl)

row_A_read : functions_at row_A starts_A 0 1 ≡ plan_A.functions
unfolding functions_at lines_at by_kind plan_A
row_A_read = refl

row_B_read : functions_at row_B starts_B 0 2 ≡ plan_B.functions
unfolding functions_at lines_at by_kind plan_B
row_B_read = refl

lies_A : Lies row_A starts_A 0 plan_A.functions
unfolding plan_A Rep Lies
lies_A = (
  (
    (refl, refl, omega arith, refl),
    refl,
    refl,
    refl,
    (
      (refl, refl, omega arith, refl),
      refl,
      refl,
      ((refl, refl, omega arith, refl), refl, refl, refl, refl),
      ((refl, refl, omega arith, refl), refl, refl, refl, refl),
    ),
  ),
  tt,
)

pub in_row_A : PlanIn row_A starts_A plan_A
unfolding plan_A
in_row_A = record { fits = omega arith; first = refl; lie = lies_A; held = omega arith }

lies_B : Lies row_B starts_B 0 plan_B.functions
unfolding plan_B Rep Lies
lies_B = (
  ((refl, refl, omega arith, refl), refl, refl, refl, refl),
  (
    (
      (refl, refl, omega arith, refl),
      refl,
      ((refl, refl, omega arith, refl), refl, refl, refl, refl),
      ((refl, refl, omega arith, refl), refl, refl, refl, refl),
      ((refl, refl, omega arith, refl), refl, refl, refl, refl),
    ),
    tt,
  ),
)

pub in_row_B : PlanIn row_B starts_B plan_B
unfolding plan_B
in_row_B = record { fits = omega arith; first = refl; lie = lies_B; held = omega arith }
