-- A faster run shares no less (02, L8), on tables of one plan in lent memories; and two pairs of sequences, on plan A and on plan A with U 3.
use mathlib.Core.List.{List, [], ◌∷◌}
use mathlib.Core.Path.{refl}
use Prim.Native.Nat.{ℕ, zero, suc, ◌-◌}
use native.Mathlib.Omega.{arith}
use lib.ListN.{length, take}
use Rattle.model.specs.Plan.{Plan}
use Rattle.model.specs.Calls.{Controller}
use Rattle.model.specs.Controller.{idle, controller}
use Rattle.model.specs.Histories.{Exchange, Answered}
use Rattle.model.specs.Faster.{no_reports, both_report, NoLater, both_release, SharesNoLess}
use Rattle.model.specs.Worked.{plan_A, returning_A}
use Rattle.model.proofs.Theorems as model
use Rattle.control.specs.Cases.{on_A, worst_of_A, faster_on_A, two_returns, two_stays, returns}
use Rattle.control.proofs.Cases.{faster_right}
use Rattle.rolsipay.specs.Calling.{zeros}
use Rattle.demands.specs.Delivered.{Memory, delivered}
use Rattle.demands.specs.Rules.{TableOf}
use Rattle.demands.specs.Lists.{before_end}
use Rattle.demands.specs.Cases.{EachRight}
use Rattle.demands.proofs.Delivered.{StandsFor, alike}
use Rattle.demands.proofs.Cases.{right_in, each_return_right}
use Rattle.demands.proofs.Worst.{answers_A}

-- Calls have the answers of the controller over places.
over_places : (p : Plan) (m : Memory) → TableOf p m → (xs : List Exchange) → Answered (delivered m) zeros xs → Answered (controller p) idle xs
over_places p m o = model.answered_alike (delivered m) (controller p) (StandsFor p m o) (alike p m o) zeros idle refl

pub shares_no_less : (p : Plan) (m n : Memory) → TableOf p m → TableOf p n → (first second : List Exchange) →
    Answered (delivered m) zeros first → Answered (delivered n) zeros second → NoLater second first → SharesNoLess second first
shares_no_less p m n o o' first second a b = model.faster_shares_no_less p first second (over_places p m o first a) (over_places p n o' second b)

-- If calls have these answers, the first of them have theirs.
answered_up_to : {S : Type 0} (k : Controller S) (s : S) (xs : List Exchange) → Answered k s xs → (n : ℕ) → Answered k s (take n xs)
unfolding Answered
answered_up_to k s [] a zero = tt
answered_up_to k s [] a (suc n) = tt
answered_up_to k s (x ∷ xs) a zero = tt
answered_up_to k s (x ∷ xs) (e, a) (suc n) = (e, answered_up_to k (k.respond s x.call).state xs a n)

answered_before_end : (m : Memory) (xs : List Exchange) → Answered (delivered m) zeros xs → Answered (delivered m) zeros (before_end xs)
answered_before_end m xs a = answered_up_to (delivered m) zeros xs a (length xs - 1)

no_later_A : NoLater (before_end faster_on_A) (before_end worst_of_A)
unfolding worst_of_A faster_on_A
no_later_A =
    both_release tt tt (both_report tt tt (omega arith) (both_report tt tt (omega arith) (
    both_report tt tt (omega arith) (both_report tt tt (omega arith) (both_report tt tt (omega arith) no_reports)))))

pub pair_A : (m : Memory) → TableOf plan_A m →
    Answered (delivered m) zeros (before_end worst_of_A) × Answered (delivered m) zeros (before_end faster_on_A) ×
    NoLater (before_end faster_on_A) (before_end worst_of_A)
pair_A m o = (
  answered_before_end m worst_of_A (answers_A m o),
  answered_before_end m faster_on_A (right_in (on_A faster_on_A) faster_right m o).answered,
  no_later_A,
)

no_later_returning_A : NoLater (before_end two_returns) (before_end two_stays)
unfolding two_returns two_stays
no_later_returning_A =
    both_release tt tt (both_report tt tt (omega arith) (both_report tt tt (omega arith) (
    both_report tt tt (omega arith) (both_report tt tt (omega arith) (both_report tt tt (omega arith) no_reports)))))

pub pair_returning_A : (m : Memory) → TableOf returning_A m →
    Answered (delivered m) zeros (before_end two_stays) × Answered (delivered m) zeros (before_end two_returns) ×
    NoLater (before_end two_returns) (before_end two_stays)
unfolding returns EachRight
pair_returning_A m o = (
  answered_before_end m two_stays (each_return_right.1.1.1.1.0.right_in m o).answered,
  answered_before_end m two_returns (each_return_right.1.1.1.0.right_in m o).answered,
  no_later_returning_A,
)
