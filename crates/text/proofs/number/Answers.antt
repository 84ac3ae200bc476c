-- `text::number` meets its contract: each way out of it is a law of `Laws` on the digits that were read. Assumes nothing.
use Rattle.std.proofs.Common.{arith, ◌≡◌, ◌+◌, ◌-◌, ◌*◌, ◌<◌, ◌≤◌, ℕ, List, sym, ◌∙◌, length, get_or}
use borrow.Author.Tests.{ltb-true, ltb-false}
use Rattle.text.specs.Text.{line_at}
use Rattle.text.specs.Patterns.{number, digits}
use Rattle.text.proofs.Laws.{Reading, one_on, on_on, stop_at, over_at, number_end, number_no, number_zero, number_starts}
use Rattle.text.proofs.Laws.{digits_step, digits_stop, digits_end}
use Rattle.text.proofs.number.Goals as goal

-- The first digit, which is not 0, starts a number.
starts : (s : List ℕ) (at b v : ℕ) → at < length s → b ≡ get_or s at 0 → (48 ≤ b) × (b ≤ 57) × (v ≡ b - 48) → (v ≡ 0 → ⊥)
    → number (line_at s at) ≡ digits v (line_at s (at + 1))
starts s at b v h e d n = number_starts s at h (omega arith) (omega arith) (λ z. n (omega arith)) ∙ rw (d.2, e)

-- A further digit moves the value on.
goes_on : {limit : ℕ} {s : List ℕ} {at v i : ℕ} (r : Reading limit s at v i) (d : ℕ) → i < length s
    → (48 ≤ get_or s i 0) × (get_or s i 0 ≤ 57) × (d ≡ get_or s i 0 - 48) → number (line_at s at) ≡ digits (v * 10 + d) (line_at s (i + 1))
goes_on {s = s} {v = v} {i} r d h k = r.reads ∙ (digits_step s i h v k.0 k.1 ∙ rw k.2)

pub returns-in_err-get : goal.returns-in_err-get
returns-in_err-get c = rw c.from_residual.ensures (number_end _ _ c.in_err-get.ensures.lookup.3)

pub returns-in_err-value : goal.returns-in_err-value
returns-in_err-value c =
    let first = c.in_ok-get.ensures.lookup.3 in
    rw c.from_residual-in_err-value.ensures (number_no c.args.text.now c.args.at first.0 (rw (← first.1 0) c.in_err-value.ensures))

pub returns-then-value-eq0 : goal.returns-then-value-eq0
returns-then-value-eq0 c =
    let first = c.in_ok-get.ensures.lookup.3 in
    let b = first.1 0 in
    let v = c.in_ok-value.ensures in
    (number_zero _ _ first.0 (omega arith), omega arith, one_on _ _ first.0 (λ z. omega arith))

pub returns-then-limit-value : goal.returns-then-limit-value
returns-then-limit-value c =
    let first = c.in_ok-get.ensures.lookup.3 in
    let b = first.1 0 in
    let v = c.in_ok-value.ensures in
    over_at (one_on _ _ first.0 (λ z. omega arith)) (starts _ _ _ _ first.0 b v c.if-value-eq0.false) c.if-limit-value.true c.digits_end.ensures

pub loop-i-init : goal.loop-i-init
loop-i-init c =
    let first = c.in_ok-get.ensures.lookup.3 in
    let b = first.1 0 in
    let v = c.in_ok-value.ensures in
    record { on = one_on _ _ first.0 (λ z. omega arith); small = omega arith; reads = starts _ _ _ _ first.0 b v c.if-value-eq0.false }

pub returns-in_default : goal.returns-in_default
returns-in_default c = stop_at c.loop-i.invariant (digits_stop c.args.text.now c.loop-i.i (omega arith) _ c.in_default.ensures)

pub returns-then-exceeds : goal.returns-then-exceeds
returns-then-exceeds c =
    let r = c.loop-i.invariant in
    let d = c.in-Some.ensures in
    over_at (on_on r.on (one_on _ _ (omega arith) (λ z. omega arith))) (goes_on r _ (omega arith) d) (ltb-true _ _ (sym c.if-exceeds.ensures)) c.digits_end-then-exceeds.ensures

pub loop-i-preserved : goal.loop-i-preserved
loop-i-preserved c =
    let r = c.loop-i.invariant in
    let d = c.in-Some.ensures in
    record { on = on_on r.on (one_on _ _ (omega arith) (λ z. omega arith)); small = ltb-false _ _ (sym c.if-exceeds.ensures); reads = goes_on r _ (omega arith) d }

pub returns : goal.returns
returns c =
    let ended : c.loop-i.i ≡ length c.args.text.now = omega arith in
    rw (← ended) (stop_at c.loop-i.invariant (digits_end _ _ _ (omega arith)))
