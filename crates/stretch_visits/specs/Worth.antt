-- What the way of a stretch is worth at a measure m of a visit: the sum of m over it, by the forms, where the cost k decides the way.
-- Assumes nothing: these are definitions.
use Rattle.std.specs.Prelude.{ℕ, ◌+◌, ◌*◌, ◌≤◌, leb}
use Rattle.model.specs.Plan.{Block}
use Rattle.model.specs.Forms.{Forms, done, leaf, call, loop, cond}
use Rattle.model.specs.Places.{pick}
use Rattle.outlook.specs.Quiets.{still}

-- No visit is worth more than it costs.
abbrev pub Within : (Block → ℕ) → (Block → ℕ) → Type 0
Within k m = (b : Block) → m b ≤ k b

-- The worth of the part of an if that the way takes, of which the sums of k are a and b: then, unless else has the larger sum.
abbrev pub by_sums : ℕ → ℕ → ℕ → ℕ → ℕ
by_sums a b x y = pick (leb b a) x y

-- The worth of the way through the forms up to the next point or the end, where what follows them has the sum e of k and is worth x.
unfoldable pub worth : (Block → ℕ) → (Block → ℕ) → Forms → ℕ → ℕ → ℕ
worth k m done e x = x
worth k m (leaf b r) e x = pick b.point 0 (m b + worth k m r e x)
worth k m (call b fun r) e x = pick b.point 0 (m b + worth k m fun 0 0 + worth k m r e x)
worth k m (loop b n body r) e x = pick b.point 0 (m b + n * (worth k m body 0 0 + m b) + worth k m r e x)
worth k m (cond b t s r) e x =
    pick b.point 0 (m b + by_sums (still k t (still k r e)) (still k s (still k r e))
    (worth k m t (still k r e) (worth k m r e x)) (worth k m s (still k r e) (worth k m r e x)))

-- The same behind the visit that the forms open with, where a loop is left and a call is passed.
unfoldable pub worth_behind : (Block → ℕ) → (Block → ℕ) → Forms → ℕ → ℕ → ℕ
worth_behind k m done e x = x
worth_behind k m (leaf b r) e x = worth k m r e x
worth_behind k m (call b fun r) e x = worth k m r e x
worth_behind k m (loop b n body r) e x = worth k m r e x
worth_behind k m (cond b t s r) e x =
    by_sums (still k t (still k r e)) (still k s (still k r e))
    (worth k m t (still k r e) (worth k m r e x)) (worth k m s (still k r e) (worth k m r e x))
