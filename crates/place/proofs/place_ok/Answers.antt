use borrow.Author.Rules.{rules}
use native.Mathlib.Omega.{arith}
use Rattle.place.proofs.Holding.{says_decodes}
use Rattle.place.proofs.place_ok.Goals as goal

pub returns-then-place-lt-ENTRIES : goal.returns-then-place-lt-ENTRIES
returns-then-place-lt-ENTRIES c = λ p. says_decodes _ _ _ _ _ (omega arith) (search rules) c.holds.result (c.holds.ensures p)
