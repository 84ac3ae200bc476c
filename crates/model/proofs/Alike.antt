-- Controllers that answer alike: their states are tied, and each call on tied states has one answer and keeps the tie.
use mathlib.Core.List.{List, [], ◌∷◌}
use mathlib.Core.Path.{◌≡◌, sym, ◌∙◌}
use Rattle.model.specs.Calls.{Call, Controller}
use Rattle.model.specs.Histories.{Exchange, Answered}

module _ {S T : Type 0} (k : Controller S) (l : Controller T) (R : S → T → Type 0)
    (step : (s : S) (t : T) (c : Call) → R s t → ((k.respond s c).answer ≡ (l.respond t c).answer) × R (k.respond s c).state (l.respond t c).state) where
  -- Calls have the answers from the one that they have from the other.
  pub answered_alike : (s : S) (t : T) → R s t → (xs : List Exchange) → Answered k s xs → Answered l t xs
  unfolding Answered
  answered_alike s t r [] a = tt
  answered_alike s t r (x ∷ xs) (e, a) =
      let (i, r') = step s t x.call r in (sym i ∙ e, answered_alike (k.respond s x.call).state (l.respond t x.call).state r' xs a)
