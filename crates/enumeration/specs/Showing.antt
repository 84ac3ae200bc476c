-- Lines that are shown one after the other. Assumes nothing: these are definitions.
use Rattle.std.specs.Prelude.{Bool, true, false, List, [], ◌∷◌, ℕ}

-- From the first state on these lines are shown one after the other, each by a step, to the last, or until a step answers false; and nothing else is: the state
-- then is the second.
pub data ShownInTurn {F : Type 0} (step : F → List ℕ → Bool → F → Type 0) : F → List (List ℕ) → F → Type 0 where
  all_shown : {f : F} → ShownInTurn step f [] f
  stopped : {f g : F} {line : List ℕ} {lines : List (List ℕ)} → step f line false g → ShownInTurn step f (line ∷ lines) g
  shown : {f g h : F} {line : List ℕ} {lines : List (List ℕ)} → step f line true g → ShownInTurn step g lines h → ShownInTurn step f (line ∷ lines) h
