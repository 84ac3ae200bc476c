-- `text::stands` meets its contract: a sign that stands for itself takes itself, and nothing else. Assumes nothing.
use Rattle.std.proofs.Common.{arith, ◌≡◌, ◌<◌, ℕ, List, Bool, true, false, not, eqb, length, get_or, refl, sym, ◌∙◌}
use borrow.Author.Tests.{eqb-true, eqb-false, ltb-true}
use Rattle.text.specs.Patterns.{is_upper}
use Rattle.text.specs.Private.{StandsAt}
use Rattle.text.proofs.Laws.{one_on, item_end, item_feed, item_same, item_other}
use Rattle.text.proofs.stands.Goals as goal
use Rattle.text.proofs.stands.Goals.{then-at-text, else-at-text}

-- The capital K stands for a kind.
no_kind : (t : ℕ) → is_upper t ≡ false → t ≡ 75 → ⊥
no_kind t u e = let w = rw e at u in cc

-- A sign that is there stands, if it is no line feed.
there : (s : List ℕ) (at t : ℕ) → at < length s → get_or s at 0 ≡ t → is_upper t ≡ false → StandsAt s at t (not (eqb t 10))
there s at t h e u = go (eqb t 10) refl
  where
    go : (b : Bool) → eqb t 10 ≡ b → StandsAt s at t (not b)
    go true q = item_feed _ _ h _ (e ∙ eqb-true t 10 q)
    go false q =
        let plain : (get_or s at 0 ≡ 10 → ⊥) = λ z. eqb-false t 10 q (sym e ∙ z) in
        (item_same _ _ h _ plain (no_kind t u) u e, one_on _ _ h plain)

pub returns-then-text-at : goal.returns-then-text-at
returns-then-text-at c =
    elim c.if-at-text.branch [
      | then-at-text w ↦ there _ _ _ w.if-at-text.true (eqb-true _ _ (sym w.value-is ∙ c.if-text-at.true)) c.requires
      | else-at-text w ↦ absurd (omega (arith, w.if-at-text.false, ltb-true _ _ (sym w.value-is ∙ c.if-text-at.true)))
    ]

pub returns-else-text-at : goal.returns-else-text-at
returns-else-text-at c =
    rw c.if-text-at.false
    (elim c.if-at-text.branch [
      | then-at-text w ↦
          item_other _ _ w.if-at-text.true _ (no_kind _ c.requires) c.requires (eqb-false _ _ (sym w.value-is ∙ c.if-text-at.false))
      | else-at-text w ↦ item_end _ _ _ w.if-at-text.false
    ])
