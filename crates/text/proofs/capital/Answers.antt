-- `text::capital` meets its contract: each answer is a law of `Laws` on the sign and what stands there. Assumes nothing.
use Rattle.std.proofs.Common.{arith, ◌≡◌, ◌<◌, ◌+◌, ℕ, List, Bool, true, false, ◌||◌, not, cond, eqb, length, get_or, set, refl, ap, ◌∙◌, Option, Some, None, inl, inr}
use Rattle.std.specs.Option.{unwrap_or, is_some}
use borrow.Author.Tests.{lt-ltb, le-ltb, eqb-true}
use Rattle.text.specs.declared.Shown.{Shown}
use Rattle.text.specs.Text.{line_at}
use Rattle.text.specs.Patterns.{is_upper, number, number_item, misfit, fit_kind, kind_item, item}
use Rattle.text.specs.Private.{NumberAt, kind_said, CapitalAt}
use Rattle.text.proofs.Capped.{cap_same, cap_over}
use Rattle.text.proofs.Laws.{one_on, item_end, item_kind, item_neither, item_number}
use Rattle.text.proofs.capital.Goals as goal
use Rattle.text.proofs.capital.Goals.{then-is_none, else-is_none}

-- A byte that says a kind is no line feed.
says : (b : ℕ) (k : Bool) (l : List ℕ) → Some k ≡ kind_said b → (kind_item b l ≡ fit_kind k l) × (b ≡ 10 → ⊥)
says b k l h = go (eqb b 112) (eqb b 115) refl refl h
  where
    go : (p s : Bool) → eqb b 112 ≡ p → eqb b 115 ≡ s → Some k ≡ cond p (Some true) (cond s (Some false) None)
        → (cond p (fit_kind true l) (cond s (fit_kind false l) misfit) ≡ fit_kind k l) × (b ≡ 10 → ⊥)
    go true s e f h = (cc, λ z. omega (arith, eqb-true b 112 e))
    go false true e f h = (cc, λ z. omega (arith, eqb-true b 115 f))
    go false false e f h = absurd cc

-- K takes no other byte.
mute : (s : List ℕ) (at t : ℕ) → at < length s → t ≡ 75 → None ≡ kind_said (get_or s at 0) → item t (line_at s at) ≡ misfit
mute s at t h e k = item_neither s at h t e (λ z. let w = rw z at k in cc) (λ z. let w = rw z at k in cc)

-- A capital that asks for a number takes it, and stores it held at the limit.
taken : (limit : ℕ) (s : List ℕ) (at t : ℕ) (row row' : List ℕ) (f : Shown) (value : Option ℕ) (end : ℕ) (over : Bool)
    → NumberAt limit s at (Some (value, end)) → (t ≡ 75 → ⊥) → is_upper t ≡ true
    → row' ≡ set row f.count (unwrap_or value limit) → over ≡ (not (is_some value) || f.over)
    → CapitalAt limit s at t row row' f (Some (record { kind = f.kind; over = over; count = f.count + 1 }, end))
taken limit s at t row row' f None end over h n u stored told = (
  h.3,
  inr (record {
    number_found = h.0;
    finds = item_number _ _ n u ∙ ap number_item h.1;
    shown = rw (lt-ltb _ _ h.2, told);
    stored = rw (cap_over _ _ h.2) stored;
  }),
)
taken limit s at t row row' f (Some v) end over h n u stored told = (
  h.2,
  inr (record {
    number_found = v;
    finds = item_number _ _ n u ∙ ap number_item h.0;
    shown = rw (le-ltb _ _ h.1, told);
    stored = rw (cap_same _ _ h.1) stored;
  }),
)

pub returns-in_err-get : goal.returns-in_err-get
returns-in_err-get c = rw c.from_residual.ensures (item_end _ _ _ c.in_err-get.ensures.lookup.3, refl)

pub returns-in_err-kind : goal.returns-in_err-kind
returns-in_err-kind c =
    let first = c.in_ok-get.ensures.lookup.3 in
    rw c.from_residual-in_err-kind.ensures (mute _ _ _ first.0 c.if-t-eq75.true (c.in_err-kind.ensures ∙ ap kind_said (first.1 0)), refl)

pub returns-then-t-eq75 : goal.returns-then-t-eq75
returns-then-t-eq75 c =
    let first = c.in_ok-get.ensures.lookup.3 in
    let kind = says _ _ (line_at c.args.text.now (c.args.at + 1)) (c.in_ok-kind.ensures ∙ ap kind_said (first.1 0)) in (
      one_on _ _ first.0 kind.1,
      inl (record {
        kind_found = c.in_ok-kind.kind;
        finds = item_kind _ _ first.0 _ kind.1 c.if-t-eq75.true ∙ kind.0;
        shown = refl;
        stored = refl;
      }),
    )

pub returns-in_err-value : goal.returns-in_err-value
returns-in_err-value c =
    let asks_number : item c.args.t (line_at c.args.text.now c.args.at) ≡ number_item (number (line_at c.args.text.now c.args.at))
    = item_number _ _ c.if-t-eq75.false c.requires.1 in
    rw c.from_residual-in_err-value.ensures (asks_number ∙ ap number_item c.in_err-value.ensures, refl)

pub returns : goal.returns
returns c =
    taken _ _ _ _ c.args.row.now _ c.args.f c.in_ok-value.value _ _ c.in_ok-value.ensures c.if-t-eq75.false c.requires.1
    (c.store.ensures ∙ rw c.unwrap_or.ensures)
    (elim c.if-is_none.branch [
      | then-is_none w ↦ rw w.if-is_none.ensures (w.over-is ∙ w.if-is_none.true)
      | else-is_none w ↦ rw w.if-is_none.ensures w.over-is
    ])
