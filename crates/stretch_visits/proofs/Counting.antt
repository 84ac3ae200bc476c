-- The leaves that are noted, one by one. Plain mathematics: no code is named here. Assumes nothing.
use mathlib.Core.Path.{◌≡◌, refl, ap, ◌∙◌}
use mathlib.Core.Bool.{Bool, true, false}
use mathlib.Core.List.{List, [], ◌∷◌}
use Prim.Native.Nat.{ℕ, zero, suc, ◌+◌, ◌*◌, ◌≤◌, ◌<◌}
use native.Mathlib.Omega.{arith}
use lib.Dec.{eqb}
use lib.ListN.{get_or, replicate}
use borrow.Author.Tests.{eq-eqb, ne_eqb}
use Rattle.std.specs.Prelude.{ltb}
use Rattle.std.proofs.lemmas.Bool.{lt-ltb, ltb-true}
use Rattle.model.specs.Plan.{Block}
use Rattle.model.specs.Forms.{Forms, done}
use Rattle.model.specs.Total.{total}
use Rattle.model.specs.Places.{pick, bit}
use Rattle.model.specs.Stack.{whole}
use Rattle.model.specs.Cause.{is_leaf}
use Rattle.rows.specs.declared.PricedCode.{PricedCode}
use Rattle.rows.specs.Leaves.{numbers}
use Rattle.rows.specs.Costs.{cost_in}
use Rattle.rows.specs.Rows.{block_at}
use Rattle.place.specs.declared.Place.{Place}
use Rattle.place.proofs.Stacking.{placed}
use Rattle.place.proofs.Views.{leaf_low}
use Rattle.outlook.proofs.Seeing.{visit_small}
use Rattle.stretch_visits.specs.declared.Notes.{Notes}
use Rattle.stretch_visits.specs.Counts.{costly, CountsOf, PlaceFew}
use Rattle.stretch_visits.specs.Worth.{Within, worth}
use Rattle.stretch_visits.specs.Private.{dot, notes_worth, load, Noted, Grown, PlaceRoom, NotedOnward, CallsHeld, AllRun}
use Rattle.stretch_visits.proofs.Summing.{dot_zero}
use Rattle.stretch_visits.proofs.Noting.{noted_visit}

-- Where f is 1 at n alone.
dot_none : (xs : List ℕ) (f : ℕ → ℕ) → ((i : ℕ) → f i ≡ 0) → dot xs f ≡ 0
unfolding dot
dot_none [] f h = refl
dot_none (x ∷ xs) f h = omega (arith, ap (λ y. x * y) (h 0), dot_none xs (λ i. f (suc i)) (λ i. h (suc i)))

pub dot_only : (xs : List ℕ) (n : ℕ) (f : ℕ → ℕ) → f n ≡ 1 → ((i : ℕ) → (i ≡ n → ⊥) → f i ≡ 0) → dot xs f ≡ get_or xs n 0
unfolding dot
dot_only [] n f one h = refl
dot_only (x ∷ xs) zero f one h =
    omega (arith, ap (λ y. x * y) one, dot_none xs (λ i. f (suc i)) (λ i. h (suc i) (λ z. omega arith)))
dot_only (x ∷ xs) (suc n) f one h =
    omega (arith, ap (λ y. x * y) (h 0 (λ z. omega arith)), dot_only xs n (λ i. f (suc i)) one (λ i ne. h (suc i) (λ z. ne (omega arith))))

pick_bit : (p q : Bool) (m : ℕ) → (p ≡ true → 1 ≤ m) → pick p (bit q) 0 ≤ m
pick_bit true true m h = h refl
pick_bit true false m h = omega arith
pick_bit false q m h = omega arith

pick_none : (p : Bool) (z : ℕ) → z ≡ 0 → pick p z 0 ≡ 0
pick_none true z h = h
pick_none false z h = refl

module _ (k : Block → ℕ) (n : ℕ) where
  -- A visit of the leaf is worth no more than it costs.
  costly_within : Within k (costly k n)
  costly_within b = pick_bit (ltb 0 (k b)) (eqb b.number n) (k b) (λ z. ltb-true 0 (k b) z)

  costly_dot : (w counts : List ℕ) → 0 < k (block_at w n) → dot counts (λ i. costly k n (block_at w i)) ≡ get_or counts n 0
  costly_dot w counts lt =
      dot_only counts n (λ i. costly k n (block_at w i))
      (ap (λ p. pick p (is_leaf n (block_at w n)) 0) (lt-ltb 0 (k (block_at w n)) lt) ∙ ap bit (eq-eqb n n refl))
      (λ i ne. pick_none (ltb 0 (k (block_at w i))) (is_leaf n (block_at w i)) (ap bit (ne_eqb i n ne)))

-- No note.
abbrev pub blank : Notes
blank = record { leaves = replicate 512 0; calls = replicate 16 0 }

pub blank_call : (n f : ℕ) → get_or (replicate {A = ℕ} n 0) f 0 ≡ 0
blank_call zero f = refl
blank_call (suc n) zero = refl
blank_call (suc n) (suc f) = blank_call n f

module _ {c : PricedCode} {x : Place} (q : PlaceFew c x) where
  abbrev cost : Block → ℕ
  cost = cost_in c.cost

  abbrev row : List ℕ
  row = numbers c.code.row.now

  abbrev G : List Forms
  G = q.priced.decoded.table.funs

  abbrev own : Block
  own = block_at row (get_or x.leaves x.level 0)

  pub here_low : get_or x.leaves x.level 0 < 512
  here_low =
      let s = (placed q.priced.least q.priced.decoded).stack in
      let m = q.priced.columns in
      let deep = s.depth in
      omega (arith, q.few, leaf_low q.priced.decoded.table m.records m.inside x.leaves x.earlier s.levels s.stands x.level q.priced.least (omega arith))

  blank_noted : (m : Block → ℕ) → notes_worth cost m row G blank ≡ 0
  blank_noted m = omega (arith, dot_zero 512 (λ i. m (block_at row i)), dot_zero 16 (λ f. worth cost m (get_or G f done) 0 0))

  blank_load : load cost row G blank ≡ 0
  blank_load = omega (arith, dot_zero 512 (λ i. cost (block_at row i)), dot_zero 16 (λ f. total cost (get_or G f done)))

  -- The visit of the place itself.
  module _ {one : Notes} (g : Grown (get_or x.leaves x.level 0) 1 (cost own) blank.leaves one.leaves) (e : one.calls ≡ blank.calls) where
    first : Noted cost row G (λ m s. m own + s) (cost own) 1 c.code.functions blank one true
    first = noted_visit g e

    pub room_first : PlaceRoom c x one
    room_first =
        let most = q.priced.most in
        record { priced = q.priced; few = q.few; room = omega (arith, first.low, blank_load, visit_small q.priced) }

    -- And what lies behind it.
    module _ {new : Notes} (o : NotedOnward q.priced one new) where
      pub calls_held : CallsHeld c new
      calls_held =
          record {
            table = q.priced.decoded.table;
            columns = q.priced.columns;
            few = q.few;
            runnable = o.runnable (first.runnable (λ f p. absurd (omega (arith, p, blank_call 16 f))));
            room = (let most = q.priced.most in omega (arith, o.low, first.low, blank_load, visit_small q.priced));
            none = λ f ge. o.kept f ge ∙ first.kept f ge ∙ blank_call 16 f;
          }

      pub counts_of : (leaves : List ℕ) → AllRun calls_held leaves → CountsOf cost row (whole q.priced.decoded.levels) leaves
      unfolding calls_held
      counts_of leaves a n lt =
          let m = costly cost n in
          let h = costly_within cost n in
          omega (arith, costly_dot cost n row leaves lt, a m h, o.says m h, first.says m h 0, blank_noted m)
