-- Patterns, the other way: a line that a pattern fits is the pattern with its capitals filled in, and shows as many numbers as the pattern has.
-- Assumes nothing.
use Prim.Native.Nat.{ℕ, suc}
use mathlib.Core.Path.{◌≡◌, refl, sym, ap, ◌∙◌}
use mathlib.Core.List.{List, [], ◌∷◌, ◌++◌}
use mathlib.Core.Bool.{Bool, true, false, cond as pick}
use native.Mathlib.Omega.{arith}
use lib.ListN.{length, get_or}
use lib.Dec.{eqb}
use borrow.Author.Tests.{eqb-true}
use Rattle.text.specs.Patterns.{is_upper, number, Number, none, some, number_item, item, Item, misfit, fit, fit_kind, fit_number}
use Rattle.text.specs.Patterns.{Match, miss, match, with_number, goes_on, matched}
use Rattle.text.specs.Spelling.{decimal, kind_text}
use Rattle.text.proofs.Decimal.{decimal_number}

-- Matches are told apart from misses, and have the same parts where they are the same.
never_match : {A : Type 0} {k : Bool} {ns : List ℕ} → miss ≡ match k ns → A
never_match e = let z : ◌≡◌ {A = ℕ} 0 1 = cc in absurd (omega arith)

match_eq : {k k' : Bool} {ns ns' : List ℕ} → match k ns ≡ match k' ns' → (k ≡ k') × (ns ≡ ns')
match_eq e = (cc, cc)

-- A match with a number before the others is one of the others.
with_inv : (n : ℕ) (m : Match) (k : Bool) (ns : List ℕ) → with_number n m ≡ match k ns → (ns' : List ℕ) × (m ≡ match k ns') × (n ∷ ns' ≡ ns)
with_inv n miss k ns e = never_match e
with_inv n (match j ns') k ns e = let (p, q) = match_eq e in (ns', rw p, q)

-- What one sign of a pattern took from a line: the K sign, a number sign, another sign.
abbrev Took : Bool → Bool → ℕ → List ℕ → Item → Type 0
Took x u t l misfit = Unit
Took true u t l (fit r) = ⊥
Took true u t l (fit_kind k r) = l ≡ kind_text k ++ r
Took true u t l (fit_number n r) = ⊥
Took false true t l (fit r) = ⊥
Took false true t l (fit_kind k r) = ⊥
Took false true t l (fit_number n r) = l ≡ decimal n ++ r
Took false false t l (fit r) = l ≡ t ∷ r
Took false false t l (fit_kind k r) = ⊥
Took false false t l (fit_number n r) = ⊥

-- What fits was taken so.
took : (t : ℕ) (l : List ℕ) → Took (eqb t 75) (is_upper t) t l (item t l)
unfolding item
took t [] = tt
took t (b ∷ bs) = go (eqb b 10) (eqb t 75) (is_upper t) (eqb b 112) (eqb b 115) (eqb b t) (number (b ∷ bs)) refl refl refl refl
  where
    go : (f x u p s y : Bool) (m : Number) → eqb b 112 ≡ p → eqb b 115 ≡ s → eqb b t ≡ y → number (b ∷ bs) ≡ m →
        Took x u t (b ∷ bs) (pick f misfit
        (pick x (pick p (fit_kind true bs) (pick s (fit_kind false bs) misfit)) (pick u (number_item m) (pick y (fit bs) misfit))))
    go true x u p s y m hp hs hy hm = tt
    go false true u true s y m hp hs hy hm = rw (eqb-true b 112 hp)
    go false true u false true y m hp hs hy hm = rw (eqb-true b 115 hs)
    go false true u false false y m hp hs hy hm = tt
    go false false true p s y none hp hs hy hm = tt
    go false false true p s y (some n rest) hp hs hy hm = decimal_number (b ∷ bs) n rest hm
    go false false false p s true m hp hs hy hm = rw (eqb-true b t hy)
    go false false false p s false m hp hs hy hm = tt

-- A pattern with its capitals filled in: the kind, and the numbers from the place i on.
unfoldable pub spelled : List ℕ → Bool → List ℕ → ℕ → List ℕ
spelled [] k ns i = 10 ∷ []
spelled (t ∷ ts) k ns i =
    pick (eqb t 75) (kind_text k ++ spelled ts k ns i)
    (pick (is_upper t) (decimal (get_or ns i 0) ++ spelled ts k ns (suc i))
    (t ∷ spelled ts k ns i))

spelled_shift : (p : List ℕ) (k : Bool) (n : ℕ) (ns : List ℕ) (i : ℕ) → spelled p k (n ∷ ns) (suc i) ≡ spelled p k ns i
unfolding spelled
spelled_shift [] k n ns i = refl
spelled_shift (t ∷ ts) k n ns i = rw (spelled_shift ts k n ns i, spelled_shift ts k n ns (suc i))

-- How many numbers a pattern has.
unfoldable pub arity : List ℕ → ℕ
arity [] = 0
arity (t ∷ ts) = pick (eqb t 75) (arity ts) (pick (is_upper t) (suc (arity ts)) (arity ts))

-- Whether no K stands in a pattern.
unfoldable pub kindless : List ℕ → Bool
kindless [] = true
kindless (t ∷ ts) = pick (eqb t 75) false (kindless ts)

-- Whether at most one K stands in a pattern.
unfoldable pub once : List ℕ → Bool
once [] = true
once (t ∷ ts) = pick (eqb t 75) (kindless ts) (once ts)

-- A pattern without a K leaves the kind.
kind_kept : (p : List ℕ) (k : Bool) (l : List ℕ) (k' : Bool) (ns : List ℕ) → kindless p ≡ true → matched p k l ≡ match k' ns → k ≡ k'
unfolding matched kindless
kind_kept [] k [] k' ns h e = never_match e
kind_kept [] k (b ∷ []) k' ns h e = go (eqb b 10) e
  where
    go : (t : Bool) → pick t (match k []) miss ≡ match k' ns → k ≡ k'
    go true e = (match_eq e).0
    go false e = never_match e
kind_kept [] k (b ∷ c ∷ bs) k' ns h e = never_match e
kind_kept (t ∷ ts) k l k' ns h e = go (eqb t 75) (is_upper t) (item t l) (took t l) h e (λ r ns x. kind_kept ts k r k' ns x)
  where
    go : (x u : Bool) (i : Item) → Took x u t l i → pick x false (kindless ts) ≡ true → goes_on k i (matched ts) ≡ match k' ns →
        ((r ns : List ℕ) → kindless ts ≡ true → matched ts k r ≡ match k' ns → k ≡ k') → k ≡ k'
    go true u i w h e ih = let z : ◌≡◌ {A = ℕ} 0 1 = cc in absurd (omega arith)
    go false u misfit w h e ih = never_match e
    go false u (fit r) w h e ih = ih r ns h e
    go false true (fit_kind j r) w h e ih = absurd w
    go false false (fit_kind j r) w h e ih = absurd w
    go false u (fit_number n r) w h e ih = let (ns', q, _) = with_inv n (matched ts k r) k' ns e in ih r ns' h q

-- No K is at most one.
once_kindless : (ts : List ℕ) → kindless ts ≡ true → once ts ≡ true
unfolding once kindless
once_kindless [] h = refl
once_kindless (t ∷ ts) h = step (eqb t 75) h (once_kindless ts)
  where
    step : (x : Bool) → pick x false (kindless ts) ≡ true → (kindless ts ≡ true → once ts ≡ true) → pick x (kindless ts) (once ts) ≡ true
    step true h ih = let z : ◌≡◌ {A = ℕ} 0 1 = cc in absurd (omega arith)
    step false h ih = ih h

-- A line is a pattern filled in with the kind and the numbers that were read, which are as many as the pattern has.
pub record Filled (p l : List ℕ) (k : Bool) (ns : List ℕ) : Type 0 where
  pub number_of : length ns ≡ arity p
  pub text : l ≡ spelled p k ns 0

-- A line that a pattern matches is that pattern filled in.
pub filled : (p : List ℕ) (k : Bool) (l : List ℕ) (k' : Bool) (ns : List ℕ) → once p ≡ true → matched p k l ≡ match k' ns → Filled p l k' ns
unfolding matched once spelled arity
filled [] k [] k' ns h e = never_match e
filled [] k (b ∷ []) k' ns h e = go (eqb b 10) refl e
  where
    go : (t : Bool) → eqb b 10 ≡ t → pick t (match k []) miss ≡ match k' ns → Filled [] (b ∷ []) k' ns
    go true q e = record { number_of = rw (← (match_eq e).1); text = rw (eqb-true b 10 q) }
    go false q e = never_match e
filled [] k (b ∷ c ∷ bs) k' ns h e = never_match e
filled (t ∷ ts) k l k' ns h e = go (eqb t 75) (is_upper t) refl refl (item t l) (took t l) h e (λ j r ms. filled ts j r k' ms)
  where
    go : (x u : Bool) → eqb t 75 ≡ x → is_upper t ≡ u → (i : Item) → Took x u t l i → pick x (kindless ts) (once ts) ≡ true →
        goes_on k i (matched ts) ≡ match k' ns →
        ((j : Bool) (r ms : List ℕ) → once ts ≡ true → matched ts j r ≡ match k' ms → Filled ts r k' ms) → Filled (t ∷ ts) l k' ns
    go x u hx hu misfit w h e ih = never_match e
    go true u hx hu (fit r) w h e ih = absurd w
    go true u hx hu (fit_kind j r) w h e ih =
        let g : Filled ts r k' ns = ih j r ns (once_kindless ts h) e in
        let q : j ≡ k' = kind_kept ts j r k' ns h e in
        record { number_of = rw hx g.number_of; text = rw hx (w ∙ (rw q (ap (λ x. kind_text k' ++ x) g.text))) }
    go true u hx hu (fit_number n r) w h e ih = absurd w
    go false true hx hu (fit r) w h e ih = absurd w
    go false true hx hu (fit_kind j r) w h e ih = absurd w
    go false true hx hu (fit_number n r) w h e ih =
        let (ms, q, a) = with_inv n (matched ts k r) k' ns e in
        let g : Filled ts r k' ms = ih k r ms h q in
        rw (← a) (record {
          number_of = rw (hx, hu) (ap suc g.number_of);
          text = rw (hx, hu) (w ∙ ap (λ x. decimal n ++ x) (g.text ∙ sym (spelled_shift ts k' n ms 0)));
        })
    go false false hx hu (fit r) w h e ih =
        let g : Filled ts r k' ns = ih k r ns h e in
        record { number_of = rw (hx, hu) g.number_of; text = rw (hx, hu) (w ∙ ap (λ x. t ∷ x) g.text) }
    go false false hx hu (fit_kind j r) w h e ih = absurd w
    go false false hx hu (fit_number n r) w h e ih = absurd w
