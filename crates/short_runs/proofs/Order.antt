-- The order of the lines is strict, and a strictly ascending list is told by what is listed: there is at most one list of all short runs.
use mathlib.Core.List.{List, [], ◌∷◌, ◌++◌}
use mathlib.Core.Logic.{◌⊎◌, inl, inr}
use mathlib.Core.Path.{◌≡◌, refl, sym, ◌∙◌}
use Prim.Native.Nat.{ℕ}
use native.Mathlib.Omega.{arith}
use Rattle.model.specs.Plan.{Block}
use Rattle.model.specs.Forms.{Forms}
use Rattle.short_runs.specs.ShortRuns.{leaf_numbers, Before, Ascending, OnList, ShortRuns}

before_irreflexive : (u : List ℕ) → ¬ Before u u
unfolding Before
before_irreflexive [] h = h
before_irreflexive (m ∷ u) (inl h) = omega arith
before_irreflexive (m ∷ u) (inr (e, h)) = before_irreflexive u h

before_transitive : (u v w : List ℕ) → Before u v → Before v w → Before u w
unfolding Before
before_transitive [] [] w h i = absurd h
before_transitive [] (n ∷ v) [] h i = absurd i
before_transitive [] (n ∷ v) (o ∷ w) h i = tt
before_transitive (m ∷ u) [] w h i = absurd h
before_transitive (m ∷ u) (n ∷ v) [] h i = absurd i
before_transitive (m ∷ u) (n ∷ v) (o ∷ w) (inl h) (inl i) = inl (omega arith)
before_transitive (m ∷ u) (n ∷ v) (o ∷ w) (inl h) (inr (d, i)) = inl (omega arith)
before_transitive (m ∷ u) (n ∷ v) (o ∷ w) (inr (e, h)) (inl i) = inl (omega arith)
before_transitive (m ∷ u) (n ∷ v) (o ∷ w) (inr (e, h)) (inr (d, i)) = inr (e ∙ d, before_transitive u v w h i)

-- Everything listed comes behind u.
abbrev Behind : List Block → List (List Block) → Type 0
Behind u ws = (w : List Block) → OnList w ws → Before (leaf_numbers u) (leaf_numbers w)

pub ascending_behind : (u : List Block) (ws : List (List Block)) → Ascending (u ∷ ws) → Behind u ws
unfolding Ascending OnList
ascending_behind u [] a w i = absurd i
ascending_behind u (v ∷ vs) (h, a) w (inl e) = rw e at h
ascending_behind u (v ∷ vs) (h, a) w (inr i) = before_transitive (leaf_numbers u) (leaf_numbers v) (leaf_numbers w) h (ascending_behind v vs a w i)

pub ascending_later : (u : List Block) (ws : List (List Block)) → Ascending (u ∷ ws) → Ascending ws
unfolding Ascending
ascending_later u [] a = tt
ascending_later u (v ∷ vs) (h, a) = a

pub ascending_cons : (u : List Block) (ws : List (List Block)) → Behind u ws → Ascending ws → Ascending (u ∷ ws)
unfolding Ascending OnList
ascending_cons u [] b a = tt
ascending_cons u (v ∷ vs) b a = (b v (inl refl), a)

-- What stands on an ascending list stands there once.
pub once : (us : List (List Block)) (v : List Block) (vs : List (List Block)) (w : List Block) → Ascending (us ++ (v ∷ vs)) → OnList w vs →
    leaf_numbers v ≡ leaf_numbers w → ⊥
once [] v vs w a i e = before_irreflexive (leaf_numbers w) (let h = ascending_behind v vs a w i in rw e at h)
once (u ∷ us) v vs w a i e = once us v vs w (ascending_later u (us ++ (v ∷ vs)) a) i e

-- Two ascending lists that list the same are the same.
abbrev Within : List (List Block) → List (List Block) → Type 0
Within us vs = (w : List Block) → OnList w us → OnList w vs

not_itself : {A : Type 0} (u w : List Block) → u ≡ w → Before (leaf_numbers u) (leaf_numbers w) → A
not_itself u w e h = absurd (before_irreflexive (leaf_numbers w) (rw e at h))

same_head : (u v : List Block) (us vs : List (List Block)) → Behind u us → Behind v vs → Within (u ∷ us) (v ∷ vs) → Within (v ∷ vs) (u ∷ us) → u ≡ v
unfolding OnList
same_head u v us vs bu bv p q = by (p u (inl refl)) (q v (inl refl))
  where
    by : (v ≡ u) ⊎ OnList u vs → (u ≡ v) ⊎ OnList v us → u ≡ v
    by (inl e) j = sym e
    by (inr i) (inl e) = e
    by (inr i) (inr j) = absurd (before_irreflexive (leaf_numbers u) (before_transitive (leaf_numbers u) (leaf_numbers v) (leaf_numbers u) (bu v j) (bv u i)))

within_later : (u v : List Block) (us vs : List (List Block)) → u ≡ v → Behind u us → Within (u ∷ us) (v ∷ vs) → Within us vs
unfolding OnList
within_later u v us vs e b p w i = by (p w (inr i))
  where
    by : (v ≡ w) ⊎ OnList w vs → OnList w vs
    by (inl d) = not_itself u w (e ∙ d) (b w i)
    by (inr j) = j

one_ascending : (us vs : List (List Block)) → Ascending us → Ascending vs → Within us vs → Within vs us → us ≡ vs
unfolding OnList
one_ascending [] [] a b p q = refl
one_ascending [] (v ∷ vs) a b p q = absurd (q v (inl refl))
one_ascending (u ∷ us) [] a b p q = absurd (p u (inl refl))
one_ascending (u ∷ us) (v ∷ vs) a b p q =
    let bu = ascending_behind u us a in
    let bv = ascending_behind v vs b in
    let e : u ≡ v = same_head u v us vs bu bv p q in
    let d : us ≡ vs =
    one_ascending us vs (ascending_later u us a) (ascending_later v vs b) (within_later u v us vs e bu p) (within_later v u vs us (sym e) bv q) in
    cc

-- There is at most one list of all short runs.
pub short_runs_one : (fs : Forms) (k : ℕ) (us vs : List (List Block)) → ShortRuns fs k us → ShortRuns fs k vs → us ≡ vs
short_runs_one fs k us vs x y =
    one_ascending us vs (x.ascending) (y.ascending) (λ w i. y.every w (x.only w i)) (λ w i. x.every w (y.only w i))
