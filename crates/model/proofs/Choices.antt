-- Two continuations of a place visit the same up to the next point, or make another choice somewhere before it: so causes (02, L9) have the same visits.
use mathlib.Core.Bool.{Bool, true, false}
use mathlib.Core.Path.{◌≡◌, refl, ap, sym, ◌∙◌}
use mathlib.Core.List.{List, [], ◌∷◌, ◌++◌}
use mathlib.Core.Logic.{◌⊎◌, inl, inr}
use Prim.Native.Nat.{ℕ, zero, suc, ◌<◌}
use native.Mathlib.Omega.{arith}
use lib.ListN.{length, length-append}
use Rattle.model.specs.Plan.{Block}
use Rattle.model.specs.Forms.{Forms, done, leaf, call, loop, cond}
use Rattle.model.specs.Runs.{Run, ends, visit, enter, leave, turn, run_then, run_else, visits, silent, cut}
use Rattle.model.specs.Cause.{choices}
use Rattle.model.proofs.Causing.{Continuations, After, Nothing, Behind, out_done, out_leaf, out_call, out_spent, out_loop, out_cond, silent_front}

both : {f g : Forms} (x : Run f) (r : Run g) → length (choices x) ≡ length (visits x) → length (choices r) ≡ length (visits r) →
    suc (length (choices x ++ choices r)) ≡ suc (length (visits x ++ visits r))
both x r d e = omega (arith, d, e, length-append (choices x) (choices r), length-append (visits x) (visits r))

-- A choice for each visit.
pub choices_visits : {fs : Forms} (r : Run fs) → length (choices r) ≡ length (visits r)
unfolding choices visits
choices_visits ends = refl
choices_visits (visit r) = omega (arith, choices_visits r)
choices_visits (enter x r) = both x r (choices_visits x) (choices_visits r)
choices_visits (leave r) = omega (arith, choices_visits r)
choices_visits (turn x r) = both x r (choices_visits x) (choices_visits r)
choices_visits (run_then x r) = both x r (choices_visits x) (choices_visits r)
choices_visits (run_else x r) = both x r (choices_visits x) (choices_visits r)

-- Of two continuations, g tells the same visits; or the first of two choices in which they differ is one of its visits.
pub data Told (g : List Block → List Block) (w : List Block) (c : List Bool) (v : List Block) (d : List Bool) : Type 0 where
  alike : g w ≡ g v → Told g w c v d
  second_first : (a x y : List Bool) → c ≡ a ++ (false ∷ x) → d ≡ a ++ (true ∷ y) → length a < length (g w) → Told g w c v d
  first_second : (a x y : List Bool) → c ≡ a ++ (true ∷ x) → d ≡ a ++ (false ∷ y) → length a < length (g v) → Told g w c v d

-- So it is of any two of these.
abbrev pub AllTold : (List Block → List Block) → Continuations → Type 0
AllTold g K = (w : List Block) (c : List Bool) (v : List Block) (d : List Bool) → K w c → K v d → Told g w c v d

-- With a visit of b in front that may cut off what follows.
module _ (g : List Block → List Block) (p : Bool) (b : Block) (gp : (v : List Block) → g (b ∷ v) ≡ cut p (b ∷ silent v)) where
  longer : (q : Bool) (v : List Block) (n : ℕ) → q ≡ false → n < length (silent v) → suc n < length (cut q (b ∷ silent v))
  longer true v n e l = absurd (cc e)
  longer false v n e l = omega arith

  front_length : (v : List Block) (n : ℕ) → n < length (cut p (b ∷ silent v)) → n < length (g (b ∷ v))
  front_length v n l = omega (arith, l, ap (λ (u : List Block). length u) (gp v))

  cut_off : (w v : List Block) → p ≡ true → g (b ∷ w) ≡ g (b ∷ v)
  cut_off w v e = gp w ∙ ap (λ q. cut q (b ∷ silent w)) e ∙ sym (ap (λ q. cut q (b ∷ silent v)) e) ∙ sym (gp v)

  -- The same choice.
  same_choice : (z : Bool) (w : List Block) (c : List Bool) (v : List Block) (d : List Bool) → p ≡ false → Told (λ w. silent w) w c v d → Told g (b ∷ w) (z ∷ c) (b ∷ v) (z ∷ d)
  same_choice z w c v d f (alike e) = alike (gp w ∙ ap (λ u. cut p (b ∷ u)) e ∙ sym (gp v))
  same_choice z w c v d f (second_first a x y i j l) = second_first (z ∷ a) x y (ap (λ (l : List Bool). z ∷ l) i) (ap (λ (l : List Bool). z ∷ l) j) (front_length w (suc (length a)) (longer p w (length a) f l))
  same_choice z w c v d f (first_second a x y i j l) = first_second (z ∷ a) x y (ap (λ (l : List Bool). z ∷ l) i) (ap (λ (l : List Bool). z ∷ l) j) (front_length v (suc (length a)) (longer p v (length a) f l))

  visited_once : (q : Bool) (v : List Block) → q ≡ false → 0 < length (cut q (b ∷ silent v))
  visited_once true v e = absurd (cc e)
  visited_once false v e = omega arith

  cuts : (q : Bool) → (q ≡ true) ⊎ (q ≡ false)
  cuts true = inl refl
  cuts false = inr refl

  module _ (K M L : Continuations) (told_first : AllTold (λ w. silent w) K) (told_second : AllTold (λ w. silent w) M)
      (out : (w : List Block) (c : List Bool) → L w c → Behind b true K w c ⊎ Behind b false M w c) where
    told : p ≡ false → AllTold g L
    told f w c v d i j =
        elim (out w c i) [
          | inl h ↦ elim (out v d j) [
            | inl y ↦
                rw (h.visits_are, h.choices_are, y.visits_are, y.choices_are)
                (same_choice true h.visited h.chosen y.visited y.chosen f (told_first h.visited h.chosen y.visited y.chosen h.is y.is))
            | inr y ↦ first_second [] h.chosen y.chosen h.choices_are y.choices_are (rw y.visits_are (front_length y.visited 0 (visited_once p y.visited f)))
          ]
          | inr h ↦ elim (out v d j) [
            | inl y ↦ second_first [] h.chosen y.chosen h.choices_are y.choices_are (rw h.visits_are (front_length h.visited 0 (visited_once p h.visited f)))
            | inr y ↦
                rw (h.visits_are, h.choices_are, y.visits_are, y.choices_are)
                (same_choice false h.visited h.chosen y.visited y.chosen f (told_second h.visited h.chosen y.visited y.chosen h.is y.is))
          ]
        ]

    opens : (w : List Block) (c : List Bool) → L w c → (v : List Block) × (w ≡ b ∷ v)
    opens w c i = elim (out w c i) [ inl h ↦ (h.visited, h.visits_are) | inr h ↦ (h.visited, h.visits_are) ]

    pub told_front : AllTold g L
    told_front w c v d i j =
        elim (cuts p) [
          | inl e ↦
              let (x, s) = opens w c i in
              let (y, t) = opens v d j in
              alike (rw (s, t) (cut_off x y e))
          | inr f ↦ told f w c v d i j
        ]

-- No continuation.
abbrev pub None : Continuations
None w c = ⊥

pub told_none : AllTold (λ w. silent w) None
told_none w c v d i j = absurd i

module _ (K : Continuations) where
  told_loop : (b : Block) (body rest : Forms) → ((L : Continuations) → AllTold (λ w. silent w) L → AllTold (λ w. silent w) (After body L)) →
      AllTold (λ w. silent w) (After rest K) → (n : ℕ) → AllTold (λ w. silent w) (After (loop b n body rest) K)
  told_loop b body rest f q zero =
      told_front (λ w. silent w) b.point b (silent_front b) (After rest K) None (After (loop b 0 body rest) K) q told_none (λ w c i. inl (out_spent b body rest K w c i))
  told_loop b body rest f q (suc n) =
      told_front (λ w. silent w) b.point b (silent_front b) (After rest K) (After body (After (loop b n body rest) K)) (After (loop b (suc n) body rest) K) q
      (f (After (loop b n body rest) K) (told_loop b body rest f q n)) (out_loop b n body rest K)

-- So it is of the continuations that run forms first, where it is of what follows.
pub told_forms : (fs : Forms) (K : Continuations) → AllTold (λ w. silent w) K → AllTold (λ w. silent w) (After fs K)
told_forms done K q = λ w c v d i j. q w c v d (out_done K w c i) (out_done K v d j)
told_forms (leaf b rest) K q =
    told_front (λ w. silent w) b.point b (silent_front b) (After rest K) None (After (leaf b rest) K) (told_forms rest K q) told_none
    (λ w c i. inl (out_leaf b rest K w c i))
told_forms (call b fun rest) K q =
    told_front (λ w. silent w) b.point b (silent_front b) (After fun (After rest K)) None (After (call b fun rest) K)
    (told_forms fun (After rest K) (told_forms rest K q)) told_none (λ w c i. inl (out_call b fun rest K w c i))
told_forms (loop b n body rest) K q = told_loop K b body rest (λ L r. told_forms body L r) (told_forms rest K q) n
told_forms (cond b then else rest) K q =
    told_front (λ w. silent w) b.point b (silent_front b) (After then (After rest K)) (After else (After rest K)) (After (cond b then else rest) K)
    (told_forms then (After rest K) (told_forms rest K q)) (told_forms else (After rest K) (told_forms rest K q)) (out_cond b then else rest K)

pub told_nothing : AllTold (λ w. silent w) Nothing
told_nothing w c v d i j = alike (ap (λ w. silent w) (i.0 ∙ sym j.0))
