-- The sum of a measure over the way is its worth by the forms, where silent loops and calls have no point inside (rule 8) and no visit is worth more than it
-- costs; and the same at a place. Assumes nothing.
use mathlib.Core.Bool.{Bool, true, false}
use mathlib.Core.List.{List, [], ◌∷◌}
use mathlib.Core.Logic.{inl, inr}
use mathlib.Core.Path.{◌≡◌, refl, sym, ap, ◌∙◌}
use Prim.Native.Nat.{ℕ, zero, suc, ◌+◌, ◌*◌, ◌≤◌, max}
use native.Mathlib.Nat.{suc-mul, zero-mul, mul-zero, mul-le-mul_left}
use native.Mathlib.Decide.{dec_le}
use native.Mathlib.Omega.{arith}
use lib.Dec.{leb}
use borrow.Author.Tests.{leb-true, le-leb, lt-leb}
use Rattle.model.specs.Plan.{Block}
use Rattle.model.specs.Forms.{Forms, done, leaf, call, loop, cond, Has, NoPoint}
use Rattle.model.specs.Runs.{sum, cut}
use Rattle.model.specs.Total.{total}
use Rattle.model.specs.Places.{pick, Traceable}
use Rattle.model.specs.Stretch.{silence}
use Rattle.model.specs.Cause.{larger, way, rounds_way, visit_way}
use Rattle.model.proofs.Located.{mute_block}
use Rattle.model.proofs.NoPoints.{silence_all, rounds_silence_silent}
use Rattle.model.proofs.Causing.{way_sum}
use Rattle.outlook.specs.Quiets.{still, beyond}
use Rattle.outlook.proofs.Stilling.{silence_still}
use Rattle.stretch_visits.specs.Worth.{Within, by_sums, worth, worth_behind}

-- Sums over a way that a point may end.
cut_sum : (m : Block → ℕ) (p : Bool) (b : Block) (w : List Block) → sum m (cut p (b ∷ w)) ≡ pick p 0 (m b + sum m w)
unfolding sum
cut_sum m true b w = refl
cut_sum m false b w = refl

pick_same : (p : Bool) (x y : ℕ) → (p ≡ false → x ≡ y) → pick p 0 x ≡ pick p 0 y
pick_same true x y h = refl
pick_same false x y h = h refl

pick_below : (p : Bool) (x y : ℕ) → x ≤ y → pick p 0 x ≤ y
pick_below true x y h = omega arith
pick_below false x y h = h

-- A part that is chosen by the sums of both.
chosen_below : (a b x y z : ℕ) → x ≤ z → y ≤ z → by_sums a b x y ≤ z
chosen_below a b x y z g h = go (leb b a)
  where
    go : (q : Bool) → pick q x y ≤ z
    go true = g
    go false = h

-- The choice stays where either sum grows by as much.
moved : (t s u v x y z : ℕ) {a b c d g h : ℕ} → a ≡ t + u → b ≡ s + u → c ≡ t + v → d ≡ s + v → g ≡ x + z → h ≡ y + z →
    by_sums a b g h ≡ by_sums c d x y + z
moved t s u v x y z {a} {b} {c} {d} {g} {h} ea eb ec ed eg eh =
    elim (dec_le s t) [
      | yes l ↦ rw (le-leb b a (omega (arith, l, ea, eb)), le-leb d c (omega (arith, l, ec, ed))) eg
      | no l ↦ rw (lt-leb b a (omega (arith, l, ea, eb)), lt-leb d c (omega (arith, l, ec, ed))) eh
    ]

-- Of leaving a silent loop and going round it the way is worth the second: where a round costs nothing, it is worth nothing, and leaving is worth as much.
best_round : (cost value n e x : ℕ) {b y : ℕ} → value ≤ cost → b ≡ cost + n * cost + e → y ≡ value + n * value + x →
    by_sums e b x y ≡ value + n * value + x
best_round cost value n e x {b} {y} h i j = go (leb b e) refl
  where
    go : (q : Bool) → leb b e ≡ q → pick q x y ≡ value + n * value + x
    go true l =
        let z : value ≡ 0 = omega (arith, h, i, leb-true b e l) in
        omega (arith, z, ap (λ v. n * v) z, mul-zero n)
    go false l = j

module _ (k : Block → ℕ) where
  larger_sum : (m : Block → ℕ) (u v : List Block) → sum m (larger k u v) ≡ by_sums (sum k u) (sum k v) (sum m u) (sum m v)
  larger_sum m u v = go (leb (sum k v) (sum k u))
    where
      go : (q : Bool) → sum m (pick q u v) ≡ pick q (sum m u) (sum m v)
      go true = refl
      go false = refl

  -- The sum of k over the way, as the walk has it.
  way_still : (f : Forms) (w : List Block) → Traceable f → sum k (way k f w) ≡ still k f (sum k w)
  way_still f w h = way_sum k f w ∙ silence_still k f (sum k w) h

  still_all : (f : Forms) (e : ℕ) → Traceable f → NoPoint f → still k f e ≡ total k f + e
  still_all f e h n = sym (silence_still k f e h) ∙ silence_all k f e n

  module _ (m : Block → ℕ) where
    -- Forms without a point are worth what they are worth alone, and what follows.
    worth_all : (f : Forms) (e x : ℕ) → Traceable f → NoPoint f → worth k m f e x ≡ worth k m f 0 0 + x
    unfolding worth Traceable Has
    worth_all done e x h n = omega arith
    worth_all (leaf b r) e x h n = rw (mute_block b (λ i q. n i (inl q))) (omega (arith, worth_all r e x h (λ i q. n i (inr q))))
    worth_all (call b fun r) e x h n = rw (mute_block b (λ i q. n i (inl q))) (omega (arith, worth_all r e x h.3 (λ i q. n i (inr (inr q)))))
    worth_all (loop b c body r) e x h n = rw (mute_block b (λ i q. n i (inl q))) (omega (arith, worth_all r e x h.4 (λ i q. n i (inr (inr q)))))
    worth_all (cond b t s r) e x h n =
        let nt : NoPoint t = λ i q. n i (inr (inl q)) in
        let ns : NoPoint s = λ i q. n i (inr (inr (inl q))) in
        let z = worth_all r e x h.5 (λ i q. n i (inr (inr (inr q)))) in
        let v = still k r e in
        let u = still k r 0 in
        let g : worth k m t v (worth k m r e x) ≡ worth k m t u (worth k m r 0 0) + x =
        omega (arith, z, worth_all t v (worth k m r e x) h.3 nt, worth_all t u (worth k m r 0 0) h.3 nt) in
        let l : worth k m s v (worth k m r e x) ≡ worth k m s u (worth k m r 0 0) + x =
        omega (arith, z, worth_all s v (worth k m r e x) h.4 ns, worth_all s u (worth k m r 0 0) h.4 ns) in
        rw (mute_block b (λ i q. n i (inl q))) (omega (
          arith,
          moved (total k t) (total k s) v u (worth k m t u (worth k m r 0 0)) (worth k m s u (worth k m r 0 0)) x
              (still_all t v h.3 nt) (still_all s v h.4 ns) (still_all t u h.3 nt) (still_all s u h.4 ns) g l,
        ))

    module _ (within : Within k m) where
      -- No way is worth more than all of the forms and what follows.
      pub worth_below : (f : Forms) (e x : ℕ) → worth k m f e x ≤ total k f + x
      unfolding worth total
      worth_below done e x = omega arith
      worth_below (leaf b r) e x =
          pick_below b.point (m b + worth k m r e x) (k b + total k r + x) (omega (arith, within b, worth_below r e x))
      worth_below (call b fun r) e x =
          pick_below b.point (m b + worth k m fun 0 0 + worth k m r e x) (k b + total k fun + total k r + x)
          (omega (arith, within b, worth_below fun 0 0, worth_below r e x))
      worth_below (loop b n body r) e x =
          let g : worth k m body 0 0 + m b ≤ total k body + k b = omega (arith, within b, worth_below body 0 0) in
          pick_below b.point (m b + n * (worth k m body 0 0 + m b) + worth k m r e x) (k b + n * (total k body + k b) + total k r + x)
          (omega (arith, within b, mul-le-mul_left n g, worth_below r e x))
      worth_below (cond b t s r) e x =
          let z = worth_below r e x in
          let y = worth k m r e x in
          let v = still k r e in
          pick_below b.point (m b + by_sums (still k t v) (still k s v) (worth k m t v y) (worth k m s v y)) (k b + max (total k t) (total k s) + total k r + x)
          (omega (
            arith,
            within b,
            chosen_below (still k t v) (still k s v) (worth k m t v y) (worth k m s v y) (max (total k t) (total k s) + total k r + x)
                (omega (arith, z, worth_below t v y)) (omega (arith, z, worth_below s v y)),
          ))

      -- At a silent loop with one round more than n, whose body has no point: the way goes round, or is worth as much.
      round_worth : (b : Block) (body : Forms) (w : List Block) (n : ℕ) → b.point ≡ false → NoPoint body → Traceable body →
          ((u : List Block) → sum m (way k body u) ≡ worth k m body (sum k u) (sum m u)) →
          sum m (rounds_way k b (λ u. way k body u) w n) ≡ m b + n * (worth k m body 0 0 + m b) + sum m w →
          sum m (larger k w (way k body (rounds_way k b (λ u. way k body u) w n))) ≡ suc n * (worth k m body 0 0 + m b) + sum m w
      unfolding way silence
      round_worth b body w n p q t h i =
          let u = rounds_way k b (λ v. way k body v) w n in
          let cost = total k body + k b in
          let value = worth k m body 0 0 + m b in
          let g : sum k (way k body u) ≡ cost + n * cost + sum k w =
          omega (arith, way_sum k body u, silence_all k body (sum k u) q, way_sum k (loop b n body done) w, rounds_silence_silent k b body (sum k w) n p q) in
          let l : sum m (way k body u) ≡ value + n * value + sum m w = omega (arith, h u, worth_all body (sum k u) (sum m u) t q, i) in
          let y = best_round cost value n (sum k w) (sum m w) (omega (arith, within b, worth_below body 0 0)) g l in
          omega (arith, larger_sum m w (way k body u), y, suc-mul n value)

      rounds_worth : (b : Block) (body : Forms) (w : List Block) (n : ℕ) → (b.point ≡ false → NoPoint body) → Traceable body →
          ((u : List Block) → sum m (way k body u) ≡ worth k m body (sum k u) (sum m u)) →
          sum m (rounds_way k b (λ u. way k body u) w n) ≡ pick b.point 0 (m b + n * (worth k m body 0 0 + m b) + sum m w)
      unfolding rounds_way
      rounds_worth b body w zero q t h = cut_sum m b.point b w ∙ ap (pick b.point 0) (omega (arith, zero-mul (worth k m body 0 0 + m b)))
      rounds_worth b body w (suc n) q t h =
          let u = rounds_way k b (λ v. way k body v) w n in
          cut_sum m b.point b (larger k w (way k body u)) ∙
          pick_same b.point (m b + sum m (larger k w (way k body u))) (m b + suc n * (worth k m body 0 0 + m b) + sum m w)
          (λ p. omega (arith, round_worth b body w n p (q p) t h (rounds_worth b body w n q t h ∙ rw p refl)))

      -- The way through the parts of an if.
      parts_worth : (t s : Forms) (w : List Block) {e x : ℕ} → Traceable t → Traceable s → sum k w ≡ e → sum m w ≡ x →
          sum m (way k t w) ≡ worth k m t (sum k w) (sum m w) → sum m (way k s w) ≡ worth k m s (sum k w) (sum m w) →
          sum m (larger k (way k t w) (way k s w)) ≡ by_sums (still k t e) (still k s e) (worth k m t e x) (worth k m s e x)
      parts_worth t s w {e} {x} ht hs he hx wt ws =
          let st = way_still t w ht in
          let ss = way_still s w hs in
          let all = larger_sum m (way k t w) (way k s w) in
          cc

      -- The sum of m over the way is the worth.
      pub worth_way : (f : Forms) (w : List Block) → Traceable f → sum m (way k f w) ≡ worth k m f (sum k w) (sum m w)
      unfolding worth way Traceable
      worth_way done w h = refl
      worth_way (leaf b r) w h = cut_sum m b.point b (way k r w) ∙ ap (λ x. pick b.point 0 (m b + x)) (worth_way r w h)
      worth_way (call b fun r) w h =
          cut_sum m b.point b (way k fun (way k r w)) ∙
          pick_same b.point (m b + sum m (way k fun (way k r w))) (m b + worth k m fun 0 0 + worth k m r (sum k w) (sum m w))
          (λ p. omega (arith, worth_way fun (way k r w) h.2, worth_all fun (sum k (way k r w)) (sum m (way k r w)) h.2 (h.0 p), worth_way r w h.3))
      worth_way (loop b n body r) w h =
          rounds_worth b body (way k r w) n h.0 h.3 (λ u. worth_way body u h.3) ∙
          ap (λ x. pick b.point 0 (m b + n * (worth k m body 0 0 + m b) + x)) (worth_way r w h.4)
      worth_way (cond b t s r) w h =
          cut_sum m b.point b (larger k (way k t (way k r w)) (way k s (way k r w))) ∙
          ap (λ x. pick b.point 0 (m b + x))
          (parts_worth t s (way k r w) h.3 h.4 (way_still r w h.5) (worth_way r w h.5) (worth_way t (way k r w) h.3) (worth_way s (way k r w) h.4))

      -- AT A PLACE

      -- What follows is the end.
      rest_worth : (r : Forms) → Traceable r → sum m (way k r []) ≡ worth k m r 0 0
      unfolding sum
      rest_worth r h = worth_way r [] h

      rest_still : (r : Forms) → Traceable r → sum k (way k r []) ≡ still k r 0
      unfolding sum
      rest_still r h = way_still r [] h

      pub worth_leaf : (b : Block) (r g : Forms) → g ≡ leaf b r → Traceable g → sum m (visit_way k g []) ≡ m b + worth_behind k m g 0 0
      unfolding visit_way worth_behind Traceable sum
      worth_leaf b r g z h =
          let u : Traceable (leaf b r) = rw z at h in
          rw z (ap (λ x. m b + x) (rest_worth r u))

      pub worth_cond : (b : Block) (t s r g : Forms) → g ≡ cond b t s r → Traceable g → sum m (visit_way k g []) ≡ m b + worth_behind k m g 0 0
      unfolding visit_way worth_behind Traceable sum
      worth_cond b t s r g z h =
          let u : Traceable (cond b t s r) = rw z at h in
          let w = way k r [] in
          rw z (ap (λ x. m b + x) (parts_worth t s w u.3 u.4 (rest_still r u.5) (rest_worth r u.5) (worth_way t w u.3) (worth_way s w u.4)))

      pub worth_call : (b : Block) (fun r g : Forms) → g ≡ call b fun r → Traceable g →
          sum m (visit_way k g []) ≡ m b + worth k m fun (beyond k g 0) (worth_behind k m g 0 0)
      unfolding visit_way worth_behind beyond Traceable sum
      worth_call b fun r g z h =
          let u : Traceable (call b fun r) = rw z at h in
          let x = rest_still r u.3 in
          let y = rest_worth r u.3 in
          let v = worth_way fun (way k r []) u.2 in
          rw z (ap (λ x. m b + x) cc)

      pub worth_spent : (b : Block) (n : ℕ) (body r g : Forms) → g ≡ loop b n body r → n ≡ 0 → Traceable g →
          sum m (visit_way k g []) ≡ m b + worth_behind k m g 0 0
      unfolding visit_way worth_behind Traceable sum
      worth_spent b zero body r g z n h =
          let u : Traceable (loop b zero body r) = rw z at h in
          rw z (ap (λ x. m b + x) (rest_worth r u.4))
      worth_spent b (suc c) body r g z n h = absurd (omega arith)

      -- A loop that is a point ends the way.
      ended : (b : Block) (f : List Block → List Block) (w : List Block) (n : ℕ) → b.point ≡ true → rounds_way k b f w n ≡ []
      unfolding rounds_way
      ended b f w zero p = rw p refl
      ended b f w (suc n) p = rw p refl

      -- It is left where going round has no larger sum.
      pub worth_loop : (b : Block) (n : ℕ) (body r g : Forms) → g ≡ loop b n body r → (n ≡ 0 → ⊥) → b.point ≡ true → Traceable g →
          sum m (visit_way k g []) ≡ m b + pick (leb (still k body 0) (beyond k g 0)) (worth_behind k m g 0 0) (worth k m body 0 0)
      unfolding visit_way way worth_behind beyond Traceable sum
      worth_loop b zero body r g z n p h = absurd (n refl)
      worth_loop b (suc c) body r g z n p h =
          let u : Traceable (loop b (suc c) body r) = rw z at h in
          let x = ended b (λ v. way k body v) (way k r []) c p in
          let i = rest_still r u.4 in
          let j = rest_worth r u.4 in
          let v = rest_still body u.3 in
          let w = rest_worth body u.3 in
          let q = larger_sum m (way k r []) (way k body []) in
          rw z (ap (λ x. m b + x) (ap (λ v. sum m (larger k (way k r []) (way k body v))) x ∙ cc))
