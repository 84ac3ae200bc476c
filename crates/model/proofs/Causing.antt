-- The way that is computed is the visits of a cause (02, L9), and no other cause has other visits.
use mathlib.Core.Bool.{Bool, true, false}
use mathlib.Core.Path.{◌≡◌, refl, ap, sym, ◌∙◌, subst}
use mathlib.Core.List.{List, [], ◌∷◌, ◌++◌, append_assoc}
use mathlib.Core.Logic.{◌⊎◌, inl, inr}
use Prim.Native.Nat.{ℕ, zero, suc, ◌+◌, ◌≤◌, ◌<◌, max}
use native.Mathlib.Decide.{dec_le}
use native.Mathlib.Omega.{arith}
use lib.ListN.{length}
use borrow.Author.Tests.{le-leb, lt-leb}
use Rattle.model.specs.Plan.{Block}
use Rattle.model.specs.Forms.{Forms, done, leaf, call, loop, cond}
use Rattle.model.specs.Runs.{Run, ends, visit, enter, leave, turn, run_then, run_else, visits, sum, silent, cut}
use Rattle.model.specs.Stretch.{unless, silence, rounds_silence, visit_stretch}
use Rattle.model.specs.Cause.{choices, larger, way, rounds_way, visit_way}

-- The larger of two, by whether the second has the larger sum.
pub data Larger (k : Block → ℕ) (u v : List Block) : Type 0 where
  is_first : larger k u v ≡ u → sum k v ≤ sum k u → Larger k u v
  is_second : larger k u v ≡ v → sum k u < sum k v → Larger k u v

module _ (k : Block → ℕ) where
  pub larger_is : (u v : List Block) → Larger k u v
  larger_is u v =
      elim (dec_le (sum k v) (sum k u)) [
        | yes h ↦ is_first (rw (le-leb (sum k v) (sum k u) h)) h
        | no h ↦ let l : sum k u < sum k v = omega arith in is_second (rw (lt-leb (sum k v) (sum k u) l)) l
      ]

  cut_sum : (p : Bool) (b : Block) (u : List Block) → sum k (cut p (b ∷ u)) ≡ unless p (k b + sum k u)
  unfolding sum
  cut_sum true b u = refl
  cut_sum false b u = refl

  larger_sum : (u v : List Block) → sum k (larger k u v) ≡ max (sum k u) (sum k v)
  larger_sum u v =
      elim (larger_is u v) [
        | is_first e h ↦ rw e (omega arith)
        | is_second e h ↦ rw e (omega arith)
      ]

  rounds_sum : (b : Block) (f : List Block → List Block) (g : ℕ → ℕ) → ((u : List Block) → sum k (f u) ≡ g (sum k u)) → (w : List Block) (n : ℕ) →
      sum k (rounds_way k b f w n) ≡ rounds_silence k b g (sum k w) n
  unfolding rounds_way rounds_silence
  rounds_sum b f g h w zero = cut_sum b.point b w
  rounds_sum b f g h w (suc n) =
      let u = rounds_way k b f w n in
      let e : sum k (f u) ≡ g (rounds_silence k b g (sum k w) n) = h u ∙ ap g (rounds_sum b f g h w n) in
      cut_sum b.point b (larger k w (f u)) ∙ ap (λ x. unless b.point (k b + x)) (larger_sum w (f u) ∙ ap (max (sum k w)) e)

  -- The sum over the way is the silence.
  pub way_sum : (f : Forms) (w : List Block) → sum k (way k f w) ≡ silence k f (sum k w)
  unfolding way silence
  way_sum done w = refl
  way_sum (leaf b rest) w = cut_sum b.point b (way k rest w) ∙ ap (λ x. unless b.point (k b + x)) (way_sum rest w)
  way_sum (call b fun rest) w =
      cut_sum b.point b (way k fun (way k rest w)) ∙ ap (λ x. unless b.point (k b + x)) (way_sum fun (way k rest w) ∙ ap (silence k fun) (way_sum rest w))
  way_sum (loop b n body rest) w =
      rounds_sum b (λ u. way k body u) (λ s. silence k body s) (λ u. way_sum body u) (way k rest w) n ∙
      ap (λ x. rounds_silence k b (λ s. silence k body s) x n) (way_sum rest w)
  way_sum (cond b then else rest) w =
      let u = way k rest w in
      let e = way_sum rest w in
      cut_sum b.point b (larger k (way k then u) (way k else u)) ∙
      ap (λ x. unless b.point (k b + x))
      (larger_sum (way k then u) (way k else u) ∙ rw (way_sum then u, way_sum else u, e) refl)

  -- The sum over the way of a visit is its stretch.
  pub visit_way_sum : (f : Forms) (w : List Block) → sum k (visit_way k f w) ≡ visit_stretch k f (sum k w)
  unfolding visit_way visit_stretch sum
  visit_way_sum done w = refl
  visit_way_sum (leaf b rest) w = rw (way_sum rest w) refl
  visit_way_sum (call b fun rest) w = rw (way_sum fun (way k rest w), way_sum rest w) refl
  visit_way_sum (loop b zero body rest) w = rw (way_sum rest w) refl
  visit_way_sum (loop b (suc n) body rest) w =
      rw (larger_sum (way k rest w) (way k body (way k (loop b n body rest) w)), way_sum body (way k (loop b n body rest) w), way_sum (loop b n body rest) w, way_sum rest w) refl
  visit_way_sum (cond b then else rest) w =
      let u = way k rest w in
      rw (larger_sum (way k then u) (way k else u), way_sum then u, way_sum else u, way_sum rest w) refl

-- CONTINUATIONS

-- Visits and choices of the continuations of a place.
abbrev pub Continuations : Type 1
Continuations = List Block → List Bool → Type 0

-- Those that run the forms first, and then go on as K does.
abbrev pub After : Forms → Continuations → Continuations
After fs K w c = (r : Run fs) × (v : List Block) × (d : List Bool) × K v d × (w ≡ visits r ++ v) × (c ≡ choices r ++ d)

-- Nothing is left.
abbrev pub Nothing : Continuations
Nothing w c = (w ≡ []) × (c ≡ [])

-- With a visit of b in front, whose choice is z.
pub record Behind (b : Block) (z : Bool) (K : Continuations) (w : List Block) (c : List Bool) : Type 0 where
  pub visited : List Block
  pub chosen : List Bool
  pub is : K visited chosen
  pub visits_are : w ≡ b ∷ visited
  pub choices_are : c ≡ z ∷ chosen

-- The runs of a sequence by its first visit.
pub into_leaf : (b : Block) (rest : Forms) (K : Continuations) (w : List Block) (c : List Bool) → After rest K w c → After (leaf b rest) K (b ∷ w) (true ∷ c)
unfolding visits choices
into_leaf b rest K w c (r, v, d, i, e, f) = (visit r, v, d, i, cc, cc)

pub out_leaf : (b : Block) (rest : Forms) (K : Continuations) (w : List Block) (c : List Bool) → After (leaf b rest) K w c → Behind b true (After rest K) w c
unfolding visits choices
out_leaf b rest K w c (visit r, v, d, i, e, f) =
    record { visited = visits r ++ v; chosen = choices r ++ d; is = (r, v, d, i, refl, refl); visits_are = e; choices_are = f }

pub into_call : (b : Block) (fun rest : Forms) (K : Continuations) (w : List Block) (c : List Bool) →
    After fun (After rest K) w c → After (call b fun rest) K (b ∷ w) (true ∷ c)
unfolding visits choices
into_call b fun rest K w c (x, v, d, (r, u, a, i, e, f), g, h) =
    (enter x r, u, a, i, cc (append_assoc (visits x) (visits r) u), cc (append_assoc (choices x) (choices r) a))

pub out_call : (b : Block) (fun rest : Forms) (K : Continuations) (w : List Block) (c : List Bool) →
    After (call b fun rest) K w c → Behind b true (After fun (After rest K)) w c
unfolding visits choices
out_call b fun rest K w c (enter x r, v, d, i, e, f) =
    record {
      visited = visits x ++ (visits r ++ v);
      chosen = choices x ++ (choices r ++ d);
      is = (x, visits r ++ v, choices r ++ d, (r, v, d, i, refl, refl), refl, refl);
      visits_are = e ∙ ap (λ (l : List Block). b ∷ l) (append_assoc (visits x) (visits r) v);
      choices_are = f ∙ ap (λ (l : List Bool). true ∷ l) (append_assoc (choices x) (choices r) d);
    }

pub into_leave : (b : Block) (n : ℕ) (body rest : Forms) (K : Continuations) (w : List Block) (c : List Bool) →
    After rest K w c → After (loop b n body rest) K (b ∷ w) (true ∷ c)
unfolding visits choices
into_leave b n body rest K w c (r, v, d, i, e, f) = (leave r, v, d, i, cc, cc)

pub into_turn : (b : Block) (n : ℕ) (body rest : Forms) (K : Continuations) (w : List Block) (c : List Bool) →
    After body (After (loop b n body rest) K) w c → After (loop b (suc n) body rest) K (b ∷ w) (false ∷ c)
unfolding visits choices
into_turn b n body rest K w c (x, v, d, (r, u, a, i, e, f), g, h) =
    (turn x r, u, a, i, cc (append_assoc (visits x) (visits r) u), cc (append_assoc (choices x) (choices r) a))

pub out_spent : (b : Block) (body rest : Forms) (K : Continuations) (w : List Block) (c : List Bool) →
    After (loop b 0 body rest) K w c → Behind b true (After rest K) w c
unfolding visits choices
out_spent b body rest K w c (leave r, v, d, i, e, f) =
    record { visited = visits r ++ v; chosen = choices r ++ d; is = (r, v, d, i, refl, refl); visits_are = e; choices_are = f }

pub out_loop : (b : Block) (n : ℕ) (body rest : Forms) (K : Continuations) (w : List Block) (c : List Bool) → After (loop b (suc n) body rest) K w c →
    Behind b true (After rest K) w c ⊎ Behind b false (After body (After (loop b n body rest) K)) w c
unfolding visits choices
out_loop b n body rest K w c (leave r, v, d, i, e, f) =
    inl (record { visited = visits r ++ v; chosen = choices r ++ d; is = (r, v, d, i, refl, refl); visits_are = e; choices_are = f })
out_loop b n body rest K w c (turn x r, v, d, i, e, f) =
    inr (record {
      visited = visits x ++ (visits r ++ v);
      chosen = choices x ++ (choices r ++ d);
      is = (x, visits r ++ v, choices r ++ d, (r, v, d, i, refl, refl), refl, refl);
      visits_are = e ∙ ap (λ (l : List Block). b ∷ l) (append_assoc (visits x) (visits r) v);
      choices_are = f ∙ ap (λ (l : List Bool). false ∷ l) (append_assoc (choices x) (choices r) d);
    })

pub into_then : (b : Block) (then else rest : Forms) (K : Continuations) (w : List Block) (c : List Bool) →
    After then (After rest K) w c → After (cond b then else rest) K (b ∷ w) (true ∷ c)
unfolding visits choices
into_then b then else rest K w c (x, v, d, (r, u, a, i, e, f), g, h) =
    (run_then x r, u, a, i, cc (append_assoc (visits x) (visits r) u), cc (append_assoc (choices x) (choices r) a))

pub into_else : (b : Block) (then else rest : Forms) (K : Continuations) (w : List Block) (c : List Bool) →
    After else (After rest K) w c → After (cond b then else rest) K (b ∷ w) (false ∷ c)
unfolding visits choices
into_else b then else rest K w c (x, v, d, (r, u, a, i, e, f), g, h) =
    (run_else x r, u, a, i, cc (append_assoc (visits x) (visits r) u), cc (append_assoc (choices x) (choices r) a))

pub out_cond : (b : Block) (then else rest : Forms) (K : Continuations) (w : List Block) (c : List Bool) → After (cond b then else rest) K w c →
    Behind b true (After then (After rest K)) w c ⊎ Behind b false (After else (After rest K)) w c
unfolding visits choices
out_cond b then else rest K w c (run_then x r, v, d, i, e, f) =
    inl (record {
      visited = visits x ++ (visits r ++ v);
      chosen = choices x ++ (choices r ++ d);
      is = (x, visits r ++ v, choices r ++ d, (r, v, d, i, refl, refl), refl, refl);
      visits_are = e ∙ ap (λ (l : List Block). b ∷ l) (append_assoc (visits x) (visits r) v);
      choices_are = f ∙ ap (λ (l : List Bool). true ∷ l) (append_assoc (choices x) (choices r) d);
    })
out_cond b then else rest K w c (run_else x r, v, d, i, e, f) =
    inr (record {
      visited = visits x ++ (visits r ++ v);
      chosen = choices x ++ (choices r ++ d);
      is = (x, visits r ++ v, choices r ++ d, (r, v, d, i, refl, refl), refl, refl);
      visits_are = e ∙ ap (λ (l : List Block). b ∷ l) (append_assoc (visits x) (visits r) v);
      choices_are = f ∙ ap (λ (l : List Bool). false ∷ l) (append_assoc (choices x) (choices r) d);
    })

pub out_done : (K : Continuations) (w : List Block) (c : List Bool) → After done K w c → K w c
unfolding visits choices
out_done K w c (ends, v, d, i, e, f) = subst (λ (l : List Block). K l c) (sym e) (subst (λ (l : List Bool). K v l) (sym f) i)

pub silent_front : (b : Block) (v : List Block) → silent (b ∷ v) ≡ cut b.point (b ∷ silent v)
unfolding silent
silent_front b v = refl

module _ (k : Block → ℕ) where
  -- A continuation as a cause has it, of which u are the visits that count: those that g lets through.
  pub record Best (g : List Block → List Block) (K : Continuations) (u : List Block) : Type 0 where
    pub visited : List Block
    pub chosen : List Bool
    pub is : K visited chosen
    pub counts : g visited ≡ u
    pub largest : (w : List Block) (c : List Bool) → K w c → sum k (g w) ≤ sum k u
    pub ties : (w : List Block) (c : List Bool) → K w c → (a x y : List Bool) → chosen ≡ a ++ (false ∷ x) → length a < length u → c ≡ a ++ (true ∷ y) →
        sum k (g w) < sum k u

  -- The same continuations.
  best_same : (g : List Block → List Block) (K L : Continuations) (u : List Block) → ((w : List Block) (c : List Bool) → K w c → L w c) →
      ((w : List Block) (c : List Bool) → L w c → K w c) → Best g K u → Best g L u
  best_same g K L u to from q =
      record {
        visited = q.visited;
        chosen = q.chosen;
        is = to q.visited q.chosen q.is;
        counts = q.counts;
        largest = λ w c l. q.largest w c (from w c l);
        ties = λ w c l. q.ties w c (from w c l);
      }

  -- A sum within another, and one below it, with a visit of b in front that may cut both off.
  cut_within : (p : Bool) (b : Block) (v u : List Block) → sum k v ≤ sum k u → sum k (cut p (b ∷ v)) ≤ sum k (cut p (b ∷ u))
  unfolding sum
  cut_within true b v u h = omega arith
  cut_within false b v u h = omega arith

  cut_below : (p : Bool) (b : Block) (v u : List Block) (n : ℕ) → n < length (cut p (b ∷ u)) → sum k v < sum k u → sum k (cut p (b ∷ v)) < sum k (cut p (b ∷ u))
  unfolding sum
  cut_below true b v u n l h = absurd (omega arith)
  cut_below false b v u n l h = omega arith

  cut_shorter : (p : Bool) (b : Block) (u : List Block) (n : ℕ) → suc n < length (cut p (b ∷ u)) → n < length u
  cut_shorter true b u n l = absurd (omega arith)
  cut_shorter false b u n l = omega arith

  -- One that makes the other choice o at the first visit, and whose sum is no larger, where the choice z is false smaller.
  record Lesser (b : Block) (z o : Bool) (u w : List Block) (c : List Bool) : Type 0 where
    pub visited : List Block
    pub chosen : List Bool
    pub visits_are : w ≡ b ∷ visited
    pub choices_are : c ≡ o ∷ chosen
    pub within : sum k (silent visited) ≤ sum k u
    pub below : z ≡ false → sum k (silent visited) < sum k u

  -- With a visit of b in front, whose choice z is the better one.
  module _ (g : List Block → List Block) (p : Bool) (b : Block) (gp : (v : List Block) → g (b ∷ v) ≡ cut p (b ∷ silent v)) (z o : Bool) (differ : z ≡ o → ⊥)
      (K L : Continuations) (u : List Block) (into : (w : List Block) (c : List Bool) → K w c → L (b ∷ w) (z ∷ c))
      (out : (w : List Block) (c : List Bool) → L w c → Behind b z K w c ⊎ Lesser b z o u w c) (q : Best (λ w. silent w) K u) where
    front_within : (w : List Block) (c : List Bool) → L w c → sum k (g w) ≤ sum k (cut p (b ∷ u))
    front_within w c l =
        elim (out w c l) [
          | inl h ↦ rw (h.visits_are, gp h.visited) (cut_within p b (silent h.visited) u (q.largest h.visited h.chosen h.is))
          | inr h ↦ rw (h.visits_are, gp h.visited) (cut_within p b (silent h.visited) u h.within)
        ]

    front_below : (w : List Block) (c : List Bool) → L w c → (a x y : List Bool) → z ∷ q.chosen ≡ a ++ (false ∷ x) → length a < length (cut p (b ∷ u)) →
        c ≡ a ++ (true ∷ y) → sum k (g w) < sum k (cut p (b ∷ u))
    front_below w c l [] x y e lt d =
        let s : z ≡ false = cc in
        elim (out w c l) [
          | inl h ↦ let r : true ≡ false = (let i : true ∷ y ≡ z ∷ h.chosen = sym d ∙ h.choices_are in cc) in absurd (cc r)
          | inr h ↦ rw (h.visits_are, gp h.visited) (cut_below p b (silent h.visited) u (length {A = Bool} []) lt (h.below s))
        ]
    front_below w c l (i ∷ a) x y e lt d =
        let s : z ≡ i = cc in
        let t : q.chosen ≡ a ++ (false ∷ x) = cc in
        elim (out w c l) [
          | inl h ↦
              let j : i ∷ (a ++ (true ∷ y)) ≡ z ∷ h.chosen = sym d ∙ h.choices_are in
              let m : h.chosen ≡ a ++ (true ∷ y) = cc in
              rw (h.visits_are, gp h.visited)
              (cut_below p b (silent h.visited) u (length (i ∷ a)) lt (q.ties h.visited h.chosen h.is a x y t (cut_shorter p b u (length a) lt) m))
          | inr h ↦ let j : i ∷ (a ++ (true ∷ y)) ≡ o ∷ h.chosen = sym d ∙ h.choices_are in absurd (differ cc)
        ]

    front : Best g L (cut p (b ∷ u))
    front =
        record {
          visited = b ∷ q.visited;
          chosen = z ∷ q.chosen;
          is = into q.visited q.chosen q.is;
          counts = gp q.visited ∙ ap (λ w. cut p (b ∷ w)) q.counts;
          largest = front_within;
          ties = front_below;
        }

  -- A visit without a choice.
  pub one_way : (g : List Block → List Block) (p : Bool) (b : Block) → ((v : List Block) → g (b ∷ v) ≡ cut p (b ∷ silent v)) → (K L : Continuations) (u : List Block) →
      ((w : List Block) (c : List Bool) → K w c → L (b ∷ w) (true ∷ c)) → ((w : List Block) (c : List Bool) → L w c → Behind b true K w c) →
      Best (λ w. silent w) K u → Best g L (cut p (b ∷ u))
  one_way g p b gp K L u to out q = front g p b gp true false (λ e. absurd (cc e)) K L u to (λ w c l. inl (out w c l)) q

  -- A visit with two choices: the first, unless the second has the larger sum.
  pub two_ways : (g : List Block → List Block) (p : Bool) (b : Block) → ((v : List Block) → g (b ∷ v) ≡ cut p (b ∷ silent v)) → (K M L : Continuations) (u v : List Block) →
      ((w : List Block) (c : List Bool) → K w c → L (b ∷ w) (true ∷ c)) → ((w : List Block) (c : List Bool) → M w c → L (b ∷ w) (false ∷ c)) →
      ((w : List Block) (c : List Bool) → L w c → Behind b true K w c ⊎ Behind b false M w c) →
      Best (λ w. silent w) K u → Best (λ w. silent w) M v → Best g L (cut p (b ∷ larger k u v))
  two_ways g p b gp K M L u v to other out q r =
      elim (larger_is k u v) [
        | is_first e le ↦ rw e (front g p b gp true false (λ e. absurd (cc e)) K L u to (λ w c l. elim (out w c l) [
          | inl h ↦ inl h
          | inr h ↦ inr (record {
            visited = h.visited;
            chosen = h.chosen;
            visits_are = h.visits_are;
            choices_are = h.choices_are;
            within = omega (arith, le, r.largest h.visited h.chosen h.is);
            below = λ e. absurd (cc e);
          })
        ]) q)
        | is_second e lt ↦ rw e (front g p b gp false true (λ e. absurd (cc e)) M L v other (λ w c l. elim (out w c l) [
          | inl h ↦ inr (record {
            visited = h.visited;
            chosen = h.chosen;
            visits_are = h.visits_are;
            choices_are = h.choices_are;
            within = omega (arith, lt, q.largest h.visited h.chosen h.is);
            below = λ e. omega (arith, lt, q.largest h.visited h.chosen h.is);
          })
          | inr h ↦ inl h
        ]) r)
      ]

  abbrev pub Quiet : Continuations → List Block → Type 0
  Quiet K u = Best (λ w. silent w) K u

  quiet_loop : (b : Block) (body rest : Forms) (K : Continuations) (u : List Block) → ((L : Continuations) (v : List Block) → Quiet L v → Quiet (After body L) (way k body v)) →
      Quiet (After rest K) u → (n : ℕ) → Quiet (After (loop b n body rest) K) (rounds_way k b (λ v. way k body v) u n)
  unfolding rounds_way
  quiet_loop b body rest K u f q zero =
      one_way (λ w. silent w) b.point b (silent_front b) (After rest K) (After (loop b 0 body rest) K) u (into_leave b 0 body rest K) (out_spent b body rest K) q
  quiet_loop b body rest K u f q (suc n) =
      let v = rounds_way k b (λ v. way k body v) u n in
      let L = After (loop b n body rest) K in
      two_ways (λ w. silent w) b.point b (silent_front b) (After rest K) (After body L) (After (loop b (suc n) body rest) K) u (way k body v) (into_leave b (suc n) body rest K)
      (into_turn b n body rest K) (out_loop b n body rest K) q (f L v (quiet_loop b body rest K u f q n))

  -- The way through forms is such a continuation, where that of what follows them is one.
  pub quiet : (fs : Forms) (K : Continuations) (u : List Block) → Quiet K u → Quiet (After fs K) (way k fs u)
  unfolding way visits choices
  quiet done K u q =
      best_same (λ w. silent w) K (After done K) u (λ w c i. (ends, w, c, i, refl, refl)) (out_done K) q
  quiet (leaf b rest) K u q =
      one_way (λ w. silent w) b.point b (silent_front b) (After rest K) (After (leaf b rest) K) (way k rest u) (into_leaf b rest K) (out_leaf b rest K) (quiet rest K u q)
  quiet (call b fun rest) K u q =
      let v = way k rest u in
      one_way (λ w. silent w) b.point b (silent_front b) (After fun (After rest K)) (After (call b fun rest) K) (way k fun v) (into_call b fun rest K) (out_call b fun rest K)
      (quiet fun (After rest K) v (quiet rest K u q))
  quiet (loop b n body rest) K u q = quiet_loop b body rest K (way k rest u) (λ L v. quiet body L v) (quiet rest K u q) n
  quiet (cond b then else rest) K u q =
      let v = way k rest u in
      let r = quiet rest K u q in
      two_ways (λ w. silent w) b.point b (silent_front b) (After then (After rest K)) (After else (After rest K)) (After (cond b then else rest) K) (way k then v) (way k else v)
      (into_then b then else rest K) (into_else b then else rest K) (out_cond b then else rest K) (quiet then (After rest K) v r) (quiet else (After rest K) v r)
