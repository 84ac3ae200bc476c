-- Arrays of 33 numbers with one number set and 0 above it, and the frames that they hold.
use mathlib.Core.List.{List, [], ◌∷◌, ◌++◌}
use mathlib.Core.Path.{◌≡◌, refl, ap, sym, ◌∙◌}
use Prim.Native.Nat.{ℕ, zero, suc, ◌+◌, ◌-◌, ◌≤◌, ◌<◌}
use native.Mathlib.Omega.{arith}
use native.Mathlib.Decide.{dec_lt}
use lib.ListN.{length, get_or, take, replicate, length-append, length-take, length-replicate}
use lib.Seq.{ext_get_or}
use Rattle.place.specs.Stack.{Put, frames}
use Rattle.control.specs.State.{put}

pub length_put : (a : List ℕ) (l v : ℕ) → length a ≡ 33 → l ≤ 32 → length (put a l v) ≡ 33
length_put a l v h q =
    let x = length-append (take l a) (v ∷ replicate (32 - l) 0) in
    omega (arith, x, length-take l a, length-replicate {A = ℕ} (32 - l) 0)

get_d_take : (a z : List ℕ) (l k : ℕ) → k < l → l ≤ length a → get_or (take l a ++ z) k 0 ≡ get_or a k 0
get_d_take a z zero k h q = absurd (omega arith)
get_d_take [] z (suc l) k h q = absurd (omega arith)
get_d_take (x ∷ a) z (suc l) zero h q = refl
get_d_take (x ∷ a) z (suc l) (suc k) h q = get_d_take a z l k (omega arith) (omega arith)

get_d_at : (a : List ℕ) (v : ℕ) (z : List ℕ) (l : ℕ) → l ≤ length a → get_or (take l a ++ (v ∷ z)) l 0 ≡ v
get_d_at a v z zero q = refl
get_d_at [] v z (suc l) q = absurd (omega arith)
get_d_at (x ∷ a) v z (suc l) q = get_d_at a v z l (omega arith)

put_below : (a : List ℕ) (l v k : ℕ) → length a ≡ 33 → l ≤ 32 → k < l → get_or (put a l v) k 0 ≡ get_or a k 0
put_below a l v k h q i = get_d_take a (v ∷ replicate (32 - l) 0) l k i (omega arith)

pub put_at : (a : List ℕ) (l v : ℕ) → length a ≡ 33 → l ≤ 32 → get_or (put a l v) l 0 ≡ v
put_at a l v h q = get_d_at a v (replicate (32 - l) 0) l (omega arith)

-- A row of zeros holds 0 everywhere.
pub zeros : (k j : ℕ) → ◌≡◌ {A = ℕ} (get_or (replicate k 0) j 0) 0
zeros zero j = refl
zeros (suc k) zero = refl
zeros (suc k) (suc j) = zeros k j

get_d_past : (a : List ℕ) (v m l k : ℕ) → l ≤ length a → l < k → get_or (take l a ++ (v ∷ replicate m 0)) k 0 ≡ 0
get_d_past a v m zero zero q h = absurd (omega arith)
get_d_past a v m zero (suc k) q h = zeros m k
get_d_past [] v m (suc l) k q h = absurd (omega arith)
get_d_past (x ∷ a) v m (suc l) zero q h = absurd (omega arith)
get_d_past (x ∷ a) v m (suc l) (suc k) q h = get_d_past a v m l k (omega arith) (omega arith)

-- An array that keeps what is below l, has v at l and 0 above is that array.
pub put_is : {a b : List ℕ} {l v : ℕ} → Put a b l v → l ≤ 32 → b ≡ put a l v
put_is {a} {b} {l} {v} p q = ext_get_or 0 b (put a l v) (p.new_33 ∙ sym (length_put a l v p.old_33 q)) entry
  where
    entry : (i : ℕ) → i < length b → get_or b i 0 ≡ get_or (put a l v) i 0
    entry i h =
        elim (dec_lt i l) [
          | yes lt ↦ p.under i lt ∙ sym (put_below a l v i p.old_33 q lt)
          | no ge ↦ elim (dec_lt l i) [
            | yes lt ↦ p.above i lt ∙ sym (get_d_past a v (32 - l) l i (omega arith) lt)
            | no le ↦ let z : i ≡ l = omega arith in rw z (p.here ∙ sym (put_at a l v p.old_33 q))
          ]
        ]

pub length_frames : (a b : List ℕ) (l k : ℕ) → length (frames a b l k) ≡ k
unfolding frames
length_frames a b l zero = refl
length_frames a b l (suc k) = omega (arith, length_frames a b (suc l) k)

-- The frames below the level that was set stay, and there is a new one at it.
frames_put : (a b : List ℕ) (l n c : ℕ) → length a ≡ 33 → length b ≡ 33 → l ≤ 32 → (from j k : ℕ) → from + j ≡ l → j ≤ k →
    frames (put a l n) (put b l c) from (suc j) ≡ take j (frames a b from k) ++ (record { leaf = n; earlier = c } ∷ [])
unfolding frames
frames_put a b l n c ha hb q from zero k e h =
    let z : from ≡ l = omega arith in
    rw (z, put_at a l n ha q, put_at b l c hb q)
frames_put a b l n c ha hb q from (suc j) zero e h = absurd (omega arith)
frames_put a b l n c ha hb q from (suc j) (suc k) e h =
    let i : from < l = omega arith in
    rw (put_below a l n from ha q i, put_below b l c from hb q i, frames_put a b l n c ha hb q (suc from) j k (omega arith) (omega arith))

pub frames_moved : (a b : List ℕ) (l n c k : ℕ) → length a ≡ 33 → length b ≡ 33 → 1 ≤ l → l ≤ 32 → l - 1 ≤ k →
    frames (put a l n) (put b l c) 1 l ≡ take (l - 1) (frames a b 1 k) ++ (record { leaf = n; earlier = c } ∷ [])
frames_moved a b l n c k ha hb o q h =
    let z : suc (l - 1) ≡ l = omega arith in
    ap (λ m. frames (put a l n) (put b l c) 1 m) (sym z) ∙ frames_put a b l n c ha hb q 1 (l - 1) k (omega arith) h
