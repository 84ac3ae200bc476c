-- No level is above 32: what stands at level l has 32 - l levels above it. Assumes nothing.
use mathlib.Core.Path.{◌≡◌}
use mathlib.Core.List.{List, [], ◌∷◌}
use mathlib.Core.Logic.{inl, inr}
use mathlib.Core.Option.{some}
use Prim.Native.Nat.{ℕ, zero, suc, ◌-◌, ◌≤◌}
use native.Mathlib.Omega.{arith}
use lib.ListN.{length}
use Rattle.model.specs.Forms.{Forms, done, leaf, call, loop, cond, ◌⊕◌}
use Rattle.model.specs.Places.{◌or◌, ◌⊕?◌, seek}
use Rattle.model.specs.Stack.{Levels, suffix, turned, inside_of}
use Rattle.model.proofs.Places.{never, or_some, ⊕?-some}
use Rattle.place.specs.Stack.{Shallow}
use Rattle.place.specs.Spans.{Stands, ground}
use Rattle.place.proofs.Suffixes.{from_cases}

low-⊕ : (k : ℕ) (f g : Forms) → Shallow k f → Shallow k g → Shallow k (f ⊕ g)
unfolding Shallow ◌⊕◌
low-⊕ k done g h q = q
low-⊕ k (leaf b r) g h q = (h.0, low-⊕ k r g h.1 q)
low-⊕ k (call b fun r) g h q = (h.0, h.1, low-⊕ k r g h.2 q)
low-⊕ k (loop b n body r) g h q = (h.0, h.1, low-⊕ k r g h.2 q)
low-⊕ k (cond b t e r) g h q = (h.0, h.1, h.2, low-⊕ k r g h.3 q)

low_same : (k : ℕ) {f g : Forms} → f ≡ g → Shallow k f → Shallow k g
low_same k e h = rw e at h

low_suffix : (k : ℕ) (f : Forms) (n : ℕ) (g : Forms) → Shallow k f → suffix f n ≡ some g → Shallow k g
unfolding Shallow suffix
low_suffix k done n g h e = never e
low_suffix k (leaf b r) n g h e = elim (from_cases b n (leaf b r) (suffix r n) g e) [ inl z ↦ low_same k z.1 h | inr z ↦ low_suffix k r n g h.1 z.1 ]
low_suffix k (call b fun r) n g h e = elim (from_cases b n (call b fun r) (suffix r n) g e) [ inl z ↦ low_same k z.1 h | inr z ↦ low_suffix k r n g h.2 z.1 ]
low_suffix k (loop b m body r) n g h e = elim (from_cases b n (loop b m body r) (suffix r n) g e) [ inl z ↦ low_same k z.1 h | inr z ↦ low_suffix k r n g h.2 z.1 ]
low_suffix k (cond b t s r) n g h e =
    elim (from_cases b n (cond b t s r) (suffix t n ⊕? r or suffix s n ⊕? r or suffix r n) g e) [
      | inl z ↦ low_same k z.1 h
      | inr z ↦ elim (or_some (suffix t n ⊕? r) (suffix s n ⊕? r or suffix r n) g z.1) [
        | inl j ↦ let (l, a, c) = ⊕?-some (suffix t n) r g j in low_same k c (low-⊕ k l r (low_suffix k t n l h.1 a) h.3)
        | inr j ↦ elim (or_some (suffix s n ⊕? r) (suffix r n) g j.1) [
          | inl j ↦ let (l, a, c) = ⊕?-some (suffix s n) r g j in low_same k c (low-⊕ k l r (low_suffix k s n l h.2 a) h.3)
          | inr j ↦ low_suffix k r n g h.3 j.1
        ]
      ]
    ]

low_turned : (k v : ℕ) (f g : Forms) → Shallow k f → turned f v ≡ some g → Shallow k g
unfolding Shallow turned
low_turned k zero f g h e = let z : f ≡ g = cc in low_same k z h
low_turned k (suc v) done g h e = never e
low_turned k (suc v) (leaf b r) g h e = never e
low_turned k (suc v) (call b fun r) g h e = never e
low_turned k (suc v) (loop b zero body r) g h e = never e
low_turned k (suc v) (loop b (suc m) body r) g h e = low_turned k v (loop b m body r) g h e
low_turned k (suc v) (cond b t s r) g h e = never e

low_inside : (k : ℕ) (g f : Forms) → Shallow k g → inside_of g ≡ some f → Shallow (k - 1) f
unfolding Shallow inside_of
low_inside k done f h e = never e
low_inside k (leaf b r) f h e = never e
low_inside k (call b fun r) f h e = let z : fun ≡ f = cc in low_same (k - 1) z h.1
low_inside k (loop b zero body r) f h e = never e
low_inside k (loop b (suc m) body r) f h e = let z : body ≡ f = cc in low_same (k - 1) z h.1
low_inside k (cond b t s r) f h e = never e

pub low_level : (main : Forms) (leaves counts : List ℕ) (ks : Levels) (f : Forms) → Shallow 32 main → Stands main leaves counts ks → ground main ks ≡ some f → Shallow (32 - length ks) f
unfolding Stands ground
low_level main leaves counts [] f h st e = let z : main ≡ f = cc in low_same 32 z h
low_level main leaves counts (g ∷ ks) f h st e =
    let lv = st.1 in
    let a = low_level main leaves counts ks lv.level h st.0 lv.opens in
    let b = low_turned (32 - length ks) _ lv.start g (low_suffix (32 - length ks) lv.level _ lv.start a lv.found) lv.turns in
    let z : 32 - length ks - 1 ≡ 32 - length (g ∷ ks) = omega arith in
    rw z at (low_inside (32 - length ks) g f b e)

pub low_some : (k : ℕ) (f : Forms) (x : ℕ) (g : Forms) → Shallow k f → seek f x ≡ some g → 1 ≤ k
unfolding Shallow seek
low_some k done x g h e = never e
low_some k (leaf b r) x g h e = h.0
low_some k (call b fun r) x g h e = h.0
low_some k (loop b n body r) x g h e = h.0
low_some k (cond b t s r) x g h e = h.0
