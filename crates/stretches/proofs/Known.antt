-- Only the totals of functions that may be called count, in static stretches. Assumes nothing.
use mathlib.Core.Path.{◌≡◌, refl}
use mathlib.Core.List.{List}
use Prim.Native.Nat.{ℕ, zero, suc, ◌-◌, ◌≤◌, ◌<◌}
use native.Mathlib.Omega.{arith}
use Rattle.model.specs.Plan.{Block, Lines, close, leaf_line, call_line, loop_line, if_line}
use Rattle.model.specs.Static.{line_silence, line_stretch, behind_calls, follows, after_function, static_stretch}
use Rattle.model.proofs.Targets.{Below}
use Rattle.columns.proofs.Functions.{tally_same}
use Rattle.columns.proofs.Known.{Agree}

module _ (k : Block → ℕ) (ms us : List ℕ) (n : ℕ) (e : Agree ms us n) where
  silence_same : (l : Lines) (s : ℕ) → Below n l → line_silence k ms l s ≡ line_silence k us l s
  unfolding line_silence Below
  silence_same close s b = refl
  silence_same (leaf_line y r) s b = rw (silence_same r s b)
  silence_same (call_line y f r) s b = rw (e f b.0, silence_same r s b.1)
  silence_same (loop_line y m body r) s b = rw (tally_same k ms us n e body b.0, silence_same r s b.1)
  silence_same (if_line y t f r) s b =
      let c = line_silence k us r s in
      rw (silence_same r s b.2, silence_same t c b.0, silence_same f c b.1)

  behind_same : (g : ℕ) (l : Lines) (s : ℕ) → Below n l → behind_calls k ms g l s ≡ behind_calls k us g l s
  unfolding behind_calls Below
  behind_same g close s b = refl
  behind_same g (leaf_line y r) s b = behind_same g r s b
  behind_same g (call_line y f r) s b = rw (silence_same r s b.1, behind_same g r s b.1)
  behind_same g (loop_line y m body r) s b = rw (behind_same g body 0 b.0, behind_same g r s b.1)
  behind_same g (if_line y t f r) s b =
      let c = line_silence k us r s in
      rw (silence_same r s b.2, behind_same g t c b.0, behind_same g f c b.1, behind_same g r s b.2)

  module _ (q q' : ℕ → ℕ → ℕ) (d : (f s : ℕ) → f < n → q f s ≡ q' f s) (x : ℕ) where
    pub stretch_same : (l : Lines) (s : ℕ) → Below n l → line_stretch k ms q x l s ≡ line_stretch k us q' x l s
    unfolding line_stretch Below
    stretch_same close s b = refl
    stretch_same (leaf_line y r) s b = rw (silence_same r s b, stretch_same r s b)
    stretch_same (call_line y f r) s b = rw (silence_same r s b.1, d f (line_silence k us r s) b.0, stretch_same r s b.1)
    stretch_same (loop_line y m body r) s b = rw (silence_same r s b.1, silence_same body 0 b.0, stretch_same body 0 b.0, stretch_same r s b.1)
    stretch_same (if_line y t f r) s b =
        let c = line_silence k us r s in
        rw (silence_same r s b.2, silence_same t c b.0, silence_same f c b.1, stretch_same t c b.0, stretch_same f c b.1, stretch_same r s b.2)

  -- The functions.
  module _ (F : ℕ → Lines) (below : (f : ℕ) → f < n → Below n (F f)) where
    follows_same : (j g : ℕ) → j ≤ n → follows k ms F n j g ≡ follows k us F n j g
    unfolding follows
    follows_same zero g h = refl
    follows_same (suc j) g h =
        let f = n - suc j in
        let c = follows k us F n j f in
        rw (follows_same j g (omega arith), follows_same j f (omega arith), behind_same g (F f) c (below f (omega arith)))

    pub static_same : (x j : ℕ) → j ≤ n → static_stretch k ms F n x j ≡ static_stretch k us F n x j
    unfolding static_stretch
    static_same x zero h = refl
    static_same x (suc j) h =
        let a = follows_same (n - suc j) j (omega arith) in
        let s = after_function k us F n j in
        rw (static_same x j (omega arith), a, stretch_same (λ f y. line_silence k ms (F f) y) (λ f y. line_silence k us (F f) y) (λ f y i. silence_same (F f) y (below f i)) x (F j) s (below j (omega arith)))
