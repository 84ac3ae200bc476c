-- Some run stands at each stack of frames; and what is left there costs no more than what was left before. Assumes nothing.
use mathlib.Core.Bool.{Bool, true, false}
use mathlib.Core.List.{List, [], ◌∷◌}
use mathlib.Core.Logic.{◌⊎◌, inl, inr}
use mathlib.Core.Option.{Option, none, some}
use mathlib.Core.Path.{◌≡◌, refl, ap, sym, ◌∙◌, subst}
use Prim.Native.Nat.{ℕ, zero, suc, ◌≤◌}
use native.Mathlib.Omega.{arith}
use lib.Dec.{eqb}
use Rattle.model.specs.Plan.{Block}
use Rattle.model.specs.Forms.{Forms, done, leaf, call, loop, cond, ◌⊕◌}
use Rattle.model.specs.Total.{total}
use Rattle.model.specs.Places.{pick, ◌or◌, ◌⊕?◌, bind}
use Rattle.model.specs.Levels.{Frame}
use Rattle.model.specs.Stack.{Levels, behind, below, whole, from, suffix, turned, inside_of, then_at, decode}
use Rattle.model.proofs.Places.{never, known, or_some, ⊕?-some, ⊕-assoc}
use Rattle.model.proofs.Steps.{Step, past, into, out, again, first, second, after, Prefix, here, past_by, remains, total-⊕, step_falls, ⊕-done}

-- A run of f can come to where g is left.
abbrev pub Comes : Forms → Forms → Type 0
Comes f g = (p : Prefix f) × (remains p ≡ g)

comes_here : (f : Forms) → Comes f f
unfolding remains
comes_here f = (here, refl)

comes_step : {f : Forms} (s : Step f) {g : Forms} → Comes (after s) g → Comes f g
unfolding remains
comes_step s (p, e) = (past_by s p, e)

comes_on : {f : Forms} (p : Prefix f) (g : Forms) → Comes (remains p) g → Comes f g
unfolding remains
comes_on here g c = c
comes_on (past_by s p) g c = comes_step s (comes_on p g c)

comes_then : {f : Forms} (g h : Forms) → Comes f g → Comes g h → Comes f h
comes_then g h (p, e) c = comes_on p h (subst (λ x. Comes x h) (sym e) c)

-- Any forms can be run through, and to any leaf of their own level.
comes_past : (f r : Forms) → Comes (f ⊕ r) r
unfolding ◌⊕◌ after
comes_past done r = comes_here r
comes_past (leaf b rest) r = comes_step past (comes_past rest r)
comes_past (call b fun rest) r = comes_step into (comes_then (rest ⊕ r) r (comes_past fun (rest ⊕ r)) (comes_past rest r))
comes_past (loop b m body rest) r = comes_step out (comes_past rest r)
comes_past (cond b then else rest) r = comes_step first (comes_then (rest ⊕ r) r (comes_past then (rest ⊕ r)) (comes_past rest r))

from_some : (b : Block) (n : ℕ) (fs : Forms) (on : Option Forms) (g : Forms) → from b n fs on ≡ some g → (fs ≡ g) ⊎ (on ≡ some g)
from_some b n fs on g e = go (eqb b.number n) e
  where
    go : (q : Bool) → pick q (some fs) on ≡ some g → (fs ≡ g) ⊎ (on ≡ some g)
    go true e = inl cc
    go false e = inr e

comes_suffix : (f r : Forms) (n : ℕ) (k : Forms) → suffix f n ≡ some k → Comes (f ⊕ r) (k ⊕ r)
unfolding suffix ◌⊕◌ after
comes_suffix done r n k e = never e
comes_suffix (leaf b rest) r n k e =
    elim (from_some b n (leaf b rest) (suffix rest n) k e) [
      | inl i ↦ subst (λ x. Comes (leaf b rest ⊕ r) (x ⊕ r)) i (comes_here (leaf b rest ⊕ r))
      | inr i ↦ comes_step past (comes_suffix rest r n k i)
    ]
comes_suffix (call b fun rest) r n k e =
    elim (from_some b n (call b fun rest) (suffix rest n) k e) [
      | inl i ↦ subst (λ x. Comes (call b fun rest ⊕ r) (x ⊕ r)) i (comes_here (call b fun rest ⊕ r))
      | inr i ↦ comes_step into (comes_then (rest ⊕ r) (k ⊕ r) (comes_past fun (rest ⊕ r)) (comes_suffix rest r n k i))
    ]
comes_suffix (loop b m body rest) r n k e =
    elim (from_some b n (loop b m body rest) (suffix rest n) k e) [
      | inl i ↦ subst (λ x. Comes (loop b m body rest ⊕ r) (x ⊕ r)) i (comes_here (loop b m body rest ⊕ r))
      | inr i ↦ comes_step out (comes_suffix rest r n k i)
    ]
comes_suffix (cond b then else rest) r n k e =
    elim (from_some b n (cond b then else rest) (suffix then n ⊕? rest or suffix else n ⊕? rest or suffix rest n) k e) [
      | inl i ↦ subst (λ x. Comes (cond b then else rest ⊕ r) (x ⊕ r)) i (comes_here (cond b then else rest ⊕ r))
      | inr i ↦ elim (or_some (suffix then n ⊕? rest) (suffix else n ⊕? rest or suffix rest n) k i) [
        | inl j ↦ let (l, a, c) = ⊕?-some (suffix then n) rest k j in
            comes_step first (subst (λ x. Comes (then ⊕ (rest ⊕ r)) x) (sym (⊕-assoc l rest r) ∙ ap (λ x. x ⊕ r) c) (comes_suffix then (rest ⊕ r) n l a))
        | inr j ↦ elim (or_some (suffix else n ⊕? rest) (suffix rest n) k j.1) [
          | inl j ↦ let (l, a, c) = ⊕?-some (suffix else n) rest k j in
              comes_step second (subst (λ x. Comes (else ⊕ (rest ⊕ r)) x) (sym (⊕-assoc l rest r) ∙ ap (λ x. x ⊕ r) c) (comes_suffix else (rest ⊕ r) n l a))
          | inr j ↦ comes_step first (comes_then (rest ⊕ r) (k ⊕ r) (comes_past then (rest ⊕ r)) (comes_suffix rest r n k j.1))
        ]
      ]
    ]

comes_turned : (v : ℕ) (f r k : Forms) → turned f v ≡ some k → Comes (f ⊕ r) (k ⊕ r)
unfolding turned ◌⊕◌ after
comes_turned zero f r k e = let i : f ≡ k = cc in subst (λ x. Comes (f ⊕ r) (x ⊕ r)) i (comes_here (f ⊕ r))
comes_turned (suc v) done r k e = never e
comes_turned (suc v) (leaf b rest) r k e = never e
comes_turned (suc v) (call b fun rest) r k e = never e
comes_turned (suc v) (loop b zero body rest) r k e = never e
comes_turned (suc v) (loop b (suc m) body rest) r k e =
    comes_step again (comes_then (loop b m body (rest ⊕ r)) (k ⊕ r) (comes_past body (loop b m body (rest ⊕ r))) (comes_turned v (loop b m body rest) r k e))
comes_turned (suc v) (cond b then else rest) r k e = never e

comes_inside : (g r x : Forms) → inside_of g ≡ some x → Comes (g ⊕ r) (x ⊕ (behind g ⊕ r))
unfolding inside_of behind ◌⊕◌ after
comes_inside done r x e = never e
comes_inside (leaf b rest) r x e = never e
comes_inside (call b fun rest) r x e = let i : fun ≡ x = cc in subst (λ y. Comes (call b fun (rest ⊕ r)) (y ⊕ (rest ⊕ r))) i (comes_step into (comes_here (fun ⊕ (rest ⊕ r))))
comes_inside (loop b zero body rest) r x e = never e
comes_inside (loop b (suc m) body rest) r x e =
    let i : body ≡ x = cc in
    subst (λ y. Comes (loop b (suc m) body (rest ⊕ r)) (y ⊕ loop b m body (rest ⊕ r))) i (comes_step again (comes_here (body ⊕ loop b m body (rest ⊕ r))))
comes_inside (cond b then else rest) r x e = never e

-- Each stack of frames that has levels is where some run stands.
spot_some : (f : Forms) (s : Frame) (r : Forms) (o : Option Forms) → bind (suffix f s.leaf) (λ g. turned g s.earlier) ≡ o → (g : Forms) → o ≡ some g → Comes (f ⊕ r) (g ⊕ r)
spot_some f s r o h g e =
    elim (known (suffix f s.leaf)) [
      | inl i ↦ never (rw i at (h ∙ e))
      | inr i ↦ comes_then (i.0 ⊕ r) (g ⊕ r) (comes_suffix f r s.leaf i.0 i.1) (comes_turned s.earlier i.0 r g (rw i.1 at (h ∙ e)))
    ]

never_at : {k : Levels} → none ≡ some k → {A : Type 0} → A
never_at {k} e = absurd (let z : ◌≡◌ {A = ℕ} 0 1 = cc in omega arith)

then_some : (o : Option Forms) (k : Forms → Option Levels) (ls : Levels) → then_at o k ≡ some ls → (g : Forms) × (o ≡ some g) × (k g ≡ some ls)
then_some none k ls e = never_at e
then_some (some g) k ls e = (g, refl, e)

pub stands : (f : Forms) (ks : Levels) (ss : List Frame) (ls : Levels) → decode f ks ss ≡ some ls → Comes (f ⊕ below ks) (whole ls)
unfolding decode whole below
stands f ks [] ls e = never_at e
stands f ks (s ∷ []) ls e =
    let (g, i, j) = then_some (bind (suffix f s.leaf) (λ g. turned g s.earlier)) (λ g. some (g ∷ ks)) ls e in
    let q : ◌≡◌ {A = Levels} (g ∷ ks) ls = cc in
    subst (λ x. Comes (f ⊕ below ks) (whole x)) q (spot_some f s (below ks) _ i g refl)
stands f ks (s ∷ t ∷ ss) ls e =
    let (g, i, j) = then_some (bind (suffix f s.leaf) (λ g. turned g s.earlier)) (λ g. then_at (inside_of g) (λ x. decode x (g ∷ ks) (t ∷ ss))) ls e in
    let (x, a, b) = then_some (inside_of g) (λ x. decode x (g ∷ ks) (t ∷ ss)) ls j in
    comes_then (g ⊕ below ks) (whole ls) (spot_some f s (below ks) _ i g refl)
    (comes_then (x ⊕ (behind g ⊕ below ks)) (whole ls) (comes_inside g (below ks) x a) (stands x (g ∷ ks) (t ∷ ss) ls b))

-- WHAT IS LEFT, AT ANY COST OF A VISIT

falls : (k : Block → ℕ) {f : Forms} (p : Prefix f) → total k (remains p) ≤ total k f
unfolding remains
falls k here = omega arith
falls k (past_by s p) = omega (arith, falls k p, step_falls k s)

pub comes_less : (k : Block → ℕ) {f g : Forms} → Comes f g → total k g ≤ total k f
comes_less k (p, e) = omega (arith, falls k p, ap (total k) e)

-- From a leaf of the level on; after more visits of it; inside a loop or call.
pub suffix_less : (k : Block → ℕ) (f : Forms) (n : ℕ) (g : Forms) → suffix f n ≡ some g → total k g ≤ total k f
suffix_less k f n g e = omega (arith, comes_less k (comes_suffix f done n g e), ap (total k) (⊕-done f), ap (total k) (⊕-done g))

pub turned_less : (k : Block → ℕ) (v : ℕ) (f g : Forms) → turned f v ≡ some g → total k g ≤ total k f
turned_less k v f g e = omega (arith, comes_less k (comes_turned v f done g e), ap (total k) (⊕-done f), ap (total k) (⊕-done g))

pub inside_less : (k : Block → ℕ) (g f : Forms) → inside_of g ≡ some f → total k f ≤ total k g
inside_less k g f e = omega (arith, comes_less k (comes_inside g done f e), total-⊕ k f (behind g ⊕ done), ap (total k) (⊕-done g))
