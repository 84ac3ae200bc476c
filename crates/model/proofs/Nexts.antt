-- The next place, found level by level, is the one found in all that is left to run, wherever the levels open with a visit; and what is found does.
use mathlib.Core.Bool.{Bool, true, false}
use mathlib.Core.List.{[], ◌∷◌}
use mathlib.Core.Option.{Option, none, some}
use mathlib.Core.Path.{◌≡◌, refl, ap, sym, ◌∙◌}
use Prim.Native.Nat.{ℕ, zero, suc}
use Rattle.model.specs.Plan.{Plan}
use Rattle.model.specs.Forms.{Forms, done, leaf, call, loop, cond, ◌⊕◌, main}
use Rattle.model.specs.Places.{passes, seek, onward}
use Rattle.model.specs.Stack.{Levels, behind, below, whole, ◌else_at◌, given, onto, seek_at, onward_at, flat}
use Rattle.model.specs.Decisions.{Place, at_release, at_report}
use Rattle.model.specs.Controller.{next_levels}
use Rattle.model.proofs.Steps.{Step, ⊕-done}
use Rattle.model.proofs.Levels.{flat_seek, flat_onward}
use Rattle.model.proofs.Located.{seek_place}
use Rattle.model.proofs.Places.{never}
use Rattle.model.proofs.Trails.{never_at}

-- The levels open with a visit.
abbrev pub Top : Levels → Type 0
Top ls = (g : Forms) × (ks : Levels) × (ls ≡ g ∷ ks) × Step g

-- So do those of a place.
abbrev pub TopPlace : Place → Type 0
TopPlace at_release = Unit
TopPlace (at_report n ls) = Top ls

-- What is left to run at the report of n next behind a place.
unfoldable pub found : Plan → Place → ℕ → Option Forms
found p at_release n = seek (main p) n
found p (at_report m ls) n = onward (whole ls) n

pub next_flat : (p : Plan) (x : Place) (n : ℕ) → TopPlace x → flat (next_levels p x n) ≡ found p x n
unfolding found below
next_flat p at_release n t = flat_seek (main p) [] n ∙ ap (λ g. seek g n) (⊕-done (main p))
next_flat p (at_report m ls) n (g, ks, e, s) = rw e (flat_onward g ks n s)

-- What is found.
onto_top : (ks : Levels) (f : Forms) (n : ℕ) (o : Option Forms) → seek f n ≡ o → (q : Levels) → onto ks o ≡ some q → Top q
onto_top ks f n none e q d = never_at d
onto_top ks f n (some g) e q d = let z : g ∷ ks ≡ q = cc in (g, ks, sym z, (seek_place n f g e).0)

else_top : (o p : Option Levels) (q : Levels) → ((k : Levels) → o ≡ some k → Top k) → ((k : Levels) → p ≡ some k → Top k) → o else_at p ≡ some q → Top q
else_top none p q a b e = b q e
else_top (some k) p q a b e = a q e

given_top : (s : Bool) (o : Option Levels) → ((k : Levels) → o ≡ some k → Top k) → (k : Levels) → given s o ≡ some k → Top k
given_top true o a k e = a k e
given_top false o a k e = never_at e

seek_top : (f : Forms) (ks : Levels) (n : ℕ) (q : Levels) → seek_at f ks n ≡ some q → Top q
unfolding seek_at
seek_top f [] n q e = onto_top [] f n (seek f n) refl q e
seek_top f (g ∷ ks) n q e = else_top (onto (g ∷ ks) (seek f n)) _ q (onto_top (g ∷ ks) f n (seek f n) refl) (given_top (passes f) _ (seek_top (behind g) ks n)) e

onward_top : (ls : Levels) (n : ℕ) (q : Levels) → onward_at ls n ≡ some q → Top q
unfolding onward_at
onward_top [] n q e = never_at e
onward_top (done ∷ ks) n q e = never_at e
onward_top (leaf b rest ∷ ks) n q e = seek_top rest ks n q e
onward_top (call b fun rest ∷ ks) n q e = seek_top fun (call b fun rest ∷ ks) n q e
onward_top (loop b zero body rest ∷ ks) n q e = seek_top rest ks n q e
onward_top (loop b (suc m) body rest ∷ ks) n q e =
    else_top (seek_at rest ks n) _ q (seek_top rest ks n) (seek_top body (loop b (suc m) body rest ∷ ks) n) e
onward_top (cond b then else rest ∷ ks) n q e = else_top (seek_at (then ⊕ rest) ks n) _ q (seek_top (then ⊕ rest) ks n) (seek_top (else ⊕ rest) ks n) e

pub next_top : (p : Plan) (x : Place) (n : ℕ) (q : Levels) → next_levels p x n ≡ some q → Top q
next_top p at_release n q e = seek_top (main p) [] n q e
next_top p (at_report m ls) n q e = onward_top ls n q e

-- A place that is found is found level by level.
pub next_found : (p : Plan) (x : Place) (n : ℕ) (g : Forms) → TopPlace x → found p x n ≡ some g →
    (ls : Levels) × (next_levels p x n ≡ some ls) × (whole ls ≡ g)
next_found p x n g t e = by (next_levels p x n) refl (next_flat p x n t ∙ e)
  where
    by : (o : Option Levels) → next_levels p x n ≡ o → flat o ≡ some g → (ls : Levels) × (next_levels p x n ≡ some ls) × (whole ls ≡ g)
    by none d f = never f
    by (some ls) d f = (ls, d, cc)
