-- The place of a history, and its outlook: what is computed there is what it means over the runs with that history.
use mathlib.Core.List.{List, [], ◌∷◌, ◌++◌}
use mathlib.Core.Option.{Option, none, some}
use mathlib.Core.Path.{◌≡◌, refl, ap, sym, ◌∙◌}
use Prim.Native.Nat.{ℕ}
use Rattle.model.specs.Plan.{C, M, Plan}
use Rattle.model.specs.Forms.{main}
use Rattle.model.specs.Places.{locate, Traceable}
use Rattle.model.specs.Stack.{Levels, below, whole, seek_at}
use Rattle.model.specs.Decisions.{Place, at_release, at_report, OutlookAt, outlook}
use Rattle.model.specs.Controller.{next_levels}
use Rattle.model.proofs.Total.{total_largest}
use Rattle.model.proofs.Steps.{⊕-done}
use Rattle.model.proofs.Silence.{release_stretch}
use Rattle.model.proofs.Visits.{visit_largest}
use Rattle.model.proofs.Places.{remaining_total}
use Rattle.model.proofs.Located.{locate_sound}
use Rattle.model.proofs.Final.{no_more_exact, no_further_exact}
use Rattle.model.proofs.Histories.{locate_first, locate_more}
use Rattle.model.proofs.Trails.{locate_at, follow_at, and_then, locate_snoc, locate_flat}
use Rattle.model.proofs.Nexts.{Top, TopPlace, found, next_top}

-- The point reported last.
abbrev pub last_of : ℕ → List ℕ → ℕ
last_of n [] = n
last_of n (m ∷ h) = last_of m h

module _ (p : Plan) where
  -- The place is that of the history.
  abbrev pub Stands : Place → List ℕ → Type 0
  Stands at_release h = h ≡ []
  Stands (at_report m ls) h = (n : ℕ) × (k : List ℕ) × (h ≡ n ∷ k) × (last_of n k ≡ m) × (locate_at (main p) [] h ≡ some ls) × Top ls

  pub stands_top : (x : Place) (h : List ℕ) → Stands x h → TopPlace x
  stands_top at_release h s = tt
  stands_top (at_report m ls) h (n, k, e, d, l, t) = t

  -- What is left to run there.
  pub stands_located : (m : ℕ) (ls : Levels) (h : List ℕ) → Stands (at_report m ls) h → locate (main p) h ≡ some (whole ls)
  unfolding below
  stands_located m ls h (n, k, e, d, l, t) = ap (λ g. locate g h) (sym (⊕-done (main p))) ∙ locate_flat (main p) [] h ls l

  last_of_more : (k : ℕ) (h : List ℕ) (n : ℕ) → last_of k (h ++ (n ∷ [])) ≡ n
  last_of_more k [] n = refl
  last_of_more k (m ∷ h) n = last_of_more m h n

  -- What is found next behind the place of a history is what the history with that report leads to, in all that is left and level by level.
  pub next_exactly : (x : Place) (h : List ℕ) (n : ℕ) → Stands x h → locate (main p) (h ++ (n ∷ [])) ≡ found p x n
  unfolding found
  next_exactly at_release h n e = rw e (locate_first (main p) n)
  next_exactly (at_report m ks) h n s = locate_more (main p) h n (whole ks) (stands_located m ks h s)

  next_located : (x : Place) (h : List ℕ) (n : ℕ) → Stands x h → locate_at (main p) [] (h ++ (n ∷ [])) ≡ next_levels p x n
  unfolding locate_at follow_at
  next_located at_release h n e = rw e (by (seek_at (main p) [] n))
    where
      by : (o : Option Levels) → and_then o (λ q. some q) ≡ o
      by none = refl
      by (some q) = refl
  next_located (at_report m ks) h n (o, k, e, d, l, s) = locate_snoc (main p) [] h ks n l

  -- So it is the place of the history with that report.
  pub next_stands : (x : Place) (h : List ℕ) (n : ℕ) (ls : Levels) → Stands x h → next_levels p x n ≡ some ls → Stands (at_report n ls) (h ++ (n ∷ []))
  next_stands x h n ls s e = by h (next_located x h n s ∙ e)
    where
      by : (h : List ℕ) → locate_at (main p) [] (h ++ (n ∷ [])) ≡ some ls → Stands (at_report n ls) (h ++ (n ∷ []))
      by [] i = (n, [], refl, refl, i, next_top p x n ls e)
      by (m ∷ h) i = (m, h ++ (n ∷ []), refl, last_of_more m h n, i, next_top p x n ls e)

  -- The outlook there.
  pub outlook_is : Traceable (main p) → (x : Place) (h : List ℕ) → Stands x h → OutlookAt p h (outlook p x)
  outlook_is t at_release h e = rw e (record { remaining_is = total_largest C (main p); stretch_is = release_stretch M (main p); last_is = no_more_exact (main p) t })
  outlook_is t (at_report m ls) h st =
      let (n, k, e, d, l, s) = st in
      let (v, r) = locate_sound (main p) (n ∷ k) (whole ls) t (rw e at (stands_located m ls h st)) in
      rw e (record { remaining_is = rw r at (remaining_total t v); stretch_is = rw r at (visit_largest M t v); last_is = rw r at (no_further_exact t v) })
