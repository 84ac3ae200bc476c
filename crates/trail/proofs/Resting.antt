-- What is left from a rest on, with its least number of visits, and what a new rest leaves. Plain mathematics: no code is named here. Assumes nothing.
use mathlib.Core.Path.{◌≡◌, refl, sym, ap, ◌∙◌}
use mathlib.Core.List.{List, [], ◌∷◌}
use mathlib.Core.Option.{some}
use Prim.Native.Nat.{ℕ, zero, suc, ◌+◌, ◌≤◌, ◌<◌}
use native.Mathlib.Omega.{arith}
use lib.ListN.{length, get_or, set}
use Rattle.std.proofs.lemmas.List.{get_or-set_same, get_or-set_other}
use Rattle.model.specs.Plan.{Lines, close, leaf_line, call_line, loop_line, if_line}
use Rattle.model.specs.Forms.{Forms, done, leaf, call, loop, cond, ◌⊕◌, forms}
use Rattle.model.specs.Stack.{turned}
use Rattle.model.proofs.Places.{never}
use Rattle.rows.specs.Rows.{Rep}
use Rattle.rows.proofs.Shape.{rep_le}
use Rattle.place.specs.Stack.{FunctionTable}
use Rattle.short_runs.specs.Listing.{least, next_leaf}
use Rattle.short_runs.proofs.Least.{least-⊕}
use Rattle.least_visits.specs.Least.{held_visits, HasLeasts}
use Rattle.trail.specs.declared.Extent.{Extent}
use Rattle.trail.specs.declared.Rest.{Rest}
use Rattle.trail.specs.Trails.{ExtentIs, numbered_rest, Left, none_left, some_left}
use Rattle.trail.specs.Private.{Puts}
use Rattle.trail.proofs.Moving.{none_there}
use Rattle.trail.proofs.Heads.{opens_at}

-- WHERE THE RESTS STAY

module _ {w starts : List ℕ} {n : ℕ} (t : FunctionTable w starts n) (column : List ℕ) (old new : List Rest) (m : ℕ) (le : 0 < m)
    (same : (j : ℕ) → j < m → numbered_rest new j ≡ numbered_rest old j) where
  pub left_kept : (i : ℕ) (f : Forms) → i < m → Left t column old i f → Left t column new i f
  left_kept i f lt (none_left z d l) = let e = same 0 le in none_left z d (rw e l)
  left_kept i f lt (some_left g h more early there lies left z l) =
      let e = same i lt in
      some_left g h more (rw e early) (rw e there) (rw e lies) (rw e (left_kept _ h (omega arith) left)) z (rw e l)

-- THE LEAST NUMBERS OF VISITS

-- A leaf whose entry is not 0 has one.
entry_low : (l : List ℕ) (i : ℕ) → 0 < get_or l i 0 → i < length l
entry_low [] i h = absurd (omega arith)
entry_low (x ∷ l) zero h = omega arith
entry_low (x ∷ l) (suc i) h = omega (arith, entry_low l i h)

turned_least : (v : ℕ) (s g : Forms) → turned s v ≡ some g → least s ≡ least g
unfolding turned least
turned_least zero s g e = let z : s ≡ g = cc in ap least z
turned_least (suc v) done g e = never e
turned_least (suc v) (leaf b r) g e = never e
turned_least (suc v) (call b x r) g e = never e
turned_least (suc v) (loop b zero body r) g e = never e
turned_least (suc v) (loop b (suc m) body r) g e = turned_least v (loop b m body r) g e
turned_least (suc v) (cond b x y r) g e = never e

lines_least : (w : List ℕ) (G : List Forms) (column : List ℕ) (v i e : ℕ) (l : Lines) → Rep w v i e l → i < e → HasLeasts w G column i l →
    (get_or column i 0 ≡ held_visits (least (forms G l))) × (0 < least (forms G l))
unfolding Rep HasLeasts forms least
lines_least w G column v i e close r lt h = absurd (omega arith)
lines_least w G column v i e (leaf_line b l) r lt h = (h.0, omega arith)
lines_least w G column v i e (call_line b f l) r lt h = (h.0, omega arith)
lines_least w G column v i e (loop_line b m body l) r lt h = (h.0, omega arith)
lines_least w G column v i e (if_line b x y l) r lt h = (h.0, omega arith)

module _ {w starts : List ℕ} {n : ℕ} {t : FunctionTable w starts n} {column : List ℕ} {s : Extent} {f : Forms} (h : ExtentIs t column s f) where
  pub lies_le : s.from ≤ s.to
  lies_le = let p = h.spanned.piece in rep_le w p.level s.from s.to p.part.lines p.part.rep

  module _ (lt : s.from < s.to) where
    pub lies_least : (get_or column s.from 0 ≡ held_visits (least f)) × (0 < least f)
    lies_least =
        let p = h.spanned.piece in
        let q = lines_least w t.funs column p.level s.from s.to p.part.lines p.part.rep lt h.noted in
        let e = turned_least s.rounds h.whole f h.rounds in
        let d = ap least h.spanned.same in
        (omega arith, omega arith)

    pub lies_low : s.from < length column
    lies_low = entry_low column s.from (omega (arith, lies_least))

-- THE RESTS

-- The first forms that are left, and what is left behind them.
pub record Front {w starts : List ℕ} {n : ℕ} (t : FunctionTable w starts n) (column : List ℕ) (rests : List Rest) (i : ℕ) (f : Forms) : Type 0 where
  pub first : Forms
  pub behind : Forms
  pub early : (numbered_rest rests i).behind < i
  pub there : (numbered_rest rests i).forms.from < (numbered_rest rests i).forms.to
  pub lies : ExtentIs t column (numbered_rest rests i).forms first
  pub left : Left t column rests ((numbered_rest rests i).behind) behind
  pub same : f ≡ first ⊕ behind

module _ {w starts : List ℕ} {n : ℕ} {t : FunctionTable w starts n} {column : List ℕ} {rests : List Rest} {i : ℕ} {f : Forms} where
  pub left_least : Left t column rests i f → (numbered_rest rests i).least ≡ held_visits (least f)
  unfolding least
  left_least (none_left z d l) = rw (z, d) l
  left_least (some_left g h more early there lies left z l) = l

  pub left_front : 0 < i → Left t column rests i f → Front t column rests i f
  left_front lt (none_left z d l) = absurd (omega arith)
  left_front lt (some_left g h more early there lies left z l) =
      record { first = g; behind = h; early = early; there = there; lies = lies; left = left; same = z }

  pub left_end : i ≡ 0 → Left t column rests i f → 0 ≡ next_leaf f
  unfolding next_leaf
  left_end z (none_left y d l) = rw d refl
  left_end z (some_left g h more early there lies left y l) = absurd (omega arith)

  pub left_opening : 0 < i → Left t column rests i f → (numbered_rest rests i).forms.from + 1 ≡ next_leaf f
  left_opening lt l = let q = left_front lt l in sym (ap next_leaf q.same ∙ opens_at q.lies q.there q.behind)

-- A NEW ONE

-- No forms in front.
before : {w starts : List ℕ} {n : ℕ} {t : FunctionTable w starts n} {column : List ℕ} {rests : List Rest} {i : ℕ} {f g : Forms} → f ≡ done →
    Left t column rests i g → Left t column rests i (f ⊕ g)
unfolding ◌⊕◌
before d l = rw d l

pub put_none : {column : List ℕ} {old : List Rest} {number : ℕ} {s : Extent} {behind : ℕ} → s.from ≡ s.to → Puts column old old number s behind behind
put_none e = record { left = λ t f g h l lt. before (none_there h (omega arith)) l; near = λ le. le; others = λ j lt. refl }

abbrev renewed : List Rest → ℕ → Extent → ℕ → ℕ → List Rest
renewed old number s behind m = set old number (record { forms = s; behind = behind; least = m })

module _ (column : List ℕ) (old : List Rest) (number : ℕ) (s : Extent) (behind m : ℕ) (ne : s.from ≡ s.to → ⊥) (small : number < length old)
    (min : m ≡ held_visits (get_or column s.from 0 + (numbered_rest old behind).least)) where
  others : (j : ℕ) → j < number → numbered_rest (renewed old number s behind m) j ≡ numbered_rest old j
  others j lt = get_or-set_other old number j _ _ (λ e. omega arith)

  there : numbered_rest (renewed old number s behind m) number ≡ record { forms = s; behind = behind; least = m }
  there = get_or-set_same old number _ _ small

  put_left : {w starts : List ℕ} {n : ℕ} (t : FunctionTable w starts n) (f g : Forms) → ExtentIs t column s f → Left t column old behind g → behind < number →
      Left t column (renewed old number s behind m) number (f ⊕ g)
  put_left t f g h l lt =
      let le = lies_le h in
      let from_to : s.from < s.to = omega (arith, ne) in
      let e : m ≡ held_visits (least (f ⊕ g)) = omega (arith, min, lies_least h from_to, left_least l, least-⊕ f g) in
      let k = left_kept t column old (renewed old number s behind m) number (omega arith) others behind g lt l in
      some_left f g (omega arith) (rw there lt) (rw there from_to) (rw there h) (rw there k) refl (rw there e)

  pub put_some : Puts column old (renewed old number s behind m) number s behind number
  put_some = record { left = λ t f g h l lt. put_left t f g h l lt; near = λ le. omega arith; others = others }
