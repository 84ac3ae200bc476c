-- The patterns of a log: what the code answers where one of them fits, and where none does.
-- Assumes nothing.
use Prim.Native.Nat.{ℕ, zero, suc, ◌-◌, ◌^◌, ◌≤◌, ◌<◌}
use mathlib.Core.Path.{◌≡◌, refl, sym, ap, ◌∙◌}
use mathlib.Core.List.{List, [], ◌∷◌}
use mathlib.Core.Bool.{Bool, true, false, ◌||◌, not, cond as pick}
use native.Mathlib.Omega.{arith}
use lib.ListN.{length, get_or}
use lib.Dec.{ltb}
use borrow.Author.Tests.{ltb-false}
use Rattle.text.specs.declared.Shown.{Shown}
use Rattle.text.specs.Text.{bytes, line_of, line_at}
use Rattle.text.specs.Patterns.{matched, miss, any_over, ShownAt, MatchAt}
use Rattle.text.specs.Grammar.{nth}
use Rattle.text.proofs.Filled.{arity, kindless, once, filled}
use Rattle.text.proofs.Laws.{number_stored}
use Rattle.text.proofs.Theorems.{cap_same}
use Rattle.model.specs.declared.Call.{Call}
use Rattle.model.specs.declared.Call.TheVariants.{Release, Report, End}
use Rattle.std.specs.Prelude.{Option, Some, None}
use Rattle.std.specs.Option.{is_some}
use Rattle.std.specs.Bool.{then_some}
use Rattle.flight_log.specs.Log.{or_next}

-- NUMBERS

-- Where neither of two tests holds, the first does not, nor does the second.
neither : (a b : Bool) → (a || b) ≡ false → (a ≡ false) × (b ≡ false)
neither true b h = let z : ◌≡◌ {A = ℕ} 0 1 = cc in absurd (omega arith)
neither false b h = (refl, h)

-- Where none of some numbers is over a limit, each of them is within it.
pub within : (limit : ℕ) (ns : List ℕ) (i : ℕ) → any_over limit ns ≡ false → get_or ns i 0 ≤ limit
within limit [] i h = omega arith
within limit (n ∷ ns) zero h = ltb-false limit n (neither (ltb limit n) (any_over limit ns) h).0
within limit (n ∷ ns) (suc i) h = within limit ns i (neither (ltb limit n) (any_over limit ns) h).1

module _ {limit : ℕ} {s row row' : List ℕ} {f : Shown} {e : ℕ} where
  -- A line that a pattern fits shows as many numbers as the pattern has.
  pub count_of : (p : List ℕ) → once p ≡ true → (w : ShownAt limit s 0 p row row' f e) → length w.numbers ≡ arity p
  count_of p h w = (filled p false (line_at s 0) f.kind w.numbers h w.fits).number_of

  -- The lent row has each of them, where none is over the limit.
  pub exact : {p : List ℕ} (w : ShownAt limit s 0 p row row' f e) (i : ℕ) → f.over ≡ false → i < length w.numbers → i < length row
      → get_or row' i 0 ≡ nth w.numbers i
  exact w i o h l = number_stored w i h l ∙ cap_same limit (nth w.numbers i) (within limit w.numbers i (sym w.over_told ∙ o))

-- The code's numbers are those of the call.
module _ {limit : ℕ} {s row row' : List ℕ} {f : Shown} {e : ℕ} (long : length row ≡ 2) (small : f.over ≡ false) where
  pub point_exact : (w : ShownAt limit s 0 (bytes "point N E") row row' f e)
      → Report (get_or row' 0 0) (get_or row' 1 0) ≡ Report (nth w.numbers 0) (nth w.numbers 1)
  unfolding arity once kindless
  point_exact w =
      let n : length w.numbers ≡ 2 = count_of (bytes "point N E") refl w in
      rw (exact w 0 small (omega arith) (omega arith), exact w 1 small (omega arith) (omega arith))

  pub end_exact : (w : ShownAt limit s 0 (bytes "end E") row row' f e) → End (get_or row' 0 0) ≡ End (nth w.numbers 0)
  unfolding arity once kindless
  end_exact w =
      let n : length w.numbers ≡ 1 = count_of (bytes "end E") refl w in
      rw (exact w 0 small (omega arith) (omega arith))

-- A line without numbers has none over any limit.
pub release_small : {limit : ℕ} {s row row' : List ℕ} {f : Shown} {e : ℕ} (most : ℕ) (w : ShownAt limit s 0 (bytes "release") row row' f e)
    → any_over most w.numbers ≡ false
unfolding arity once kindless
release_small most w = go w.numbers (count_of (bytes "release") refl w)
  where
    go : (ns : List ℕ) → length ns ≡ 0 → any_over most ns ≡ false
    go [] h = refl
    go (n ∷ ns) h = absurd (omega arith)

-- ANSWERS

-- What is answered where a pattern fits the line, by its numbers where none is over the limit; and where it does not, the other patterns decide.
module _ (s p : List ℕ) (F : List ℕ → Call) (next : Option Call) where
  pub says_fit : {row row' : List ℕ} {f : Shown} {e : ℕ} {c : Call} {r : Option Call} (w : ShownAt (2 ^ 64 - 1) s 0 p row row' f e)
      → (f.over ≡ false → c ≡ F w.numbers) → r ≡ then_some (not f.over) c → r ≡ or_next (matched p false (line_of s)) F next
  unfolding line_at
  says_fit {f = f} {c = c} {r} w h q = rw (w.fits, ← w.over_told) (go f.over h q)
    where
      go : (over : Bool) → (over ≡ false → c ≡ F w.numbers) → r ≡ then_some (not over) c → r ≡ pick over None (Some (F w.numbers))
      go true h q = q
      go false h q = q ∙ ap Some (h refl)

  pub says_miss : {r : Option Call} → matched p false (line_at s 0) ≡ miss → r ≡ next → r ≡ or_next (matched p false (line_of s)) F next
  unfolding line_at
  says_miss w h = rw w h

-- A line that says a release fits its pattern, which has no number.
pub says_release : (s : List ℕ) (next : Option Call) (row row' : List ℕ) (r : Option (Shown × ℕ))
    → MatchAt (2 ^ 64 - 1) s 0 (bytes "release") row row' r → true ≡ is_some r
    → Some Release ≡ or_next (matched (bytes "release") false (line_of s)) (λ v. Release) next
says_release s next row row' None m q = absurd cc
says_release s next row row' (Some (f, e)) m q =
    says_fit s _ _ next m (λ o. refl) (rw (m.over_told ∙ release_small _ m))

pub says_other : (s row row' : List ℕ) (r : Option (Shown × ℕ))
    → MatchAt (2 ^ 64 - 1) s 0 (bytes "release") row row' r → false ≡ is_some r → matched (bytes "release") false (line_at s 0) ≡ miss
says_other s row row' None m q = m
says_other s row row' (Some (f, e)) m q = absurd cc
