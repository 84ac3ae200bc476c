-- The remaining times as one list: entry by entry they are the model's. Assumes nothing.
use mathlib.Core.Path.{◌≡◌, refl, sym, ap, ap₂, ◌∙◌}
use mathlib.Core.List.{List, [], ◌∷◌, ◌++◌}
use Prim.Native.Nat.{ℕ, zero, suc, ◌+◌, ◌-◌, ◌≤◌, ◌<◌}
use native.Mathlib.Omega.{arith}
use native.Mathlib.Decide.{dec_le}
use lib.ListN.{length, get_or, replicate, length-append, get_or-append}
use lib.Seq.{get_or-append_seam}
use Rattle.model.specs.Plan.{C}
use Rattle.model.specs.Forms.{Forms}
use Rattle.model.specs.Total.{total}
use Rattle.model.specs.Stack.{Levels, whole, kept, times}
use Rattle.place.specs.Times.{TimesAt}

kept_length : (ls : Levels) → length (kept ls) ≡ length ls
unfolding kept
kept_length [] = refl
kept_length (g ∷ ks) = omega (arith, length-append (kept ks) (total C (whole (g ∷ ks)) ∷ []), kept_length ks)

-- The entries from level 1 on.
kept_entries : (main : Forms) (r : List ℕ) (ls : Levels) → TimesAt main r ls → (j : ℕ) → j < length ls → get_or r (j + 1) 0 ≡ get_or (kept ls) j 0
unfolding TimesAt kept
kept_entries main r [] t j h = absurd (omega arith)
kept_entries main r (g ∷ ks) t j h =
    let n = kept_length ks in
    elim (dec_le (length ks) j) [
      | yes q ↦
          let z : j ≡ length ks = omega arith in
          let i : j ≡ length (kept ks) = omega arith in
          ap (λ (k : ℕ). get_or r (k + 1) 0) z ∙ t.0 ∙ sym (ap (λ (k : ℕ). get_or (kept ks ++ (total C (whole (g ∷ ks)) ∷ [])) k 0) i ∙ get_or-append_seam (kept ks) (total C (whole (g ∷ ks))) [] 0)
      | no q ↦ kept_entries main r ks t.1 j (omega arith) ∙ sym (get_or-append (kept ks) (total C (whole (g ∷ ks)) ∷ []) 0 j (omega arith))
    ]

entry_none : (main : Forms) (r : List ℕ) (ls : Levels) → TimesAt main r ls → get_or r 0 0 ≡ total C main
unfolding TimesAt
entry_none main r [] t = t
entry_none main r (g ∷ ks) t = entry_none main r ks t.1

-- Zeros behind a list.
zeros : (n j : ℕ) → get_or {A = ℕ} (replicate n 0) j 0 ≡ 0
zeros zero j = refl
zeros (suc n) zero = refl
zeros (suc n) (suc j) = zeros n j

past : (xs ys : List ℕ) (j : ℕ) → length xs ≤ j → get_or (xs ++ ys) j 0 ≡ get_or ys (j - length xs) 0
past [] ys j h = let z : j - 0 ≡ j = omega arith in rw z refl
past (x ∷ xs) ys zero h = absurd (omega arith)
past (x ∷ xs) ys (suc j) h = let z : suc j - length (x ∷ xs) ≡ j - length xs = omega arith in past xs ys j (omega arith) ∙ ap (λ (k : ℕ). get_or ys k 0) (sym z)

-- The model's times above the levels of a place.
pub times_above : (main : Forms) (ls : Levels) (k : ℕ) → length ls < k → get_or (times main ls) k 0 ≡ 0
times_above main ls zero h = absurd (omega arith)
times_above main ls (suc j) h =
    past (kept ls) (replicate (32 - length ls) 0) j (omega (arith, kept_length ls)) ∙ zeros (32 - length ls) (j - length (kept ls))

pub entries : (main : Forms) (r : List ℕ) (ls : Levels) → TimesAt main r ls → ((k : ℕ) → length ls < k → get_or r k 0 ≡ 0) → (k : ℕ) →
    get_or r k 0 ≡ get_or (times main ls) k 0
entries main r ls t above zero = entry_none main r ls t
entries main r ls t above (suc j) =
    let n = kept_length ls in
    let z : j + 1 ≡ suc j = omega arith in
    elim (dec_le (length ls) j) [
      | yes q ↦ above (suc j) (omega arith) ∙ sym (times_above main ls (suc j) (omega arith))
      | no q ↦ ap (λ (k : ℕ). get_or r k 0) (sym z) ∙ kept_entries main r ls t j (omega arith) ∙ sym (get_or-append (kept ls) (replicate (32 - length ls) 0) 0 j (omega arith))
    ]

-- Lists of one length with the same entries are the same.
same_list : (xs ys : List ℕ) → length xs ≡ length ys → ((k : ℕ) → get_or xs k 0 ≡ get_or ys k 0) → xs ≡ ys
same_list [] [] e h = refl
same_list [] (y ∷ ys) e h = absurd (omega arith)
same_list (x ∷ xs) [] e h = absurd (omega arith)
same_list (x ∷ xs) (y ∷ ys) e h = ap₂ (λ (z : ℕ) (zs : List ℕ). z ∷ zs) (h 0) (same_list xs ys (omega arith) (λ k. h (suc k)))

replicate_length : (n : ℕ) → length {A = ℕ} (replicate n 0) ≡ n
replicate_length zero = refl
replicate_length (suc n) = omega (arith, replicate_length n)

pub all_times : (main : Forms) (r : List ℕ) (ls : Levels) → length r ≡ 33 → length ls ≤ 32 → TimesAt main r ls → ((k : ℕ) → length ls < k → get_or r k 0 ≡ 0) → r ≡ times main ls
all_times main r ls e h t above =
    same_list r (times main ls)
    (omega (arith, length-append (kept ls) (replicate (32 - length ls) 0), kept_length ls, replicate_length (32 - length ls))) (entries main r ls t above)

-- The model's list is right, level by level.
times_right : (main : Forms) (r : List ℕ) (ls : Levels) → get_or r 0 0 ≡ total C main → ((j : ℕ) → j < length ls → get_or r (j + 1) 0 ≡ get_or (kept ls) j 0) → TimesAt main r ls
unfolding TimesAt kept
times_right main r [] z h = z
times_right main r (g ∷ ks) z h =
    let n = kept_length ks in (
      h (length ks) (omega arith) ∙ ap (λ (k : ℕ). get_or (kept ks ++ (total C (whole (g ∷ ks)) ∷ [])) k 0) (sym n) ∙ get_or-append_seam (kept ks) (total C (whole (g ∷ ks))) [] 0,
      times_right main r ks z (λ j q. h j (omega arith) ∙ get_or-append (kept ks) (total C (whole (g ∷ ks)) ∷ []) 0 j (omega arith)),
    )

pub times_are : (main : Forms) (r : List ℕ) (ls : Levels) → r ≡ times main ls → TimesAt main r ls
times_are main r ls e =
    times_right main r ls (ap (λ (r : List ℕ). get_or r 0 0) e)
    (λ j h. let z : j + 1 ≡ suc j = omega arith in
    ap (λ (r : List ℕ). get_or r (j + 1) 0) e ∙ ap (λ (k : ℕ). get_or (times main ls) k 0) z ∙ get_or-append (kept ls) (replicate (32 - length ls) 0) 0 j (omega (arith, kept_length ls)))
