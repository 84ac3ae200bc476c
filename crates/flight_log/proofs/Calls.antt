-- Calls and their texts: a call is read from its text and from no other line, and the text is short.
-- Assumes nothing.
use Prim.Native.Nat.{ℕ, ◌+◌, ◌-◌, ◌^◌, ◌≤◌, ◌<◌}
use mathlib.Core.Logic.{◌↔◌}
use mathlib.Core.Path.{◌≡◌, refl}
use mathlib.Core.List.{List, [], ◌∷◌, ◌++◌}
use mathlib.Core.Bool.{Bool, true, false, cond as pick}
use native.Mathlib.Omega.{arith}
use lib.ListN.{length, length-append}
use borrow.Author.Tests.{le-ltb}
use Rattle.text.specs.Text.{bytes}
use Rattle.text.specs.Patterns.{Match, miss, match, matched, item, any_over}
use Rattle.text.specs.Spelling.{decimal}
use Rattle.text.proofs.Decimal.{tens, decimal_length}
use Rattle.text.proofs.Filled.{spelled, once, kindless, filled}
use Rattle.text.proofs.Spell.{item_decimal}
use Rattle.model.specs.declared.Call.{Call}
use Rattle.model.specs.declared.Call.TheVariants.{Release, Report, End}
use Rattle.std.specs.Prelude.{Option, Some, None}
use Rattle.flight_log.specs.Log.{or_next, entry_of, call_text, Small}
use Rattle.flight_log.proofs.Patterns.{within}

-- A call is read from its text.
pub reads_call : (c : Call) → Small c → entry_of (call_text c) ≡ Some c
unfolding entry_of call_text matched item
reads_call Release h = refl
reads_call (Report n e) (p, q) =
    rw (
      item_decimal 78 n (32 ∷ (decimal e ++ (10 ∷ []))) refl refl refl,
      item_decimal 69 e (10 ∷ []) refl refl refl,
      le-ltb (2 ^ 64 - 1) n (omega arith),
      le-ltb (2 ^ 64 - 1) e (omega arith),
    )
reads_call (End e) h = rw (item_decimal 69 e (10 ∷ []) refl refl refl, le-ltb (2 ^ 64 - 1) e (omega arith))

-- A line of another form says no call.
pub never_said : {A : Type 0} {c : Call} → None ≡ Some c → A
never_said e = let z : ◌≡◌ {A = ℕ} 0 1 = cc in absurd (omega arith)

-- One pattern after the other.
try : {A : Type 0} (m : Match) (f : List ℕ → Call) (next : Option Call) (c : Call) → or_next m f next ≡ Some c →
    ((k : Bool) (v : List ℕ) → m ≡ match k v → any_over (2 ^ 64 - 1) v ≡ false → f v ≡ c → A) → (next ≡ Some c → A) → A
try miss f next c e here later = later e
try {A} (match k v) f next c e here later = go (any_over (2 ^ 64 - 1) v) refl e
  where
    go : (t : Bool) → any_over (2 ^ 64 - 1) v ≡ t → pick t None (Some (f v)) ≡ Some c → A
    go true o e = never_said e
    go false o e = here k v refl o (cc)

-- A call is read from its text only.
pub reads_only : (l : List ℕ) (c : Call) → entry_of l ≡ Some c → (l ≡ call_text c) × Small c
unfolding entry_of call_text spelled once kindless
reads_only l c e =
    try _ _ _ c e (λ k v m o q. rw (← q) ((filled (bytes "release") false l k v refl m).text, tt)) λ e.
    try _ _ _ c e
    (λ k v m o q. rw (← q) (
      (filled (bytes "point N E") false l k v refl m).text,
      (omega (arith, within (2 ^ 64 - 1) v 0 o), omega (arith, within (2 ^ 64 - 1) v 1 o)),
    )) λ e.
    try _ _ _ c e (λ k v m o q. rw (← q) ((filled (bytes "end E") false l k v refl m).text, omega (arith, within (2 ^ 64 - 1) v 0 o))) never_said

-- A number below 2^64 has at most 20 digits.
number_before : (n : ℕ) (r : List ℕ) → n < 2 ^ 64 → length (decimal n ++ r) ≤ 20 + length r
unfolding tens
number_before n r h = rw (length-append (decimal n) r) (omega (arith, decimal_length 19 n (omega arith)))

-- So a call's text has at most 48 bytes.
pub longest : (c : Call) → Small c → length (call_text c) ≤ 48
unfolding call_text
longest Release h = omega arith
longest (Report n e) (p, q) = omega (arith, number_before n (32 ∷ (decimal e ++ (10 ∷ []))) p, number_before e (10 ∷ []) q)
longest (End e) h = omega (arith, number_before e (10 ∷ []) h)

-- A line that is the text of no call is of another form.
pub other : (l : List ℕ) → ((c : Call) → Small c → l ≡ call_text c → ⊥) → entry_of l ≡ None
other l h = go (entry_of l) refl
  where
    go : (x : Option Call) → entry_of l ≡ x → x ≡ None
    go (Some c) e = let (t, s) = reads_only l c e in absurd (h c s t)
    go None e = refl

-- And only then.
pub other_exactly : (l : List ℕ) → (entry_of l ≡ None) ↔ ((c : Call) → Small c → l ≡ call_text c → ⊥)
other_exactly l = (λ h c s e. let q : entry_of l ≡ Some c = rw e (reads_call c s) in let z : ◌≡◌ {A = ℕ} 0 1 = cc in omega arith, other l)

-- A longer line is of another form.
pub long_line : (l : List ℕ) → 48 < length l → entry_of l ≡ None
long_line l h = other l (λ c s e. let m : length l ≤ 48 = rw e (longest c s) in omega arith)
