-- Signed numbers of 64 bits, as their fields are written. Assumes nothing.
use Rattle.std.proofs.Common.{◌≡◌, ◌+◌, ◌++◌, ◌≤◌, ◌^◌, ℕ, List, Bool, true, false, cond, length, refl, subst, ◌∙◌, ap, arith}
use lib.IntN.{ℤ, pos, negsuc, nat_abs}
use lib.Signed.{lt_z}
use borrow.Author.Tests.{ltb-true}
use mir.Syntax.{w64}
use mir.Val.{SFits, to_z, of_z}
use mir.ValLaws.{to_z-of_z}
use Rattle.text.specs.Text.{bytes}
use Rattle.text.specs.Spelling.{decimal}
use Rattle.print.specs.Lines.{signed_field}
use Rattle.print.specs.Printed.{Printed, PrintedWithin}
use Rattle.print.proofs.Laws.{behind, digits_most}

-- The field of a signed value that was passed on is that of the number.
pub field_read : {l m : List ℕ} {at e : ℕ} (z : ℤ) → SFits w64 z → PrintedWithin 22 l at (signed_field (to_z w64 (of_z w64 z))) m e
    → PrintedWithin 22 l at (signed_field z) m e
field_read {l} {m} {at} {e} z f = subst (λ (y : ℤ). PrintedWithin 22 l at (signed_field y) m e) (to_z-of_z w64 z f)

-- What stands in front of the size of a number, which is below 0 or not.
abbrev pub sign : Bool → List ℕ
sign negative = cond negative (bytes " -") (bytes " ")

-- The field of a signed number is its sign and its size.
signed_parts : (z : ℤ) (negative : Bool) → lt_z z (pos 0) ≡ negative → signed_field z ≡ sign negative ++ decimal (nat_abs z)
unfolding signed_field
signed_parts (pos n) true e = absurd (omega (arith, ltb-true n 0 e))
signed_parts (pos n) false e = refl
signed_parts (negsuc n) true e = refl
signed_parts (negsuc n) false e = absurd cc

sign_short : (negative : Bool) (text : List ℕ) → length (sign negative ++ text) ≤ 2 + length text
sign_short true text = omega arith
sign_short false text = omega arith

-- So it is written, where the value was passed on.
pub put_parts : {l m k : List ℕ} {at i e r : ℕ} (z : ℤ) (negative : Bool) → SFits w64 z → lt_z (to_z w64 (of_z w64 z)) (pos 0) ≡ negative
    → r ≡ nat_abs (to_z w64 (of_z w64 z)) → r ≤ 2 ^ 63 → Printed l at (sign negative) m i → Printed m i (decimal r) k e
    → PrintedWithin 22 l at (signed_field z) k e
put_parts {r} z negative f b s h p q =
    let read : to_z w64 (of_z w64 z) ≡ z = to_z-of_z w64 z f in
    let size : r ≡ nat_abs z = s ∙ ap nat_abs read in
    rw (signed_parts z negative (rw read at b), ← size)
    (record { printed = behind p q; short = omega (arith, sign_short negative (decimal r), digits_most r (omega arith)) })
