-- What a program that prints a line gets from its contract. Assumes nothing.
use Prim.Native.Nat.{ℕ, ◌+◌, ◌≤◌}
use mathlib.Core.Path.{◌≡◌, ap, ◌∙◌}
use mathlib.Core.List.{List}
use native.Mathlib.Omega.{arith}
use lib.ListN.{length, take, drop}
use lib.Seq.{sets, sets-eq, take-append_seam}
use Rattle.print.specs.Printed.{PrintedWithin}
use Rattle.print.proofs.Laws.{all_of}

-- The buffer begins with the text that was written at its start, where it has room for it.
pub begins : (text buffer : List ℕ) → length text ≤ length buffer → take (length text) (sets buffer 0 text) ≡ text
begins text buffer h =
    let e : 0 + length text ≤ length buffer = omega arith in
    rw (sets-eq text buffer 0 e) (take-append_seam text (drop (0 + length text) buffer))

-- As many bytes of a buffer as a function says that it wrote at its start are the text that it wrote, where the buffer has room for all that it may write.
pub handed : {size : ℕ} {old text new : List ℕ} {n : ℕ} → length old ≡ size → PrintedWithin size old 0 text new n → take n new ≡ text
handed {size} {old} {text} {new} room p =
    let (stored, (long, fits)) = all_of {most = size} (omega arith) room p in
    ap (λ m. take m new) long ∙ (ap (take (length text)) stored ∙ begins text old (omega arith))
