-- Texts written one behind the other, as far as there is room, and how long they are. Assumes nothing.
use Prim.Native.Nat.{ℕ, zero, suc, ◌+◌, ◌-◌, ◌*◌, ◌/◌, ◌%◌, ◌^◌, ◌≤◌, ◌<◌, min}
use mathlib.Core.Path.{◌≡◌, refl, sym, ap, ◌∙◌}
use mathlib.Core.List.{List, [], ◌∷◌, ◌++◌, flatten, flat_map, append_assoc, append-nil}
use mathlib.Core.Bool.{Bool, true, false}
use native.Mathlib.Numerals.{add-one}
use native.Mathlib.Omega.{arith}
use lib.Dec.{leb}
use lib.ListN.{length, take, drop, get_or, set, length-append, length-take, length-set}
use lib.Seq.{sets, take-suc, take-nil, set_out, length-sets}
use borrow.Author.Tests.{leb-true, leb-false}
use borrow.Rule.Slice.PartMut.{put_mid}
use native.Mathlib.Decide.{dec_le}
use lib.Seq.{paste}
use Rattle.std.proofs.lemmas.Slice.{put_mid-paste}
use Rattle.std.proofs.lemmas.List.Edits.{paste_none, paste_all, sets-eq}
use Rattle.text.specs.Spelling.{decimal}
use Rattle.text.proofs.Decimal.{decimal_digit, decimal_step, decimal_length, tens}
use Rattle.model.specs.declared.Word.{Word}
use Rattle.model.specs.declared.Word.TheVariants.{Go, Suspend, Stay, Resume}
use Rattle.model.specs.declared.Ending.{Ending}
use Rattle.model.specs.declared.Ending.TheVariants.{Resumed, Ended}
use Rattle.text.specs.Text.{bytes}
use Rattle.print.specs.Lines.{number_field, number_fields, numbers_line, word_text, ending_text, late_mark}
use Rattle.print.specs.Printed.{Printed, PrintedWithin}

-- STORES IN A ROW

-- Stores that go on behind others are the stores of both texts.
pub stores_join : (xs ys l : List ℕ) (at i : ℕ) → i ≡ at + length xs → sets (sets l at xs) i ys ≡ sets l at (xs ++ ys)
stores_join [] ys l at i e = let e' : i ≡ at = omega arith in rw e'
stores_join (x ∷ xs) ys l at i e = stores_join xs ys (set l at x) (suc at) i (omega arith)

-- Stores behind the end of a buffer change nothing.
stores_out : (xs l : List ℕ) (i : ℕ) → length l ≤ i → sets l i xs ≡ l
stores_out [] l i h = refl
stores_out (x ∷ xs) l i h =
    let e : set l i x ≡ l = set_out l i x h in
    rw e (stores_out xs l (suc i) (omega arith))

-- The same where those before left no room.
stores_full : (xs ys l : List ℕ) (at i : ℕ) → length l ≤ at + length xs → length l ≤ i → sets (sets l at xs) i ys ≡ sets l at (xs ++ ys)
stores_full xs ys l at i h k =
    stores_out ys (sets l at xs) i (omega (arith, length-sets l at xs)) ∙
    (sym (stores_out ys (sets l at xs) (at + length xs) (omega (arith, length-sets l at xs))) ∙ stores_join xs ys l at (at + length xs) refl)

-- Stores that go on where those before ended, for want of a byte or of room.
stores_behind : (xs ys l : List ℕ) (at i : ℕ) → i ≡ at + min (length xs) (length l - at) → sets (sets l at xs) i ys ≡ sets l at (xs ++ ys)
stores_behind xs ys l at i e = by (leb (at + length xs) (length l)) refl
  where
    by : (b : Bool) → leb (at + length xs) (length l) ≡ b → sets (sets l at xs) i ys ≡ sets l at (xs ++ ys)
    by true h = stores_join xs ys l at i (omega (arith, leb-true (at + length xs) (length l) h))
    by false h =
        let over = leb-false (at + length xs) (length l) h in
        stores_full xs ys l at i (omega (arith, over)) (omega (arith, over))

-- Stores keep the size of a buffer.
pub same_size : (l : List ℕ) (at : ℕ) (xs : List ℕ) {m : List ℕ} → m ≡ sets l at xs → length m ≡ length l
same_size l at xs e = ap length e ∙ length-sets l at xs

-- Bytes that there is no room for are not stored.
cut : (text l : List ℕ) (at n : ℕ) → n ≡ min (length text) (length l - at) → sets l at (take n text) ≡ sets l at text
cut [] l at n e = ap (sets l at) (take-nil n)
cut (x ∷ xs) l at zero e = sym (stores_out (x ∷ xs) l at (omega arith))
cut (x ∷ xs) l at (suc n) e = cut xs (set l at x) (suc at) n (omega (arith, length-set l at x))

-- A text that is pasted where there is room for it is stored.
pasted_all : (xs l : List ℕ) (at n : ℕ) → n ≡ length xs → at + n ≤ length l → paste l at xs n ≡ sets l at xs
pasted_all xs l at n e h =
    paste_all l at xs n e ∙ rw e (sym (append_assoc (take at l) xs (drop (at + length xs) l)) ∙ sym (sets-eq xs l at (omega arith)))

-- As many bytes of a text were copied as there is room for.
pub copied : (old text part : List ℕ) (at start count : ℕ) → start ≡ min at (length old) → count ≡ min (length text) (length old - start)
    → part ≡ take count text → Printed old at text (put_mid start (start + count - start) old part) (at + count)
copied old text part at start count from many got = record { stored = pasted ∙ fits; after = omega arith }
  where
    size : count ≡ length (take count text)
    size = omega (arith, length-take count text)

    pasted : put_mid start (start + count - start) old part ≡ paste old start (take count text) count
    pasted = put_mid-paste start _ old part (take count text) count got (omega arith) size

    fits : paste old start (take count text) count ≡ sets old at text
    fits =
        elim (dec_le at (length old)) [
          | yes h ↦
              let here : start ≡ at = omega arith in
              rw here (pasted_all (take count text) old at count size (omega arith) ∙ cut text old at count (omega arith))
          | no h ↦
              let none : count ≡ 0 = omega arith in
              rw none (sym (paste_none old start (take 0 text)) ∙ sym (stores_out text old at (omega arith)))
        ]

-- TEXTS IN A ROW

-- Where nothing is written all is as it was.
pub nothing_written : (l : List ℕ) (at : ℕ) → Printed l at [] l at
nothing_written l at = record { stored = refl; after = omega arith }

-- A text written behind another makes one text of both.
pub behind : {l m n xs ys : List ℕ} {at i e : ℕ} → Printed l at xs m i → Printed m i ys n e → Printed l at (xs ++ ys) n e
behind {l} {m} {n} {xs} {ys} {at} {i} {e} p q = record {
  stored = q.stored ∙ (ap (λ (u : List ℕ). sets u i ys) p.stored ∙ stores_behind xs ys l at i p.after);
  after = omega (arith, p.after, q.after, same_size l at xs p.stored, length-append xs ys);
}

-- A further byte of a text, where those before it were written.
pub byte_more : (text : List ℕ) (k : ℕ) {l m n : List ℕ} {at i e : ℕ} → k < length text → Printed l at (take k text) m i → Printed m i (get_or text k 0 ∷ []) n e
    → Printed l at (take (k + 1) text) n e
byte_more text k h p q = rw (add-one k, take-suc text k 0 h) (behind p q)

-- The same of texts of at most so many bytes.
pub joined : {a b : ℕ} {l m n xs ys : List ℕ} {at i e : ℕ} → PrintedWithin a l at xs m i → PrintedWithin b m i ys n e
    → PrintedWithin (a + b) l at (xs ++ ys) n e
joined {xs} {ys} p q = record {
  printed = behind p.printed q.printed;
  short = omega (arith, p.short, q.short, length-append xs ys);
}

-- A text has at most as many bytes as it is long.
pub whole : {l m xs : List ℕ} {at e : ℕ} → Printed l at xs m e → PrintedWithin (length xs) l at xs m e
whole p = record { printed = p; short = omega arith }

-- A short text that was written is this one.
pub written : {most : ℕ} {l m xs text : List ℕ} {at e : ℕ} → text ≡ xs → length xs ≤ most → Printed l at text m e → PrintedWithin most l at xs m e
written q h p = record { printed = rw (← q) p; short = h }

-- What has at most so many bytes has at most more.
pub wider : {most more : ℕ} {l m xs : List ℕ} {at e : ℕ} → most ≤ more → PrintedWithin most l at xs m e → PrintedWithin more l at xs m e
wider h p = record { printed = p.printed; short = omega (arith, p.short) }

-- THE TEXTS OF A LIST

-- The texts of two lists, one behind the other, are those of both.
flat_append : {A : Type 0} (f : A → List ℕ) (xs ys : List A) → flat_map f (xs ++ ys) ≡ flat_map f xs ++ flat_map f ys
unfolding flat_map
flat_append f [] ys = refl
flat_append f (x ∷ xs) ys = rw (flat_append f xs ys, append_assoc (f x) (flat_map f xs) (flat_map f ys))

-- The lines of two lists, one behind the other.
pub flatten_append : (xs ys : List (List ℕ)) → flatten (xs ++ ys) ≡ flatten xs ++ flatten ys
unfolding flatten
flatten_append [] ys = refl
flatten_append (x ∷ xs) ys = rw (flatten_append xs ys, append_assoc x (flatten xs) (flatten ys))

-- Of none nothing is written.
pub none_written : {A : Type 0} (f : A → List ℕ) (xs : List A) (most : ℕ) (l : List ℕ) (at : ℕ) → PrintedWithin (0 * most) l at (flat_map f (take 0 xs)) l at
unfolding flat_map
none_written f xs most l at = record { printed = nothing_written l at; short = omega arith }

-- One more, of at most so many bytes as each.
pub one_written : {A : Type 0} (f : A → List ℕ) (d : A) (xs : List A) (most i : ℕ) {l m n : List ℕ} {at e r : ℕ} → i < length xs →
    PrintedWithin (i * most) l at (flat_map f (take i xs)) m e → PrintedWithin most m e (f (get_or xs i d)) n r →
    PrintedWithin ((i + 1) * most) l at (flat_map f (take (i + 1) xs)) n r
unfolding flat_map
one_written f d xs most i h p q =
    rw (add-one i, take-suc xs i d h, flat_append f (take i xs) (get_or xs i d ∷ []), append-nil (f (get_or xs i d))) (wider (omega arith) (joined p q))

-- NUMBERS

-- A number below 10 is written as its digit.
pub one_digit : {l m : List ℕ} {at e b n : ℕ} → n < 10 → b ≡ n + 48 → Printed l at (b ∷ []) m e → Printed l at (decimal n) m e
one_digit {n} h d p = rw (decimal_digit n h, ← d) p

-- Any other is written as the digits of its tenth and its last digit.
pub last_digit : {l m k : List ℕ} {at i e b n : ℕ} → 10 ≤ n → b ≡ n % 10 + 48 → Printed l at (decimal (n / 10)) m i → Printed m i (b ∷ []) k e
    → Printed l at (decimal n) k e
last_digit {n} h d p q = rw (decimal_step n h, ← d) (behind p q)

-- A number of 64 bits has at most 20 digits.
pub digits_most : (n : ℕ) → n < 2 ^ 64 → length (decimal n) ≤ 20
digits_most n h = decimal_length 19 n (unfold tens in omega arith)

-- A line of a word and one number, and of a word and two.
pub one_number : (word : List ℕ) (a : ℕ) → numbers_line word (a ∷ []) ≡ word ++ (number_field a ++ bytes "\n")
unfolding numbers_line number_fields flat_map
one_number word a = rw (append-nil (number_field a))

pub two_numbers : (word : List ℕ) (a b : ℕ) → numbers_line word (a ∷ b ∷ []) ≡ word ++ (number_field a ++ (number_field b ++ bytes "\n"))
unfolding numbers_line number_fields flat_map
two_numbers word a b = rw (append-nil (number_field b), append_assoc (number_field a) (number_field b) (bytes "\n"))

-- The words of a decision and of an end, and the late mark, are short.
pub word_short : (w : Word) → length (word_text w) ≤ 7
unfolding word_text
word_short Go = omega arith
word_short Suspend = omega arith
word_short Stay = omega arith
word_short Resume = omega arith

pub ending_short : (e : Ending) → length (ending_text e) ≤ 6
unfolding ending_text
ending_short Resumed = omega arith
ending_short Ended = omega arith

pub mark_short : (late : Bool) → length (late_mark late) ≤ 3
unfolding late_mark
mark_short true = omega arith
mark_short false = omega arith

-- WHOLE TEXTS

-- What a function that writes a whole text into a buffer of so many bytes promises: the bytes stand at its start, and the result is their number.
abbrev pub Whole : ℕ → List ℕ → List ℕ → List ℕ → ℕ → Type 0
Whole size l text m r = (m ≡ sets l 0 text) × ((r ≡ length text) × (r ≤ size))

-- So it is where the buffer has room for all of the text.
pub all_of : {most size : ℕ} {l m text : List ℕ} {e : ℕ} → most ≤ size → length l ≡ size → PrintedWithin most l 0 text m e → Whole size l text m e
all_of h k p =
    let a = p.printed.after in
    let s = p.short in
    (p.printed.stored, (omega arith, omega arith))
