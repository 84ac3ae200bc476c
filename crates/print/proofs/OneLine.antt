-- The answer of a call, and the ticks of a release, are one line each: a line feed stands at the end, and nowhere else. Assumes nothing.
use Prim.Native.Nat.{ℕ, suc}
use mathlib.Core.Path.{◌≡◌, refl, ◌∙◌}
use mathlib.Core.List.{List, [], ◌∷◌, ◌++◌}
use mathlib.Core.Bool.{Bool, true, false}
use lib.IntN.{ℤ, pos, negsuc}
use Rattle.text.specs.Text.{lines}
use Rattle.text.proofs.Spell.{nothing, ends, lines_one, ends_decimal}
use Rattle.model.specs.declared.Word.{Word}
use Rattle.model.specs.declared.Word.TheVariants.{Go, Suspend, Stay, Resume}
use Rattle.model.specs.declared.Ending.{Ending}
use Rattle.model.specs.declared.Ending.TheVariants.{Resumed, Ended}
use Rattle.model.specs.declared.Answer.{Answer}
use Rattle.model.specs.declared.Answer.TheVariants.{Refused, Decided, Closed}
use Rattle.model.specs.Refusals.{number_of}
use Rattle.text.specs.Spelling.{decimal}
use Rattle.print.specs.Lines.{number_field, signed_field, late_mark, word_text, ending_text, answer_line, ticks_line}
use Rattle.print.proofs.Laws.{two_numbers}

-- Words and fields have no line feed.
ends_word : (w : Word) (r : List ℕ) → ends (word_text w ++ r) ≡ ends r
unfolding word_text ends
ends_word Go r = refl
ends_word Suspend r = refl
ends_word Stay r = refl
ends_word Resume r = refl

ends_field : (n : ℕ) (r : List ℕ) → ends (number_field n ++ r) ≡ ends r
unfolding number_field ends
ends_field n r = ends_decimal n r

ends_signed : (z : ℤ) (r : List ℕ) → ends (signed_field z ++ r) ≡ ends r
unfolding signed_field ends
ends_signed (pos n) r = ends_decimal n r
ends_signed (negsuc n) r = ends_decimal (suc n) r

-- The late mark ends its line.
ends_mark : (late : Bool) → ends (late_mark late) ≡ true
unfolding late_mark ends nothing
ends_mark true = refl
ends_mark false = refl

ends_end : (e : Ending) (late : Bool) → ends (ending_text e ++ late_mark late) ≡ true
unfolding ending_text ends
ends_end Resumed late = ends_mark late
ends_end Ended late = ends_mark late

ends_answer : (a : Answer) → ends (answer_line a) ≡ true
unfolding answer_line ends nothing
ends_answer (Refused n) = ends_field (number_of n) (10 ∷ [])
ends_answer (Decided w r m late) =
    ends_word w (number_field r ++ (signed_field m ++ late_mark late)) ∙
    (ends_field r (signed_field m ++ late_mark late) ∙ (ends_signed m (late_mark late) ∙ ends_mark late))
ends_answer (Closed e late) = ends_end e late

ends_ticks : (a b c : ℕ) → ends (ticks_line a b c) ≡ true
unfolding ends nothing
ends_ticks a b c =
    rw (two_numbers (decimal a) b c)
    (ends_decimal a (number_field b ++ (number_field c ++ (10 ∷ []))) ∙ (ends_field b (number_field c ++ (10 ∷ [])) ∙ ends_field c (10 ∷ [])))

-- An answer in front of a text is its first line.
pub lines_answer : (a : Answer) (t : List ℕ) → lines (answer_line a ++ t) ≡ answer_line a ∷ lines t
lines_answer a t = lines_one (answer_line a) t (ends_answer a)

-- So are the ticks of a release.
pub lines_ticks : (a b c : ℕ) (t : List ℕ) → lines (ticks_line a b c ++ t) ≡ ticks_line a b c ∷ lines t
lines_ticks a b c t = lines_one (ticks_line a b c) t (ends_ticks a b c)
