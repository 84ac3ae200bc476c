-- Whole texts: a text is its lines one after the other, and the lines of spelled forms are these.
use Prim.Native.Nat.{ℕ}
use mathlib.Core.Path.{◌≡◌, refl, ap, ◌∙◌}
use mathlib.Core.List.{List, [], ◌∷◌, map}
use mathlib.Core.Bool.{Bool, true, false}
use lib.Dec.{eqb}
use Rattle.text.specs.Text.{joined, lines}
use Rattle.text.specs.Spelling.{spell}
use Rattle.text.specs.declared.Form.{Form}
use Rattle.text.proofs.Theorems.{lines_spelled}
use Rattle.reader.specs.Print.{join_all}

join_joined : (b : ℕ) (t : Bool) (ls : List (List ℕ)) → join_all (joined b t ls) ≡ b ∷ join_all ls
unfolding join_all
join_joined b true ls = refl
join_joined b false [] = refl
join_joined b false (l ∷ ls) = refl

-- A text is its lines one after the other.
pub join_lines : (t : List ℕ) → join_all (lines t) ≡ t
unfolding lines
join_lines [] = unfold join_all in refl
join_lines (b ∷ bs) = join_joined b (eqb b 10) (lines bs) ∙ ap (λ x. b ∷ x) (join_lines bs)

-- The lines of spelled forms are these.
pub lines_spell : (fs : List Form) → lines (join_all (map spell fs)) ≡ map spell fs
unfolding join_all
lines_spell [] = unfold lines in refl
lines_spell (f ∷ fs) = lines_spelled f (join_all (map spell fs)) ∙ ap (λ x. spell f ∷ x) (lines_spell fs)
