-- Lines, the other way: a line that is read as a form is the text that spells this form.
-- Assumes nothing.
use Prim.Native.Nat.{ℕ}
use mathlib.Core.Path.{◌≡◌, refl}
use mathlib.Core.List.{List}
use mathlib.Core.Bool.{Bool, false}
use Rattle.text.specs.declared.Form.{Form}
use Rattle.text.specs.Text.{bytes}
use Rattle.text.specs.Patterns.{Match, miss, match}
use Rattle.text.specs.Grammar.{Line, form, or_else, line_form}
use Rattle.text.specs.Spelling.{spell}
use Rattle.text.proofs.Filled.{spelled, once, kindless, filled}
use Rattle.text.proofs.Positions.{never_form}

-- One row of the grammar's table after the other.
try : (m : Match) (f : Bool → List ℕ → Form) (other : Line) (g : Form) (l : List ℕ) → or_else m f other ≡ form g →
    ((k : Bool) (v : List ℕ) → m ≡ match k v → l ≡ spell (f k v)) → (other ≡ form g → l ≡ spell g) → l ≡ spell g
try miss f other g l e yes' no' = no' e
try (match k v) f other g l e yes' no' =
    let q : f k v ≡ g = cc in
    rw (← q) (yes' k v refl)

-- A form is read from the text that spells it only.
pub spells_read : (l : List ℕ) (g : Form) → line_form l ≡ form g → l ≡ spell g
unfolding line_form spell spelled once kindless
spells_read l g e =
    try _ _ _ g l e (λ k v h. (filled (bytes "(task D T") false l k v refl h).text) λ e.
    try _ _ _ g l e (λ k v h. (filled (bytes "(task D T U") false l k v refl h).text) λ e.
    try _ _ _ g l e (λ k v h. (filled (bytes "(leaf K C M)") false l k v refl h).text) λ e.
    try _ _ _ g l e (λ k v h. (filled (bytes "(call K F C M)") false l k v refl h).text) λ e.
    try _ _ _ g l e (λ k v h. (filled (bytes "(loop K B C M") false l k v refl h).text) λ e.
    try _ _ _ g l e (λ k v h. (filled (bytes "(if K C M") false l k v refl h).text) λ e.
    try _ _ _ g l e (λ k v h. (filled (bytes "(fun") false l k v refl h).text) λ e.
    try _ _ _ g l e (λ k v h. (filled (bytes "(then") false l k v refl h).text) λ e.
    try _ _ _ g l e (λ k v h. (filled (bytes "(else") false l k v refl h).text) λ e.
    try _ _ _ g l e (λ k v h. (filled (bytes ")") false l k v refl h).text) λ e. never_form e
