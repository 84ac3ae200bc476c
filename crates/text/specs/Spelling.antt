-- The one text of a number and of a line. It shares no pattern with `line_form`, which reads them.
-- Assumes nothing: these are definitions.
use Rattle.std.specs.Prelude.{ℕ, zero, suc, ◌+◌, ◌/◌, ◌%◌, List, [], ◌∷◌, ◌++◌, Bool, cond as pick, ltb}
use Rattle.model.specs.declared.Edition.{Edition}
use Rattle.model.specs.declared.Edition.TheVariants.{First, Second}
use Rattle.text.specs.declared.Form.{Form}
use Rattle.text.specs.declared.Form.TheVariants.{Task, Fun, Then, Else, Close, Leaf, Call, Loop, If}
use Rattle.text.specs.Text.{bytes}

-- A number in decimal, with no leading zero (01). The fuel k is at least the number of digits.
unfoldable pub numerals : ℕ → ℕ → List ℕ
numerals zero n = []
numerals (suc k) n =
    let more = numerals k (n / 10) ++ ((n % 10 + 48) ∷ []) in pick (ltb n 10) ((n + 48) ∷ []) more

unfoldable pub decimal : ℕ → List ℕ
decimal n = numerals (suc n) n

-- The text of a line, with its line feed.
abbrev pub kind_text : Bool → List ℕ
kind_text k = pick k (bytes "p") (bytes "s")

-- A third number, U, in edition 2 (02, L7).
abbrev pub resume_text : Edition → List ℕ
resume_text First = []
resume_text (Second u) = bytes " " ++ decimal u

unfoldable pub spell : Form → List ℕ
spell (Task d t e) = bytes "(task " ++ (decimal d ++ (bytes " " ++ (decimal t ++ (resume_text e ++ bytes "\n"))))
spell Fun = bytes "(fun\n"
spell Then = bytes "(then\n"
spell Else = bytes "(else\n"
spell Close = bytes ")\n"
spell (Leaf k c m) = bytes "(leaf " ++ (kind_text k ++ (bytes " " ++ (decimal c ++ (bytes " " ++ (decimal m ++ bytes ")\n")))))
spell (Call k f c m) =
    bytes "(call " ++ (kind_text k ++ (bytes " " ++ (decimal f ++ (bytes " " ++ (decimal c ++ (bytes " " ++ (decimal m ++ bytes ")\n")))))))
spell (Loop k b c m) =
    bytes "(loop " ++ (kind_text k ++ (bytes " " ++ (decimal b ++ (bytes " " ++ (decimal c ++ (bytes " " ++ (decimal m ++ bytes "\n")))))))
spell (If k c m) = bytes "(if " ++ (kind_text k ++ (bytes " " ++ (decimal c ++ (bytes " " ++ (decimal m ++ bytes "\n")))))
