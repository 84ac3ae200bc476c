-- The one text of a plan: its lines in a row, each spelled.
-- Assumes nothing: these are definitions.
use Rattle.std.specs.Prelude.{ℕ, List, [], ◌∷◌, ◌++◌, map}
use Rattle.model.specs.Plan.{Block, Lines, close, leaf_line, call_line, loop_line, if_line, Plan}
use Rattle.text.specs.declared.Form.{Form}
use Rattle.text.specs.declared.Form.TheVariants.{Task, Fun, Then, Else, Close, Leaf, Call, Loop, If}
use Rattle.text.specs.Spelling.{spell}

-- The line of a leaf, of a call of function f, of a loop's condition with bound n, of an if's condition.
abbrev pub leaf_form : Block → Form
leaf_form b = Leaf b.point b.isolated b.max_load

abbrev pub call_form : Block → ℕ → Form
call_form b f = Call b.point f b.isolated b.max_load

abbrev pub loop_form : Block → ℕ → Form
loop_form b n = Loop b.point n b.isolated b.max_load

abbrev pub if_form : Block → Form
if_form b = If b.point b.isolated b.max_load

-- The lines of forms in text order (01, the table of lines).
unfoldable pub forms_in : Lines → List Form
forms_in close = []
forms_in (leaf_line b rest) = leaf_form b ∷ forms_in rest
forms_in (call_line b f rest) = call_form b f ∷ forms_in rest
forms_in (loop_line b n body rest) = loop_form b n ∷ (forms_in body ++ (Close ∷ forms_in rest))
forms_in (if_line b then else rest) =
    if_form b ∷ Then ∷ (forms_in then ++ (Close ∷ Else ∷ (forms_in else ++ (Close ∷ Close ∷ forms_in rest))))

-- The lines of functions.
unfoldable pub forms_all : List Lines → List Form
forms_all [] = []
forms_all (l ∷ ls) = Fun ∷ (forms_in l ++ (Close ∷ forms_all ls))

-- The lines of a plan.
unfoldable pub forms_of : Plan → List Form
forms_of p = Task p.deadline p.switch p.edition ∷ (forms_all p.functions ++ (Close ∷ []))

-- Texts one after the other.
unfoldable pub join_all : List (List ℕ) → List ℕ
join_all [] = []
join_all (l ∷ ls) = l ++ join_all ls

-- The text of a plan.
unfoldable pub print : Plan → List ℕ
print p = join_all (map spell (forms_of p))
