-- The numbers of a plan's edition, of a decision's word and of an end's word, as other languages take them (01, 'Calls'; 02, L7).
-- Assumes nothing: these are definitions.
use Rattle.std.specs.Prelude.{ℕ}
use Rattle.model.specs.Plan.{Edition, First, Second}
use Rattle.model.specs.declared.Word.{Word}
use Rattle.model.specs.declared.Word.TheVariants.{Go, Suspend, Stay, Resume}
use Rattle.model.specs.declared.Ending.{Ending}
use Rattle.model.specs.declared.Ending.TheVariants.{Resumed, Ended}

-- The number of an edition.
abbrev pub edition_number : Edition → ℕ
edition_number First = 1
edition_number (Second u) = 2

-- The number of a word: 1 go, 2 suspend, 3 stay, 4 resume, which an end answers too (0 says that the call was refused).
abbrev pub word_number : Word → ℕ
word_number Go = 1
word_number Suspend = 2
word_number Stay = 3
word_number Resume = 4

-- The number of an ending: 4 resume, 5 ended.
abbrev pub ending_number : Ending → ℕ
ending_number Resumed = 4
ending_number Ended = 5
