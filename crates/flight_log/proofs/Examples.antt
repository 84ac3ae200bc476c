-- Lines worked through: what the definitions say of some lines of a log, and where two readings were possible. Each is a computation.
-- Assumes nothing.
use mathlib.Core.Path.{◌≡◌, refl}
use mathlib.Core.List.{[], ◌∷◌, map}
use Rattle.text.specs.Text.{bytes, lines}
use Rattle.text.specs.Patterns.{digits, number, item, matched}
use Rattle.text.specs.Spelling.{numerals, decimal}
use Rattle.model.specs.declared.Call.TheVariants.{Release, Report, End}
use Rattle.std.specs.Prelude.{Some, None}
use Rattle.flight_log.specs.Log.{entry_of, entries, call_text}

-- Lines of the grammar; 0 and 2^64 - 1 are numbers.
calls : map entry_of (
    bytes "release\n"
    ∷ bytes "point 0 0\n"
    ∷ bytes "point 3 18446744073709551615\n"
    ∷ bytes "point 18446744073709551615 18446744073709551615\n"
    ∷ bytes "end 7\n"
    ∷ []
    )
    ≡ Some Release
    ∷ Some (Report 0 0)
    ∷ Some (Report 3 18446744073709551615)
    ∷ Some (Report 18446744073709551615 18446744073709551615)
    ∷ Some (End 7)
    ∷ []
unfolding entry_of matched item number digits
calls = refl

-- Not of the grammar: 2^64, a leading zero, two spaces, a space or a carriage return at the end, a missing number, one too many, no line feed, a blank line.
others : map entry_of (
    bytes "end 18446744073709551616\n"
    ∷ bytes "point 18446744073709551616 5\n"
    ∷ bytes "point 01 5\n"
    ∷ bytes "point  1 5\n"
    ∷ bytes "release \n"
    ∷ bytes "end 7\r\n"
    ∷ bytes "point 1\n"
    ∷ bytes "end 1 2\n"
    ∷ bytes "release"
    ∷ bytes "\n"
    ∷ []
    )
    ≡ None ∷ None ∷ None ∷ None ∷ None ∷ None ∷ None ∷ None ∷ None ∷ None ∷ []
unfolding entry_of matched item number digits
others = refl

-- A log whose last line lacks its line feed has an entry for it too.
cut_log : entries (bytes "release\npoint 0 5\n\nend 7") ≡ Some Release ∷ Some (Report 0 5) ∷ None ∷ None ∷ []
unfolding entries lines entry_of matched item number digits
cut_log = refl

-- The text of a call.
point_text : call_text (Report 12 3450) ≡ bytes "point 12 3450\n"
unfolding call_text decimal numerals
point_text = refl
