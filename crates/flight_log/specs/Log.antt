-- A flight log and its lines (02, L1): `release`, `point N E`, `end E`, written as in a plan, N a leaf number, E a reading, both below 2^64.
-- Assumes nothing: these are definitions.
use Rattle.std.specs.Prelude.{ℕ, ◌-◌, ◌^◌, ◌<◌, ◌≡◌, List, [], ◌∷◌, ◌++◌, map, false, cond as pick, eqb}
use Prim.Native.String.{String}
use Rattle.text.specs.Text.{bytes, lines}
use Rattle.text.specs.Patterns.{Match, miss, match, matched, any_over}
use Rattle.text.specs.Grammar.{nth}
use Rattle.text.specs.Spelling.{decimal}
use Rattle.model.specs.declared.Call.{Call}
use Rattle.model.specs.declared.Call.TheVariants.{Release, Report, End}
use Rattle.std.specs.Prelude.{Option, Some, None}

-- A line that fits a pattern says a call with its numbers, where each is below 2^64.
abbrev pub or_next : Match → (List ℕ → Call) → Option Call → Option Call
or_next miss f next = next
or_next (match k v) f next = pick (any_over (2 ^ 64 - 1) v) None (Some (f v))

abbrev pub says : String → List ℕ → (List ℕ → Call) → Option Call → Option Call
says pattern l = or_next (matched (bytes pattern) false l)

-- What a line is, its line feed included: a call, or a line of another form.
unfoldable pub entry_of : List ℕ → Option Call
entry_of l =
    says "release" l (λ v. Release)
    (says "point N E" l (λ v. Report (nth v 0) (nth v 1))
    (says "end E" l (λ v. End (nth v 0)) None))

-- The entries of a log, one for each line. A last line without a line feed is a line too; an empty log has none.
unfoldable pub entries : List ℕ → List (Option Call)
entries log = map entry_of (lines log)

-- The one text of a call.
unfoldable pub call_text : Call → List ℕ
call_text Release = bytes "release\n"
call_text (Report n e) = bytes "point " ++ (decimal n ++ (bytes " " ++ (decimal e ++ bytes "\n")))
call_text (End e) = bytes "end " ++ (decimal e ++ bytes "\n")

-- Its numbers are below 2^64.
abbrev pub Small : Call → Type 0
Small Release = Unit
Small (Report n e) = (n < 2 ^ 64) × (e < 2 ^ 64)
Small (End e) = e < 2 ^ 64

-- No byte is a line feed.
abbrev pub Feedless : List ℕ → Type 0
Feedless [] = Unit
Feedless (b ∷ bs) = (eqb b 10 ≡ false) × Feedless bs

-- The log that says these calls, one after the other.
unfoldable pub log_text : List Call → List ℕ
log_text [] = []
log_text (c ∷ cs) = call_text c ++ log_text cs

-- Their numbers are below 2^64.
abbrev pub AllSmall : List Call → Type 0
AllSmall [] = Unit
AllSmall (c ∷ cs) = Small c × AllSmall cs
