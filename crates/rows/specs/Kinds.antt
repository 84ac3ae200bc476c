-- The kind of a form by the number that stands for it in a record.
-- Assumes nothing: these are definitions.
use Rattle.std.specs.Prelude.{ℕ, ◌<◌, ◌≡◌, Option, Some, None, Result, MatchResult}
use Rattle.rows.specs.declared.Kind.{Kind}
use Rattle.rows.specs.declared.UnknownKind.{UnknownKind}
use Rattle.rows.specs.declared.Kind.TheVariants.{Leaf, Call, Loop, If}

-- The number stands for this kind: 0 leaf, 1 call, 2 loop, 3 if; a number over 3 stands for none.
abbrev pub IsKind : Option Kind → ℕ → Type 0
IsKind (Some Leaf) n = n ≡ 0
IsKind (Some Call) n = n ≡ 1
IsKind (Some Loop) n = n ≡ 2
IsKind (Some If) n = n ≡ 3
IsKind None n = 3 < n

-- The kind that a number stands for; a number of no kind is handed back.
abbrev pub KindOfNumber : ℕ → Result Kind UnknownKind → Type 0
KindOfNumber n r = MatchResult r (λ kind. IsKind (Some kind) n) (λ e. (e.0 ≡ n) × IsKind None n)

-- The number that stands for a kind.
abbrev pub NumberOfKind : Kind → ℕ → Type 0
NumberOfKind kind n = IsKind (Some kind) n
