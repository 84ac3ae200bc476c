-- What a test's answer says of a claim. Assumes nothing: these are definitions.
use Rattle.std.specs.Prelude.{Bool, true, false}

-- Yes: the claim holds. No: it does not.
abbrev pub Says : Bool → Type 0 → Type 0
Says true A = A
Says false A = A → ⊥
