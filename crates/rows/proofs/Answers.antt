-- Answers and what they say. Assumes nothing.
use mathlib.Core.Path.{◌≡◌, refl}
use mathlib.Core.Bool.{Bool, true, false}
use Prim.Native.Nat.{ℕ}
use native.Mathlib.Omega.{arith}
use Rattle.std.specs.Bool.{MatchBool}
use Rattle.rows.specs.Answers.{Says}

-- An answer says its claim, from what each answer means.
pub says : {A : Type 0} (b : Bool) → (b ≡ true → A) → (b ≡ false → A → ⊥) → Says b A
says true t f = t refl
says false t f = f refl

-- What a yes said.
pub said_true : {A : Type 0} (b : Bool) → b ≡ true → Says b A → A
said_true true e h = h
said_true false e h = let z : ◌≡◌ {A = ℕ} 0 1 = cc in absurd (omega arith)

-- What a no said.
pub said_false : {A : Type 0} (b : Bool) → b ≡ false → Says b A → A → ⊥
said_false true e h = let z : ◌≡◌ {A = ℕ} 0 1 = cc in absurd (omega arith)
said_false false e h = h

-- An answer to one claim answers any other that holds exactly with it.
pub same_answer : {A B : Type 0} (b : Bool) → (A → B) → (B → A) → Says b A → Says b B
same_answer true t f h = t h
same_answer false t f h = λ x. h (f x)

-- The answer to a claim that one of two facts decides: where it is yes the claim holds, and where it is no it does not.
pub says_by : {A P Q : Type 0} (b : Bool) → MatchBool b P Q → (P → A) → (Q → A → ⊥) → Says b A
says_by true h t f = t h
says_by false h t f = f h

-- The answer to a claim that holds.
pub said_yes : {A : Type 0} (b : Bool) → Says b A → A → b ≡ true
said_yes true h a = refl
said_yes false h a = absurd (h a)
