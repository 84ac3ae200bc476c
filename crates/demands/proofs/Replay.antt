-- The replay of a log (02, L1) prints what the delivered calls answer. The other theorems about it stand in `crates/transcript/proofs/Theorems.antt`.
-- Assumes nothing.
use mathlib.Core.List.{List, [], map}
use mathlib.Core.Path.{◌≡◌, refl, ap, ◌∙◌, subst}
use Prim.Native.Nat.{ℕ}
use Rattle.model.specs.Plan.{Plan}
use Rattle.model.specs.Histories.{Exchange, Answered}
use Rattle.model.proofs.Theorems as model
use Rattle.table.specs.Table.{Table, table_of}
use Rattle.table.proofs.Theorems.{read_as_plan}
use Rattle.control.specs.Calls.{controller_of}
use Rattle.control.specs.State.{fresh}
use Rattle.flight_log.specs.Log.{log_text, AllSmall}
use Rattle.transcript.specs.Transcript.{replayed, replay, answers_told}
use Rattle.transcript.proofs.Theorems.{calls_replayed}
use Rattle.rolsipay.specs.declared.State.{State}
use Rattle.rolsipay.specs.Calling.{zeros, state_of}
use Rattle.demands.specs.Delivered.{Memory, after_read, ReadAs, delivered}
use Rattle.demands.proofs.Tables.{table_held, numbers_held, read_holds}
use Rattle.demands.proofs.Delivered.{as_there}

-- Calls have the answers of the controller on the table in the memory.
answered_there : (m : Memory) (s : State) (xs : List Exchange) → Answered (delivered m) s xs → Answered (controller_of (table_held m)) (state_of s) xs
answered_there m s = model.answered_alike (delivered m) (controller_of (table_held m)) (λ t x. state_of t ≡ x) (as_there m) s (state_of s) refl

-- Consider a text that is read as a plan into lent memory. Consider calls with numbers below 2^64 and their answers, made one after the other from a fresh
-- lent state. The replay of the log that says these calls, on the same text, prints these answers in order, with the ticks after each accepted end.
pub replays_delivered : (text : List ℕ) (m : Memory) (p : Plan) → ReadAs text m p → (xs : List Exchange) → AllSmall (map (λ x. x.call) xs) →
    Answered (delivered (after_read text m)) zeros xs → replay text (log_text (map (λ x. x.call) xs)) ≡ answers_told [] xs
replays_delivered text m p h xs small u =
    let there = after_read text m in
    let (is, accepted, fits) = (read_as_plan _ text p).0 h in
    let held : table_held there ≡ table_of p = numbers_held p there (read_holds text m p h) in
    let k : Answered (controller_of (table_of p)) fresh xs =
    subst (λ (t : Table). Answered (controller_of t) fresh xs) held (answered_there there zeros xs u) in
    ap (λ o. replayed o (log_text (map (λ x. x.call) xs))) ((read_as_plan 512 text p).1 (is, accepted, accepted.formed.few_leaves)) ∙
    calls_replayed (table_of p) xs small k
