-- A log that says calls is answered as the calls are. Assumes nothing.
use mathlib.Core.List.{List, [], ◌∷◌, ◌++◌, map}
use mathlib.Core.Path.{◌≡◌, refl, ap, ◌∙◌}
use Prim.Native.Nat.{ℕ}
use Rattle.model.specs.declared.Call.{Call}
use Rattle.model.specs.Histories.{Exchange, Answered}
use Rattle.table.specs.Table.{Table}
use Rattle.control.specs.declared.State.{State}
use Rattle.control.specs.State.{fresh}
use Rattle.control.specs.Calls.{call_on, controller_of}
use Rattle.print.specs.Lines.{answer_line}
use Rattle.std.specs.Prelude.{Some}
use Rattle.flight_log.specs.Log.{log_text, AllSmall}
use Rattle.flight_log.proofs.Theorems.{entries_said}
use Rattle.transcript.specs.Transcript.{after_call, after_end, told, at_first, transcript, answers_told}

-- The calls of some exchanges.
abbrev pub calls_of : List Exchange → List Call
calls_of xs = map (λ x. x.call) xs

answered_told : (t : Table) (s : State) (accepted xs : List Exchange) → Answered (controller_of t) s xs →
    told t (record { state = s; accepted = accepted }) (map Some (calls_of xs)) ≡ answers_told accepted xs
unfolding told answers_told Answered
answered_told t s accepted [] h = refl
answered_told t s accepted (x ∷ xs) (e, h) =
    let now = after_call accepted x.call x.answer in
    rw e (ap (λ (l : List ℕ). (answer_line x.answer ++ after_end x.answer now) ++ l) (answered_told t (call_on t s x.call).state now xs h))

pub calls_replayed : (t : Table) (xs : List Exchange) → AllSmall (map (λ x. x.call) xs) → Answered (controller_of t) fresh xs →
    transcript t (log_text (map (λ x. x.call) xs)) ≡ answers_told [] xs
unfolding transcript
calls_replayed t xs small h = ap (told t at_first) (entries_said (calls_of xs) small) ∙ answered_told t fresh [] xs h
