-- What a list of demand 3 looks like from outside: its calls, each with its answer; the calls of a list before its end; and the texts of plan A, with two
-- numbers and with three.
-- Assumes nothing: these are definitions.
use Rattle.std.specs.Prelude.{List, [], ◌∷◌, ℕ, ◌-◌, length, take}
use Rattle.text.specs.Text.{bytes}
use Rattle.model.specs.Plan.{Plan}
use Rattle.model.specs.declared.Call.TheVariants.{Release, Report, End}
use Rattle.model.specs.declared.Others.{Others}
use Rattle.model.specs.Calls.{Controller}
use Rattle.model.specs.Histories.{Exchange, ◌gets◌}
use Rattle.model.specs.Timed.{Phase, CallList, stops, refusable, releases, silent_visit, point_visit, ends, answer}

-- The calls of a list in order, each with its answer. (A silent visit makes no call.)
unfoldable pub exchanges : {S : Type 0} (p : Plan) (k : Controller S) {s : S} {others : Others} {phase : Phase} → CallList p k s others phase → List Exchange
exchanges p k stops = []
exchanges p k (refusable {s = s} c q z) = (c gets answer p k s c) ∷ exchanges p k z
exchanges p k (releases {s = s} r switch q z) = (Release gets answer p k s Release) ∷ exchanges p k z
exchanges p k (silent_visit b w ticks e q x z) = exchanges p k z
exchanges p k (point_visit {s = s} {o = o} b w switch ticks e q y x z) =
    (Report b.number o.clock gets answer p k s (Report b.number o.clock)) ∷ exchanges p k z
exchanges p k (ends {s = s} {o = o} e z) = (End o.clock gets answer p k s (End o.clock)) ∷ exchanges p k z

-- The calls before the last of a list, its end.
abbrev pub before_end : List Exchange → List Exchange
before_end xs = take (length xs - 1) xs

-- The text of plan A (01, 'Plans worked through').
unfoldable pub text_A : List ℕ
text_A = bytes "(task 100 4\n(fun\n(leaf p 5 9)\n(loop p 3 2 4\n(leaf s 10 20)\n)\n(leaf s 6 8)\n)\n)\n"

-- The text of plan A with U 3, a plan of edition 2 (02, L7).
unfoldable pub text_returning_A : List ℕ
text_returning_A = bytes "(task 100 4 3\n(fun\n(leaf p 5 9)\n(loop p 3 2 4\n(leaf s 10 20)\n)\n(leaf s 6 8)\n)\n)\n"
