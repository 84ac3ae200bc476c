-- A faster run shares no less (02, L8): two sequences of calls with their answers, side by side. No field of a state or of a table is named.
-- Assumes nothing: these are definitions.
use Rattle.std.specs.Prelude.{List, [], ◌∷◌, ◌≡◌, ℕ, suc, ◌≤◌, take}
use Rattle.model.specs.Calls.{Release, Report, Answer, Others, Running, Accepts, others_after}
use Rattle.model.specs.Histories.{Exchange, ◌gets◌}

-- Accepted reports, side by side: of the same points in the same order, no reading of the second list later than the first's at the same place.
pub data ReportsNoLater : List Exchange → List Exchange → Type 0 where
  no_reports : ReportsNoLater [] []
  both_report : {n t u : ℕ} {a b : Answer} {first second : List Exchange} → Accepts a → Accepts b → u ≤ t → ReportsNoLater second first →
      ReportsNoLater ((Report n u gets b) ∷ second) ((Report n t gets a) ∷ first)

-- The second sequence is no later than the first: each is an accepted release, and behind it stand such reports.
pub data NoLater : List Exchange → List Exchange → Type 0 where
  both_release : {a b : Answer} {first second : List Exchange} → Accepts a → Accepts b → ReportsNoLater second first →
      NoLater ((Release gets b) ∷ second) ((Release gets a) ∷ first)

-- What the others do behind these calls, by their answers (01, 'Timed runs'), where they did this before the first of them.
unfoldable pub others_behind : Others → List Exchange → Others
others_behind others [] = others
others_behind others (x ∷ xs) = others_behind (others_after x.answer others) xs

-- The second sequence shares no less than the first: wherever the others run in the first, behind the release and so many reports, they run in the second
-- behind the release and as many.
abbrev pub SharesNoLess : List Exchange → List Exchange → Type 0
SharesNoLess second first =
    (reports : ℕ) → others_behind Running (take (suc reports) first) ≡ Running → others_behind Running (take (suc reports) second) ≡ Running
