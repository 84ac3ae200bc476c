-- What held the others back at a log's last report (02, L9), from the plan's text and the log's bytes alone: the visits that make up its stretch, and what is
-- taken off the deadline besides.
-- Assumes nothing: these are definitions.
use Rattle.std.specs.Prelude.{ℕ, List, [], ◌∷◌, ◌++◌, flat_map, Option, Some, None}
use Rattle.std.proofs.Math.Option as found
use Rattle.std.proofs.Math.Option.{none, some}
use Rattle.model.specs.declared.Refusal.TheVariants.{Broken}
use Rattle.model.specs.Refusals.{number_of}
use Rattle.model.specs.Plan.{M, Plan, all_leaves}
use Rattle.model.specs.Stack.{Levels, whole}
use Rattle.model.specs.declared.Call.{Call}
use Rattle.model.specs.declared.Call.TheVariants.{Release, Report, End}
use Rattle.model.specs.declared.Answer.{Answer}
use Rattle.model.specs.declared.Answer.TheVariants.{Refused, Decided, Closed}
use Rattle.model.specs.declared.Others.{Others}
use Rattle.model.specs.declared.Others.TheVariants.{Running}
use Rattle.model.specs.declared.Outlook.{Outlook}
use Rattle.model.specs.Decisions.{at_release, at_report, outlook}
use Rattle.model.specs.Controller as places
use Rattle.model.specs.Controller.{idle, running, respond}
use Rattle.model.specs.Cause.{LeafCount, listed, remaining_weighed, taken, visit_way}
use Rattle.reader.specs.Outcome.{Outcome, plan, refused}
use Rattle.table.specs.Table.{Table, table_of, plan_of}
use Rattle.table.specs.Reading.{verdict}
use Rattle.control.specs.State.{fresh}
use Rattle.control.specs.Calls.{read_state}
use Rattle.print.specs.Lines.{plain_line, answer_line, refused_plan_line}
use Rattle.flight_log.specs.Log.{entries}
use Rattle.transcript.specs.Transcript.{reply_to}
use Rattle.explanation.specs.declared.Asked.{Asked}
use Rattle.explanation.specs.declared.Seen.{Seen}

-- THE LAST REPORT

-- The last report behind one line more: the one that it says, asked of the state before it; where it says none, the last one before it.
abbrev pub next_asked : Seen → Option Call → Option Asked
next_asked x (Some (Report n e)) = Some (record { state = x.state; point = n; reading = e })
next_asked x (Some Release) = x.asked
next_asked x (Some (End e)) = x.asked
next_asked x None = x.asked

-- What is seen of a log behind one line more: the state, as the replay of the log has it, and the last report.
abbrev pub next_seen : Table → Seen → Option Call → Seen
next_seen t x e = record { state = (reply_to t x.state e).state; asked = next_asked x e }

-- Behind some lines more.
unfoldable pub seen_after : Table → Seen → List (Option Call) → Seen
seen_after t x [] = x
seen_after t x (e ∷ es) = seen_after t (next_seen t x e) es

-- At first the state is fresh, and there was no report.
abbrev pub none_seen : Seen
none_seen = record { state = fresh; asked = None }

-- The last report of a log, asked of the state that the lines before it led to. (A broken line is none, and lines behind it play no part.)
abbrev pub last_report : Table → List ℕ → Option Asked
last_report t log = (seen_after t none_seen (entries log)).asked

-- No line says a report.
unfoldable pub NoReport : List (Option Call) → Type 0
NoReport [] = Unit
NoReport (Some Release ∷ es) = NoReport es
NoReport (Some (Report n e) ∷ es) = ⊥
NoReport (Some (End e) ∷ es) = NoReport es
NoReport (None ∷ es) = NoReport es

-- WHAT IS PRINTED OF A DECISION

-- The line of a leaf: its number, and how often it is visited.
abbrev pub counted_line : LeafCount → List ℕ
counted_line c = plain_line c.leaf.number (c.count ∷ [])

-- The last line: D, the elapsed time, the remaining time as it counts, and the T and U that are taken off.
abbrev pub last_line : Plan → Outlook → ℕ → Others → List ℕ
last_line p o elapsed others = plain_line p.deadline (elapsed ∷ remaining_weighed o ∷ taken p o others ∷ [])

-- The lines of the decision at the report of n that comes to these levels: those of the leaves that are listed of its stretch, in the plan's order, and the
-- last line.
abbrev pub decision_told : Plan → ℕ → Levels → ℕ → Others → List ℕ
decision_told p n ls elapsed others =
    flat_map counted_line (listed (all_leaves p.functions) (visit_way M (whole ls) [])) ++ last_line p (outlook p (at_report n ls)) elapsed others

-- WHAT IS PRINTED OF A REPORT

-- What the others do in a state of the controller over places. Where no release is open they run.
abbrev pub others_in : places.State → Others
others_in idle = Running
others_in (running x last others) = others

-- By its reply, where the others did this before: its refusal; or the lines of the decision, which was made at the place and the reading that the state
-- afterwards has. (A report is answered in no other way.)
abbrev pub reply_told : Plan → Others → places.State → Answer → List ℕ
reply_told p before x (Refused k) = answer_line (Refused k)
reply_told p before idle (Decided w r m late) = []
reply_told p before (running at_release elapsed now) (Decided w r m late) = []
reply_told p before (running (at_report n ls) elapsed now) (Decided w r m late) = decision_told p n ls elapsed before
reply_told p before x (Closed e late) = []

-- Of the report of the point n at the reading e, where the controller over places is in the state x.
abbrev pub report_told : Plan → places.State → ℕ → ℕ → List ℕ
report_told p x n e = reply_told p (others_in x) (respond p x (Report n e)).state (respond p x (Report n e)).answer

-- Where the state stands for one of that controller; else it is broken, as the table of no plan is.
abbrev pub asked_told : Plan → Asked → found.Option places.State → List ℕ
asked_told p a none = answer_line (Refused Broken)
asked_told p a (some x) = report_told p x a.point a.reading

abbrev pub table_told : Asked → found.Option Plan → List ℕ
table_told a none = answer_line (Refused Broken)
table_told a (some p) = asked_told p a (read_state p a.state)

-- Of a report that is asked of a state, on a table; of none nothing.
abbrev pub explained : Table → Option Asked → List ℕ
explained t None = []
explained t (Some a) = table_told a (plan_of t)

-- The explanation of a log on a table: what is printed of its last report.
unfoldable pub explanation_of : Table → List ℕ → List ℕ
explanation_of t log = explained t (last_report t log)

-- The explanation of a log on the plan that a text is read as, in a row of 512 records; of a refused plan its refusal is printed, whatever the log.
abbrev pub explanation_on : Outcome → List ℕ → List ℕ
explanation_on (plan p) log = explanation_of (table_of p) log
explanation_on (refused k j) log = refused_plan_line (number_of k) j

abbrev pub explanation : List ℕ → List ℕ → List ℕ
explanation text log = explanation_on (verdict 512 text) log
