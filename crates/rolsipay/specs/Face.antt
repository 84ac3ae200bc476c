-- The answers as flat structs of numbers, which other languages take: for each case of an enum the document's number and values (01, 'Calls').
-- Assumes nothing: these are definitions.
use Rattle.std.specs.Prelude.{ℕ, Bool, true, false, ℤ, pos, Result, Ok, Err}
use Rattle.reader.specs.declared.RefusedAt.{RefusedAt}
use Rattle.model.specs.declared.Call.{Call}
use Rattle.model.specs.declared.Call.TheVariants.{Release, Report, End}
use Rattle.model.specs.declared.Answer.{Answer}
use Rattle.model.specs.declared.Answer.TheVariants.{Refused, Decided, Closed}
use Rattle.model.specs.Refusals.{number_of}
use Rattle.model.specs.Words.{word_number, ending_number}
use Rattle.rolsipay.specs.declared.Ruling.{Ruling}
use Rattle.rolsipay.specs.declared.Reply.{Reply}
use Rattle.model.specs.Places.{bit}

-- Of a plan: number 0 where it is accepted, else the refusal's number and line.
abbrev pub ruling_of : Result Unit RefusedAt → Ruling
ruling_of (Ok u) = record { number = 0; line = 0 }
ruling_of (Err r) = record { number = number_of r.refusal; line = r.line }

-- Of a call: the word (0 refused, 1 go, 2 suspend, 3 stay, 4 resume, of a report as of an end, 5 ended), a refusal's number, remaining, margin and late
-- mark; 0 where a case has none.
abbrev pub accepted : ℕ → ℕ → ℤ → Bool → Reply
accepted word r m late = record { word = word; number = 0; remaining = r; margin = m; late = bit late }

abbrev pub reply_from : Answer → Reply
reply_from (Refused refusal) = record { word = 0; number = number_of refusal; remaining = 0; margin = pos 0; late = 0 }
reply_from (Decided w r m late) = accepted (word_number w) r m late
reply_from (Closed e late) = accepted (ending_number e) 0 (pos 0) late

-- Whether a call is an end. Word 4 is the end's resume in an answer to one, and a decision's in any other: the caller, who made the call, can tell.
abbrev pub is_end : Call → Bool
is_end Release = false
is_end (Report n t) = false
is_end (End t) = true
