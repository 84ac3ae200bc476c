-- What reading a plan answers (01, 'Calls'); what it leaves in the lent row and the lent head is said in table/specs.
-- Assumes nothing: these are definitions.
use Rattle.std.specs.Prelude.{Result, Ok, Err}
use Rattle.reader.specs.declared.RefusedAt.{RefusedAt}
use Rattle.reader.specs.Outcome.{Outcome, plan, refused}

-- What `read` answers: of an accepted plan no more than that; of a refused one the refusal and its line.
abbrev pub answer_of : Outcome → Result Unit RefusedAt
answer_of (plan p) = Ok tt
answer_of (refused k j) = Err (record { refusal = k; line = j })
