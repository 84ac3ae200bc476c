-- `text::matches_word` meets its contract: where one of the first two signs does not stand, the pattern misses. Assumes nothing.
use Rattle.std.proofs.Common.{arith}
use Rattle.text.proofs.Laws.{match_begins, sign_step, match_miss}
use Rattle.text.proofs.matches_word.Goals as goal
use Rattle.text.proofs.matches_word.Goals.{then-not-stands-via-then-not-stands, then-not-stands-via-else-not-stands+then-not-stands-2}

pub returns-then-not-stands : goal.returns-then-not-stands
returns-then-not-stands c =
    let a = c.args in
    let m = match_begins a.limit a.text.now a.at a.pattern.now a.row.now in
    elim c.then-not-stands.branch [
      | then-not-stands-via-then-not-stands w ↦ match_miss m (omega (arith, c.requires.long)) w.if-not-stands.ensures
      | then-not-stands-via-else-not-stands+then-not-stands-2 w ↦
          match_miss (sign_step m (omega (arith, c.requires.long)) w.if-not-stands.ensures) (omega (arith, c.requires.long)) w.if-not-stands-2.ensures
    ]
