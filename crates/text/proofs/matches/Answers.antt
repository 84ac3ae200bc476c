-- `text::matches` meets its contract: each sign is a step of `Laws` in the line. Assumes nothing.
use Rattle.std.proofs.Common.{arith, sym, ◌∙◌}
use Rattle.text.proofs.Classes.{class_feed, class_no_feed}
use Rattle.text.proofs.Laws.{match_begins, sign_step, capital_step, match_miss, match_short, match_long, match_whole}
use Rattle.text.proofs.matches.Goals as goal
use Rattle.text.proofs.matches.Goals.{then-is_ascii_uppercase+in_ok-f, else-is_ascii_uppercase+then-stands}

pub loop-t-init : goal.loop-t-init
loop-t-init c = match_begins _ _ _ _ _

pub returns-in_err-f : goal.returns-in_err-f
returns-in_err-f c = rw c.from_residual.ensures (match_miss c.loop-t.invariant (omega arith) c.in_err-f.ensures.0)

pub returns-else-stands : goal.returns-else-stands
returns-else-stands c = match_miss c.loop-t.invariant (omega arith) c.if-stands.ensures

pub loop-t-preserved : goal.loop-t-preserved
loop-t-preserved c =
    let m = c.loop-t.invariant in
    elim c.if-is_ascii_uppercase.branch [
      | then-is_ascii_uppercase+in_ok-f w ↦ rw (w.row-is, w.f-is, w.i-is) (capital_step m (omega arith) w.in_ok-f.ensures)
      | else-is_ascii_uppercase+then-stands w ↦ rw (w.row-is, w.f-is, w.i-is) (sign_step m (omega arith) w.if-stands.ensures)
    ]

pub returns-in_err-get : goal.returns-in_err-get
returns-in_err-get c = rw c.from_residual-in_err-get.ensures (match_short c.loop-t.invariant (omega arith) c.in_err-get.ensures.lookup.3)

pub returns-in-LineFeed : goal.returns-in-LineFeed
returns-in-LineFeed c =
    let end = c.in_ok-get.ensures.lookup.3 in
    match_whole c.loop-t.invariant (omega arith) end.0 (sym (end.1 0) ∙ class_feed _ (sym c.in-LineFeed.ensures))

pub returns-in_default : goal.returns-in_default
returns-in_default c =
    let end = c.in_ok-get.ensures.lookup.3 in
    match_long c.loop-t.invariant (omega arith) end.0
    (λ e. class_no_feed c.in_ok-get.field-0.now (λ f. c.in_default.not-LineFeed (c.class_of.ensures ∙ f)) (end.1 0 ∙ e))
