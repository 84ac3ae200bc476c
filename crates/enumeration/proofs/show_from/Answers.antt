-- `enumeration::show_from` meets its contract, and ends. Assumes nothing.
use Rattle.std.proofs.Common.{of_calls}
use mathlib.Core.Bool.{true}
use mathlib.Core.Path.{◌∙◌}
use Rattle.print.proofs.Laws.{same_size}
use Rattle.print.proofs.Theorems.{handed}
use Rattle.trail.specs.Trails.{GivesNext}
use Rattle.enumeration.specs.Enumeration.{run_line}
use Rattle.enumeration.specs.Private.{run_of}
use Rattle.enumeration.proofs.Enumerating.{run_held, goes_on, rank_further}
use Rattle.enumeration.proofs.Showing.{line_refused, last_shown, one_shown}
use Rattle.enumeration.proofs.show_from.Goals as goal
use Rattle.enumeration.proofs.show_from.Goals.{then-not-show-via-then-not-show, then-not-show-via-else-not-show+then-not-next}

pub put_run-n-requires : goal.put_run-n-requires
put_run-n-requires g c = run_held c.loop-trail.invariant.1

pub returns-then-not-show : goal.returns-then-not-show
returns-then-not-show g c =
    let i = c.loop-trail.invariant in
    elim c.then-not-show.branch [
      | then-not-show-via-then-not-show w ↦
          line_refused _ c.args.code.now c.args.leasts.now c.args.start c.args.show c.loop-trail.trail c.loop-trail.show c.show.new.self i.3
          (_, handed i.2 c.put_run-n.ensures, w.if-not-show.ensures)
      | then-not-show-via-else-not-show+then-not-next w ↦
          last_shown _ c.args.code.now c.args.leasts.now c.args.start c.args.show c.loop-trail.trail c.loop-trail.show c.show.new.self i.3
          (_, handed i.2 c.put_run-n.ensures, w.if-not-show.ensures) w.next.new.trail (rw w.if-not-next.true at w.next.ensures)
    ]

pub loop-trail-smaller : goal.loop-trail-smaller
loop-trail-smaller g c =
    let n : GivesNext c.args.code.now c.args.leasts.now c.loop-trail.trail c.next.new.trail true = rw c.if-not-next.false at c.next.ensures in
    rank_further c.loop-trail.invariant.1 c.next.new.trail n

pub loop-trail-preserved : goal.loop-trail-preserved
loop-trail-preserved g c =
    let i = c.loop-trail.invariant in
    let n : GivesNext c.args.code.now c.args.leasts.now c.loop-trail.trail c.next.new.trail true = rw c.if-not-next.false at c.next.ensures in (
      search of_calls,
      goes_on i.1 c.next.new.trail n,
      same_size c.loop-trail.out 0 (run_line (run_of c.args.code.now.row.now c.loop-trail.trail)) c.put_run-n.ensures.printed.stored ∙ i.2,
      one_shown _ c.args.code.now c.args.leasts.now c.args.start c.args.show c.loop-trail.trail c.loop-trail.show
          c.show.new.self i.3 (_, handed i.2 c.put_run-n.ensures, c.if-not-show.ensures) c.next.new.trail n,
    )
