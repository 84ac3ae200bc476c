-- `table::judge` meets its contract: rules 8, 9 and 10, in this order. Assumes nothing.
use Rattle.std.specs.Prelude.{Some, None, Err}
use Rattle.std.specs.Result.{result_ok}
use borrow.Author.Rules.{rules}
use mathlib.Core.Path.{◌≡◌, refl, sym, ap, ◌∙◌}
use lib.Seq.{length-take-le}
use Rattle.model.specs.Plan.{Plan}
use Rattle.model.specs.declared.Refusal.TheVariants.{Unseen, Uncalled, Long}
use Rattle.reader.specs.Outcome.{Outcome, plan, refused}
use Rattle.table.specs.Reading.{judged, after_lines, RawOf}
use Rattle.table.specs.Private.{Derives}
use Rattle.table.proofs.Judging as judging
use Rattle.table.proofs.judge.Goals as goal

pub slice_bounds-code-end : goal.slice_bounds-code-end
slice_bounds-code-end c =
    let k = judging.of_plan c.requires.0 c.in-Ok.is c.requires.1 in
    sym (length-take-le c.in-Ok.raw.leaves c.args.row.now (judging.given {p = k.0} k.2).held)

pub seen_all-requires-clause-plan : goal.seen_all-requires-clause-plan
seen_all-requires-clause-plan c =
    let k = judging.of_plan c.requires.0 c.in-Ok.is c.requires.1 in
    (judging.given {p = k.0} k.2).read

pub called-requires-clause-plan : goal.called-requires-clause-plan
called-requires-clause-plan c =
    let k = judging.of_plan c.requires.0 c.in-Ok.is c.requires.1 in
    (judging.given {p = k.0} k.2).read

pub returns-then-not-seen_all : goal.returns-then-not-seen_all
returns-then-not-seen_all c =
    let unseen : (o : Outcome) → RawOf o c.args.lines.now c.args.row.now → after_lines o ≡ refused Unseen 0 = λ o k.
    let (p, is, q) = judging.of_plan o c.in-Ok.is k in
    let g = judging.given {p = p} q in
    is ∙ judging.judged_unseen p (λ s. c.if-not-seen_all.ensures g.read (judging.seen_plan g s)) in record {
      value = λ o k. judging.refuses (unseen o k) c.refused.ensures;
      columns_written = λ o k. judging.nothing_filled (after_lines o) (unseen o k);
    }

pub returns-then-not-called : goal.returns-then-not-called
returns-then-not-called c =
    let uncalled : (o : Outcome) → RawOf o c.args.lines.now c.args.row.now → after_lines o ≡ refused Uncalled 0 = λ o k.
    let (p, is, q) = judging.of_plan o c.in-Ok.is k in
    let g = judging.given {p = p} q in
    is ∙ judging.judged_uncalled p (judging.plan_seen g (c.if-not-seen_all.ensures g.read)) (λ s. c.if-not-called.ensures g.read (judging.called_plan g s)) in record {
      value = λ o k. judging.refuses (uncalled o k) c.refused-then-not-called.ensures;
      columns_written = λ o k. judging.nothing_filled (after_lines o) (uncalled o k);
    }

pub derive_all-requires-clause-structured : goal.derive_all-requires-clause-structured
derive_all-requires-clause-structured c =
    let k = judging.of_plan c.requires.0 c.in-Ok.is c.requires.1 in
    let g = judging.given {p = k.0} k.2 in
    record { plan = g.read; seen = c.if-not-seen_all.ensures g.read; called = c.if-not-called.ensures g.read }

pub returns-in_err-derived : goal.returns-in_err-derived
returns-in_err-derived c =
    let none : c.derive_all.result ≡ None = c.ok_or.ensures.ok_part ∙ ap result_ok c.in_err-derived.was in
    let said : c.from_residual.result ≡ Err (record { refusal = Long; line = 0 }) = search rules in
    let long : (o : Outcome) → RawOf o c.args.lines.now c.args.row.now → after_lines o ≡ refused Long 0 = λ o k.
    let (p, is, q) = judging.of_plan o c.in-Ok.is k in
    let g = judging.given {p = p} q in
    let seen = c.if-not-seen_all.ensures g.read in
    let called = c.if-not-called.ensures g.read in
    is ∙ judging.judged_long p (judging.plan_seen g seen) (judging.plan_called g called)
    (rw none at (c.derive_all.ensures p (record { plan = g.read; seen = seen; called = called }) g.same)) in record {
      value = λ o k. said ∙ judging.refuses (long o k) refl;
      columns_written = λ o k. judging.nothing_filled (after_lines o) (long o k);
    }

pub returns : goal.returns
returns c =
    let found : c.derive_all.result ≡ Some c.in_ok-derived.derived = c.ok_or.ensures.ok_part ∙ ap result_ok c.in_ok-derived.was in
    let derives : (p : Plan) (g : judging.Given p c.in-Ok.raw c.args.row.now)
    → Derives p (Some c.in_ok-derived.derived) c.derive_all.new.columns.turns c.derive_all.new.columns.tails c.derive_all.new.columns.max_load_turns = λ p g.
    rw found at (c.derive_all.ensures p (record { plan = g.read; seen = c.if-not-seen_all.ensures g.read; called = c.if-not-called.ensures g.read }) g.same) in
    let accepted : (p : Plan) (g : judging.Given p c.in-Ok.raw c.args.row.now) → judged p ≡ plan p = λ p g.
    judging.judged_accepted p (judging.plan_seen g (c.if-not-seen_all.ensures g.read)) (judging.plan_called g (c.if-not-called.ensures g.read)) (derives p g).0 in record {
      value = λ o k.
          let (p, is, q) = judging.of_plan o c.in-Ok.is k in
          let g = judging.given {p = p} q in
          judging.accepts q c.head_from.result (is ∙ accepted p g) (derives p g).1 c.head_from.ensures;
      columns_written = λ o k.
          let (p, is, q) = judging.of_plan o c.in-Ok.is k in
          let g = judging.given {p = p} q in
          judging.accepts_filled (is ∙ accepted p g) (derives p g).1;
    }
