-- `listing::collect` meets its contract: what is collected from memory after reading is what is listed of the plan, or nothing. Assumes nothing.
use mathlib.Core.Path.{sym}
use native.Mathlib.Omega.{arith}
use lib.Seq.{length-take-le}
use Rattle.table.proofs.Heads.{head_read, planned}
use Rattle.listing.proofs.Points.{collected_summary, collected_points}
use Rattle.listing.proofs.collect.Goals as goal

pub slice_bounds-row-end : goal.slice_bounds-row-end
slice_bounds-row-end c = omega (arith, (head_read c.args.text.now c.in_ok-head.ensures.answers).few, c.read.auto.row)

pub slice_bounds-collect_leaves-end : goal.slice_bounds-collect_leaves-end
slice_bounds-collect_leaves-end c =
    let r = head_read c.args.text.now c.in_ok-head.ensures.answers in
    sym (length-take-le c.in_ok-head.head.leaves c.read.new.row (omega (arith, r.few, c.read.auto.row)))

pub stretch_column-stretch-requires : goal.stretch_column-stretch-requires
stretch_column-stretch-requires c =
    let r = head_read c.args.text.now c.in_ok-head.ensures.answers in
    (r.of, planned r _ c.in_ok-head.ensures.row)

pub returns : goal.returns
returns c =
    let r = head_read c.args.text.now c.in_ok-head.ensures.answers in
    let e = c.in_ok-head.ensures.row in
    let d = c.stretch_column-stretch.result in
    let s = c.stretch_column-stretch.ensures r.of (planned r _ e) in
    record {
      summary = collected_summary r _ e d s c.collect_leaves-count.ensures c.edition.ensures c.task_count.ensures;
      numbers = collected_points r _ e d s c.collect_leaves-count.ensures;
    }
