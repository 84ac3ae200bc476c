-- `trail::behind` meets its contract. Assumes nothing.
use mathlib.Core.Path.{◌∙◌}
use native.Mathlib.Omega.{arith}
use Rattle.model.specs.Forms.{◌⊕◌}
use Rattle.trail.proofs.Resting.{left_front}
use Rattle.trail.proofs.behind.Goals as goal

pub onward-on-requires-clause-there : goal.onward-on-requires-clause-there
onward-on-requires-clause-there c =
    let q = c.requires in
    let f = left_front q.some q.left in
    record { table = q.table; column = c.args.leasts.now; forms = f.first; lies = f.lies; there = f.there }

pub put-outer-requires : goal.put-outer-requires
put-outer-requires c =
    let q = c.requires in
    let f = left_front q.some q.left in
    let o = c.onward-on.ensures q.table c.args.leasts.now f.first q.noted f.lies f.there in
    record {
      row = _;
      starts = _;
      count = _;
      table = q.table;
      forms = o.outer;
      rest = f.behind;
      lies = o.outer_lies;
      left = f.left;
      early = omega (arith, f.early, q.early);
      few = omega (arith, q.few);
    }

pub put-requires : goal.put-requires
put-requires c =
    let q = c.requires in
    let f = left_front q.some q.left in
    let o = c.onward-on.ensures q.table c.args.leasts.now f.first q.noted f.lies f.there in
    let p = c.put-outer.ensures in
    record {
      row = _;
      starts = _;
      count = _;
      table = q.table;
      forms = o.inner;
      rest = o.outer ⊕ f.behind;
      lies = o.inner_lies;
      left = p.left q.table o.outer f.behind o.outer_lies f.left (omega (arith, f.early, q.early));
      early = omega (arith, p.near (omega (arith, f.early, q.early)));
      few = q.few;
    }

pub returns : goal.returns
returns c =
    let q = c.requires in
    let p = c.put-outer.ensures in
    let r = c.put.ensures in
    let e = (left_front q.some q.left).early in
    let near = p.near (omega (arith, e, q.early)) in
    record {
      left = λ t f noted l.
          let h = left_front q.some l in
          let o = c.onward-on.ensures t c.args.leasts.now h.first noted h.lies h.there in
          let k = p.left t o.outer h.behind o.outer_lies h.left (omega (arith, h.early, q.early)) in
          rw (h.same, o.is_way h.behind) (r.left t o.inner (o.outer ⊕ h.behind) o.inner_lies k (omega (arith, near)));
      near = r.near (omega (arith, near));
      others = λ j lt. r.others j (omega arith) ∙ p.others j lt;
    }
