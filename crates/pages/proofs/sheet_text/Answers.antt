-- `pages::sheet_text` meets its contract, once for a refused text and once for a plan. Assumes nothing.
use Prim.Native.Nat.{ℕ}
use mathlib.Core.List.{List}
use native.Mathlib.Omega.{arith}
use lib.ListN.{replicate, length-take}
use Rattle.listing.proofs.Lines.{listed}
use Rattle.pages.proofs.Texts.{sheet_accepted}
use Rattle.pages.proofs.sheet_text.Goals as goal

pub slice_bounds-points-end : goal.slice_bounds-points-end
slice_bounds-points-end c =
    let k = listed c.args.text.now (replicate 4 0) c.in-Ok.ensures.summary c.in-Ok.ensures.numbers in
    omega (arith, k.few, k.long)

pub slice_bounds-put_pages-end-in-Ok-2 : goal.slice_bounds-put_pages-end-in-Ok-2
slice_bounds-put_pages-end-in-Ok-2 c =
    let k = listed c.args.text.now (replicate 4 0) c.in-Ok.ensures.summary c.in-Ok.ensures.numbers in
    omega (arith, k.few, k.long, length-take {A = List ℕ})

pub returns-in-Ok : goal.returns-in-Ok
returns-in-Ok c =
    let k = listed c.args.text.now (replicate 4 0) c.in-Ok.ensures.summary c.in-Ok.ensures.numbers in
    let both = sheet_accepted c.args.text.now c.told-out k c.put_pages.ensures in record {
      lines = both.0;
      size = both.1.0;
      fits = both.1.1;
    }
