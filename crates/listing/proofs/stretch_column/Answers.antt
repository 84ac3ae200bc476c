-- `listing::stretch_column` meets its contract: the numbers of a plan's table are what `stretches` asks. Assumes nothing.
use lib.ListN.{replicate, length-replicate}
use Prim.Native.Nat.{ℕ}
use Rattle.listing.proofs.Stretches.{held, code_bounded, code_summed, code_taken}
use Rattle.listing.proofs.stretch_column.Goals as goal

pub code-requires : goal.code-requires
code-requires c = held c.args.row.now c.args.head.now c.requires.1

pub stretches-requires-clause-n_in_bounds : goal.stretches-requires-clause-n_in_bounds
stretches-requires-clause-n_in_bounds c =
    let k = c.code.ensures in
    code_bounded c.args.row.now c.args.head.now c.requires.1 k.row k.bounds k.functions

pub stretches-requires-clause-summed : goal.stretches-requires-clause-summed
stretches-requires-clause-summed c =
    let k = c.code.ensures in
    code_summed c.args.row.now c.args.head.now c.requires.1 k.row k.bounds k.functions

pub returns : goal.returns
returns c =
    let k = c.code.ensures in
    λ p e. code_taken c.args.row.now c.args.head.now e k.row k.bounds k.functions (replicate 512 0) _ (length-replicate {A = ℕ} 512 0) c.stretches.ensures
