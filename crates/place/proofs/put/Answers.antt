use Rattle.std.proofs.Common.{◌≡◌, length, length-drop, arith, rules}
use Rattle.std.proofs.Math.ListN.{length-set}
use Rattle.place.proofs.Putting.{put_cleared}
use Rattle.place.proofs.put.Goals as goal

pub returns : goal.returns
returns c =
    let n : length c.args.a.now ≡ 33 = omega (arith, c.well_formed) in
    put_cleared c.args.a.now c.fill.new.self _ c.args.l c.args.v _ _ (omega arith) n c.requires (c.fill.ensures.after (λ y e. e)) (simp (length-drop, length-set) (omega arith)) (search rules)
