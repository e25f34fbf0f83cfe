use Rattle.std.proofs.Common.{arith}
use Rattle.hashkeys.proofs.Halves.{IsTableSize-double}
use Rattle.chm.proofs.Sizes.{IsTableSize-wider}
use Rattle.chm.proofs.resize.size.size_for.Goals as goal

pub loop-n-preserved : goal.loop-n-preserved
loop-n-preserved c =
    let (size, least) = c.loop-n.invariant in
    let (some, most) = c.requires in
    let more = c.loop-n-test.true in
    let double = IsTableSize-double c.loop-n.n (omega arith) size in (
      (double.0, double.1, let is = double.2 in omega arith),
      λ m s enough. let wider = IsTableSize-wider c.loop-n.n m size s (omega arith) in
          omega arith,
    )
