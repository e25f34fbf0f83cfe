use Rattle.std.proofs.Common.{refl, arith}
use Rattle.test_stores.proofs.lean.moves.moves_of_one.Goals as goal

pub new-requires : goal.new-requires
new-requires g c = ((2, omega arith, refl), omega arith)

pub new-requires-2 : goal.new-requires-2
new-requires-2 g c = ((3, omega arith, refl), omega arith)
