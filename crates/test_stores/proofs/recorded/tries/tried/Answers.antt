use Rattle.std.proofs.Common.{refl, arith}
use Rattle.test_stores.proofs.recorded.tries.tried.Goals as goal

pub new-requires : goal.new-requires
new-requires g c = ((1, omega arith, refl), omega arith)
