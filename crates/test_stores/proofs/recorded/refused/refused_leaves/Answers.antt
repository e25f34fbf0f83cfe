use Rattle.std.proofs.Common.{refl, arith}
use Rattle.test_stores.proofs.recorded.refused.refused_leaves.Goals as goal

pub quiet-map-requires : goal.quiet-map-requires
quiet-map-requires g c = (2, omega arith, refl)
