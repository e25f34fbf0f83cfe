use Rattle.std.proofs.Common.{refl, arith}
use Rattle.test_stores.proofs.recorded.walks.all_bins_are_there_after_moves.Goals as goal

pub quiet-map-requires : goal.quiet-map-requires
quiet-map-requires g c = (2, omega arith, refl)

pub forward_all-requires-2-clause-size : goal.forward_all-requires-2-clause-size
forward_all-requires-2-clause-size g c = (3, omega arith, refl)
