use Rattle.std.proofs.Common.{refl, arith}
use Rattle.test_stores.proofs.recorded.walks.a_class_under_a_wider_bin_stays.Goals as goal

pub quiet-map-requires : goal.quiet-map-requires
quiet-map-requires g c = (4, omega arith, refl)

pub new-requires : goal.new-requires
new-requires g c = ((5, omega arith, refl), omega arith)
