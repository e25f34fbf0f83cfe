use Rattle.std.proofs.Common.{refl, arith}
use Rattle.test_stores.proofs.lean.threads.a_bin_that_is_held_where_it_lies_is_nobody_elses.Goals as goal

pub quiet-map-requires : goal.quiet-map-requires
quiet-map-requires g c = (2, omega arith, refl)

pub new-requires : goal.new-requires
new-requires g c = ((2, omega arith, refl), omega arith)
