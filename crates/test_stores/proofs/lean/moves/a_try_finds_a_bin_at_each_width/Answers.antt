use Rattle.std.proofs.Common.{refl, arith}
use Rattle.test_stores.proofs.lean.moves.a_try_finds_a_bin_at_each_width.Goals as goal

pub try_widen-widened-requires : goal.try_widen-widened-requires
try_widen-widened-requires g c = (3, omega arith, refl)
