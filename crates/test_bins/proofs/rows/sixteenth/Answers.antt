use Rattle.std.proofs.Common.{arith, refl}
use Rattle.test_bins.proofs.rows.sixteenth.Goals as goal

pub new-requires : goal.new-requires
new-requires g = ((4, omega arith, refl), omega arith)
