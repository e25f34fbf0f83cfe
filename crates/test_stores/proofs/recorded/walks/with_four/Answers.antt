use Rattle.std.proofs.Common.{refl, arith}
use Rattle.test_stores.proofs.recorded.walks.with_four.Goals as goal

pub open_single-requires : goal.open_single-requires
open_single-requires g c = (4, omega arith, refl)
