use Rattle.std.proofs.Common.{refl, arith}
use Rattle.test_stores.proofs.lean.moves.refused_room.Goals as goal

pub open_quiet-requires : goal.open_quiet-requires
open_quiet-requires g = (2, omega arith, refl)
