use Rattle.std.proofs.Common.{refl, arith}
use Rattle.test_stores.proofs.lean.threads.posted.Goals as goal

pub open-requires-clause-size : goal.open-requires-clause-size
open-requires-clause-size g c = (3, omega arith, refl)
