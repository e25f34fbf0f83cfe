use Rattle.std.proofs.Common.{refl, arith}
use Rattle.test_stores.proofs.lean.threads.what_is_put_where_a_bin_lies_is_in_it.Goals as goal

pub open_single-requires : goal.open_single-requires
open_single-requires g c = (3, omega arith, refl)
