use Rattle.std.proofs.Common.{refl, arith}
use Rattle.test_stores.proofs.lean.threads.fn.two_threads_forward_one_class_once.forward.Goals as goal

pub new-requires : goal.new-requires
new-requires g c = ((4, omega arith, refl), omega arith)
