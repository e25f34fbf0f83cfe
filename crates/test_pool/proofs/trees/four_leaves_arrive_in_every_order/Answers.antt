use Rattle.std.proofs.Common.{arith, refl}
use Rattle.test_pool.proofs.trees.four_leaves_arrive_in_every_order.Goals as goal

pub grown-requires-clause-nodes : goal.grown-requires-clause-nodes
grown-requires-clause-nodes g c _ = (2, omega arith, refl)
