use Rattle.std.proofs.Common.{arith, refl}
use Rattle.test_bins.proofs.refusals.trees.make.Goals as goal

pub new-requires-clause-nodes : goal.new-requires-clause-nodes
new-requires-clause-nodes g = (2, omega arith, refl)
