use Rattle.std.proofs.Common.{rules, arith, refl}
use Rattle.steal_pool.proofs.pool.nodes_for.Goals as goal

pub returns-in-2-to-3-clause-nodes : goal.returns-in-2-to-3-clause-nodes
returns-in-2-to-3-clause-nodes c = (search rules, 2, omega arith, refl)

pub returns-in-4-to-7-clause-nodes : goal.returns-in-4-to-7-clause-nodes
returns-in-4-to-7-clause-nodes c = (search rules, 3, omega arith, refl)

pub returns-in-8-to-15-clause-nodes : goal.returns-in-8-to-15-clause-nodes
returns-in-8-to-15-clause-nodes c = (search rules, 4, omega arith, refl)

pub returns-in-16-to-31-clause-nodes : goal.returns-in-16-to-31-clause-nodes
returns-in-16-to-31-clause-nodes c = (search rules, 5, omega arith, refl)

pub returns-in-32-to-63-clause-nodes : goal.returns-in-32-to-63-clause-nodes
returns-in-32-to-63-clause-nodes c = (search rules, 6, omega arith, refl)
