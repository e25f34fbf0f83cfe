use Rattle.crossbeam_deque.specs.Handles.{worker_deque}
use Rattle.steal_pool.proofs.Seating.{seated}
use Rattle.steal_pool.proofs.pool.run_tree.Goals as goal

pub run_seated-requires-clause-seats : goal.run_seated-requires-clause-seats
run_seated-requires-clause-seats g c _ _ = seated worker_deque c.in_ok-deques.deques.items
