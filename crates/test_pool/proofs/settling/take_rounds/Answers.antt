use Rattle.crossbeam_deque.specs.Handles.{worker_deque}
use Rattle.steal_pool.proofs.Seating.{seated}
use Rattle.test_pool.proofs.settling.take_rounds.Goals as goal

pub seated_rounds-requires-clause-seats : goal.seated_rounds-requires-clause-seats
seated_rounds-requires-clause-seats c = seated worker_deque c.in_ok-deques.deques.items
