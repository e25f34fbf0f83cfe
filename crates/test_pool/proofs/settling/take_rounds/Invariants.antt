use Rattle.crossbeam_deque.specs.Handles.{worker_deque}
use Rattle.steal_pool.specs.Seating.{deque_at}
use Rattle.test_pool.proofs.settling.take_rounds.Given as goal

abbrev pub ghosts-seated_rounds : goal.ghosts-seated_rounds
ghosts-seated_rounds a = record { deque = deque_at worker_deque a.deques.now.items }
