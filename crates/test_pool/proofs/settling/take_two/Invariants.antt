use Rattle.crossbeam_deque.specs.Handles.{worker_deque}
use Rattle.steal_pool.specs.Seating.{deque_at}
use Rattle.test_pool.proofs.settling.take_two.Given as goal

abbrev pub ghosts-seated_take_two : goal.ghosts-seated_take_two
ghosts-seated_take_two a = record { deque = deque_at worker_deque a.deques.now.items }
