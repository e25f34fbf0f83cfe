use Rattle.crossbeam_deque.specs.Handles.{worker_deque}
use Rattle.steal_pool.specs.Seating.{deque_at}
use Rattle.steal_pool.proofs.pool.run_tree.Given as goal

abbrev pub ghosts-run_seated : goal.ghosts-run_seated
ghosts-run_seated g a = record { deque = deque_at worker_deque a.deques.now.items }
