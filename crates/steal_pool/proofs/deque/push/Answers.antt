use Rattle.steal_pool.proofs.Moves.{pushes}
use Rattle.steal_pool.proofs.deque.push.Goals as goal

pub push_as-requires-clause-pushes : goal.push_as-requires-clause-pushes
push_as-requires-clause-pushes g c = pushes _ _ _ c.requires
