use Rattle.steal_pool.proofs.Moves.{takes}
use Rattle.steal_pool.proofs.deque.steal.Goals as goal

pub steal_as-requires-clause-takes : goal.steal_as-requires-clause-takes
steal_as-requires-clause-takes g c = takes _ _ 1 c.requires.share
