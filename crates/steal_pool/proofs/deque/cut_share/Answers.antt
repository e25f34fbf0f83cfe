use Rattle.steal_pool.proofs.Moves.{forks}
use Rattle.steal_pool.proofs.deque.cut_share.Goals as goal

pub another-requires : goal.another-requires
another-requires g c = forks _ _ c.requires
