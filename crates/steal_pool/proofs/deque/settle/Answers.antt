use Rattle.steal_pool.proofs.Moves.{learns}
use Rattle.steal_pool.proofs.deque.settle.Goals as goal

pub len_as-requires : goal.len_as-requires
len_as-requires g c = learns _ _ c.requires
