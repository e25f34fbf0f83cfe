use Rattle.steal_pool.proofs.Moves.{merges}
use Rattle.steal_pool.proofs.deque.take_share.Goals as goal

pub absorb-requires-clause-rule : goal.absorb-requires-clause-rule
absorb-requires-clause-rule g c = merges _ _ _ _ c.requires.share.0 c.requires.share.1
