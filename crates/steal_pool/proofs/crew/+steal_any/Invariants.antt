use Rattle.std.proofs.Common.{length}
use Rattle.steal_pool.proofs.crew.+steal_any.Given as goal

abbrev pub decreases-steal_any : goal.decreases-steal_any
decreases-steal_any g l = length l.ways.now
