use denote.Param.Send.{sendable}
use Rattle.std.proofs.Crossing.{crosses}
use Rattle.chm.proofs.Shared.{map_sync}
use Rattle.test_chm.proofs.threads.work_together.Goals as goal

pub for_each_mut-requires-sync-F : goal.for_each_mut-requires-sync-F
for_each_mut-requires-sync-F g c κs within =
    let r = c.type_bounds.sync-R in let j = c.type_bounds.sync-J in
    search (sendable, crosses, map_sync) depth 40 fits 20000
