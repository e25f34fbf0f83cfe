use denote.Param.Send.{sendable}
use Rattle.std.proofs.Crossing.{crosses}
use Rattle.clients.proofs.Crossing.{shared_sync}
use Rattle.test_caches.proofs.threads.call_all.Goals as goal

pub map_indices-requires-sync-F : goal.map_indices-requires-sync-F
map_indices-requires-sync-F g c κs within =
    let r = c.type_bounds.sync-R in
    search (sendable, crosses, shared_sync) depth 60 fits 60000
