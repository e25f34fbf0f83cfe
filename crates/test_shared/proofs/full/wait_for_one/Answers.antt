use denote.Param.Send.{sendable}
use Rattle.std.proofs.Crossing.{crosses}
use Rattle.clients.proofs.Crossing.{owned_send, shared_sync}
use Rattle.test_shared.proofs.full.wait_for_one.Goals as goal

pub join-waited-requires-send-F : goal.join-waited-requires-send-F
join-waited-requires-send-F g c κs within =
    let r = c.type_bounds.sync-R in
    search (sendable, crosses, shared_sync) depth 60 fits 60000

pub join-waited-requires-send-A : goal.join-waited-requires-send-A
join-waited-requires-send-A g c κs within = search (sendable, crosses, owned_send) depth 60 fits 60000
