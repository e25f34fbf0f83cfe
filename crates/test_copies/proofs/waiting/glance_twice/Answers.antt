use denote.Param.Send.{sendable}
use Rattle.std.proofs.Crossing.{crosses}
use Rattle.chm.proofs.Shared.{map_sync}
use Rattle.test_copies.proofs.waiting.glance_twice.Goals as goal

pub join-both-requires-send-F : goal.join-both-requires-send-F
join-both-requires-send-F g c κs within =
    let yr = c.type_bounds.sync-R in let sv = c.type_bounds.send-V in let yv = c.type_bounds.sync-V in
    search (sendable, crosses, map_sync) depth 40 fits 20000
