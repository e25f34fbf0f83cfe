use denote.Param.Send.{sendable}
use Rattle.std.proofs.Crossing.{crosses}
use Rattle.clients.proofs.Crossing.{shared_sync}
use Rattle.test_shared.proofs.crowds.jostle.Goals as goal

pub for_each_mut-requires-sync-F : goal.for_each_mut-requires-sync-F
for_each_mut-requires-sync-F g c κs within = search (sendable, crosses, shared_sync) depth 60 fits 60000
