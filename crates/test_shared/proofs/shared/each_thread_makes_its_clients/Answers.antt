use denote.Param.Send.{sendable}
use Rattle.std.proofs.Crossing.{crosses}
use Rattle.clients.proofs.Crossing.{shared_sync}
use Rattle.test_shared.proofs.shared.each_thread_makes_its_clients.Goals as goal

pub join-first-requires-send-F : goal.join-first-requires-send-F
join-first-requires-send-F g c κs within = search (sendable, crosses, shared_sync) depth 60 fits 60000
